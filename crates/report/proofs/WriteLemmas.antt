-- Texts grow by an item at the end.
use Rattle.std.proofs.Common.{◌≡◌, ℕ, zero, suc, ◌+◌, ◌<◌, List, [], ◌∷◌, ◌++◌, length, length-take, take, get_or, refl, sym, ap, subst, ◌∙◌, append_assoc, append-nil, add-one, arith}
use Rattle.std.specs.List.{AllByRecursion}
use Rattle.std.proofs.Math.Seq.{take-suc}
use Rattle.store_core.specs.declared.journal.Entry.{Entry}
use Rattle.report.specs.declared.parts.PropLine.{PropLine}
use Rattle.report.specs.Entries.{IsAnswered, AreAnswered, added_by, count_behind, entry_words}
use Rattle.report.specs.Reports.{line_of, prop_words, prop_lines, entry_lines}

-- the number of clauses behind these entries
abbrev pub count_from : ℕ → List Entry → ℕ
count_from n [] = n
count_from n (e ∷ es) = count_from (n + length (added_by e.event)) es

pub prop_lines-push : (p : ℕ) (ls : List PropLine) (l : PropLine)
    → prop_lines p (ls ++ l ∷ []) ≡ prop_lines p ls ++ line_of (prop_words (p + length ls) l)
prop_lines-push p [] l =
    append-nil (line_of (prop_words p l)) ∙ ap (λ (k : ℕ). line_of (prop_words k l)) {y = p + 0} (omega arith)
prop_lines-push p (x ∷ ls) l =
    let k : p + 1 + length ls ≡ p + length (x ∷ ls) = omega arith in
    ap (λ (t : List ℕ). line_of (prop_words p x) ++ t) (prop_lines-push (p + 1) ls l
    ∙ ap (λ (n : ℕ). prop_lines (p + 1) ls ++ line_of (prop_words n l)) k)
    ∙ sym (append_assoc (line_of (prop_words p x)) (prop_lines (p + 1) ls) (line_of (prop_words (p + length (x ∷ ls)) l)))

pub count_from-push : (n : ℕ) (es : List Entry) (e : Entry)
    → count_from n (es ++ e ∷ []) ≡ count_from n es + length (added_by e.event)
count_from-push n [] e = refl
count_from-push n (x ∷ es) e = count_from-push (n + length (added_by x.event)) es e

pub entry_lines-push : (n : ℕ) (es : List Entry) (e : Entry)
    → entry_lines n (es ++ e ∷ []) ≡ entry_lines n es ++ line_of (entry_words e (count_from n es + length (added_by e.event)))
entry_lines-push n [] e = append-nil (line_of (entry_words e (n + length (added_by e.event))))
entry_lines-push n (x ∷ es) e =
    let next = n + length (added_by x.event) in
    let last = line_of (entry_words e (count_from next es + length (added_by e.event))) in
    ap (λ (t : List ℕ). line_of (entry_words x next) ++ t) (entry_lines-push next es e)
    ∙ sym (append_assoc (line_of (entry_words x next)) (entry_lines next es) last)

-- the entry at this place is answered
answered_at : (props n : ℕ) (es : List Entry) (i : ℕ) (e : Entry) → i < length es → e ≡ get_or es i e → AreAnswered props n es
    → IsAnswered props (count_from n (take i es)) e
answered_at props n [] i e less is h = absurd (omega (arith, less))
answered_at props n (x ∷ es) zero e less is h = subst (IsAnswered props n) (sym is) h.0
answered_at props n (x ∷ es) (suc i) e less is h = answered_at props (n + length (added_by x.event)) es i e (omega (arith, less))
    is h.1

-- ---- as loops go

take_more : {A : Type 0} (xs : List A) (i : ℕ) (x : A) → i < length xs → x ≡ get_or xs i x → take (i + 1) xs ≡ take i xs ++ x ∷ []
take_more {A} xs i x less is = ap (λ (k : ℕ). take k xs) (add-one i) ∙ take-suc xs i x less
    ∙ ap (λ (y : A). take i xs ++ y ∷ []) (sym is)

pub AllByRecursion-push : {A : Type 0} (P : A → Type 0) (xs : List A) (x : A) → AllByRecursion P xs → P x
    → AllByRecursion P (xs ++ x ∷ [])
AllByRecursion-push P [] x h p = (p, tt)
AllByRecursion-push P (y ∷ ys) x h p = (h.0, AllByRecursion-push P ys x h.1 p)

pub all_more : {A : Type 0} (P : A → Type 0) (xs : List A) (i : ℕ) (x : A) → i < length xs → x ≡ get_or xs i x
    → AllByRecursion P (take i xs) → P x
    → AllByRecursion P (take (i + 1) xs)
all_more P xs i x less is h p = subst (AllByRecursion P) (sym (take_more xs i x less is))
    (AllByRecursion-push P (take i xs) x h p)

pub props_more : (old now next : List ℕ) (ls : List PropLine) (p : ℕ) (l : PropLine) → p < length ls → l ≡ get_or ls p l
    → now ≡ old ++ prop_lines 0 (take p ls) → next ≡ now ++ line_of (prop_words p l)
    → next ≡ old ++ prop_lines 0 (take (p + 1) ls)
props_more old now next ls p l less is so_far made =
    let len : 0 + length (take p ls) ≡ p = omega (arith, length-take p ls) in
    let more : prop_lines 0 (take (p + 1) ls) ≡ prop_lines 0 (take p ls) ++ line_of (prop_words p l)
    = ap (prop_lines 0) (take_more ls p l less is) ∙ prop_lines-push 0 (take p ls) l
    ∙ ap (λ (k : ℕ). prop_lines 0 (take p ls) ++ line_of (prop_words k l)) len in
    made ∙ ap (λ (t : List ℕ). t ++ line_of (prop_words p l)) so_far
    ∙ append_assoc old (prop_lines 0 (take p ls)) (line_of (prop_words p l))
    ∙ ap (λ (t : List ℕ). old ++ t) (sym more)

-- the count that a reply tells is the one behind its entry
pub count_more : (props : ℕ) (es : List Entry) (i upto : ℕ) (e : Entry) → i < length es → e ≡ get_or es i e
    → AreAnswered props 0 es
    → upto ≡ count_from 0 (take i es) → count_behind upto e.reply ≡ count_from 0 (take (i + 1) es)
count_more props es i upto e less is h so_far =
    let one = answered_at props 0 es i e less is h in
    ap (λ (k : ℕ). count_behind k e.reply) so_far ∙ one.count
    ∙ sym (ap (count_from 0) (take_more es i e less is) ∙ count_from-push 0 (take i es) e)

pub entries_more : (old now next : List ℕ) (es : List Entry) (i upto : ℕ) (e : Entry) → i < length es → e ≡ get_or es i e
    → now ≡ old ++ entry_lines 0 (take i es) → upto ≡ count_from 0 (take (i + 1) es) → next ≡ now ++ line_of (entry_words e upto)
    → next ≡ old ++ entry_lines 0 (take (i + 1) es)
entries_more old now next es i upto e less is so_far count made =
    let last = count ∙ ap (count_from 0) (take_more es i e less is) ∙ count_from-push 0 (take i es) e in
    let more : entry_lines 0 (take (i + 1) es) ≡ entry_lines 0 (take i es) ++ line_of (entry_words e upto)
    = ap (entry_lines 0) (take_more es i e less is) ∙ entry_lines-push 0 (take i es) e
    ∙ ap (λ (k : ℕ). entry_lines 0 (take i es) ++ line_of (entry_words e k)) (sym last) in
    made ∙ ap (λ (t : List ℕ). t ++ line_of (entry_words e upto)) so_far
    ∙ append_assoc old (entry_lines 0 (take i es)) (line_of (entry_words e upto))
    ∙ ap (λ (t : List ℕ). old ++ t) (sym more)

four_parts : (old w x y z : List ℕ) → old ++ w ++ x ++ y ++ z ≡ old ++ (w ++ x ++ y ++ z)
four_parts old w x y z = simp append_assoc

-- the pieces of a stimulus: a property, a row and the rows behind it
pub trace_grows : (old property first rows a b c d e f : List ℕ) → a ≡ old ++ 49 ∷ 10 ∷ [] → b ≡ a ++ 98 ∷ property
    → c ≡ b ++ 10 ∷ [] → d ≡ c ++ (first ++ 10 ∷ [])
    → e ≡ d ++ rows → f ≡ e ++ 46 ∷ 10 ∷ [] → f ≡ old ++ (49 ∷ 10 ∷ 98 ∷ property ++ 10 ∷ first ++ 10 ∷ rows ++ 46 ∷ 10 ∷ [])
trace_grows old property first rows a b c d e f ea eb ec ed ee ef =
    let named : b ≡ old ++ 49 ∷ 10 ∷ 98 ∷ property = eb ∙ ap (λ (t : List ℕ). t ++ 98 ∷ property) ea
    ∙ append_assoc old (49 ∷ 10 ∷ []) (98 ∷ property) in
    let row : d ≡ b ++ 10 ∷ (first ++ 10 ∷ []) = ed ∙ ap (λ (t : List ℕ). t ++ (first ++ 10 ∷ [])) ec
    ∙ append_assoc b (10 ∷ []) (first ++ 10 ∷ []) in
    let all : e ≡ b ++ 10 ∷ first ++ 10 ∷ rows
    = ee ∙ ap (λ (t : List ℕ). t ++ rows) (row ∙ sym (append_assoc b (10 ∷ first) (10 ∷ [])))
    ∙ append_assoc (b ++ 10 ∷ first) (10 ∷ []) rows in
    ef ∙ ap (λ (t : List ℕ). t ++ 46 ∷ 10 ∷ []) (all ∙ ap (λ (t : List ℕ). t ++ 10 ∷ first ++ 10 ∷ rows) named)
    ∙ four_parts old (49 ∷ 10 ∷ 98 ∷ property) (10 ∷ first) (10 ∷ rows) (46 ∷ 10 ∷ [])
