-- Whole lines are read as they are written.
use Rattle.std.proofs.Common.{◌≡◌, ℕ, ◌<◌, ◌^◌, Bool, true, false, not, cond, ◌&&◌, ◌||◌, eqb, List, [], ◌∷◌, ◌++◌, length, map, Option, Some, None, option_map, refl, sym, ap, subst, ◌∙◌, append_assoc, append-nil, arith, eqb-true, eq-eqb}
use Rattle.std.specs.Prelude.{⊤, ◌↔◌, decimal, codes, bytes_eq, IfSome, IsTrue}
use Rattle.std.specs.List.{AllByRecursion, list_all}
use Rattle.std.proofs.lemmas.Bool.{eqb-false}
use Rattle.std.proofs.lemmas.List.{length-map}
use Rattle.std.proofs.lemmas.Option.{same_Some, some_pair_parts}
use Rattle.std.proofs.lemmas.Slice.Eq.{bytes_eq-Decides}
use Rattle.ja_text.specs.Numbers.{IsDigit, BeginsWithoutDigit}
use Rattle.ja_text.specs.Lines.{IsOneLine, word_at}
use Rattle.ja_text.proofs.ByteLemmas.{word_takes, word_again}
use Rattle.ja_text.proofs.DecimalLemmas.{decimal_is_number}
use Rattle.local_stim.specs.StimulusText.{bit_character}
use Rattle.store_core.specs.declared.mark.Mark.{Mark}
use Rattle.store_core.specs.declared.mark.Mark.TheVariants.{Proved, Fails, Budget, Cancelled}
use Rattle.report.specs.declared.parts.PropLine.{PropLine}
use Rattle.report.specs.declared.parts.Sizes.{Sizes}
use Rattle.report.specs.Entries.{IsSmallMark, mark_words, property_word}
use Rattle.report.specs.Reports.{AreSmallSizes, spaced, sizes_words, expectation_word, prop_words, joined_words}
use Rattle.report.specs.Tokens.{◌>>=◌, small_behind, mark_at}
use Rattle.report.specs.Lines.{ended, spaced_at, sizes_of, first_expectation, expectation_at, where_true, prop_of, count_of, is_named, is_bit_character, row_of, next_row_of, joined_of, journal_of}
use Rattle.report.specs.Sections.{next_row_words, journal_words, IsEntryCount}
use Rattle.report.proofs.FormLemmas.{IsRead, IsWords}
use Rattle.report.proofs.TokenLemmas.{bind_some, behind_takes, behind_again, mark_takes, mark_again}

-- ---- one line

pub IsOneLine-append : (a b : List ℕ) → IsOneLine a → IsOneLine b → IsOneLine (a ++ b)
IsOneLine-append [] b p q = q
IsOneLine-append (c ∷ a) b p q = (p.0, IsOneLine-append a b p.1 q)

-- words whose bytes are no LF, by a test
pub IsOneLine-tested : (words : List ℕ) → list_all (λ b. not (eqb b 10)) words ≡ true → IsOneLine words
IsOneLine-tested [] e = tt
IsOneLine-tested (c ∷ words) e = step (eqb c 10) refl e (IsOneLine-tested words)
  where
    step : (t : Bool) → t ≡ eqb c 10 → (not t && list_all (λ b. not (eqb b 10)) words) ≡ true
        → (list_all (λ b. not (eqb b 10)) words ≡ true → IsOneLine words)
        → IsOneLine (c ∷ words)
    step true is h others = absurd cc
    step false is h others = (eqb-false c 10 (sym is), others h)

pub no_newlines : (text : List ℕ) → AllByRecursion IsDigit text → IsOneLine text
no_newlines [] h = tt
no_newlines (d ∷ text) h = (λ e. absurd (omega (arith, e, h.0.0)), no_newlines text h.1)

pub IsOneLine-decimal : (n : ℕ) → n < 2 ^ 64 → IsOneLine (decimal n)
IsOneLine-decimal n small = no_newlines (decimal n) (decimal_is_number n small).digits

pub IsOneLine-small : (n : ℕ) → n < 2 ^ 32 → IsOneLine (decimal n)
IsOneLine-small n small = IsOneLine-decimal n (omega (arith, small))

pub IsOneLine-mark : (m : Mark) → IsSmallMark m → IsOneLine (mark_words m)
IsOneLine-mark Proved small = IsOneLine-tested (codes "proved") refl
IsOneLine-mark Fails small = IsOneLine-tested (codes "fails") refl
IsOneLine-mark (Budget n) small = IsOneLine-append (codes "unknown budget ") (decimal n)
    (IsOneLine-tested (codes "unknown budget ") refl) (IsOneLine-decimal n small)
IsOneLine-mark Cancelled small = IsOneLine-tested (codes "unknown cancelled") refl

-- ---- tests

pub ended_is : {X : Type 0} (p : X × List ℕ) (x : X) → ended p ≡ Some x → (p.0 ≡ x) × (p.1 ≡ [])
ended_is (y, []) x e = (same_Some y x e, refl)
ended_is (y, b ∷ bytes) x e = absurd cc

pub where_is : {X : Type 0} (t : Bool) (o : Option X) (x : X) → where_true t o ≡ Some x → (t ≡ true) × (o ≡ Some x)
where_is true o x e = (refl, e)
where_is false o x e = absurd cc

-- ---- a word and a number

count_again : (word : List ℕ) (n : ℕ) → n < 2 ^ 32 → count_of word (word ++ decimal n) ≡ Some n
unfolding count_of
count_again word n small =
    let read : small_behind word (word ++ decimal n) ≡ Some (n, [])
    = ap (small_behind word) (sym (append-nil (word ++ decimal n))) ∙ behind_again word n [] small tt in
    rw read refl

count_takes : (word line : List ℕ) (n : ℕ) → count_of word line ≡ Some n → (n < 2 ^ 32) × (line ≡ word ++ decimal n)
unfolding count_of
count_takes word line n e =
    let x = bind_some (small_behind word line) ended n e in
    let whole = ended_is x.0 n x.2 in
    let t = behind_takes word line x.0.0 x.0.1 x.1 in
    let parts : line ≡ word ++ decimal x.0.0 = t.1 ∙ ap (λ (v : List ℕ). word ++ decimal x.0.0 ++ v) whole.1
    ∙ append-nil (word ++ decimal x.0.0) in
    subst (λ (k : ℕ). (k < 2 ^ 32) × (line ≡ word ++ decimal k)) whole.0 (t.0, parts)

pub count_read : (word : List ℕ) → IsOneLine word → IsRead (λ n. n < 2 ^ 32) (λ n. word ++ decimal n) (count_of word)
count_read word one = record {
  one_line = λ n small. IsOneLine-append word (decimal n) one (IsOneLine-small n small);
  takes = count_takes word;
  again = count_again word;
}

pub named_takes : (word : List ℕ) (p : ℕ) (line : List ℕ) (n : ℕ) → is_named word p line ≡ Some n → line ≡ word ++ decimal p
unfolding is_named
named_takes word p line n e =
    let x = bind_some (count_of word line) (λ k. where_true (eqb k p) (Some k)) n e in
    let test = where_is (eqb x.0 p) (Some x.0) n x.2 in
    (count_takes word line x.0 x.1).1 ∙ ap (λ (k : ℕ). word ++ decimal k) (eqb-true x.0 p test.0)

pub named_again : (word : List ℕ) (p : ℕ) → p < 2 ^ 32 → is_named word p (word ++ decimal p) ≡ Some p
unfolding is_named
named_again word p small = rw (count_again word p small, eq-eqb p p refl) refl

-- ---- sizes

spaced_again : (n : ℕ) (rest : List ℕ) → n < 2 ^ 32 → BeginsWithoutDigit rest
    → small_behind (codes " ") (spaced n ++ rest) ≡ Some (n, rest)
spaced_again n rest small ends = behind_again (codes " ") n rest small ends

regroup : (w a b c d e f : List ℕ) → w ++ (a ++ (b ++ (c ++ (d ++ (e ++ f))))) ≡ w ++ (a ++ b ++ c ++ d ++ e ++ f)
regroup w a b c d e f = simp append_assoc

pub sizes_again : (s : Sizes) → AreSmallSizes s → sizes_of (codes "design" ++ sizes_words s) ≡ Some s
unfolding sizes_of
sizes_again s small =
    let e5 = spaced s.constraints in
    let e4 = spaced s.props ++ e5 in
    let e3 = spaced s.gates ++ e4 in
    let e2 = spaced s.latches ++ e3 in
    let e1 = spaced s.inputs ++ e2 in
    let e0 = spaced s.vars ++ e1 in
    ap sizes_of (sym (regroup (codes "design") (spaced s.vars) (spaced s.inputs) (spaced s.latches) (spaced s.gates)
    (spaced s.props) e5))
    ∙ rw (
      word_again (codes "design") e0,
      spaced_again s.vars e1 small.vars refl,
      spaced_again s.inputs e2 small.inputs refl,
      spaced_again s.latches e3 small.latches refl,
      spaced_again s.gates e4 small.gates refl,
      spaced_again s.props e5
          small.props refl,
      count_again (codes " ") s.constraints small.constraints,
    ) refl

sizes_takes : (line : List ℕ) (s : Sizes) → sizes_of line ≡ Some s → AreSmallSizes s × (line ≡ codes "design" ++ sizes_words s)
unfolding sizes_of
sizes_takes line s e =
    let r = bind_some (word_at (codes "design") line) _ s e in
    let v = bind_some (spaced_at r.0) _ s r.2 in
    let i = bind_some (spaced_at v.0.1) _ s v.2 in
    let l = bind_some (spaced_at i.0.1) _ s i.2 in
    let g = bind_some (spaced_at l.0.1) _ s l.2 in
    let p = bind_some (spaced_at g.0.1) _ s g.2 in
    let c = bind_some (count_of (codes " ") p.0.1) _ s p.2 in
    let tv = behind_takes (codes " ") r.0 v.0.0 v.0.1 v.1 in
    let ti = behind_takes (codes " ") v.0.1 i.0.0 i.0.1 i.1 in
    let tl = behind_takes (codes " ") i.0.1 l.0.0 l.0.1 l.1 in
    let tg = behind_takes (codes " ") l.0.1 g.0.0 g.0.1 g.1 in
    let tp = behind_takes (codes " ") g.0.1 p.0.0 p.0.1 p.1 in
    let tc = count_takes (codes " ") p.0.1 c.0 c.1 in
    let read : Sizes = record { vars = v.0.0; inputs = i.0.0; latches = l.0.0; gates = g.0.0; props = p.0.0; constraints = c.0 }
    in
    let parts = chain line r.0 (spaced v.0.0) v.0.1 (spaced i.0.0) i.0.1 (spaced l.0.0) l.0.1 (spaced g.0.0) g.0.1 (spaced p.0.0)
    p.0.1 (spaced c.0)
    (word_takes (codes "design") line r.0 r.1) tv.1 ti.1 tl.1 tg.1 tp.1 tc.1 in
    subst (λ (k : Sizes). AreSmallSizes k × (line ≡ codes "design" ++ sizes_words k)) (same_Some read s c.2)
    (record { vars = tv.0; inputs = ti.0; latches = tl.0; gates = tg.0; props = tp.0; constraints = tc.0 }, parts)
  where
    chain : (line r a ra b rb c rc d rd e re f : List ℕ) → line ≡ codes "design" ++ r → r ≡ a ++ ra → ra ≡ b ++ rb → rb ≡ c ++ rc
        → rc ≡ d ++ rd → rd ≡ e ++ re → re ≡ f
        → line ≡ codes "design" ++ (a ++ b ++ c ++ d ++ e ++ f)
    chain line r a ra b rb c rc d rd e re f h0 h1 h2 h3 h4 h5 h6 =
        rw (h0, h1, h2, h3, h4, h5, h6) (regroup (codes "design") a b c d e f)

IsOneLine-spaced : (n : ℕ) → n < 2 ^ 32 → IsOneLine (spaced n)
IsOneLine-spaced n small = ((λ e. absurd cc), IsOneLine-small n small)

pub sizes_read : IsRead AreSmallSizes (λ s. codes "design" ++ sizes_words s) sizes_of
sizes_read = record {
  one_line = λ s small.
      let a = IsOneLine-spaced s.vars small.vars in
      let wb = spaced s.vars ++ spaced s.inputs in
      let wc = wb ++ spaced s.latches in
      let wd = wc ++ spaced s.gates in
      let we = wd ++ spaced s.props in
      let b = IsOneLine-append (spaced s.vars) (spaced s.inputs) a (IsOneLine-spaced s.inputs small.inputs) in
      let c = IsOneLine-append wb (spaced s.latches) b (IsOneLine-spaced s.latches small.latches) in
      let d = IsOneLine-append wc (spaced s.gates) c (IsOneLine-spaced s.gates small.gates) in
      let e = IsOneLine-append wd (spaced s.props) d (IsOneLine-spaced s.props small.props) in
      let f = IsOneLine-append we (spaced s.constraints) e (IsOneLine-spaced s.constraints small.constraints) in
      IsOneLine-append (codes "design") (sizes_words s) (IsOneLine-tested (codes "design") refl) f;
  takes = sizes_takes;
  again = sizes_again;
}

-- ---- a property

expectation_takes : (bytes : List ℕ) (a b : Option (List ℕ)) (assumed : Bool) (rest : List ℕ) → word_at (codes " hold ") bytes ≡ a
    → word_at (codes " fail ") bytes ≡ b
    → first_expectation a b ≡ Some (assumed, rest) → bytes ≡ 32 ∷ expectation_word assumed ++ 32 ∷ rest
expectation_takes bytes (Some r) b assumed rest ea eb e =
    let same = some_pair_parts true assumed r rest e in
    subst (λ (t : Bool). bytes ≡ 32 ∷ expectation_word t ++ 32 ∷ rest) same.0 (word_takes (codes " hold ") bytes r ea
    ∙ ap (λ (v : List ℕ). codes " hold " ++ v) same.1)
expectation_takes bytes None (Some r) assumed rest ea eb e =
    let same = some_pair_parts false assumed r rest e in
    subst (λ (t : Bool). bytes ≡ 32 ∷ expectation_word t ++ 32 ∷ rest) same.0 (word_takes (codes " fail ") bytes r eb
    ∙ ap (λ (v : List ℕ). codes " fail " ++ v) same.1)
expectation_takes bytes None None assumed rest ea eb e = absurd cc

expectation_again : (assumed : Bool) (rest : List ℕ)
    → expectation_at (32 ∷ expectation_word assumed ++ 32 ∷ rest) ≡ Some (assumed, rest)
unfolding expectation_at word_at
expectation_again true rest = refl
expectation_again false rest = refl

prop_takes : (p : ℕ) (line : List ℕ) (x : PropLine) → prop_of p line ≡ Some x → IsSmallMark x.mark × (line ≡ prop_words p x)
unfolding prop_of expectation_at
prop_takes p line x e =
    let n = bind_some (small_behind (codes "b") line) _ x e in
    let h = bind_some (expectation_at n.0.1) _ x n.2 in
    let m = bind_some (mark_at h.0.1) _ x h.2 in
    let read : PropLine = record { assumed = h.0.0; mark = m.0.0 } in
    let test = where_is (eqb n.0.0 p) (ended (read, m.0.1)) x m.2 in
    let whole = ended_is (read, m.0.1) x test.1 in
    let tn = behind_takes (codes "b") line n.0.0 n.0.1 n.1 in
    let th = expectation_takes n.0.1 _ _ h.0.0 h.0.1 refl refl h.1 in
    let tm = mark_takes h.0.1 m.0.0 m.0.1 m.1 in
    let named : line ≡ property_word p ++ n.0.1 = tn.1 ∙ ap (λ (k : ℕ). property_word k ++ n.0.1) (eqb-true n.0.0 p test.0) in
    let end : h.0.1 ≡ mark_words m.0.0 = tm.1 ∙ ap (λ (v : List ℕ). mark_words m.0.0 ++ v) whole.1
    ∙ append-nil (mark_words m.0.0) in
    let parts : line ≡ prop_words p read
    = named ∙ ap (λ (v : List ℕ). property_word p ++ v) (th ∙ ap (λ (v : List ℕ). 32 ∷ expectation_word h.0.0 ++ 32 ∷ v) end)
    ∙ sym (append_assoc (property_word p) (32 ∷ expectation_word h.0.0) (32 ∷ mark_words m.0.0)) in
    subst (λ (k : PropLine). IsSmallMark k.mark × (line ≡ prop_words p k)) whole.0 (tm.0, parts)

prop_again : (p : ℕ) → p < 2 ^ 32 → (x : PropLine) → IsSmallMark x.mark → prop_of p (prop_words p x) ≡ Some x
unfolding prop_of
prop_again p small x mark =
    let tail = 32 ∷ expectation_word x.assumed ++ 32 ∷ mark_words x.mark in
    let found : mark_at (mark_words x.mark) ≡ Some (x.mark, []) = ap mark_at (sym (append-nil (mark_words x.mark)))
    ∙ mark_again x.mark [] mark tt in
    ap (prop_of p) (append_assoc (property_word p) (32 ∷ expectation_word x.assumed) (32 ∷ mark_words x.mark))
    ∙ rw (behind_again (codes "b") p tail small refl, expectation_again x.assumed (mark_words x.mark), found, eq-eqb p p refl)
    refl

IsOneLine-expectation : (assumed : Bool) → IsOneLine (32 ∷ expectation_word assumed)
IsOneLine-expectation true = IsOneLine-tested (32 ∷ codes "hold") refl
IsOneLine-expectation false = IsOneLine-tested (32 ∷ codes "fail") refl

pub prop_read : (p : ℕ) → p < 2 ^ 32 → IsRead (λ x. IsSmallMark x.mark) (prop_words p) (prop_of p)
prop_read p small = record {
  one_line = λ x mark.
      let named : IsOneLine (property_word p) = ((λ e. absurd cc), IsOneLine-small p small) in
      IsOneLine-append (property_word p ++ 32 ∷ expectation_word x.assumed) (32 ∷ mark_words x.mark)
      (IsOneLine-append (property_word p) (32 ∷ expectation_word x.assumed) named (IsOneLine-expectation x.assumed))
      ((λ e. absurd cc), IsOneLine-mark x.mark mark);
  takes = prop_takes p;
  again = prop_again p small;
}

-- ---- rows

bits_back : (line : List ℕ) → list_all is_bit_character line ≡ true → line ≡ map bit_character (map (λ c. eqb c 49) line)
bits_back [] e = refl
bits_back (c ∷ line) e = step (eqb c 48) (eqb c 49) refl refl e (bits_back line)
  where
    step : (z o : Bool) → z ≡ eqb c 48 → o ≡ eqb c 49 → ((z || o) && list_all is_bit_character line) ≡ true
        → (list_all is_bit_character line ≡ true → line ≡ map bit_character (map (λ k. eqb k 49) line))
        → c ∷ line ≡ bit_character o ∷ map bit_character (map (λ k. eqb k 49) line)
    step true true ez eo h others = let is : c ≡ 49 = eqb-true c 49 (sym eo) in ap (λ (k : ℕ). k ∷ line) is
        ∙ ap (λ (v : List ℕ). 49 ∷ v) (others h)
    step false true ez eo h others = let is : c ≡ 49 = eqb-true c 49 (sym eo) in ap (λ (k : ℕ). k ∷ line) is
        ∙ ap (λ (v : List ℕ). 49 ∷ v) (others h)
    step true false ez eo h others = let is : c ≡ 48 = eqb-true c 48 (sym ez) in ap (λ (k : ℕ). k ∷ line) is
        ∙ ap (λ (v : List ℕ). 48 ∷ v) (others h)
    step false false ez eo h others = absurd cc

bits_again : (row : List Bool) → map (λ c. eqb c 49) (map bit_character row) ≡ row
bits_again [] = refl
bits_again (true ∷ row) = ap (λ (v : List Bool). true ∷ v) (bits_again row)
bits_again (false ∷ row) = ap (λ (v : List Bool). false ∷ v) (bits_again row)

bits_are : (row : List Bool) → list_all is_bit_character (map bit_character row) ≡ true
bits_are [] = refl
bits_are (true ∷ row) = bits_are row
bits_are (false ∷ row) = bits_are row

both_true : (a b : Bool) → (a && b) ≡ true → (a ≡ true) × (b ≡ true)
both_true true b e = (refl, e)
both_true false b e = absurd cc

row_takes : (width : ℕ) (line : List ℕ) (row : List Bool) → row_of width line ≡ Some row
    → (length row ≡ width) × (line ≡ map bit_character row)
unfolding row_of
row_takes width line row e =
    let test = where_is (list_all is_bit_character line && eqb (length line) width) (Some (map (λ c. eqb c 49) line)) row e in
    let both = both_true (list_all is_bit_character line) (eqb (length line) width) test.0 in
    let len : length (map (λ c. eqb c 49) line) ≡ width = length-map line (λ c. eqb c 49) ∙ eqb-true (length line) width both.1 in
    subst (λ (k : List Bool). (length k ≡ width) × (line ≡ map bit_character k)) (same_Some (map (λ c. eqb c 49) line) row test.1)
    (len, bits_back line both.0)

row_again : (width : ℕ) (row : List Bool) → length row ≡ width → row_of width (map bit_character row) ≡ Some row
unfolding row_of
row_again width row len =
    let same : eqb (length (map bit_character row)) width ≡ true = eq-eqb (length (map bit_character row)) width
    (length-map row bit_character ∙ len) in
    rw (bits_are row, same, bits_again row) refl

IsOneLine-row : (row : List Bool) → IsOneLine (map bit_character row)
IsOneLine-row [] = tt
IsOneLine-row (true ∷ row) = ((λ e. absurd cc), IsOneLine-row row)
IsOneLine-row (false ∷ row) = ((λ e. absurd cc), IsOneLine-row row)

pub row_read : (width : ℕ) → IsRead (λ row. length row ≡ width) (map bit_character) (row_of width)
row_read width = record { one_line = λ row len. IsOneLine-row row; takes = row_takes width; again = row_again width }

mapped_some : {X : Type 0} (o : Option X) (y : Option X) → option_map (λ x. Some x) o ≡ Some y
    → (x : X) × (o ≡ Some x) × (y ≡ Some x)
mapped_some None y e = absurd cc
mapped_some (Some x) y e = (x, refl, sym (same_Some (Some x) y e))

next_row_takes : (width : ℕ) (line : List ℕ) (next : Option (List Bool)) → next_row_of width line ≡ Some next
    → IfSome next (λ row. length row ≡ width) × (line ≡ next_row_words next)
unfolding next_row_of
next_row_takes width line next e = step (bytes_eq line (codes ".")) refl e
  where
    step : (t : Bool) → t ≡ bytes_eq line (codes ".")
        → cond t (Some None) (option_map (λ row. Some row) (row_of width line)) ≡ Some next
        → IfSome next (λ row. length row ≡ width) × (line ≡ next_row_words next)
    step true is h =
        subst (λ (n : Option (List Bool)). IfSome n (λ row. length row ≡ width) × (line ≡ next_row_words n))
        (same_Some None next h)
        (tt, (bytes_eq-Decides line (codes ".")).0 (sym is))
    step false is h =
        let x = mapped_some (row_of width line) next h in
        subst (λ (n : Option (List Bool)). IfSome n (λ row. length row ≡ width) × (line ≡ next_row_words n)) (sym x.2)
        (row_takes width line x.0 x.1)

not_dot : (row : List Bool) → bytes_eq (map bit_character row) (codes ".") ≡ false
not_dot [] = refl
not_dot (true ∷ row) = refl
not_dot (false ∷ row) = refl

next_row_again : (width : ℕ) (next : Option (List Bool)) → IfSome next (λ row. length row ≡ width)
    → next_row_of width (next_row_words next) ≡ Some next
unfolding next_row_of
next_row_again width None h = refl
next_row_again width (Some row) h = rw (not_dot row, row_again width row h) refl

IsOneLine-next_row : (next : Option (List Bool)) → IsOneLine (next_row_words next)
IsOneLine-next_row None = IsOneLine-tested (codes ".") refl
IsOneLine-next_row (Some row) = IsOneLine-row row

pub next_row_read : (width : ℕ) → IsRead (λ next. IfSome next (λ row. length row ≡ width)) next_row_words (next_row_of width)
next_row_read width = record {
  one_line = λ next h. IsOneLine-next_row next;
  takes = next_row_takes width;
  again = next_row_again
      width;
}

-- ---- joined, and what follows the set

joined_takes : (line : List ℕ) (joined : Bool) → joined_of line ≡ Some joined → ⊤ × (line ≡ joined_words joined)
unfolding joined_of
joined_takes line joined e = step (bytes_eq line (codes "joined yes")) (bytes_eq line (codes "joined no")) refl refl e
  where
    step : (y n : Bool) → y ≡ bytes_eq line (codes "joined yes") → n ≡ bytes_eq line (codes "joined no")
        → cond y (Some true) (cond n (Some false) None) ≡ Some joined
        → ⊤ × (line ≡ joined_words joined)
    step true n ey en h = (
      tt,
      subst (λ (b : Bool). line ≡ joined_words b) (same_Some true joined h)
          ((bytes_eq-Decides line (codes "joined yes")).0 (sym ey)),
    )
    step false true ey en
        h = (
          tt,
          subst (λ (b : Bool). line ≡ joined_words b) (same_Some false joined h)
              ((bytes_eq-Decides line (codes "joined no")).0 (sym en)),
        )
    step false false ey en h = absurd cc

joined_again : (joined : Bool) → ⊤ → joined_of (joined_words joined) ≡ Some joined
unfolding joined_of
joined_again true h = refl
joined_again false h = refl

IsOneLine-joined : (joined : Bool) → IsOneLine (joined_words joined)
IsOneLine-joined true = IsOneLine-tested (codes "joined yes") refl
IsOneLine-joined false = IsOneLine-tested (codes "joined no") refl

pub joined_read : IsRead (λ _. ⊤) joined_words joined_of
joined_read = record { one_line = λ joined h. IsOneLine-joined joined; takes = joined_takes; again = joined_again }

some_count : (n clauses : ℕ) → (not (eqb n 0) || eqb clauses 0) ≡ true → n ≡ 0 → clauses ≡ 0
some_count n clauses e zero =
    let t : eqb n 0 ≡ true = eq-eqb n 0 zero in
    let other : eqb clauses 0 ≡ true = subst (λ (b : Bool). (not b || eqb clauses 0) ≡ true) t e in
    eqb-true clauses 0 other

count_some : (n clauses : ℕ) → (n ≡ 0 → clauses ≡ 0) → (not (eqb n 0) || eqb clauses 0) ≡ true
count_some n clauses h = step (eqb n 0) refl
  where
    step : (t : Bool) → t ≡ eqb n 0 → (not t || eqb clauses 0) ≡ true
    step true is = eq-eqb clauses 0 (h (eqb-true n 0 (sym is)))
    step false is = refl

journal_takes : (clauses : ℕ) (line : List ℕ) (next : Option ℕ) → journal_of clauses line ≡ Some next
    → IfSome next (IsEntryCount clauses) × (line ≡ journal_words next)
unfolding journal_of
journal_takes clauses line next e = step (bytes_eq line (codes "end")) refl e
  where
    f : ℕ → Option (Option ℕ)
    f n = where_true (not (eqb n 0) || eqb clauses 0) (Some (Some n))

    counted : (count_of (codes "journal ") line >>= f) ≡ Some next
        → IfSome next (IsEntryCount clauses) × (line ≡ journal_words next)
    counted h =
        let x = bind_some (count_of (codes "journal ") line) f next h in
        let test = where_is (not (eqb x.0 0) || eqb clauses 0) (Some (Some x.0)) next x.2 in
        let t = count_takes (codes "journal ") line x.0 x.1 in
        subst (λ (n : Option ℕ). IfSome n (IsEntryCount clauses) × (line ≡ journal_words n)) (same_Some (Some x.0) next test.1)
        (record { small = t.0; some = some_count x.0 clauses test.0 }, t.1)

    step : (t : Bool) → t ≡ bytes_eq line (codes "end") → cond t (Some None) (count_of (codes "journal ") line >>= f) ≡ Some next
        → IfSome next (IsEntryCount clauses) × (line ≡ journal_words next)
    step true is h =
        subst (λ (n : Option ℕ). IfSome n (IsEntryCount clauses) × (line ≡ journal_words n)) (same_Some None next h)
        (tt, (bytes_eq-Decides line (codes "end")).0 (sym is))
    step false is h = counted h

journal_again : (clauses : ℕ) (next : Option ℕ) → IfSome next (IsEntryCount clauses)
    → journal_of clauses (journal_words next) ≡ Some next
unfolding journal_of
journal_again clauses None h = refl
journal_again clauses (Some n) h = rw (count_again (codes "journal ") n h.small, count_some n clauses h.some) refl

IsOneLine-journal : (clauses : ℕ) (next : Option ℕ) → IfSome next (IsEntryCount clauses) → IsOneLine (journal_words next)
IsOneLine-journal clauses None h = IsOneLine-tested (codes "end") refl
IsOneLine-journal clauses (Some n) h = IsOneLine-append (codes "journal ") (decimal n) (IsOneLine-tested (codes "journal ") refl)
    (IsOneLine-small n h.small)

pub journal_read : (clauses : ℕ) → IsRead (λ next. IfSome next (IsEntryCount clauses)) journal_words (journal_of clauses)
journal_read clauses = record {
  one_line = IsOneLine-journal clauses;
  takes = journal_takes clauses;
  again = journal_again clauses;
}

-- ---- lines that are known

pub words_words : (words : List ℕ) → IsOneLine words → IsWords {X = ⊤} (λ _. ⊤) (λ _. words)
words_words words one = record { one_line = λ x fits. one; same = λ x y fx fy e. refl }

pub IsOneLine-named : (word : List ℕ) (p : ℕ) → IsOneLine word → p < 2 ^ 32 → IsOneLine (word ++ decimal p)
IsOneLine-named word p one small = IsOneLine-append word (decimal p) one (IsOneLine-small p small)

pub not_named : (word : List ℕ) (p : ℕ) (line : List ℕ) → p < 2 ^ 32 → is_named word p line ≡ None → line ≡ word ++ decimal p → ⊥
not_named word p line small none e =
    let found : None ≡ Some p = sym none ∙ ap (is_named word p) e ∙ named_again word p small in
    absurd cc

-- what a test says
pub told : {P : Type 0} (b : Bool) → b ≡ true → IsTrue b ↔ P → P
told true e h = h.0 refl
told false e h = absurd cc

pub untold : {P : Type 0} (b : Bool) → b ≡ false → IsTrue b ↔ P → P → ⊥
untold true e h p = absurd cc
untold false e h p = let wrong = h.1 p in absurd cc
