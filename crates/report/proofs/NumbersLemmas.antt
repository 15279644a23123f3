-- Numbers in a line are read as they are written, and what is written so is read so.
use Rattle.std.proofs.Common.{◌≡◌, ℕ, ◌+◌, ◌*◌, ◌<◌, ◌≤◌, ◌^◌, Bool, true, false, ◌&&◌, eqb, leb, ltb, List, [], ◌∷◌, ◌++◌, length, length-append, Option, Some, None, IsTrue, ◌↔◌, refl, sym, ap, subst, ◌∙◌, append_assoc, append-nil, arith, eqb-true, eq-eqb}
use Rattle.std.specs.Prelude.{codes, decimal}
use Rattle.std.specs.List.{AllByRecursion, flat_map, list_all}
use Rattle.std.specs.List.Sorted.{IsStrictlyIncreasing}
use Rattle.std.proofs.lemmas.Bool.Decides.{nat_tests}
use Rattle.std.proofs.lemmas.List.{nil_from_length}
use Rattle.std.proofs.lemmas.List.Concat.{flat_map-cons}
use Rattle.std.proofs.lemmas.Option.{some_pair_parts}
use Rattle.ja_text.specs.Numbers.{BeginsWithoutDigit}
use Rattle.ja_text.specs.Lines.{IsOneLine, word_at}
use Rattle.ja_text.specs.Repeated.{Chain}
use Rattle.ja_text.proofs.ByteLemmas.{word_takes, word_again}
use Rattle.ja_text.proofs.DecimalLemmas.{decimal_is_number}
use Rattle.report.specs.Reports.{IsReportClause, spaced, clause_words, member_words, set_words}
use Rattle.report.specs.Tokens.{small_at, small_behind}
use Rattle.report.specs.Numbers.{AreSmall, behind, TakesAll, AreNumbers}
use Rattle.report.specs.Sections.{IsHeldClause, IsSet}
use Rattle.report.proofs.FormLemmas.{IsWords}
use Rattle.report.proofs.TokenLemmas.{small_takes, small_again, behind_takes, behind_again}
use Rattle.report.proofs.DecodeLemmas.{IsOneLine-append, IsOneLine-small, IsOneLine-tested}

-- a number is taken behind the word
abbrev pub TakesOne : List ℕ → List ℕ → ℕ → List ℕ → Type 0
TakesOne word before n after = small_behind word before ≡ Some (n, after)

-- numbers were taken, and came to those that were there
pub record Grows (word bytes old new rest : List ℕ) : Type 0 where
  pub numbers : List ℕ
  pub taken : Chain (TakesOne word) bytes numbers rest
  pub grown : new ≡ old ++ numbers

chain_more : (word s : List ℕ) (ns t : List ℕ) (n : ℕ) (u : List ℕ) → Chain (TakesOne word) s ns t → TakesOne word t n u
    → Chain (TakesOne word) s (ns ++ n ∷ []) u
chain_more word s [] t n u c p = (u, subst (λ (v : List ℕ). TakesOne word v n u) (sym c) p, refl)
chain_more word s (m ∷ ns) t n u c p = (c.0, c.1, chain_more word c.0 ns t n u c.2 p)

pub grows_none : (word bytes old : List ℕ) → Grows word bytes old old bytes
grows_none word bytes old = record { numbers = []; taken = refl; grown = sym (append-nil old) }

pub grows_more : (word bytes old now rest next : List ℕ) (n : ℕ) (after : List ℕ) → Grows word bytes old now rest
    → small_behind word rest ≡ Some (n, after)
    → next ≡ now ++ n ∷ [] → Grows word bytes old next after
grows_more word bytes old now rest next n after g read pushed =
    record {
      numbers = g.numbers ++ n ∷ [];
      taken = chain_more word bytes g.numbers rest n after g.taken read;
      grown = pushed ∙ ap (λ (v : List ℕ). v ++ n ∷ []) g.grown ∙ append_assoc old g.numbers (n ∷ []);
    }

pub takes_all : (word bytes old now rest : List ℕ) → Grows word bytes old now rest → small_behind word rest ≡ None
    → TakesAll word bytes old now rest
takes_all word bytes old now rest g none = record { numbers = g.numbers; taken = g.taken; grown = g.grown; ends = none }

-- ---- the numbers of a text, each behind a word that begins with a space

regroup : (word : List ℕ) (n : ℕ) (ns rest : List ℕ)
    → flat_map (behind word) (n ∷ ns) ++ rest ≡ word ++ decimal n ++ (flat_map (behind word) ns ++ rest)
regroup word n ns rest = ap (λ (v : List ℕ). v ++ rest) (flat_map-cons (behind word) n ns)
    ∙ append_assoc (word ++ decimal n) (flat_map (behind word) ns) rest

chain_text : (word s : List ℕ) (ns t : List ℕ) → Chain (TakesOne word) s ns t → AreSmall ns × (s ≡ flat_map (behind word) ns ++ t)
chain_text word s [] t c = (tt, c)
chain_text word s (n ∷ ns) t c =
    let first = behind_takes word s n c.0 c.1 in
    let others = chain_text word c.0 ns t c.2 in
    ((first.0, others.0), first.1 ∙ ap (λ (v : List ℕ). word ++ decimal n ++ v) others.1 ∙ sym (regroup word n ns t))

module _ (tail : List ℕ) where
  abbrev word : List ℕ
  word = 32 ∷ tail

  begins : (ns : List ℕ) → BeginsWithoutDigit (flat_map (behind word) ns)
  begins [] = tt
  begins (n ∷ ns) = subst BeginsWithoutDigit (sym (flat_map-cons (behind word) n ns)) refl

  first_again : (n : ℕ) (ns : List ℕ) → n < 2 ^ 32
      → small_behind word (flat_map (behind word) (n ∷ ns)) ≡ Some (n, flat_map (behind word) ns)
  first_again n ns small = ap (small_behind word) (flat_map-cons (behind word) n ns)
      ∙ behind_again word n (flat_map (behind word) ns) small (begins ns)

  none_of_nothing : small_behind word [] ≡ None
  unfolding small_behind word_at
  none_of_nothing = refl

  chain_of : (ns : List ℕ) → AreSmall ns → Chain (TakesOne word) (flat_map (behind word) ns) ns []
  chain_of [] small = refl
  chain_of (n ∷ ns) small = (flat_map (behind word) ns, first_again n ns small.0, chain_of ns small.1)

  -- where no number follows, what was taken is all
  pub all_taken : (s : List ℕ) (ns t ms : List ℕ) → Chain (TakesOne word) s ns t → small_behind word t ≡ None → AreSmall ms
      → s ≡ flat_map (behind word) ms
      → (ns ≡ ms) × (t ≡ [])
  all_taken s [] t [] c none small e = (refl, sym c ∙ e)
  all_taken s [] t (m ∷ ms) c none small e =
      let found : ◌≡◌ {A = Option (ℕ × List ℕ)} None (Some (m, flat_map (behind word) ms)) = sym none
      ∙ ap (small_behind word) (sym c ∙ e) ∙ first_again m ms small.0 in
      absurd cc
  all_taken s (n ∷ ns) t [] c none small e =
      let found : ◌≡◌ {A = Option (ℕ × List ℕ)} None (Some (n, c.0)) = sym none_of_nothing ∙ ap (small_behind word) (sym e)
      ∙ c.1 in
      absurd cc
  all_taken s (n ∷ ns) t (m ∷ ms) c none small e =
      let same = some_pair_parts n m c.0 (flat_map (behind word) ms) (sym c.1 ∙ ap (small_behind word) e
      ∙ first_again m ms small.0) in
      let others = all_taken c.0 ns t ms c.2 none small.1 same.1 in
      (ap (λ (k : ℕ). k ∷ ns) same.0 ∙ ap (λ (v : List ℕ). m ∷ v) others.0, others.1)

  flat_same : (ns ms : List ℕ) → AreSmall ns → AreSmall ms → flat_map (behind word) ns ≡ flat_map (behind word) ms → ns ≡ ms
  flat_same ns ms sn sm e = (all_taken (flat_map (behind word) ns) ns [] ms (chain_of ns sn) none_of_nothing sm e).0

  IsOneLine-all : (ns : List ℕ) → IsOneLine word → AreSmall ns → IsOneLine (flat_map (behind word) ns)
  IsOneLine-all [] one small = tt
  IsOneLine-all (n ∷ ns) one small =
      subst IsOneLine (sym (flat_map-cons (behind word) n ns))
      (IsOneLine-append (word ++ decimal n) (flat_map (behind word) ns)
      (IsOneLine-append word (decimal n) one (IsOneLine-small n small.0)) (IsOneLine-all ns one small.1))

  pub text_of_all : (bytes old new rest : List ℕ) (t : TakesAll word bytes old new rest) → rest ≡ []
      → AreSmall t.numbers × (bytes ≡ flat_map (behind word) t.numbers)
  text_of_all bytes old new rest t ended =
      let c = chain_text word bytes t.numbers rest t.taken in (
        c.0,
        c.1 ∙ ap (λ (v : List ℕ). flat_map (behind word) t.numbers ++ v) ended
            ∙ append-nil (flat_map (behind word) t.numbers),
      )

-- ---- a line of numbers

decimal_some : (n : ℕ) → n < 2 ^ 32 → (rest : List ℕ) → [] ≡ decimal n ++ rest → ⊥
decimal_some n small rest e =
    let some = (decimal_is_number n (omega (arith, small))).some in
    let len : 0 ≡ length (decimal n ++ rest) = ap length e in
    omega (arith, some, len, length-append (decimal n) rest)

pub no_numbers : (line numbers : List ℕ) → length line ≡ 0 → numbers ≡ [] → AreNumbers true line numbers
no_numbers [] numbers len e = (subst AreSmall (sym e) tt, ap clause_words (sym e))
no_numbers (b ∷ line) numbers len e = absurd (omega (arith, len))

first_is : (l : ℕ) (ls : List ℕ) → l < 2 ^ 32 → small_at (clause_words (l ∷ ls)) ≡ Some (l, flat_map spaced ls)
first_is l ls small = small_again l (flat_map spaced ls) small (begins [] ls)

pub no_first : (line : List ℕ) → (line ≡ [] → ⊥) → small_at line ≡ None → (ns : List ℕ) → AreSmall ns → line ≡ clause_words ns → ⊥
no_first line some none [] small e = some e
no_first line some none (l ∷ ls) small e =
    let found : ◌≡◌ {A = Option (ℕ × List ℕ)} None (Some (l, flat_map spaced ls)) = sym none ∙ ap small_at e
    ∙ first_is l ls small.0 in
    absurd cc

pub more_behind : (line : List ℕ) (first : ℕ) (mid old new rest : List ℕ) → small_at line ≡ Some (first, mid)
    → TakesAll (codes " ") mid old new rest → (rest ≡ [] → ⊥)
    → (ns : List ℕ) → AreSmall ns → line ≡ clause_words ns → ⊥
more_behind line first mid old new rest read t some [] small e =
    let parts = (small_takes line first mid read).parts in
    decimal_some first (small_takes line first mid read).small mid (sym e ∙ parts)
more_behind line first mid old new rest read t some (l ∷ ls) small e =
    let same = some_pair_parts first l mid (flat_map spaced ls) (sym read ∙ ap small_at e ∙ first_is l ls small.0) in
    some (all_taken [] mid t.numbers rest ls t.taken t.ends small.1 same.1).1

pub are_numbers : (line : List ℕ) (first : ℕ) (mid old new rest : List ℕ) → small_at line ≡ Some (first, mid)
    → TakesAll (codes " ") mid old new rest → rest ≡ []
    → old ≡ first ∷ [] → AreNumbers true line new
are_numbers line first mid old new rest read t ended begun =
    let s = small_takes line first mid read in
    let all = text_of_all [] mid old new rest t ended in
    let numbers : first ∷ t.numbers ≡ new = sym (t.grown ∙ ap (λ (v : List ℕ). v ++ t.numbers) begun) in
    subst (AreNumbers true line) numbers ((s.small, all.0), s.parts ∙ ap (λ (v : List ℕ). decimal first ++ v) all.1)

numbers_same : (ns ms : List ℕ) → AreSmall ns → AreSmall ms → clause_words ns ≡ clause_words ms → ns ≡ ms
numbers_same [] [] sn sm e = refl
numbers_same [] (m ∷ ms) sn sm e = absurd (decimal_some m sm.0 (flat_map spaced ms) e)
numbers_same (n ∷ ns) [] sn sm e = absurd (decimal_some n sn.0 (flat_map spaced ns) (sym e))
numbers_same (n ∷ ns) (m ∷ ms) sn sm e =
    let same = some_pair_parts n m (flat_map spaced ns) (flat_map spaced ms) (sym (first_is n ns sn.0) ∙ ap small_at e
    ∙ first_is m ms sm.0) in
    ap (λ (k : ℕ). k ∷ ns) same.0 ∙ ap (λ (v : List ℕ). m ∷ v) (flat_same [] ns ms sn.1 sm.1 same.1)

IsOneLine-clause : (ns : List ℕ) → AreSmall ns → IsOneLine (clause_words ns)
IsOneLine-clause [] small = tt
IsOneLine-clause (n ∷ ns) small =
    IsOneLine-append (decimal n) (flat_map spaced ns) (IsOneLine-small n small.0)
    (IsOneLine-all [] ns (IsOneLine-tested (codes " ") refl) small.1)

pub clause_are_words : (vars : ℕ) → IsWords (IsHeldClause vars) clause_words
clause_are_words vars = record {
  one_line = λ c h. IsOneLine-clause c h.small;
  same = λ c d hc hd e. numbers_same c d hc.small hd.small e;
}

-- ---- the literals of a clause

both_true : (a b : Bool) → (a && b) ≡ true → (a ≡ true) × (b ≡ true)
both_true true b e = (refl, e)
both_true false b e = absurd cc

lit_within : (vars l : ℕ) → (leb 2 l && leb l (2 * vars + 1)) ≡ true → (2 ≤ l) × (l ≤ 2 * vars + 1)
lit_within vars l e = grind (arith, nat_tests)

lit_tested : (vars l : ℕ) → (2 ≤ l) × (l ≤ 2 * vars + 1) → (leb 2 l && leb l (2 * vars + 1)) ≡ true
lit_tested vars l h = grind (arith, nat_tests)

pub lits_within : (vars : ℕ) (ls : List ℕ) → list_all (λ l. leb 2 l && leb l (2 * vars + 1)) ls ≡ true
    → AllByRecursion (λ l. (2 ≤ l) × (l ≤ 2 * vars + 1)) ls
lits_within vars [] e = tt
lits_within vars (l ∷ ls) e =
    let both = both_true (leb 2 l && leb l (2 * vars + 1)) (list_all (λ k. leb 2 k && leb k (2 * vars + 1)) ls) e in
    (lit_within vars l both.0, lits_within vars ls both.1)

pub lits_tested : (vars : ℕ) (ls : List ℕ) → AllByRecursion (λ l. (2 ≤ l) × (l ≤ 2 * vars + 1)) ls
    → list_all (λ l. leb 2 l && leb l (2 * vars + 1)) ls ≡ true
lits_tested vars [] h = refl
lits_tested vars (l ∷ ls) h = rw (lit_tested vars l h.0, lits_tested vars ls h.1) refl

-- the numbers of a line are no clause where a test of them fails
pub no_clause : (vars : ℕ) (line numbers : List ℕ) → AreNumbers true line numbers → (IsReportClause vars numbers → ⊥)
    → (c : List ℕ) → IsHeldClause vars c → line ≡ clause_words c → ⊥
no_clause vars line numbers are wrong c h e =
    let same = numbers_same numbers c are.0 h.small (sym are.1 ∙ e) in
    wrong (subst (IsReportClause vars) (sym same) h.form)

-- ---- a set

set_is : (set : List ℕ) → set_words set ≡ codes "set" ++ flat_map (behind (codes " b")) set
set_is set = refl

below_small : (count : ℕ) (set : List ℕ) → count < 2 ^ 32 → AllByRecursion (λ p. p < count) set → AreSmall set
below_small count [] small h = tt
below_small count (p ∷ set) small h = (omega (arith, small, h.0), below_small count set small h.1)

pub members_below : (count : ℕ) (ps : List ℕ) → list_all (λ p. ltb p count) ps ≡ true → AllByRecursion (λ p. p < count) ps
members_below count [] e = tt
members_below count (p ∷ ps) e =
    let both = both_true (ltb p count) (list_all (λ k. ltb k count) ps) e in
    (below p count both.0, members_below count ps both.1)
  where
    below : (p n : ℕ) → ltb p n ≡ true → p < n
    below p n h = grind (arith, nat_tests)

pub members_tested : (count : ℕ) (ps : List ℕ) → AllByRecursion (λ p. p < count) ps → list_all (λ p. ltb p count) ps ≡ true
members_tested count [] h = refl
members_tested count (p ∷ ps) h = rw (under p count h.0, members_tested count ps h.1) refl
  where
    under : (p n : ℕ) → p < n → ltb p n ≡ true
    under p n h = grind (arith, nat_tests)

set_again : (count : ℕ) (line : List ℕ) (set : List ℕ) → line ≡ set_words set
    → word_at (codes "set") line ≡ Some (flat_map member_words set)
set_again count line set e = ap (word_at (codes "set")) e ∙ word_again (codes "set") (flat_map member_words set)

pub no_set_word : (count : ℕ) (line : List ℕ) → word_at (codes "set") line ≡ None → (set : List ℕ) → IsSet count set
    → line ≡ set_words set → ⊥
no_set_word count line none set h e =
    let found : ◌≡◌ {A = Option (List ℕ)} None (Some (flat_map member_words set)) = sym none ∙ set_again count line set e in
    absurd cc

-- the properties that were taken are those of each set with these words, and nothing follows
pub set_taken : (count : ℕ) (line mid props rest : List ℕ) → count < 2 ^ 32 → word_at (codes "set") line ≡ Some mid
    → TakesAll (codes " b") mid [] props rest
    → (set : List ℕ) → IsSet count set → line ≡ set_words set → (props ≡ set) × (rest ≡ [])
set_taken count line mid props rest small read t set h e =
    let found : Some mid ≡ Some (flat_map member_words set) = sym read ∙ set_again count line set e in
    let same : mid ≡ flat_map (behind (codes " b")) set = cc in
    let all = all_taken (98 ∷ []) mid t.numbers rest set t.taken t.ends (below_small count set small h.within) same in
    (t.grown ∙ all.0, all.1)

pub set_text : (line mid props rest : List ℕ) → word_at (codes "set") line ≡ Some mid → TakesAll (codes " b") mid [] props rest
    → rest ≡ [] → line ≡ set_words props
set_text line mid props rest read t ended =
    let all = text_of_all (98 ∷ []) mid [] props rest t ended in
    word_takes (codes "set") line mid read
    ∙ ap (λ (v : List ℕ). codes "set" ++ v) (all.1 ∙ ap (flat_map member_words) (sym t.grown))

pub set_are_words : (count : ℕ) → count < 2 ^ 32 → IsWords (IsSet count) set_words
set_are_words count small = record {
  one_line = λ set h.
      IsOneLine-append (codes "set") (flat_map member_words set) (IsOneLine-tested (codes "set") refl)
      (IsOneLine-all (98 ∷ []) set (IsOneLine-tested (codes " b") refl) (below_small count set small h.within));
  same = λ s t hs ht e.
      let found : Some (flat_map member_words s) ≡ Some (flat_map member_words t)
      = sym (word_again (codes "set") (flat_map member_words s)) ∙ ap (word_at (codes "set")) e
      ∙ word_again (codes "set") (flat_map member_words t) in
      let same : flat_map (behind (codes " b")) s ≡ flat_map (behind (codes " b")) t = cc in
      flat_same (98 ∷ []) s t (below_small count s small hs.within) (below_small count t small ht.within) same;
}

-- ---- as functions end

pub not_empty : {A : Type 0} (xs : List A) (b : Bool) → b ≡ eqb (length xs) 0 → b ≡ false → xs ≡ [] → ⊥
not_empty xs b is some e =
    let empty : eqb (length xs) 0 ≡ true = eq-eqb (length xs) 0 (ap length e) in
    let wrong : true ≡ false = sym empty ∙ sym is ∙ some in
    absurd cc

pub is_nothing : {A : Type 0} (xs : List A) (b : Bool) → b ≡ eqb (length xs) 0 → b ≡ true → xs ≡ []
is_nothing xs b is empty = nil_from_length xs (eqb-true (length xs) 0 (sym is ∙ empty))

pub numbers_end : (b : Bool) (line : List ℕ) (first : ℕ) (mid old new rest : List ℕ) → b ≡ eqb (length rest) 0
    → small_at line ≡ Some (first, mid)
    → TakesAll (codes " ") mid old new rest → old ≡ first ∷ [] → AreNumbers b line new
numbers_end true line first mid old new rest is read t begun = are_numbers line first mid old new rest read t
    (is_nothing rest true is refl) begun
numbers_end false line first mid old new rest is read t begun = more_behind line first mid old new rest read t
    (not_empty rest false is refl)

pub clause_found : (vars : ℕ) (line numbers clause : List ℕ) → AreNumbers true line numbers → IsReportClause vars numbers
    → clause ≡ numbers
    → IsHeldClause vars clause × (line ≡ clause_words clause)
clause_found vars line numbers clause are form e =
    subst (λ (c : List ℕ). IsHeldClause vars c × (line ≡ clause_words c)) (sym e) (record { form = form; small = are.0 }, are.1)

-- what a test says of literals that ascend
pub clause_tested : (b : Bool) (vars : ℕ) (lits : List ℕ) → IsStrictlyIncreasing lits
    → b ≡ list_all (λ l. leb 2 l && leb l (2 * vars + 1)) lits
    → IsTrue b ↔ IsReportClause vars lits
clause_tested b vars lits up is =
    ((λ e. record { ascends = up; within = lits_within vars lits (sym is ∙ e) }), (λ h. is ∙ lits_tested vars lits h.within))

-- and of properties that ascend
pub set_tested : (b : Bool) (count : ℕ) (props : List ℕ) → IsStrictlyIncreasing props → b ≡ list_all (λ p. ltb p count) props
    → IsTrue b ↔ IsSet count props
set_tested b count props up is = (
  (λ e. record { ascends = up; within = members_below count props (sym is ∙ e) }),
  (λ h. is ∙ members_tested count props h.within),
)

-- what was taken is no set where a test says so, or where something follows
pub no_set : (count : ℕ) (line mid props rest : List ℕ) → count < 2 ^ 32 → word_at (codes "set") line ≡ Some mid
    → TakesAll (codes " b") mid [] props rest
    → (IsSet count props → ⊥) → (set : List ℕ) → IsSet count set → line ≡ set_words set → ⊥
no_set count line mid props rest small read t wrong set h e =
    let same = (set_taken count line mid props rest small read t set h e).0 in
    wrong (subst (IsSet count) (sym same) h)

pub no_set_end : (count : ℕ) (line mid props rest : List ℕ) → count < 2 ^ 32 → word_at (codes "set") line ≡ Some mid
    → TakesAll (codes " b") mid [] props rest
    → (rest ≡ [] → ⊥) → (set : List ℕ) → IsSet count set → line ≡ set_words set → ⊥
no_set_end count line mid props rest small read t more set h e = more (set_taken count line mid props rest small read t set h e).1
