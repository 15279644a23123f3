-- What is covered by clauses that follow is refuted.
use Rattle.std.proofs.Common.{◌≡◌, ℕ, ◌&&◌, ◌||◌, Bool, true, false, not, List, [], ◌∷◌, ◌++◌, map, append_assoc, append-nil, refl, sym, subst, ◌∙◌, ap}
use Rattle.std.specs.List.{list_any, All}
use Rattle.std.proofs.lemmas.List.Elements.{All-head, All-tail, All-contains, All-push}
use Rattle.ja_base.specs.Literals.{negated, value, SatisfiedBy, AllSatisfiedBy}
use Rattle.ja_base.specs.Clauses.{has_literal}
use Rattle.ja_base.proofs.ClauseLemmas.{has_literal_decides}
use Rattle.ja_base.proofs.LiteralLemmas.{value_negated}
use Rattle.refute_check.specs.declared.lines.Line.{Line}
use Rattle.refute_check.specs.Checked.{Follows}
use Rattle.refute_check.specs.Laws.{AreAccepted, with_lines, CoveredIsRefuted}
use Rattle.refute_check.specs.Refuted.{IsRefuted, has_both_signs, is_false_under, is_covered}
use Rattle.refute_check.proofs.Sound.{accepted_follows}

-- each of these literals is 1 under v
abbrev AreOne : List Bool → List ℕ → Type 0
AreOne v lits = All (λ l. value v l ≡ true) lits

-- the negation of l is one of them
negation_one : (v : List Bool) (under : List ℕ) (l : ℕ) → AreOne v under → has_literal under (negated l) ≡ true
    → not (value v l) ≡ true
negation_one v under l ones e =
    sym (value_negated v l)
    ∙ All-contains (λ m. value v m ≡ true) under (negated l) ones ((has_literal_decides under (negated l)).0 e)

clause_fails : (v : List Bool) (under clause : List ℕ) → AreOne v under → is_false_under under clause ≡ true
    → list_any (value v) clause ≡ false
clause_fails v under [] ones e = refl
clause_fails v under (l ∷ ls) ones e =
    go (has_literal under (negated l)) (negation_one v under l ones) (clause_fails v under ls ones) e
  where
    go : (b : Bool) → (b ≡ true → not (value v l) ≡ true)
        → (is_false_under under ls ≡ true → list_any (value v) ls ≡ false)
        → (b && is_false_under under ls) ≡ true → (value v l || list_any (value v) ls) ≡ false
    go false first later e = cc
    go true first later e = pick (value v l) (first refl) (later e)
      where
        pick : (b : Bool) → not b ≡ true → list_any (value v) ls ≡ false → (b || list_any (value v) ls) ≡ false
        pick true wrong later = cc
        pick false wrong later = later

no_false_clause : (v : List Bool) (under : List ℕ) (clauses : List (List ℕ)) → AreOne v under
    → AllSatisfiedBy (value v) clauses → list_any (is_false_under under) clauses ≡ true → ⊥
no_false_clause v under [] ones all e = cc
no_false_clause v under (c ∷ cs) ones all e =
    go (is_false_under under c) (clause_fails v under c ones)
    (no_false_clause v under cs ones (All-tail (SatisfiedBy (value v)) c cs all)) e
  where
    go : (b : Bool) → (b ≡ true → list_any (value v) c ≡ false) → (list_any (is_false_under under) cs ≡ true → ⊥)
        → (b || list_any (is_false_under under) cs) ≡ true → ⊥
    go true fails later e =
        let here : list_any (value v) c ≡ true = All-head (SatisfiedBy (value v)) c cs all in
        let gone : list_any (value v) c ≡ false = fails refl in
        cc
    go false fails later e = later e

no_both_signs : (v : List Bool) (under lits : List ℕ) → AreOne v under → AreOne v lits
    → list_any (λ l. has_literal under (negated l)) lits ≡ true → ⊥
no_both_signs v under [] ones these e = cc
no_both_signs v under (l ∷ ls) ones these e =
    go (has_literal under (negated l)) (negation_one v under l ones)
    (no_both_signs v under ls ones (All-tail (λ m. value v m ≡ true) l ls these)) e
  where
    go : (b : Bool) → (b ≡ true → not (value v l) ≡ true)
        → (list_any (λ m. has_literal under (negated m)) ls ≡ true → ⊥)
        → (b || list_any (λ m. has_literal under (negated m)) ls) ≡ true → ⊥
    go true first later e =
        let one : value v l ≡ true = All-head (λ m. value v m ≡ true) l ls these in
        let wrong : not true ≡ true = ap not (sym one) ∙ first refl in
        cc
    go false first later e = later e

-- where the list follows from what was added
pub covered_is_refuted : (vars : ℕ) (added clauses : List (List ℕ)) (under : List ℕ) → Follows added clauses
    → is_covered clauses under ≡ true → IsRefuted vars added under
covered_is_refuted vars added clauses under follows e v meets =
    go (list_any (is_false_under under) clauses)
    (no_false_clause v under clauses meets.under_holds (follows v meets.clauses_hold)) e
  where
    go : (b : Bool) → (b ≡ true → ⊥) → (b || has_both_signs under) ≡ true → ⊥
    go true wrong e = wrong refl
    go false wrong e = no_both_signs v under under meets.under_holds meets.under_holds e

lines_follow : (vars : ℕ) (clauses : List (List ℕ)) (lines : List Line) → AreAccepted vars clauses lines
    → Follows clauses (with_lines clauses lines)
lines_follow vars clauses [] h v all =
    let P : List (List ℕ) → Type 0 = AllSatisfiedBy (value v) in subst P (sym (append-nil clauses)) all
lines_follow vars clauses (line ∷ lines) h v all =
    let c : List ℕ = line.clause in
    let P : List (List ℕ) → Type 0 = AllSatisfiedBy (value v) in
    let here : AllSatisfiedBy (value v) (clauses ++ c ∷ []) =
    All-push (SatisfiedBy (value v)) clauses c all (accepted_follows vars clauses c line.hints h.0 v all) in
    subst P (append_assoc clauses (c ∷ []) (map (λ k. k.clause) lines))
    (lines_follow vars (clauses ++ c ∷ []) lines h.1 v here)

pub covered_by_lines : CoveredIsRefuted
covered_by_lines vars clauses lines under h e =
    covered_is_refuted vars clauses (with_lines clauses lines) under (lines_follow vars clauses lines h) e
