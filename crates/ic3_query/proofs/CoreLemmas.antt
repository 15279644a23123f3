-- What a core says of the parts of a clause.
use Rattle.std.proofs.Common.{◌≡◌, ℕ, true, List, [], ◌∷◌, ◌++◌, get_or, map, refl}
use Rattle.std.specs.Prelude.{All, Contains}
use Rattle.std.proofs.lemmas.List.Elements.{All-nil, All-cons, All-head, All-tail, All-append, All-map, All-contains, All-contains_itself, Contains-get_or}
use Rattle.ja_base.specs.Clauses.{is_part}
use Rattle.ja_base.specs.Literals.{negated}
use Rattle.ja_base.proofs.ClauseLemmas.{is_part_decides}
use Rattle.aig_model.specs.Netlist.{Netlist}
use Rattle.ja_project.specs.CodedClauses.{next_literal, negated_next}
use Rattle.ic3_query.specs.Questions.{IsPartFor}

-- the clause is such a part of itself
pub whole_part : (n : Netlist) (core clause : List ℕ) → IsPartFor n core clause clause
whole_part n core clause = record {
  within = (is_part_decides clause clause).1 (All-contains_itself clause);
  needed = λ l there _. there;
}

pub All-unmap : {X : Type 0} (P : X → Type 0) (f : ℕ → X) (ls : List ℕ) → All P (map f ls) → All (λ l. P (f l)) ls
All-unmap P f [] h = All-nil (λ l. P (f l))
All-unmap P f (l ∷ ls) h =
    All-cons (λ m. P (f m)) l ls (All-head P (f l) (map f ls) h) (All-unmap P f ls (All-tail P (f l) (map f ls) h))

-- What holds of the other literals of a question, and of the part's negations one step later, holds of the core.
pub core_holds : (P : ℕ → Type 0) (n : Netlist) (others core clause part : List ℕ)
    → is_part core (others ++ negated_next n clause) ≡ true → IsPartFor n core clause part → All P others
    → ((l : ℕ) → Contains part l → P (negated (next_literal n.latches l))) → All P core
core_holds P n others core clause part within is low later = λ k d h.
    let x : ℕ = get_or core k d in
    let there : Contains core x = Contains-get_or core k d h in
    let under : Contains (others ++ negated_next n clause) x =
    All-contains (Contains (others ++ negated_next n clause)) core x
    ((is_part_decides core (others ++ negated_next n clause)).0 within) there in
    All-contains Q (others ++ negated_next n clause) x
    (All-append Q others (negated_next n clause) (λ i e short _. low i e short)
    (All-map Q (λ l. negated (next_literal n.latches l)) clause (λ i e short in_core.
    later (get_or clause i e) (is.needed (get_or clause i e) (Contains-get_or clause i e short) in_core)))) under there
  where
    Q : ℕ → Type 0
    Q x = Contains core x → P x
