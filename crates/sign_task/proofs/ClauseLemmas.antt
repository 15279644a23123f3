-- Clauses that are copied one after the other.
use Rattle.std.proofs.Common.{◌≡◌, ℕ, ◌+◌, Some, List, [], ◌∷◌, ◌++◌, slice_get, take, sym, ap, subst, ◌∙◌, add-one}
use Rattle.std.specs.Prelude.{All}
use Rattle.std.specs.List.Sorted.{IsStrictlyIncreasing}
use Rattle.std.proofs.Math.Seq.{take-suc}
use Rattle.std.proofs.lemmas.Option.{slice_get_within, get_or_from_slice_get}
use Rattle.std.proofs.lemmas.List.Elements.{All-push}

-- the first n clauses, each of which ascends
pub record AreCopied (clauses : List (List ℕ)) (n : ℕ) (copies : List (List ℕ)) : Type 0 where
  pub same : copies ≡ take n clauses
  pub ascend : All IsStrictlyIncreasing copies

pub copied_next : (clauses : List (List ℕ)) (n : ℕ) (clause copy : List ℕ) (now next : List (List ℕ))
    → slice_get clauses n ≡ Some clause → copy ≡ clause → IsStrictlyIncreasing clause → next ≡ now ++ copy ∷ []
    → AreCopied clauses n now → AreCopied clauses (n + 1) next
copied_next clauses n clause copy now next clause_is copy_is up next_is h =
    let taken : take (n + 1) clauses ≡ take n clauses ++ clause ∷ [] = ap (λ (k : ℕ). take k clauses) (add-one n)
    ∙ take-suc clauses n clause (slice_get_within clauses n clause clause_is)
    ∙ ap (λ (c : List ℕ). take n clauses ++ c ∷ []) (get_or_from_slice_get clauses n clause clause clause_is) in
    subst (AreCopied clauses (n + 1)) (sym next_is) (record {
      same = ap (λ (cs : List (List ℕ)). cs ++ copy ∷ []) h.same ∙ ap (λ (c : List ℕ). take n clauses ++ c ∷ []) copy_is
          ∙ sym taken;
      ascend = All-push IsStrictlyIncreasing now copy h.ascend (subst IsStrictlyIncreasing (sym copy_is) up);
    })
