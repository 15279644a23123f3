-- The least number with a property, when the property says the same otherwise, or holds of one more number.
use Rattle.std.proofs.Common.{◌≡◌, ℕ, Bool, true, false, cond, ltb, Option, Some, None, ◌⊎◌, ⊎_elim, refl, arith}
use Rattle.std.proofs.lemmas.Bool.{ltb-true, ltb-false}
use Rattle.ja_base.specs.Replay.{IsLeast}
use Rattle.aig_model.specs.Least.{IsLeastOf}
use Rattle.aig_model.specs.Definitions.{least_with}

pub least_same : (P Q : ℕ → Type 0) → ((v : ℕ) → P v → Q v) → ((v : ℕ) → Q v → P v) → (o : Option ℕ) → IsLeastOf P o
    → IsLeastOf Q o
least_same P Q there back None least = λ v q. least v (back v q)
least_same P Q there back (Some v) least = (there v least.0, λ j lt q. least.1 j lt (back j q))

lesser_cases : (P Q : ℕ → Type 0) (w u : ℕ) → ((v : ℕ) → P v → Q v) → Q u → ((v : ℕ) → Q v → P v ⊎ (v ≡ u)) → IsLeast P w
    → (b : Bool) → ltb w u ≡ b
    → IsLeast Q (cond b w u)
lesser_cases P Q w u there new back least true e =
    let lt = ltb-true w u e in
    (there w least.0, λ j before q. ⊎_elim (λ p. least.1 j before p) (λ same. absurd (omega arith)) (back j q))
lesser_cases P Q w u there new back least false e =
    let le = ltb-false w u e in
    (new, λ j before q. ⊎_elim (λ p. least.1 j (omega arith) p) (λ same. absurd (omega arith)) (back j q))

pub least_more : (P Q : ℕ → Type 0) (u : ℕ) → ((v : ℕ) → P v → Q v) → Q u → ((v : ℕ) → Q v → P v ⊎ (v ≡ u)) → (o : Option ℕ)
    → IsLeastOf P o
    → IsLeastOf Q (Some (least_with o u))
least_more P Q u there new back None least =
    (new, λ j before q. ⊎_elim (λ p. least j p) (λ same. absurd (omega arith)) (back j q))
least_more P Q u there new back (Some w) least = lesser_cases P Q w u there new back least (ltb w u) refl
