-- What can be decided, and the least number of which it holds.
use Rattle.std.proofs.Common.{ℕ, zero, suc, ◌<◌, Bool, eqb, Option, Some, None, List, ◌⊎◌, inl, inr, ⊎_elim, subst, arith}
use Rattle.std.specs.List.{Contains}
use Rattle.std.specs.Set.{is_member}
use Rattle.std.specs.Bool.{Decides}
use Rattle.std.proofs.lemmas.Bool.{cases_Bool, cases_eq}
use Rattle.std.proofs.lemmas.Bool.Decides.{Decides-eqb, not_from_Decides}
use Rattle.std.proofs.lemmas.Map.Made.{is_member-Decides}
use Rattle.ja_base.specs.Replay.{IsLeast}
use Rattle.aig_model.specs.Least.{IsLeastOf}

-- it stands, or it does not
abbrev pub Decided : Type 0 → Type 0
Decided P = P ⊎ (P → ⊥)

by_test : {P : Type 0} (test : Bool) → Decides test P → Decided P
by_test test decides = ⊎_elim (λ e. inl (decides.0 e)) (λ e. inr (not_from_Decides test decides e)) (cases_Bool test)

pub decided_member : (xs : List ℕ) (v : ℕ) → Decided (Contains xs v)
decided_member xs v = by_test (is_member eqb xs v) (is_member-Decides Decides-eqb xs v)

-- ---- the least number

-- there is a least number with the property, or no number below n has it
abbrev pub HasLeastBelow : (ℕ → Type 0) → ℕ → Type 0
HasLeastBelow P n = ((v : ℕ) × IsLeast P v) ⊎ ((v : ℕ) → v < n → P v → ⊥)

one_more : (P : ℕ → Type 0) (n : ℕ) → Decided (P n) → HasLeastBelow P n → HasLeastBelow P (suc n)
one_more P n (inl here) (inl least) = inl least
one_more P n (inl here) (inr none) = inl (n, (here, none))
one_more P n (inr not) (inl least) = inl least
one_more P n (inr not) (inr none) = inr (λ v lt p.
    ⊎_elim (λ same. not (subst P same p)) (λ other. none v (omega arith) p) (cases_eq v n))

pub least_below : (P : ℕ → Type 0) → ((v : ℕ) → Decided (P v)) → (n : ℕ) → HasLeastBelow P n
least_below P decide zero = inr (λ v lt p. omega arith)
least_below P decide (suc n) = one_more P n (decide n) (least_below P decide n)

-- where only numbers below n can have the property, it is known whether one has it, and which is the least
pub least_or_none : (P : ℕ → Type 0) → ((v : ℕ) → Decided (P v)) → (n : ℕ) → ((v : ℕ) → P v → v < n)
    → (o : Option ℕ) × IsLeastOf P o
least_or_none P decide n below =
    ⊎_elim (λ least. (Some least.0, least.1)) (λ none. (None, λ v p. none v (below v p) p)) (least_below P decide n)

-- the least number, and 0 where there is none below n
abbrev pub least_of : (P : ℕ → Type 0) (n : ℕ) → HasLeastBelow P n → ℕ
least_of P n (inl least) = least.0
least_of P n (inr none) = 0

-- where a number below n has the property, that is the least
pub least_is : (P : ℕ → Type 0) (n k : ℕ) (found : HasLeastBelow P n) → k < n → P k → IsLeast P (least_of P n found)
least_is P n k (inl least) lt p = least.1
least_is P n k (inr none) lt p = absurd (none k lt p)
