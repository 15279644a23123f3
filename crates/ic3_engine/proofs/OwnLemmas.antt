-- Properties of which no failure was found yet.
use Rattle.std.proofs.Common.{◌≡◌, ℕ, zero, suc, ◌<◌, ◌↔◌, ⊎_elim, Bool, true, false, List, [], ◌∷◌, length, sym, subst, arith}
use Rattle.std.specs.Prelude.{slice_set}
use Rattle.ja_base.specs.Literals.{bit}
use Rattle.aig_model.specs.Task.{VerificationTask}
use Rattle.sat_plain.proofs.TrailLemmas.{bit_within}
use Rattle.local_stim.specs.Found.{FoundFailure}
use Rattle.ic3_engine.specs.declared.found.Found.{Found}
use Rattle.ic3_engine.specs.declared.found.Found.TheVariants.{Proved, Fails}
use Rattle.ic3_engine.specs.Found.{IfFails, IsFound, IsUnseen, noted}
use Rattle.ic3_engine.proofs.ViewLemmas.{both}

-- how many bits are not set
abbrev pub unset : List Bool → ℕ
unset [] = zero
unset (true ∷ bs) = unset bs
unset (false ∷ bs) = suc (unset bs)

-- a bit more is set
pub unset_falls : (bs : List Bool) (at : ℕ) → at < length bs → bit bs at ≡ false → unset (slice_set bs at true) < unset bs
unset_falls [] at within free = absurd (omega (arith, within))
unset_falls (true ∷ bs) zero within free = absurd cc
unset_falls (false ∷ bs) zero within free = omega arith
unset_falls (true ∷ bs) (suc at) within free = unset_falls bs at (omega (arith, within)) free
unset_falls (false ∷ bs) (suc at) within free = let h = unset_falls bs at (omega (arith, within)) free in omega (arith, h)

-- where what was found is not of the property, a bit more is set
pub not_own_falls : (t : VerificationTask) (p : ℕ) (failed now : List Bool) (found : Found) (own : Bool) → IsFound t p failed found
    → now ≡ noted failed found → own ≡ false → (own ≡ true) ↔ IfFails found (λ (f : FoundFailure). f.prop ≡ p)
    → length failed ≡ length t.design.bads → length t.expected ≡ length t.design.bads → unset now < unset failed
not_own_falls t p failed now (Proved proved) own h is off on wide expected = absurd (both own (on.1 tt) off)
not_own_falls t p failed now (Fails f) own h is off on wide expected =
    ⊎_elim (λ (e : f.prop ≡ p). absurd (both own (on.1 e) off))
    (λ (u : IsUnseen t failed f.prop).
    subst (λ (bs : List Bool). unset bs < unset failed) (sym is)
    (unset_falls failed f.prop (omega (arith, bit_within t.expected f.prop u.assumed, wide, expected)) u.unseen))
    h.prop
