-- The aim of a search, and what it finds, seen by the failures that were found before.
use Rattle.std.proofs.Common.{◌≡◌, ℕ, ◌<◌, ◌+◌, ◌&&◌, ⊎_elim, inl, inr, Bool, true, false, List, [], ◌∷◌, ◌++◌, length, refl, sym, ap, ◌∙◌, arith}
use Rattle.std.proofs.lemmas.Bool.{and_parts, both_ways, cases_lt, false_from_ne_true}
use Rattle.std.proofs.lemmas.List.{get_or_append_left, get_or-append-add}
use Rattle.ja_base.specs.Literals.{bit}
use Rattle.aig_model.specs.Task.{VerificationTask}
use Rattle.sat_plain.proofs.TrailLemmas.{bit_within}
use Rattle.local_stim.specs.Found.{FoundFailure}
use Rattle.ic3_general.specs.declared.aim.Aim.{Aim}
use Rattle.ic3_general.specs.Aims.{IsAim, IsPassedOver}
use Rattle.ic3_engine.specs.declared.found.Found.{Found}
use Rattle.ic3_engine.specs.declared.found.Found.TheVariants.{Proved, Fails}
use Rattle.ic3_engine.specs.Found.{IfFails, IsFound, IsFoundOn}

-- ---- the bits that are respected

-- one bit more
pub bits_more : (xs : List Bool) (b : Bool) (f : ℕ → Bool) (n : ℕ) → length xs ≡ n → b ≡ f n
    → ((q : ℕ) → q < n → bit xs q ≡ f q) → (q : ℕ) → q < n + 1 → bit (xs ++ b ∷ []) q ≡ f q
bits_more xs b f n long is before q within =
    ⊎_elim (λ lt. get_or_append_left xs (b ∷ []) false q (omega (arith, lt, long)) ∙ before q lt)
    (λ le.
    let last : q ≡ length xs + 0 = omega (arith, le, within, long) in
    let here : q ≡ n = omega (arith, le, within) in
    ap (λ k. bit (xs ++ b ∷ []) k) last ∙ get_or-append-add xs (b ∷ []) 0 false ∙ is ∙ ap f (sym here))
    (cases_lt q n)

-- what is respected is assumed
pub respected_is_assumed : (row failed expected : List Bool) (n : ℕ) → length row ≡ n
    → ((q : ℕ) → q < n → bit row q ≡ (bit failed q && bit expected q)) → (q : ℕ) → bit row q ≡ true → bit expected q ≡ true
respected_is_assumed row failed expected n long bits q on =
    (and_parts (bit failed q) (bit expected q) (sym (bits q (omega (arith, bit_within row q on, long))) ∙ on)).1

-- an assumed property that is not respected has no bit
pub not_respected_is_new : (row failed expected : List Bool) (n : ℕ) → length expected ≡ n
    → ((q : ℕ) → q < n → bit row q ≡ (bit failed q && bit expected q)) → (q : ℕ) → bit expected q ≡ true → bit row q ≡ false
    → bit failed q ≡ false
not_respected_is_new row failed expected n long bits q assumed off =
    false_from_ne_true (bit failed q) (λ (on : bit failed q ≡ true).
    let both : (bit failed q && bit expected q) ≡ true = rw (on, assumed) refl in
    both_ways (bit row q) off (bits q (omega (arith, bit_within expected q assumed, long)) ∙ both))

-- ---- what is found

-- what the aim does not respect is new
pub found_is_seen : (t : VerificationTask) (a : Aim) (p : ℕ) (failed : List Bool) (found : Found) → a.prop ≡ p
    → ((q : ℕ) → bit t.expected q ≡ true → bit a.respect q ≡ false → bit failed q ≡ false)
    → IsFoundOn t a found → IsFound t p failed found
found_is_seen t a p failed (Proved proved) same passed h = record { task = h.task; prop = h.prop ∙ same }
found_is_seen t a p failed (Fails f) same passed h = record {
  task = h.task;
  prop = ⊎_elim (λ e. inl (e ∙ same))
      (λ (o : IsPassedOver t a f.prop). inr (record { assumed = o.assumed; unseen = passed f.prop o.assumed o.free })) h.prop;
}

-- it is a property of the design
pub failure_is_within : (t : VerificationTask) (a : Aim) (failed : List Bool) (found : Found) → IsAim t a
    → length t.expected ≡ length t.design.bads → length failed ≡ length t.design.bads → IsFoundOn t a found
    → IfFails found (λ (f : FoundFailure). f.prop < length failed)
failure_is_within t a failed (Proved proved) aim expected wide h = tt
failure_is_within t a failed (Fails f) aim expected wide h =
    ⊎_elim (λ (e : f.prop ≡ a.prop). omega (arith, e, aim.within, wide))
    (λ (o : IsPassedOver t a f.prop). let within = bit_within t.expected f.prop o.assumed in omega (arith, within, expected, wide))
    h.prop
