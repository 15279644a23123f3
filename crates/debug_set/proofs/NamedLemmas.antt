-- What is broken first is in the debugging set, or unknown.
use Rattle.std.proofs.Common.{◌≡◌, ℕ, ◌+◌, ◌<◌, ◌⊎◌, inl, inr, ⊎_elim, Bool, true, false, Some, List, length, map, slice_get, option_map, sym, ap, ◌∙◌, refl, arith, get_or}
use Rattle.std.specs.Prelude.{Contains}
use Rattle.std.proofs.lemmas.Bool.{cases_lt, false≢true}
use Rattle.std.proofs.lemmas.List.{get_or_past}
use Rattle.std.proofs.lemmas.Option.{slice_get-map, get_or_from_slice_get, slice_get-get_or}
use Rattle.ja_base.specs.Literals.{bit}
use Rattle.ja_base.specs.Circuit.{Problem}
use Rattle.ja_base.specs.Runs.{Trace, IsFirstBroken}
use Rattle.ja_base.specs.Laws.{cut}
use Rattle.store_core.specs.declared.mark.Mark.{Mark}
use Rattle.store_core.specs.declared.mark.Mark.TheVariants.{Proved, Fails, Budget, Cancelled}
use Rattle.store_core.specs.MarkKinds.{fails}
use Rattle.debug_set.specs.Verdicts.{IsDebuggingSet, IsUnknown}
use Rattle.debug_set.specs.FirstBreaks.{ProvedNeverFail}
use Rattle.debug_set.proofs.PrefixLemmas.{first_broken_fails_locally}

-- the bit of a property's mark
bit_of_mark : (f : Mark → Bool) (marks : List Mark) (p : ℕ) (m : Mark) → slice_get marks p ≡ Some m
    → bit (map f marks) p ≡ f m
bit_of_mark f marks p m e =
    get_or_from_slice_get (map f marks) p (f m) false (slice_get-map f marks p ∙ ap (option_map f) e)

within : (assumed : List Bool) (p : ℕ) → bit assumed p ≡ true → p < length assumed
within assumed p held = ⊎_elim (λ lt. lt) (λ past. absurd (false≢true (sym (get_or_past assumed p false past) ∙ held)))
    (cases_lt p (length assumed))

pub first_broken_is_named : (t : Problem) (marks : List Mark) (set : List ℕ) → length marks ≡ length t.assumed
    → ProvedNeverFail t marks → IsDebuggingSet t.assumed marks set → (m : Trace) (p : ℕ) → IsFirstBroken t m p
    → Contains set p ⊎ IsUnknown marks p
first_broken_is_named t marks set long proved is_set m p b = by_mark (get_or marks p Proved)
    (slice_get-get_or marks p Proved (omega (arith, long, within t.assumed p b.assumed)))
  where
    by_mark : (mark : Mark) → slice_get marks p ≡ Some mark → Contains set p ⊎ IsUnknown marks p
    by_mark Proved e = absurd (proved p e (cut m (length b.before + 1), first_broken_fails_locally t m p b))
    by_mark Fails e = inl ((is_set.members p).1 (b.assumed, bit_of_mark fails marks p Fails e))
    by_mark (Budget n) e = inr (record { mark = Budget n; stands = e; unknown = refl })
    by_mark Cancelled e = inr (record { mark = Cancelled; stands = e; unknown = refl })
