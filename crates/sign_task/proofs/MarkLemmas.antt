-- Marks in a list where each property has one.
use Rattle.std.proofs.Common.{◌≡◌, ℕ, zero, suc, Bool, true, false, Some, None, List, [], ◌∷◌, map, slice_get, option_map, refl, ap, ◌∙◌}
use Rattle.std.proofs.lemmas.Bool.{false≢true}
use Rattle.std.proofs.lemmas.Option.{slice_get-map, get_or_from_slice_get}
use Rattle.ja_base.specs.Literals.{bit}
use Rattle.store_core.specs.declared.mark.Mark.{Mark}
use Rattle.store_core.specs.declared.mark.Mark.TheVariants.{Proved, Fails, Budget, Cancelled}
use Rattle.store_core.specs.MarkKinds.{is_proved, fails}
use Rattle.store_core.specs.Steps.{mark_of}

-- a mark of the list is the one of the board
pub mark_is : (ms : List Mark) (p : ℕ) (m : Mark) → slice_get ms p ≡ Some m → mark_of (map Some ms) p ≡ Some m
mark_is ms p m h = get_or_from_slice_get (map Some ms) p (Some m) None (slice_get-map Some ms p ∙ ap (option_map Some) h)

-- and the other way round
pub mark_stands : (ms : List Mark) (p : ℕ) (m : Mark) → mark_of (map Some ms) p ≡ Some m → slice_get ms p ≡ Some m
mark_stands [] p m h = absurd cc
mark_stands (x ∷ ms) zero m h = h
mark_stands (x ∷ ms) (suc p) m h = mark_stands ms p m h

-- the mark behind a bit that is 1
record HasBit (f : Mark → Bool) (ms : List Mark) (p : ℕ) : Type 0 where
  mark : Mark
  stands : slice_get ms p ≡ Some mark
  is : f mark ≡ true

has_bit : (f : Mark → Bool) (ms : List Mark) (p : ℕ) → bit (map f ms) p ≡ true → HasBit f ms p
has_bit f [] p h = absurd (false≢true h)
has_bit f (x ∷ ms) zero h = record { mark = x; stands = refl; is = h }
has_bit f (x ∷ ms) (suc p) h =
    let later = has_bit f ms p h in record { mark = later.mark; stands = later.stands; is = later.is }

pub bit_is : (f : Mark → Bool) (ms : List Mark) (p : ℕ) (m : Mark) → slice_get ms p ≡ Some m → bit (map f ms) p ≡ f m
bit_is f ms p m h = get_or_from_slice_get (map f ms) p (f m) false (slice_get-map f ms p ∙ ap (option_map f) h)

pub proved_mark : (ms : List Mark) (p : ℕ) → bit (map is_proved ms) p ≡ true → slice_get ms p ≡ Some Proved
proved_mark ms p h = let b = has_bit is_proved ms p h in by_mark b.mark b.stands b.is
  where
    by_mark : (m : Mark) → slice_get ms p ≡ Some m → is_proved m ≡ true → slice_get ms p ≡ Some Proved
    by_mark Proved stands is = stands
    by_mark Fails stands is = absurd (false≢true is)
    by_mark (Budget n) stands is = absurd (false≢true is)
    by_mark Cancelled stands is = absurd (false≢true is)

pub failing_mark : (ms : List Mark) (p : ℕ) → bit (map fails ms) p ≡ true → slice_get ms p ≡ Some Fails
failing_mark ms p h = let b = has_bit fails ms p h in by_mark b.mark b.stands b.is
  where
    by_mark : (m : Mark) → slice_get ms p ≡ Some m → fails m ≡ true → slice_get ms p ≡ Some Fails
    by_mark Proved stands is = absurd (false≢true is)
    by_mark Fails stands is = stands
    by_mark (Budget n) stands is = absurd (false≢true is)
    by_mark Cancelled stands is = absurd (false≢true is)
