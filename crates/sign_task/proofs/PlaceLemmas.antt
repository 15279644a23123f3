-- Places of failures, and the stimuli that are taken from there.
use Rattle.std.proofs.Common.{◌≡◌, ℕ, suc, ◌+◌, ◌<◌, ◌≤◌, eqb, eqb-true, ⊎_elim, Bool, true, false, cond, Option, Some, None, List, [], ◌∷◌, ◌++◌, length, length-take, map, slice_get, get_or, take, refl, sym, ap, subst, ◌∙◌, arith, add-one}
use Rattle.std.specs.Prelude.{All, Contains, is_some, if◌then◌else◌}
use Rattle.std.specs.List.{filter}
use Rattle.std.proofs.Math.Seq.{take-suc}
use Rattle.std.proofs.lemmas.Bool.{cases_lt, false≢true}
use Rattle.std.proofs.lemmas.List.{append-nil, map-append, length-map, get_or-map, get_or_past, get_or_default}
use Rattle.std.proofs.lemmas.Option.{slice_get_within, slice_get-get_or, get_or_from_slice_get}
use Rattle.std.proofs.lemmas.List.Elements.{All-push, All-contains}
use Rattle.ja_base.specs.Literals.{bit}
use Rattle.ja_base.specs.Runs.{Trace}
use Rattle.ja_base.specs.Failures.{Failure, stimuli_of}
use Rattle.store_core.specs.declared.mark.Mark.{Mark}
use Rattle.store_core.specs.declared.mark.Mark.TheVariants.{Proved, Fails, Budget, Cancelled}
use Rattle.store_core.specs.MarkKinds.{fails}
use Rattle.store_core.specs.Steps.{mark_of}
use Rattle.local_stim.specs.Found.{FoundFailure}
use Rattle.report.specs.declared.parts.PropStim.{PropStim}
use Rattle.report.specs.Findings.{failing_from}
use Rattle.sign_task.specs.Assembly.{IsOneOf, plain_failures}
use Rattle.sign_task.specs.Places.{IsAt, HasFailure, ArePlaces, AllHaveFailure}
use Rattle.sign_task.proofs.MarkLemmas.{bit_is, failing_mark}
use Rattle.sign_task.proofs.StimulusLemmas.{props_of}

-- each property that has one of the first n failures has the place of one
pub record ArePlacesBelow (failures : List FoundFailure) (props n : ℕ) (places : List ℕ) : Type 0 where
  pub width : length places ≡ props
  pub are : (k : ℕ) (f : FoundFailure) → k < n → slice_get failures k ≡ Some f → IsAt failures (get_or places f.prop 0) f.prop

-- the stimuli of the first n properties
pub record AreTaken (failures : List FoundFailure) (marks : List Mark) (n : ℕ) (xs : List PropStim) : Type 0 where
  pub one_each : props_of xs ≡ failing_from 0 (take n marks)
  pub among : All (IsOneOf (plain_failures failures)) xs

failing_from-push : (p : ℕ) (ms : List Mark) (m : Mark)
    → failing_from p (ms ++ m ∷ []) ≡ failing_from p ms ++ (if fails m then (p + length ms) ∷ [] else [])
failing_from-push p [] m =
    let here : p ≡ p + 0 = omega arith in ap (λ (q : ℕ). if fails m then q ∷ [] else []) here
failing_from-push p (Proved ∷ ms) m =
    let e : p + 1 + length ms ≡ p + length (Proved ∷ ms) = omega arith in
    failing_from-push (p + 1) ms m ∙ ap (λ (q : ℕ). failing_from (p + 1) ms ++ (if fails m then q ∷ [] else [])) e
failing_from-push p (Budget b ∷ ms) m =
    let e : p + 1 + length ms ≡ p + length (Budget b ∷ ms) = omega arith in
    failing_from-push (p + 1) ms m ∙ ap (λ (q : ℕ). failing_from (p + 1) ms ++ (if fails m then q ∷ [] else [])) e
failing_from-push p (Cancelled ∷ ms) m =
    let e : p + 1 + length ms ≡ p + length (Cancelled ∷ ms) = omega arith in
    failing_from-push (p + 1) ms m ∙ ap (λ (q : ℕ). failing_from (p + 1) ms ++ (if fails m then q ∷ [] else [])) e
failing_from-push p (Fails ∷ ms) m =
    let e : p + 1 + length ms ≡ p + length (Fails ∷ ms) = omega arith in
    ap (λ (ps : List ℕ). p ∷ ps) (failing_from-push (p + 1) ms m
    ∙ ap (λ (q : ℕ). failing_from (p + 1) ms ++ (if fails m then q ∷ [] else [])) e)

-- the properties that fail among one more
failing_more : (ms : List Mark) (n : ℕ) (b : Bool) → n < length ms → bit (map fails ms) n ≡ b
    → failing_from 0 (take (n + 1) ms) ≡ failing_from 0 (take n ms) ++ (if b then n ∷ [] else [])
failing_more ms n b lt is =
    let m = get_or ms n Proved in
    let taken : take (n + 1) ms ≡ take n ms ++ m ∷ [] = ap (λ (k : ℕ). take k ms) (add-one n) ∙ take-suc ms n Proved lt in
    let same : fails m ≡ b = sym (bit_is fails ms n m (slice_get-get_or ms n Proved lt)) ∙ is in
    let place : 0 + length (take n ms) ≡ n = omega (arith, length-take n ms, lt) in
    ap (failing_from 0) taken ∙ failing_from-push 0 (take n ms) m
    ∙ ap (λ (c : Bool). failing_from 0 (take n ms) ++ (if c then (0 + length (take n ms)) ∷ [] else [])) same
    ∙ ap (λ (q : ℕ). failing_from 0 (take n ms) ++ (if b then q ∷ [] else [])) place

plain_in : (failures : List FoundFailure) (k : ℕ) (f : FoundFailure) → slice_get failures k ≡ Some f
    → Contains (plain_failures failures) (record { property = f.prop; stimulus = f.stim })
plain_in failures k f h =
    let plain : FoundFailure → Failure = λ g. record { property = g.prop; stimulus = g.stim } in
    let lt = slice_get_within failures k f h in (
      k,
      omega (arith, lt, length-map failures plain),
      get_or-map plain failures k f (plain f) lt ∙ ap plain (get_or_from_slice_get failures k f f h),
    )

-- the place of a property that fails is one of a failure of it
pub place_of : (failures : List FoundFailure) (ms : List Mark) (places : List ℕ) (n place : ℕ) → n < length ms
    → bit (map fails ms) n ≡ true → ArePlaces failures (length ms) places → AllHaveFailure failures ms
    → place ≡ get_or places n place → IsAt failures place n
place_of failures ms places n place lt fail are each place_is =
    let same : get_or places n 0 ≡ place = get_or_default places n 0 place (omega (arith, lt, are.width)) ∙ sym place_is in
    subst (λ (k : ℕ). IsAt failures k n) same (are.are n (each n (failing_mark ms n fail)))

-- the stimulus of the next property, which fails
pub taken_next : (failures : List FoundFailure) (ms : List Mark) (n place : ℕ) (f : FoundFailure) (x : PropStim)
    (now next : List PropStim) → n < length ms → bit (map fails ms) n ≡ true → IsAt failures place n
    → f ≡ get_or failures place f → x ≡ record { prop = f.prop; stim = f.stim } → next ≡ now ++ x ∷ []
    → AreTaken failures ms n now → AreTaken failures ms (n + 1) next
taken_next failures ms n place f x now next lt fail at f_is x_is next_is h =
    let same : at.failure ≡ f = sym (get_or_from_slice_get failures place at.failure f at.stands) ∙ sym f_is in
    let stands : slice_get failures place ≡ Some f = at.stands ∙ ap Some same in
    let prop_is : x.prop ≡ n = ap (λ (y : PropStim). y.prop) x_is ∙ sym (ap (λ (g : FoundFailure). g.prop) same) ∙ at.prop in
    subst (AreTaken failures ms (n + 1)) (sym next_is) (record {
      one_each = map-append (λ (y : PropStim). y.prop) now (x ∷ []) ∙ ap (λ (ps : List ℕ). ps ++ x.prop ∷ []) h.one_each
          ∙ ap (λ (q : ℕ). failing_from 0 (take n ms) ++ q ∷ []) prop_is ∙ sym (failing_more ms n true lt fail);
      among = All-push (IsOneOf (plain_failures failures)) now x h.among
          (subst (IsOneOf (plain_failures failures)) (sym x_is) (plain_in failures place f stands));
    })

pub taken_same : (failures : List FoundFailure) (ms : List Mark) (n : ℕ) (now : List PropStim) → n < length ms
    → bit (map fails ms) n ≡ false → AreTaken failures ms n now → AreTaken failures ms (n + 1) now
taken_same failures ms n now lt holds h = record {
  one_each = h.one_each ∙ sym (append-nil (failing_from 0 (take n ms))) ∙ sym (failing_more ms n false lt holds);
  among = h.among;
}

-- a property with a stimulus has a failure
pub failure_of : (p : ℕ) (failures : List FoundFailure) (m : Trace) (ms : List Trace)
    → stimuli_of p (plain_failures failures) ≡ m ∷ ms → HasFailure failures p
failure_of p [] m ms e = absurd (let same : 0 ≡ length (m ∷ ms) = ap length e in omega (arith, same))
failure_of p (f ∷ fs) m ms e = by_test (eqb f.prop p) refl e (failure_of p fs m ms)
  where
    by_test : (b : Bool) → b ≡ eqb f.prop p
        → map (λ (g : Failure). g.stimulus) (cond b
        (record { property = f.prop; stimulus = f.stim } ∷ filter (λ (g : Failure). eqb g.property p) (plain_failures fs))
        (filter (λ (g : Failure). eqb g.property p) (plain_failures fs))) ≡ m ∷ ms
        → (stimuli_of p (plain_failures fs) ≡ m ∷ ms → HasFailure fs p) → HasFailure (f ∷ fs) p
    by_test true is e later = record {
      place = 0;
      is_at = record { failure = f; stands = refl; prop = eqb-true f.prop p (sym is) };
    }
    by_test false is e later = let h = later e in record {
      place = suc h.place;
      is_at = record { failure = h.is_at.failure; stands = h.is_at.stands; prop = h.is_at.prop };
    }

-- failures of properties with a mark
pub all_within : (failures : List FoundFailure) (slots : List (Option Mark)) (ms : List Mark) → map Some ms ≡ slots
    → All (λ (f : Failure). mark_of slots f.property ≡ Some Fails) (plain_failures failures)
    → All (λ (f : FoundFailure). f.prop < length ms) failures
all_within failures slots ms is h k d lt = ⊎_elim (λ inside. inside) (λ past. absurd (none past))
    (cases_lt (get_or failures k d).prop (length ms))
  where
    none : length ms ≤ (get_or failures k d).prop → ⊥
    none past =
        let f : FoundFailure = get_or failures k d in
        let fail : mark_of slots f.prop ≡ Some Fails = All-contains (λ (x : Failure). mark_of slots x.property ≡ Some Fails)
        (plain_failures failures) (record { property = f.prop; stimulus = f.stim }) h
        (plain_in failures k f (slice_get-get_or failures k d lt)) in
        let long : length slots ≡ length ms = ap length (sym is) ∙ length-map ms Some in
        let e : None ≡ Some Fails = sym (get_or_past slots f.prop None (omega (arith, past, long))) ∙ fail in
        false≢true (ap is_some e)
