-- The row of a trail that is quiet and full.
use Rattle.std.proofs.Common.{◌≡◌, ◌≢◌, ℕ, ◌*◌, ◌<◌, Bool, true, cond, List, [], ◌∷◌, length, get_or, refl, subst, ap}
use Rattle.std.specs.List.{All, Contains}
use Rattle.std.proofs.lemmas.Option.{slice_get-get_or}
use Rattle.ja_base.specs.Literals.{bit}
use Rattle.ja_base.specs.Clauses.{IsBelow}
use Rattle.ja_base.specs.Trails.{IsTrail, IsFull, open_lits}
use Rattle.refute_check.specs.Lines.{found_of}
use Rattle.refute_check.specs.declared.found.Found.TheVariants.{Forces, Other}
use Rattle.sat_plain.specs.Trails.{IsQuiet, lits_of}
use Rattle.sat_plain.specs.Turns.{IsModel}
use Rattle.sat_plain.proofs.ModelLemmas.{model_of}
use Rattle.sat_watch.specs.Steps.{IsStill}
use Rattle.sat_watch.specs.Steps as watch
use Rattle.sat_cdcl.specs.Files.{Filed, IsNumbered, list_of, places_of}
use Rattle.sat_cdcl.proofs.FileLemmas.{at_number}

found_other : (values : List Bool) (left : List ℕ) → left ≢ [] → ((l : ℕ) → left ≡ l ∷ [] → bit values l ≡ true)
    → found_of values left ≡ Other
found_other values [] some unforced = absurd (some refl)
found_other values (l ∷ []) some unforced = ap (λ b. cond b Other (Forces l)) (unforced l refl)
found_other values (l ∷ m ∷ ms) some unforced = refl

quiet_list : (filed : Filed) → IsNumbered filed.watched.store filed.slots → watch.IsQuiet filed.watched
    → IsQuiet (list_of filed) filed.watched.trail.values
quiet_list filed numbered quiet = λ m d less.
    let clause : List ℕ = get_or (list_of filed) m d in
    let at = at_number filed.watched.store filed.slots m clause numbered (slice_get-get_or (list_of filed) m d less) in
    let still : IsStill filed.watched.trail.values clause = quiet at.0 clause at.1 in
    found_other filed.watched.trail.values (open_lits filed.watched.trail.values clause) still.some still.unforced

pub row_of : (filed : Filed) (row : List Bool) (under : List ℕ)
    → IsTrail filed.watched.trail.vars filed.watched.trail.values (lits_of (places_of filed))
    → IsFull filed.watched.trail.vars filed.watched.trail.values → IsNumbered filed.watched.store filed.slots
    → watch.IsQuiet filed.watched → All (IsBelow filed.watched.trail.vars) (list_of filed)
    → length row ≡ filed.watched.trail.vars
    → ((v : ℕ) → v < filed.watched.trail.vars → bit row v ≡ bit filed.watched.trail.values (2 * v))
    → All (Contains (lits_of (places_of filed))) under → IsModel filed.watched.trail.vars (list_of filed) under row
row_of filed row under is full numbered quiet below width bits all =
    let h = model_of filed.watched.trail.vars filed.watched.trail.values row (lits_of (places_of filed)) (list_of filed) is full
    (quiet_list filed numbered quiet) below width bits in
    record {
      width = h.width;
      clauses_hold = h.clauses_hold;
      lits_hold = λ l has.
          let P : ℕ → Type 0 = Contains (lits_of (places_of filed)) in
          h.lits_hold l (subst P has.2 (all has.0 l has.1));
    }
