-- What is left at the end of a query, and its answer.
use Rattle.std.proofs.Common.{◌≡◌, ℕ, ◌≤◌, List, length, get_or, take, Some, slice_get, sym, subst, ◌∙◌, ap, arith}
use Rattle.std.specs.List.{Contains}
use Rattle.std.proofs.Math.Seq.{take-length}
use Rattle.std.proofs.lemmas.List.{length-take, take_at}
use Rattle.std.proofs.lemmas.List.Elements.{Contains-get_or}
use Rattle.std.proofs.lemmas.Option.{get_or_from_slice_get, slice_get_within}
use Rattle.ja_base.proofs.ClauseLemmas.{is_part_decides}
use Rattle.sat_plain.specs.declared.answer.SatAnswer.{SatAnswer}
use Rattle.sat_plain.specs.declared.answer.SatAnswer.TheVariants.{Sat, Unsat, Spent, Stopped, Memory}
use Rattle.sat_plain.specs.declared.place.Place.{Place}
use Rattle.sat_plain.specs.Answer.{IsAnswer}
use Rattle.sat_plain.specs.Outcomes.{IsFound}
use Rattle.sat_watch.specs.Stores.{IsHeld}
use Rattle.sat_cdcl.specs.Files.{Filed, IsKept, IsNumbered, AreForcedAll, places_of}

-- the places before the query are the lowest ones behind it
pub root_kept : (a b : Filed) → AreForcedAll (places_of a) → IsKept a b
    → take (length (places_of a)) (places_of b) ≡ places_of a
root_kept a b forced kept =
    let P : List Place → Type 0 = AreForcedAll in
    kept.root (length (places_of a)) (omega arith) (subst P (sym (take-length (places_of a))) forced)
    ∙ take-length (places_of a)

pub root_within : (a b : Filed) → AreForcedAll (places_of a) → IsKept a b → length (places_of a) ≤ length (places_of b)
root_within a b forced kept =
    omega (arith, ap length (root_kept a b forced kept), length-take (length (places_of a)) (places_of b))

-- what forces them has a number from before the query
pub rooted_kept : (a b c : Filed) (added root : ℕ) → AreForcedAll (places_of a) → IsKept a b → IsHeld a.watched
    → IsNumbered a.watched.store a.slots → added ≡ length a.slots → root ≡ length (places_of a)
    → places_of c ≡ take root (places_of b) → c.slots ≡ b.slots → (p k : ℕ) (place : Place)
    → slice_get (places_of c) p ≡ Some place → place.reason ≡ Some k → Contains (take added c.slots) k
rooted_kept a b c added root forced kept held numbered last base places slots p k place e r =
    let same : places_of c ≡ places_of a =
    places ∙ ap (λ n. take n (places_of b)) base ∙ root_kept a b forced kept in
    let P : List Place → Type 0 = λ v. slice_get v p ≡ Some place in
    let at = numbered.numbered k (held.live p k place (subst P same e) r) in
    let front : take added c.slots ≡ a.slots =
    ap (take added) (slots ∙ kept.slots) ∙ take_at a.slots kept.more_slots added (sym last) in
    let Q : List ℕ → Type 0 = λ v. Contains v k in
    subst Q (sym front)
    (at.0, slice_get_within a.slots at.0 k at.1, get_or_from_slice_get a.slots at.0 k k at.1)

pub answer_of : (vars : ℕ) (clauses : List (List ℕ)) (under : List ℕ) (answer : SatAnswer) → IsFound vars clauses under answer
    → IsAnswer vars clauses under answer
answer_of vars clauses under (Sat row) f = record {
  width = f.width;
  clauses_hold = f.clauses_hold;
  under_holds = λ k d less. f.lits_hold (get_or under k d) (Contains-get_or under k d less);
}
answer_of vars clauses under (Unsat refuted) f = record {
  part = (is_part_decides refuted.core under).1 f.part;
  accepted = f.accepted;
  covered = f.covered;
}
answer_of vars clauses under Spent f = tt
answer_of vars clauses under Stopped f = tt
answer_of vars clauses under Memory f = tt
