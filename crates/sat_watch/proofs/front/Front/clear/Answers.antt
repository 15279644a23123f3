use Rattle.std.proofs.Common.{ℕ, ◌<◌, List, length, Option, None, Some, inl, inr, refl, ◌∙◌, arith}
use Rattle.std.proofs.lemmas.Bool.Decides.{eqb_tells}
use Rattle.std.proofs.lemmas.List.{length-set}
use Rattle.std.proofs.lemmas.Option.{slice_get_within}
use Rattle.sat_watch.specs.declared.front.Front.{Front}
use Rattle.sat_watch.proofs.FrontLemmas.{slice_get_set, slice_get_off, front_cleared}
use Rattle.sat_watch.proofs.front.Front.clear.Goals as goal

pub loop-at-preserved : goal.loop-at-preserved
loop-at-preserved c =
    let i = c.loop-at.invariant in
    let marks : List (Option ℕ) = c.loop-at.self.marks.items in
    let at : ℕ = c.loop-at.at in
    let less : at < length marks = let t = c.loop-at-test.true in let w = i.width in omega (arith, t, w, c.len-at-end.ensures) in
    record {
      width = length-set marks at None ∙ i.width;
      gone = λ d n low e.
          elim (eqb_tells d at) [
            | inl same ↦ slice_get_off marks at d n less same.1 e
            | inr other ↦
                let o = other.1 in
                elim (slice_get_set marks at None d (Some n) e) [
                  | inl new ↦ o new.0
                  | inr old ↦ i.gone d n (grind (arith, low, o)) old
                ]
          ];
      head = i.head;
      dirty = i.dirty;
    }

pub returns-clause-front : goal.returns-clause-front
returns-clause-front c = λ vars store w lits h still.
    let i = c.loop-at.invariant in
    let new : Front =
    record { marks = c.loop-at.self.marks; log = c.clear.new.self; head = c.loop-at.self.head; seen = 0; dirty = c.loop-at.self.dirty } in
    front_cleared vars store w lits c.args.self.now new i.width
    (λ d n e.
    let less = slice_get_within c.loop-at.self.marks.items d (Some n) e in
    i.gone d n (let t = c.loop-at-test.false in let w = i.width in omega (arith, t, w, less, c.len-at-end.ensures)) e)
    i.head refl i.dirty still h
