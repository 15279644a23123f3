use Rattle.std.proofs.Common.{ℕ, ◌<◌, List, length, Option, None, Some, inl, inr, sym, ◌∙◌, arith}
use Rattle.std.proofs.lemmas.Bool.Decides.{eqb_tells}
use Rattle.std.proofs.lemmas.List.{length-set}
use Rattle.std.proofs.lemmas.Option.{none-some}
use Rattle.sat_watch.proofs.FrontLemmas.{slice_get_set, slice_get_off}
use Rattle.sat_watch.proofs.front.Front.unmark.Goals as goal

pub loop-at-preserved : goal.loop-at-preserved
loop-at-preserved c =
    let i = c.loop-at.invariant in
    let marks : List (Option ℕ) = c.loop-at.self.marks.items in
    let at : ℕ = c.loop-at.at in
    let less : at < length marks =
    let t = c.loop-at-test.true in let r = c.requires in let w = i.width in let b = c.loop-at.auto.at in
    omega (arith, t, r, w) in
    record {
      width = length-set marks at None ∙ i.width;
      fewer = λ d n e.
          elim (slice_get_set marks at None d (Some n) e) [
            | inl new ↦ absurd (none-some n (sym new.1))
            | inr old ↦ i.fewer d n old
          ];
      gone = λ d n low high e.
          elim (eqb_tells d at) [
            | inl same ↦ slice_get_off marks at d n less same.1 e
            | inr other ↦
                let o = other.1 in
                elim (slice_get_set marks at None d (Some n) e) [
                  | inl new ↦ o new.0
                  | inr old ↦ i.gone d n low (grind (arith, high, o)) old
                ]
          ];
      log = i.log;
      head = i.head;
      seen = i.seen;
      dirty = i.dirty;
    }
