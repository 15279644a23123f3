use Rattle.std.proofs.Common.{◌+◌, length, ap, ◌∙◌}
use Rattle.aig_model.specs.Netlist.{Netlist}
use Rattle.random_sim.proofs.RowLemmas.{one_more, all_wide}
use Rattle.random_sim.proofs.running.run.Goals as goal

pub loop-at-preserved : goal.loop-at-preserved
loop-at-preserved c =
    let is = c.design-design.ensures.value in
    let grows = c.in_ok-push-in-GoesOn.ensures.ok in
    let row = c.in_ok-random_row-in-GoesOn in
    let wide = row.ensures ∙ c.inputs-in-GoesOn.ensures.value ∙ ap (λ (n : Netlist). length n.inputs) is in
    let before = c.loop-at.rows in
    let width = length c.args.task.now.design.inputs in record {
      fits = rw is at c.step.ensures.fits;
      count = one_more before c.push.new.self row.field-0 (c.loop-at.at + 1) grows c.loop-at.invariant.count;
      rows = all_wide before c.push.new.self row.field-0 width grows wide c.loop-at.invariant.rows;
    }
