use Rattle.std.proofs.Common.{◌≡◌, ℕ, List, Bool, length, sym, ap, ◌∙◌, subst}
use Rattle.std.specs.Prelude.{All}
use Rattle.std.proofs.lemmas.List.{length-map}
use Rattle.ja_base.specs.Literals.{variable}
use Rattle.aig_model.specs.Netlist.{circuit}
use Rattle.aig_model.specs.Task.{VerificationTask}
use Rattle.ic3_general.proofs.ChainLemmas.{run_widths}
use Rattle.ic3_general.proofs.failing.accepted.Goals as goal

pub of-requires-clause-rows : goal.of-requires-clause-rows
of-requires-clause-rows c =
    let t : VerificationTask = c.args.coded.now in
    let widths = run_widths (circuit t.design) c.args.stim.first c.args.stim.inputs _ c.requires.fails.reached.legal.replay.runs in
    let inputs = length-map t.design.inputs variable
    ∙ ap (λ (u : VerificationTask). length u.design.inputs) (sym c.task.ensures.value) in
    subst (λ (n : ℕ). All (λ (row : List Bool). length row ≡ n) c.args.stim.inputs) inputs widths
