use Rattle.std.proofs.Common.{◌≡◌, ℕ, List, Bool, false, length, sym, ap, ◌∙◌, subst, arith}
use Rattle.std.specs.Prelude.{All}
use Rattle.std.specs.List.{list_any}
use Rattle.std.proofs.lemmas.List.{length-map, take_all}
use Rattle.ja_base.specs.Literals.{variable}
use Rattle.ja_base.specs.Invariants.{latch_value}
use Rattle.ja_base.specs.Runs.{IsInitial, Trace}
use Rattle.aig_model.specs.Netlist.{Netlist, circuit}
use Rattle.aig_model.specs.Task.{VerificationTask, problem}
use Rattle.local_stim.specs.Found.{FoundFailure}
use Rattle.ic3_general.specs.Aims.{respecting}
use Rattle.ic3_general.proofs.ChainLemmas.{run_widths, start_fails}
use Rattle.ic3_general.proofs.failing.failure_of.Goals as goal

pub of-requires-clause-rows : goal.of-requires-clause-rows
of-requires-clause-rows c =
    let t : VerificationTask = c.args.coded.now in
    let first : List Bool = c.in_ok-first.first in
    let initial : IsInitial (circuit t.design) first =
    subst (λ (n : Netlist). IsInitial (circuit n) first) c.requires.table c.in_ok-first.ensures.initial in
    let unmet = subst (λ (n : Netlist). list_any (latch_value (circuit n).latches first) c.args.clause.now ≡ false)
    c.requires.table c.in_ok-first.ensures.outside in
    let leads = c.requires.leads first (record { width = initial.width; unmet = unmet }) in
    let widths = run_widths (circuit t.design) first c.args.chain.now _ leads.runs in
    let same = ap (λ (m : Trace). m.inputs) c.new-stim.ensures ∙ c.in_ok-copy-2.ensures in
    let inputs = length-map t.design.inputs variable
    ∙ ap (λ (u : VerificationTask). length u.design.inputs) (sym c.task.ensures.value) in
    subst (λ (rows : List (List Bool)). All (λ row. length row ≡ length c.task.result.now.design.inputs) rows) (sym same)
    (subst (λ (n : ℕ). All (λ (row : List Bool). length row ≡ n) c.args.chain.now) inputs widths)

pub broken_before-requires-clause-fails : goal.broken_before-requires-clause-fails
broken_before-requires-clause-fails c =
    let t : VerificationTask = c.args.coded.now in
    let first : List Bool = c.in_ok-first.first in
    let initial : IsInitial (circuit t.design) first =
    subst (λ (n : Netlist). IsInitial (circuit n) first) c.requires.table c.in_ok-first.ensures.initial in
    let unmet = subst (λ (n : Netlist). list_any (latch_value (circuit n).latches first) c.args.clause.now ≡ false)
    c.requires.table c.in_ok-first.ensures.outside in
    start_fails (problem (respecting t c.args.aim.now.respect)) c.args.aim.now.prop first c.args.chain.now initial
    (c.requires.leads first (record { width = initial.width; unmet = unmet }))

pub returns-in-Ok-clause-steps : goal.returns-in-Ok-clause-steps
returns-in-Ok-clause-steps c =
    let rows : List (List Bool) = c.args.chain.now in
    let same = ap (λ (f : FoundFailure). f.stim.inputs) c.in-Ok.ensures.value
    ∙ ap (λ (m : Trace). m.inputs) c.new-stim.ensures ∙ c.in_ok-copy-2.ensures in
    (length rows, same ∙ sym (take_all (length rows) rows (omega arith)))
