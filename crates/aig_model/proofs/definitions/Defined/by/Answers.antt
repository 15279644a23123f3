use Rattle.std.proofs.Common.{◌≡◌, ◌+◌, length, map, false, ap, ◌∙◌}
use Rattle.std.proofs.lemmas.List.{length-replicate}
use Rattle.ja_base.specs.Literals.{variable}
use Rattle.aig_model.specs.declared.netlist.Latch.{Latch}
use Rattle.aig_model.specs.Netlist.{gate_var}
use Rattle.aig_model.specs.Definitions.{Adds}
use Rattle.aig_model.proofs.Uses.{latches_within, gates_within}
use Rattle.aig_model.proofs.Twice.{table_from_adds}
use Rattle.aig_model.proofs.definitions.Defined.by.Goals as goal

pub add_latches-requires : goal.add_latches-requires
add_latches-requires c =
    let p = c.args.parts.now in
    let width : length c.add_inputs.new.self.row ≡ p.vars + 1 = c.add_inputs.ensures.width ∙ ap length c.in_ok-defined.ensures.row
    ∙ length-replicate (p.vars + 1) false in
    rw c.as_slice-2.ensures.value (latches_within p _ c.requires width)

pub add_gates-requires : goal.add_gates-requires
add_gates-requires c =
    let p = c.args.parts.now in
    let width : length c.add_latches.new.self.row ≡ p.vars + 1 =
    c.add_latches.ensures.width ∙ c.add_inputs.ensures.width ∙ ap length c.in_ok-defined.ensures.row
    ∙ length-replicate (p.vars + 1) false in
    rw c.as_slice-3.ensures.value (gates_within p _ c.requires width)

pub returns : goal.returns
returns c =
    let p = c.args.parts.now in
    let first : Adds c.in_ok-defined.defined c.add_inputs.new.self (map variable p.inputs) =
    rw (← c.as_slice.ensures.value) c.add_inputs.ensures in
    let second : Adds c.add_inputs.new.self c.add_latches.new.self (map (λ (k : Latch). variable k.lit) p.latches) =
    rw (← c.as_slice-2.ensures.value) c.add_latches.ensures in
    let third : Adds c.add_latches.new.self c.add_gates.new.self (map gate_var p.gates) =
    rw (← c.as_slice-3.ensures.value) c.add_gates.ensures in
    table_from_adds p c.in_ok-defined.defined c.add_inputs.new.self c.add_latches.new.self c.add_gates.new.self
    c.in_ok-defined.ensures.row c.in_ok-defined.ensures.twice first
    second third
