use Rattle.std.proofs.Common.{[]}
use Rattle.aig_model.specs.Definitions.{nexts}
use Rattle.aig_model.proofs.Uses.{within_from_used, next_used, output_used, bad_used, constraint_used, rhs0_used, rhs1_used, undefined_from_missing}
use Rattle.aig_model.proofs.definitions.Defined.first_undefined.Goals as goal

pub least_in_latches-least-requires : goal.least_in_latches-least-requires
least_in_latches-least-requires c =
    let p = c.args.parts.now in
    rw c.as_slice.ensures.value (within_from_used p _ (nexts p.latches) c.requires.range c.requires.table.width (next_used p))

pub least_in-least-requires : goal.least_in-least-requires
least_in-least-requires c =
    let p = c.args.parts.now in
    rw c.as_slice-2.ensures.value (within_from_used p _ p.outputs c.requires.range c.requires.table.width (output_used p))

pub least_in-least-requires-2 : goal.least_in-least-requires-2
least_in-least-requires-2 c =
    let p = c.args.parts.now in
    rw c.as_slice-3.ensures.value (within_from_used p _ p.bads c.requires.range c.requires.table.width (bad_used p))

pub least_in-least-requires-3 : goal.least_in-least-requires-3
least_in-least-requires-3 c =
    let p = c.args.parts.now in
    rw c.as_slice-4.ensures.value (within_from_used p _ p.constraints c.requires.range c.requires.table.width (constraint_used p))

pub least_in_gates-requires-clause-rhs0 : goal.least_in_gates-requires-clause-rhs0
least_in_gates-requires-clause-rhs0 c =
    let p = c.args.parts.now in
    rw c.as_slice-5.ensures.value (within_from_used p _ _ c.requires.range c.requires.table.width (rhs0_used p))

pub least_in_gates-requires-clause-rhs1 : goal.least_in_gates-requires-clause-rhs1
least_in_gates-requires-clause-rhs1 c =
    let p = c.args.parts.now in
    rw c.as_slice-5.ensures.value (within_from_used p _ _ c.requires.range c.requires.table.width (rhs1_used p))

pub returns : goal.returns
returns c =
    let p = c.args.parts.now in
    let row = c.args.self.now.row in
    let none = c.least_in_latches-least.ensures [] (λ v m. absurd (let used = m.used in cc)) in
    let outputs = c.least_in-least.ensures _ none in
    let bads = c.least_in-least-2.ensures _ outputs in
    let constraints = c.least_in-least-3.ensures _ bads in
    let all = c.least_in_gates.ensures _ constraints in
    undefined_from_missing p c.args.self.now _ c.requires.table
    (rw (
      ← c.as_slice.ensures.value,
      ← c.as_slice-2.ensures.value,
      ← c.as_slice-3.ensures.value,
      ← c.as_slice-4.ensures.value,
      ← c.as_slice-5.ensures.value,
    ) all)
