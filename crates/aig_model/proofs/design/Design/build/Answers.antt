use Rattle.std.proofs.Common.{◌≡◌, ℕ, Option, None, sym, ap, ◌∙◌, subst}
use Rattle.aig_model.specs.declared.netlist.Parts.{Parts}
use Rattle.aig_model.specs.declared.definitions.Defined.{Defined}
use Rattle.aig_model.specs.Netlist.{circuit}
use Rattle.aig_model.specs.Refusals.{IsDefinedTwice, IsUndefined, AreOnce, AreDefined}
use Rattle.aig_model.specs.Least.{IsLeastOf}
use Rattle.aig_model.specs.Order.{IsOrderOf}
use Rattle.aig_model.specs.Definitions.{IsTableOf}
use Rattle.aig_model.proofs.Assembly.{gates_from_once, sound_from_order, circuit_from_order, makes_from_order}
use Rattle.aig_model.proofs.design.Design.build.Goals as goal

once_from : (p : Parts) (defined : Defined) (twice : Option ℕ) → IsTableOf p defined → twice ≡ defined.twice → twice ≡ None
    → AreOnce p
once_from p defined twice table is none = subst (IsLeastOf (IsDefinedTwice p)) (sym is ∙ none) table.twice

defined_from : (p : Parts) (undefined : Option ℕ) → IsLeastOf (IsUndefined p) undefined → undefined ≡ None → AreDefined p
defined_from p undefined least none = subst (IsLeastOf (IsUndefined p)) none least

pub ordered_gates-requires-clause-given : goal.ordered_gates-requires-clause-given
ordered_gates-requires-clause-given c =
    let once = once_from c.args.parts c.in_ok-defined.defined c.twice.result c.in_ok-defined.ensures c.twice.ensures
    c.in_default.is in
    rw c.as_slice-given.ensures.value (gates_from_once c.args.parts c.requires once)

pub from_parts-requires : goal.from_parts-requires
from_parts-requires c =
    let p = c.args.parts in
    let once = once_from p c.in_ok-defined.defined c.twice.result c.in_ok-defined.ensures c.twice.ensures c.in_default.is in
    let defined = defined_from p c.first_undefined.result c.first_undefined.ensures c.in_default-first_undefined.is in
    let order : IsOrderOf p.gates c.in-Ok.gates = rw c.as_slice-given.ensures.value at c.in-Ok.ensures.order in
    sound_from_order p c.in-Ok.gates c.requires once defined order

pub returns-in-Ok-clause-design : goal.returns-in-Ok-clause-design
returns-in-Ok-clause-design c =
    let p = c.args.parts in
    let once = once_from p c.in_ok-defined.defined c.twice.result c.in_ok-defined.ensures c.twice.ensures c.in_default.is in
    let order : IsOrderOf p.gates c.in-Ok.gates = rw c.as_slice-given.ensures.value at c.in-Ok.ensures.order in
    ap circuit c.from_parts.ensures ∙ circuit_from_order p c.in-Ok.gates once order

pub returns-in-Ok-clause-sound : goal.returns-in-Ok-clause-sound
returns-in-Ok-clause-sound c =
    let p = c.args.parts in
    let once = once_from p c.in_ok-defined.defined c.twice.result c.in_ok-defined.ensures c.twice.ensures c.in_default.is in
    let defined = defined_from p c.first_undefined.result c.first_undefined.ensures c.in_default-first_undefined.is in
    let order : IsOrderOf p.gates c.in-Ok.gates = rw c.as_slice-given.ensures.value at c.in-Ok.ensures.order in
    makes_from_order p c.in-Ok.gates once defined order

pub returns-in-Err-Refused-clause-refused : goal.returns-in-Err-Refused-clause-refused
returns-in-Err-Refused-clause-refused c =
    let p = c.args.parts in
    let once = once_from p c.in_ok-defined.defined c.twice.result c.in_ok-defined.ensures c.twice.ensures c.in_default.is in
    let defined = defined_from p c.first_undefined.result c.first_undefined.ensures c.in_default-first_undefined.is in
    let least = rw c.in-Err-Refused.field-0-is at c.in-Err-Refused.ensures.refused in
    (once, defined, rw (← c.as_slice-given.ensures.value) least)
