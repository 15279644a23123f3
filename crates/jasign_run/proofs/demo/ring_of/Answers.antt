use Rattle.std.proofs.Common.{List, ℕ, sym, subst, ◌∙◌}
use Rattle.aig_model.specs.Netlist.{circuit}
use Rattle.aig_model.specs.Refusals.{netlist_of}
use Rattle.aiger_ascii.specs.Grammar.{IsAsciiDesign}
use Rattle.demo_ring.specs.DemoParts.{demo_parts}
use Rattle.jasign_run.proofs.demo.ring_of.Goals as goal

pub unreachable-requires : goal.unreachable-requires
unreachable-requires c =
    let ring = circuit (netlist_of (demo_parts c.args.n)) in
    let spelled : IsAsciiDesign c.bytes.result.now ring =
    subst (λ (bytes : List ℕ). IsAsciiDesign bytes ring) (sym (c.bytes.ensures ∙ c.in_ok-text.ensures))
    (c.demo_text_is_a_design.ensures c.args.n c.requires.some c.requires.most) in
    rw c.in-Err-Refused.field-0-is at (c.in-Err-Refused.ensures.not_refused ring spelled)
