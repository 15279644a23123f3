use Rattle.std.proofs.Common.{◌∙◌, ap, sym, subst, arith}
use Rattle.ja_base.specs.Valuation.{latch_row, MeetsConstraints}
use Rattle.ja_base.specs.Invariants.{MeetsClauses}
use Rattle.aig_model.specs.Netlist.{Netlist, circuit}
use Rattle.aig_model.specs.Task.{VerificationTask}
use Rattle.ja_project.proofs.ForeignLemmas.{own_is_below}
use Rattle.ic3_query.specs.Known.{all_of}
use Rattle.ic3_query.specs.Questions.{IsBefore}
use Rattle.ic3_query.proofs.RowLemmas.{met_by_latches}
use Rattle.ic3_query.proofs.SeenLemmas.{OnTrue-map}
use Rattle.ic3_query.proofs.seen.leads_out.Goals as goal

pub holds_in-requires : goal.holds_in-requires
holds_in-requires c = λ k d within.
    omega (
      arith,
      own_is_below c.args.coded.now.design c.task.ensures.sound c.args.clause.now c.requires.own k d within,
      c.requires.step.width,
    )

pub returns : goal.returns
returns c =
    let P : Netlist → Type 0 = λ n. MeetsConstraints (circuit n) c.args.vals.now in
    let same = c.design.ensures.value ∙ ap (λ (t : VerificationTask). t.design) c.task.ensures.value in
    OnTrue-map c.meets_known.result
    (MeetsClauses (circuit c.args.coded.now.design) (latch_row (circuit c.args.coded.now.design) c.args.vals.now)
    (all_of c.args.known.now))
    (IsBefore c.args.coded.now (all_of c.args.known.now) c.args.frames.now c.args.level c.args.clause.now c.args.vals.now)
    (λ met. record {
      now = c.requires.step;
      constrained = subst P same c.if-not-meets_constraints.ensures;
      held = (c.held.ensures.meaning c.args.vals.now).0 c.if-not-are_true.ensures;
      known_met = met;
      level = c.if-not-is_in.ensures;
      outside = met_by_latches (circuit c.args.coded.now.design) c.args.vals.now c.args.clause.now c.requires.own
          (sym c.holds_in.ensures ∙ c.if-not-holds_in.false);
      later = c.if-not-is_false_later.ensures;
    }) c.meets_known.ensures
