use Rattle.std.proofs.Common.{ℕ, List, length, sym, subst, arith}
use Rattle.std.specs.List.{All}
use Rattle.ja_base.specs.Literals.{value, AllSatisfiedBy}
use Rattle.ja_base.specs.Clauses.{IsBelow}
use Rattle.ja_base.specs.Valuation.{latch_row}
use Rattle.ja_base.specs.Invariants.{MeetsClauses}
use Rattle.aig_model.specs.Netlist.{circuit}
use Rattle.aig_model.specs.Task.{problem}
use Rattle.inv_cert.specs.Closed.{ClosedList}
use Rattle.ic3_query.specs.Known.{all_of}
use Rattle.ic3_query.proofs.SeenLemmas.{are_below, known_met, list_is_own, own_is_own, OnTrue-map}
use Rattle.ic3_query.proofs.seen.meets_known.Goals as goal

pub meets_closed-requires : goal.meets_closed-requires
meets_closed-requires c =
    let P : ClosedList → Type 0 = λ l. All (IsBelow (length c.args.vals.now)) l.clauses in
    subst P (sym c.list.ensures.value) (are_below c.args.coded.now.design c.task-task.ensures.sound c.args.known.now.list
    (length c.args.vals.now)
    (list_is_own (problem c.args.known.now.task) c.args.coded.now c.args.known.now.list c.args.known.now.own c.requires.task
    c.list.ensures.known) (omega (arith, c.requires.width)))

pub meets_all-requires : goal.meets_all-requires
meets_all-requires c =
    let P : List (List ℕ) → Type 0 = All (IsBelow (length c.args.vals.now)) in
    subst P (sym c.as_slice.ensures.value) (subst P (sym c.own.ensures.value)
    (are_below c.args.coded.now.design c.task-task.ensures.sound c.args.known.now.own (length c.args.vals.now)
    (own_is_own (problem c.args.known.now.task) c.args.coded.now c.args.known.now.list c.args.known.now.own c.requires.task
    c.list.ensures.known) (omega (arith, c.requires.width))))

pub returns : goal.returns
returns c =
    let P : ClosedList → Type 0 = λ l. AllSatisfiedBy (value c.args.vals.now) l.clauses in
    let Q : List (List ℕ) → Type 0 = AllSatisfiedBy (value c.args.vals.now) in
    OnTrue-map c.meets_all.result (Q c.as_slice.result.now)
    (MeetsClauses (circuit c.args.coded.now.design) (latch_row (circuit c.args.coded.now.design) c.args.vals.now)
    (all_of c.args.known.now))
    (λ h. known_met (problem c.args.known.now.task) c.args.coded.now c.args.known.now.list c.args.known.now.own c.args.vals.now
    c.requires.task c.list.ensures.known (subst P c.list.ensures.value c.if-not-meets_closed.ensures)
    (subst Q c.own.ensures.value (subst Q c.as_slice.ensures.value h))) c.meets_all.ensures
