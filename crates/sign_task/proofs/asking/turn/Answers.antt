use Rattle.std.proofs.Common.{◌≡◌, ◌∙◌, ℕ, Option, Some, sym, subst, ap, arith}
use Rattle.ja_base.specs.Invariants.{Covers}
use Rattle.aig_model.specs.Netlist.{circuit}
use Rattle.aig_model.specs.Task.{problem}
use Rattle.inv_cert.specs.Closed.{ClosedList}
use Rattle.store_core.specs.Judged.{IfProved}
use Rattle.worker_pool.proofs.JudgementLemmas.{settled_proof, settled_failure, settled_budget}
use Rattle.sign_task.proofs.JudgementLemmas.{judged_within, settling_keeps, settling_marks}
use Rattle.sign_task.proofs.asking.turn.Goals as goal

pub settle-requires-clause-proved : goal.settle-requires-clause-proved
settle-requires-clause-proved g c =
    let h = settled_proof c.args.coded.now c.args.prop c.args.meter.now.limit (problem c.args.board.now.list.task)
    c.in_ok-judged.judged c.in_ok-judged.ensures.judged (sym c.requires.underway.task) in
    subst (λ (q : ℕ). IfProved c.in_ok-judged.judged (λ (list : ClosedList). (problem list.task ≡ problem c.args.board.now.list.task)
    × Covers (circuit list.task.design) list.clauses q)) (sym c.judged_property-settled.ensures) h

pub returns-clause-marked : goal.returns-clause-marked
returns-clause-marked g c =
    let low = judged_within c.args.coded.now c.args.prop c.args.meter.now.limit c.in_ok-judged.judged
    c.in_ok-judged.ensures.judged c.requires.within in
    let mid = settling_marks c.judged_property-settled.result c.args.board.now c.settle.new.self c.in_ok-judged.judged
    (omega (arith, low, c.judged_property-settled.ensures, c.requires.underway.width)) c.in_ok-settle.ensures.did in
    c.in_ok-halt.ensures.kept.keeps.stay c.judged_property-settled.result mid
