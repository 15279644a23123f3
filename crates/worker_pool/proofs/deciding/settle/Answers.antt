use Rattle.std.proofs.Common.{ℕ, ◌≡◌, sym, subst}
use Rattle.ja_base.specs.Invariants.{Covers}
use Rattle.aig_model.specs.Netlist.{circuit}
use Rattle.aig_model.specs.Task.{problem}
use Rattle.inv_cert.specs.Closed.{ClosedList}
use Rattle.local_stim.specs.Found.{FoundFailure}
use Rattle.store_core.specs.Judged.{IfProved, IfFails}
use Rattle.worker_pool.proofs.JudgementLemmas.{failure_within, settled_proof, settled_failure, settled_budget}
use Rattle.worker_pool.proofs.deciding.settle.Goals as goal

pub subject_of-subject-requires-clause-failure : goal.subject_of-subject-requires-clause-failure
subject_of-subject-requires-clause-failure g c =
    failure_within c.args.coded.now c.args.prop g.N.Naming.opening.limit c.args.judged c.requires.judged

pub settle-requires-clause-proved : goal.settle-requires-clause-proved
settle-requires-clause-proved g c = λ lifetimes bounds.
    subst (λ (q : ℕ). IfProved c.args.judged (λ (list : ClosedList). (problem list.task ≡ g.N.Naming.task)
    × Covers (circuit list.task.design) list.clauses q)) (sym c.subject_of-subject.ensures.property)
    (settled_proof c.args.coded.now c.args.prop g.N.Naming.opening.limit g.N.Naming.task c.args.judged c.requires.judged
    c.requires.task)

pub settle-requires-clause-fails : goal.settle-requires-clause-fails
settle-requires-clause-fails g c = λ lifetimes bounds.
    subst (λ (q : ℕ). IfFails c.args.judged (λ (f : FoundFailure). (problem f.task ≡ g.N.Naming.task) × (f.prop ≡ q)))
    (sym c.subject_of-subject.ensures.property)
    (settled_failure c.args.coded.now c.args.prop g.N.Naming.opening.limit g.N.Naming.task c.args.judged c.requires.judged
    c.requires.task)

pub settle-requires-clause-spent : goal.settle-requires-clause-spent
settle-requires-clause-spent g c = λ lifetimes bounds.
    settled_budget c.args.coded.now c.args.prop g.N.Naming.opening.limit c.args.judged c.requires.judged
