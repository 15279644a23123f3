use Rattle.aig_model.proofs.design.Design.constraint.Goals as goal

pub returns-clause-known : goal.returns-clause-known
returns-clause-known c = rw (← c.self.view_is) (c.self.invariant.constraints c.args.at c.get.result.now c.get.ensures)
