use Rattle.aig_model.proofs.design.Design.bad.Goals as goal

pub returns-clause-known : goal.returns-clause-known
returns-clause-known c = rw (← c.self.view_is) (c.self.invariant.bads c.args.prop c.get.result.now c.get.ensures)
