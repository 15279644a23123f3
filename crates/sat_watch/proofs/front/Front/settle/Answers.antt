use Rattle.sat_watch.proofs.front.Front.settle.Goals as goal

pub returns : goal.returns
returns c = λ vars store w lits h end still.
    c.mark-2.ensures vars store w lits (c.clear.ensures.front vars store w lits h still) end still
