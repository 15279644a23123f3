use Rattle.std.proofs.Common.{ℕ, List, Option, subst}
use Rattle.std.specs.Prelude.{IfSome}
use Rattle.aig_model.specs.Netlist.{Netlist}
use Rattle.ic3_query.specs.Known.{all_of}
use Rattle.ic3_general.specs.Shrinking.{IsStartingPart}
use Rattle.ic3_general.proofs.CutLemmas.{shrunk_after}
use Rattle.ic3_general.proofs.shrinking.try_drop.Goals as goal

pub returns-clause-shrunk : goal.returns-clause-shrunk
returns-clause-shrunk g c =
    let left : List ℕ = c.args.left.clause in
    let tried : List ℕ = c.in-Some.tried in
    let part = subst (λ (m : Netlist). IsStartingPart m left tried) c.requires.table
    (subst (λ (o : Option (List ℕ)). IfSome o (IsStartingPart c.args.table.now left)) c.in-Some.is
    c.in_ok-tried.ensures.part) in
    shrunk_after c.args.coded.now (all_of c.args.known.now) c.args.frames.now c.args.level left tried c.in_ok-left.left.clause
    c.ask.new.room.vals c.in_ok-asked.asked c.requires.left part c.in_ok-asked.ensures.answer c.in_ok-left.ensures
