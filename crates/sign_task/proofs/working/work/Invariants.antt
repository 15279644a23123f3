use Rattle.aig_model.specs.Task.{problem}
use Rattle.sign_task.proofs.working.work.Given as goal

abbrev pub ghosts-worked : goal.ghosts-worked
ghosts-worked g a = record { opening = a.board.opening; task = problem a.board.list.task }
