use Rattle.std.proofs.Common.{List, ℕ, ◌+◌, subst}
use Rattle.ic3_query.specs.Known.{all_of}
use Rattle.ic3_query.specs.Questions.{IsKeptAt}
use Rattle.ic3_engine.proofs.KeepLemmas.{kept_is_good}
use Rattle.ic3_engine.proofs.StartLemmas.{begins_holds}
use Rattle.ic3_engine.proofs.good.for_good.Goals as goal

pub returns-in_ok-part-in-Blocked-clause-part : goal.returns-in_ok-part-in-Blocked-clause-part
returns-in_ok-part-in-Blocked-clause-part g c =
    let t = c.args.coded.now in
    let known : List (List ℕ) = all_of c.args.known.now in
    let part : List ℕ = c.in_ok-part-in-Blocked.part in
    let is = c.in_ok-part-in-Blocked.ensures in
    let begins = begins_holds t.design part c.task-task.ensures.sound is.begins in
    let kept = subst (λ k. IsKeptAt t known c.args.frames.now (k + 1) part) c.top-level.ensures is.kept in
    record {
      within = is.part;
      own = is.own;
      good = kept_is_good t known c.args.frames.now part c.are_levels.ensures begins kept;
    }
