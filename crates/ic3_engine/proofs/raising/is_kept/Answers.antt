use Rattle.std.proofs.Common.{◌≡◌, List, ℕ, false, subst, sym}
use Rattle.ja_project.specs.Latches.{is_foreign}
use Rattle.aig_model.specs.Netlist.{circuit}
use Rattle.ic3_frames.specs.Levels.{Entry}
use Rattle.ic3_query.specs.Known.{all_of}
use Rattle.ic3_query.specs.Questions.{IsKeptAt}
use Rattle.ic3_engine.proofs.RaiseLemmas.{all_at, entry_of}
use Rattle.ic3_engine.proofs.raising.is_kept.Goals as goal

pub ask-requires-clause-own : goal.ask-requires-clause-own
ask-requires-clause-own g c =
    let found = entry_of c.args.frames.now.kept c.args.at c.requires.within in
    subst (λ (clause : List ℕ). is_foreign (circuit c.args.coded.now.design) clause ≡ false) (c.clause-clause.ensures found.0 found.1)
    (all_at (λ (e : Entry). is_foreign (circuit c.args.coded.now.design) e.clause ≡ false) c.args.frames.now.kept c.args.at found.0 found.1
    c.requires.core.own)

pub returns-clause-kept : goal.returns-clause-kept
returns-clause-kept g c = λ is e there.
    subst (IsKeptAt c.args.coded.now (all_of c.args.known.now) c.args.frames.now c.args.level) (sym (c.clause-clause.ensures e there))
    (c.is_blocked.ensures c.args.coded.now (all_of c.args.known.now) c.args.frames.now c.args.level c.clause-clause.result.now
    c.ask.new.room.vals c.in_ok-answer.ensures.answer is)
