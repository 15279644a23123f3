use Rattle.std.proofs.Common.{List, ℕ, Bool, ◌∷◌, [], ◌++◌, take, sym, ap, ◌∙◌, arith}
use Rattle.std.specs.Prelude.{nat_le, if◌then◌else◌}
use Rattle.ic3_frames.specs.Levels.{at_level}
use Rattle.ic3_engine.proofs.FixLemmas.{level_more}
use Rattle.ic3_engine.proofs.RaiseLemmas.{entry_of}
use Rattle.ic3_engine.proofs.fixing.standing.Goals as goal

pub loop-at-preserved : goal.loop-at-preserved
loop-at-preserved c =
    let kept = c.args.frames.now.kept in
    let found = entry_of kept c.loop-at.at (omega arith) in
    let stands : Bool = nat_le c.args.level c.level.result in
    let before : List (List ℕ) = at_level (take c.loop-at.at kept) c.args.level in
    c.in_ok-add_where.ensures
    ∙ ap (λ (cs : List (List ℕ)). cs ++ (if stands then c.clause.result.now ∷ [] else [])) c.loop-at.invariant
    ∙ ap (λ (clause : List ℕ). before ++ (if stands then clause ∷ [] else [])) (sym (c.clause.ensures found.0 found.1))
    ∙ sym (level_more kept c.loop-at.at c.args.level found.0 stands found.1
    (ap (nat_le c.args.level) (sym (c.level.ensures.exact found.0 found.1))))
