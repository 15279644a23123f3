use Rattle.std.proofs.Common.{◌≡◌, false, List, ℕ, ◌-◌, ◌++◌, sym, ap, ◌∙◌, subst, arith}
use Rattle.ja_base.specs.Circuit.{Problem}
use Rattle.ja_base.specs.Invariants.{Covers}
use Rattle.aig_model.specs.Netlist.{circuit}
use Rattle.aig_model.specs.Task.{problem}
use Rattle.ja_project.specs.Latches.{is_foreign}
use Rattle.ic3_query.specs.Known.{AreOwn, IsKnown, all_of}
use Rattle.ic3_engine.proofs.FixLemmas.{extended_is, fixed_covers, fixed_is_raised, fixed_known, level_each}
use Rattle.ic3_engine.proofs.fixing.fix.Goals as goal

pub extend-requires-clause-own : goal.extend-requires-clause-own
extend-requires-clause-own g c =
    subst (AreOwn (circuit c.args.coded.now.design)) (sym c.in_ok-more.ensures)
    (level_each (λ (clause : List ℕ). is_foreign (circuit c.args.coded.now.design) clause ≡ false) c.args.z.now.frames.kept c.args.level c.requires.search.core.own)

pub extend-requires-clause-inductive : goal.extend-requires-clause-inductive
extend-requires-clause-inductive g c =
    let t = c.args.coded.now in
    let known : List (List ℕ) = all_of c.args.z.now.known in
    let is = subst (λ (q : Problem). IsKnown q known) c.requires.task c.own-own.ensures.known in
    let more = subst (λ (more : List (List ℕ)). IsKnown (problem t) (known ++ more)) (sym c.in_ok-more.ensures)
    (fixed_known t known c.args.z.now.frames _ _ c.args.level is c.requires.search c.requires.fixed) in
    more.inductive

pub returns-clause-raised : goal.returns-clause-raised
returns-clause-raised g c =
    let t = c.args.coded.now in
    let j = extended_is c.args.z.now.known c.extend.new.known c.in_ok-more.more c.extend.ensures.list c.in_ok-extend.ensures.own in
    let is = subst (λ (q : Problem). IsKnown q (all_of c.extend.new.known)) (ap problem c.extend.ensures.task ∙ c.requires.task)
    c.put_known.ensures.known in
    fixed_is_raised t c.args.z.now.known c.extend.new.known c.args.z.now.frames c.put_known.new.frames c.args.z.now.queue _ _ _ _
    c.in_ok-more.more j is c.requires.search c.in_ok-extend.ensures.serves c.put_known.ensures.top c.in_ok-put_known.ensures.kept

pub returns-clause-covers : goal.returns-clause-covers
returns-clause-covers g c =
    let t = c.args.coded.now in
    let f = c.args.z.now.frames in
    let j = extended_is c.args.z.now.known c.extend.new.known c.in_ok-more.more c.extend.ensures.list c.in_ok-extend.ensures.own
    ∙ ap (λ (more : List (List ℕ)). all_of c.args.z.now.known ++ more) c.in_ok-more.ensures in
    subst (λ (known : List (List ℕ)). Covers (circuit t.design) known c.args.prop) (sym j)
    (fixed_covers t (all_of c.args.z.now.known) f _ _ c.args.level (f.top - 1) c.args.prop c.requires.search c.requires.fixed
    (omega (arith, c.requires.fixed.high)) c.requires.good)
