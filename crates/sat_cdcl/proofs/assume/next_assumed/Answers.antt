use Rattle.std.proofs.Common.{ℕ, List, sym, subst, ◌∙◌, arith}
use Rattle.std.specs.List.{All, Contains}
use Rattle.std.proofs.Math.Seq.{take-length}
use Rattle.sat_plain.specs.Trails.{lits_of}
use Rattle.sat_cdcl.proofs.TaintLemmas.{all_next, all_taken}
use Rattle.sat_cdcl.proofs.assume.next_assumed.Goals as goal

pub loop-at-preserved : goal.loop-at-preserved
loop-at-preserved c =
    let lits : List ℕ = lits_of c.args.trail.now.places in
    let lit : ℕ = c.index-under-at.result in
    let is = c.is_true.ensures.is in (
      all_next (Contains lits) c.args.under.now c.loop-at.at lit (let t = c.loop-at-test.true in omega arith)
          (subst (Contains lits) c.index-under-at.is (is.only lit (sym c.is_true.ensures.value ∙ c.if-not-is_true.false)))
          c.loop-at.invariant.0,
      c.loop-at.invariant.1,
    )

pub returns-clause-first : goal.returns-clause-first
returns-clause-first c =
    let P : List ℕ → Type 0 = All (Contains (lits_of c.args.trail.now.places)) in
    subst P (sym (take-length c.args.under.now))
    (all_taken (Contains (lits_of c.args.trail.now.places)) c.args.under.now c.loop-at.at
    (let t = c.loop-at-test.false in omega arith) c.loop-at.invariant.0)

pub returns-clause-next : goal.returns-clause-next
returns-clause-next c =
    all_taken (Contains (lits_of c.args.trail.now.places)) c.args.under.now c.loop-at.at
    (let t = c.loop-at-test.false in omega arith) c.loop-at.invariant.0
