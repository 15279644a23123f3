use Rattle.std.proofs.Common.{◌≡◌, ℕ, Bool, ◌<◌, ◌≤◌, false, length, sym, ◌∙◌, ap, arith}
use Rattle.std.proofs.lemmas.Option.{get_or_from_slice_get}
use Rattle.sat_cdcl.specs.Questions.{is_tainted}
use Rattle.sat_cdcl.proofs.TaintLemmas.{all_next, all_taken}
use Rattle.sat_cdcl.proofs.question.Question.rests_on.Goals as goal

pub loop-at-preserved : goal.loop-at-preserved
loop-at-preserved c =
    let t = c.loop-at-test.true in
    let less : c.loop-at.at < length c.args.hints.now = omega (arith, t, c.len-at-end.ensures) in
    let T : ℕ → Bool = is_tainted c.args.self.now.first c.args.self.now.taints.items in
    all_next (λ n. T n ≡ false) c.args.hints.now c.loop-at.at 0 less
    (ap T (get_or_from_slice_get c.args.hints.now c.loop-at.at c.get.result.now 0 c.get.ensures)
    ∙ sym c.is_tainted.ensures ∙ c.if-is_tainted.false)
    c.loop-at.invariant

pub returns : goal.returns
returns c =
    let t = c.loop-at-test.false in
    let past : length c.args.hints.now ≤ c.loop-at.at = omega (arith, t, c.len-at-end.ensures) in
    all_taken (λ n. is_tainted c.args.self.now.first c.args.self.now.taints.items n ≡ false) c.args.hints.now c.loop-at.at past
    c.loop-at.invariant
