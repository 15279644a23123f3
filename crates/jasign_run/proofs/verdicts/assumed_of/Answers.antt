use Rattle.std.proofs.Common.{◌≡◌, ◌<◌, ℕ, true, length, replicate, ◌∙◌, sym, ap, subst, arith}
use Rattle.std.proofs.lemmas.Option.{slice_get_within}
use Rattle.jasign_run.proofs.Columns.{assumed_before, assumed_begins, assumed_ends, assumed_goes_on, assumed_is_long}
use Rattle.jasign_run.proofs.verdicts.assumed_of.Goals as goal

pub loop-prop-init : goal.loop-prop-init
loop-prop-init c = c.in_ok-expect.ensures ∙ ap (λ (n : ℕ). replicate n true) c.len.ensures ∙ assumed_begins c.args.lines.now

pub set_where_failing-requires : goal.set_where_failing-requires
set_where_failing-requires c =
    let long = ap length c.loop-prop.invariant ∙ assumed_is_long c.args.lines.now c.loop-prop.prop in
    subst (λ (n : ℕ). c.loop-prop.prop < n) (sym long)
    (slice_get_within c.args.lines.now c.loop-prop.prop c.get.result.now c.get.ensures)

pub loop-prop-preserved : goal.loop-prop-preserved
loop-prop-preserved c =
    assumed_goes_on c.args.lines.now c.loop-prop.prop c.get.result.now c.loop-prop.expect c.set_where_failing.new.expect
    c.get.ensures c.loop-prop.invariant c.set_where_failing.ensures

pub returns : goal.returns
returns c =
    let end : c.loop-prop.prop ≡ length c.args.lines.now =
    omega (arith, c.loop-prop-test.false, c.loop-prop.auto.prop-end, c.len-prop-end.ensures) in
    c.loop-prop.invariant ∙ ap (assumed_before c.args.lines.now) end ∙ assumed_ends c.args.lines.now
