use Rattle.std.proofs.Common.{sym, subst}
use Rattle.report.specs.Sections.{IsSet}
use Rattle.report.proofs.DecodeLemmas.{told, untold}
use Rattle.report.proofs.NumbersLemmas.{no_set_word, no_set_end, no_set, not_empty, is_nothing, set_text}
use Rattle.report.proofs.read_set.set_of.Goals as goal

pub returns-in_default : goal.returns-in_default
returns-in_default c = no_set_word c.args.count c.args.line.now c.in_default.ensures.read

pub returns-then-not-is_empty : goal.returns-then-not-is_empty
returns-then-not-is_empty c =
    no_set_end c.args.count c.args.line.now c.in-Some.rest.now c.in_ok-props.props c.in_ok-props.rest.now c.ranges.count.fits
    c.in-Some.ensures.read c.in_ok-props.ensures
    (not_empty c.in_ok-props.rest.now c.is_empty.result c.is_empty.ensures c.if-not-is_empty.true)

pub returns-then-not-is_set : goal.returns-then-not-is_set
returns-then-not-is_set c =
    let wrong = untold c.is_set.result c.if-not-is_set.true c.is_set.ensures in
    no_set c.args.count c.args.line.now c.in-Some.rest.now c.in_ok-props.props c.in_ok-props.rest.now c.ranges.count.fits
    c.in-Some.ensures.read c.in_ok-props.ensures
    (λ h. wrong (subst (IsSet c.args.count) (sym c.as_slice.ensures.value) h))

pub returns : goal.returns
returns c =
    let ended = is_nothing c.in_ok-props.rest.now c.is_empty.result c.is_empty.ensures c.if-not-is_empty.false in
    let fits = subst (IsSet c.args.count) c.as_slice.ensures.value (told c.is_set.result c.if-not-is_set.false c.is_set.ensures)
    in (
      fits,
      set_text c.args.line.now c.in-Some.rest.now c.in_ok-props.props c.in_ok-props.rest.now c.in-Some.ensures.read
          c.in_ok-props.ensures ended,
    )
