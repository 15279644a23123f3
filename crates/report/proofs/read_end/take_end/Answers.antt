use Rattle.std.proofs.lemmas.Result.{err_from_is_err_and}
use Rattle.report.specs.Forms.{then}
use Rattle.report.specs.Sections.{joined_form, set_form}
use Rattle.report.specs.Whole.{tail_form, end_form}
use Rattle.report.proofs.FormLemmas.{fails, stops_first, stops_behind}
use Rattle.report.proofs.EndLemmas.{joined_sound, set_sound, tail_sound, set_tail_sound}
use Rattle.report.proofs.read_end.take_end.Goals as goal

pub returns-in_err-joined : goal.returns-in_err-joined
returns-in_err-joined c =
    let p = err_from_is_err_and c.from_residual.result c.from_residual.ensures.1 in
    let clauses = c.args.clauses.now in
    let behind = then (set_form c.args.props) (λ _. tail_form c.args.props clauses) in
    rw (p.1, p.2)
    (fails joined_form (end_form c.args.props clauses) c.args.bytes.now c.args.bytes.now c.in_err-joined.field-0.0
    c.in_err-joined.ensures
    (λ left stop. stops_first joined_form (λ _. behind)
    (λ _ _. (set_tail_sound c.args.props clauses c.ranges.props.fits c.requires).some) c.args.bytes.now left stop))

pub returns-in_err-set : goal.returns-in_err-set
returns-in_err-set c =
    let p = err_from_is_err_and c.from_residual-in_err-set.result c.from_residual-in_err-set.ensures.1 in
    let clauses = c.args.clauses.now in
    let tail = tail_form c.args.props clauses in
    let behind = then (set_form c.args.props) (λ _. tail) in
    rw (p.1, p.2)
    (fails (set_form c.args.props) (end_form c.args.props clauses) c.args.bytes.now c.in_ok-joined.rest.now c.in_err-set.field-0.0
    c.in_err-set.ensures
    (λ left stop. stops_behind joined_form (λ _. behind) joined_sound c.args.bytes.now c.in_ok-joined.joined
    c.in_ok-joined.rest.now left c.in_ok-joined.ensures
    (stops_first (set_form c.args.props) (λ _. tail) (λ _ _. (tail_sound c.args.props clauses c.requires).some)
    c.in_ok-joined.rest.now left stop)))

pub returns-in_err-shown : goal.returns-in_err-shown
returns-in_err-shown c =
    let p = err_from_is_err_and c.from_residual-in_err-shown.result c.from_residual-in_err-shown.ensures.1 in
    let clauses = c.args.clauses.now in
    let tail = tail_form c.args.props clauses in
    let behind = then (set_form c.args.props) (λ _. tail) in
    rw (p.1, p.2)
    (fails tail (end_form c.args.props clauses) c.args.bytes.now c.in_ok-set.rest.now c.in_err-shown.field-0.0
    c.in_err-shown.ensures
    (λ left stop. stops_behind joined_form (λ _. behind) joined_sound c.args.bytes.now c.in_ok-joined.joined
    c.in_ok-joined.rest.now left c.in_ok-joined.ensures
    (stops_behind (set_form c.args.props) (λ _. tail) (set_sound c.args.props c.ranges.props.fits) c.in_ok-joined.rest.now
    c.in_ok-set.set c.in_ok-set.rest.now left c.in_ok-set.ensures stop)))
