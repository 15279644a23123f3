use Rattle.std.proofs.Common.{List, ◌<◌, length, subst, sym, arith, refl, ◌∙◌, eqb-true}
use Rattle.std.proofs.lemmas.Bool.Decides.{nat_tests}
use Rattle.ja_text.specs.Repeated.{Chain}
use Rattle.refute_check.specs.declared.lines.Line.{Line}
use Rattle.refute_text.specs.RefutationText.{TakesLine}
use Rattle.refute_text.proofs.ChainLemmas.{Chain-more}
use Rattle.refute_text.proofs.TextLemmas.{bad_place, no_text, is_text, only_text, not_longer}
use Rattle.refute_text.proofs.read.read_lines.Goals as goal

pub overflow_sub-result : goal.overflow_sub-result
overflow_sub-result c = not_longer c.args.bytes.now c.loop-rest.lines c.loop-rest.rest.now c.loop-rest.invariant

pub returns-in_default-clause-refused : goal.returns-in_default-clause-refused
returns-in_default-clause-refused c =
    let some : 0 < length c.loop-rest.rest.now = grind (arith, nat_tests) in
    let none = rw c.in_default.is at c.in_ok-line.ensures.read in
    bad_place c.args.bytes.now c.loop-rest.lines c.loop-rest.rest.now _ c.loop-rest.invariant some none refl

pub returns-in_default-clause-not_refused : goal.returns-in_default-clause-not_refused
returns-in_default-clause-not_refused c = no_text c.args.bytes.now _ (returns-in_default-clause-refused c)

pub loop-rest-preserved : goal.loop-rest-preserved
loop-rest-preserved c =
    let taken = rw c.in-Some.is at c.in_ok-line.ensures.read in
    let P : List Line → Type 0 = λ lines. Chain TakesLine c.args.bytes.now lines c.in-Some.after.now in
    let more = Chain-more TakesLine c.args.bytes.now c.loop-rest.lines c.loop-rest.rest.now c.in-Some.line c.in-Some.after.now
    c.loop-rest.invariant taken in
    subst P (sym c.in_ok-push.ensures.ok) more

pub returns-clause-found : goal.returns-clause-found
returns-clause-found c =
    let ended = eqb-true (length c.loop-rest.rest.now) 0 (sym c.is_empty.ensures ∙ c.loop-rest-test.false) in
    is_text c.args.bytes.now c.loop-rest.lines c.loop-rest.rest.now c.loop-rest.invariant ended

pub returns-clause-only : goal.returns-clause-only
returns-clause-only c =
    let ended = eqb-true (length c.loop-rest.rest.now) 0 (sym c.is_empty.ensures ∙ c.loop-rest-test.false) in
    only_text c.args.bytes.now c.loop-rest.lines c.loop-rest.rest.now c.loop-rest.invariant ended
