use Rattle.std.proofs.Common.{◌≡◌, true, refl, sym, ◌∙◌, subst, arith}
use Rattle.std.proofs.lemmas.Bool.{both_ways, false≢true}
use Rattle.std.proofs.lemmas.Option.{get_or_from_slice_get, slice_get_within}
use Rattle.ja_base.specs.Literals.{value}
use Rattle.local_stim.proofs.CheckLemmas.{all_from_gets}
use Rattle.local_stim.proofs.checks.meets_constraints.Goals as goal

pub lit_of-requires : goal.lit_of-requires
lit_of-requires c =
    omega (arith, c.constraint.ensures.known.within)

pub returns-then-not-lit_of : goal.returns-then-not-lit_of
returns-then-not-lit_of c =
    let vals = c.args.vals.now in
    let lit = c.constraint.result in
    let xs = c.args.d.now.constraints in (
      λ t. absurd (false≢true t),
      λ met. absurd (both_ways (value vals lit) (sym c.lit_of.ensures ∙ c.if-not-lit_of.true)
          (subst (λ x. value vals x ≡ true) (get_or_from_slice_get xs c.loop-at.at lit 0 c.constraint.ensures.value)
          (met c.loop-at.at 0 (slice_get_within xs c.loop-at.at lit c.constraint.ensures.value)))),
    )

pub returns : goal.returns
returns c = (
  λ t. all_from_gets (λ l. value c.args.vals.now l ≡ true) c.args.d.now.constraints
      (λ k x h e. c.loop-at.invariant k x (omega arith) e),
  λ met. refl,
)
