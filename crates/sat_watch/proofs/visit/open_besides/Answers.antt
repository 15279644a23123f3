use Rattle.std.proofs.Common.{◌≡◌, ◌≢◌, ℕ, ◌<◌, List, length, inl, inr, sym, subst, arith}
use Rattle.std.proofs.lemmas.Bool.{OnFalse_at}
use Rattle.ja_base.specs.Literals.{bit, negated}
use Rattle.std.proofs.Common.{true}
use Rattle.sat_watch.proofs.MemberLemmas.{taken_cases, taken_all}
use Rattle.sat_watch.proofs.visit.open_besides.Goals as goal

pub loop-lit-preserved : goal.loop-lit-preserved
loop-lit-preserved c = λ m has off.
    let lits : List ℕ = c.args.lits.now in
    let at : ℕ = c.loop-lit.lit-index in
    let lit : ℕ = c.lit-item.result in
    let within : at < length lits = let t = c.loop-lit-test.true in omega arith in
    elim (taken_cases lits at lit m within (sym c.lit-item.is) has) [
      | inl old ↦ c.loop-lit.invariant m old off
      | inr new ↦
          let P : ℕ → Type 0 = λ n. n ≢ c.args.other → bit c.args.values.now (negated n) ≡ true in
          subst P new (OnFalse_at c.if-is_open_besides.false c.is_open_besides.ensures.closed) off
    ]

pub returns-clause-none : goal.returns-clause-none
returns-clause-none c = λ m has off.
    c.loop-lit.invariant m
    (taken_all c.args.lits.now c.loop-lit.lit-index m (let t = c.loop-lit-test.false in omega arith) has) off
