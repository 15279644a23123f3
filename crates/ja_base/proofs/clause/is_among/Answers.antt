use Rattle.std.proofs.Common.{◌≡◌, ◌∙◌, ◌+◌, ◌-◌, ◌<◌, ℕ, List, length, take, drop, refl, sym, subst, ap, arith}
use Rattle.std.proofs.Math.Seq.{take-length}
use Rattle.std.proofs.lemmas.List.{length-drop}
use Rattle.std.proofs.lemmas.Bool.Decides.{nat_tests}
use Rattle.ja_base.proofs.ClauseLemmas.{IsSought, Ascends-from_increasing, is_absent, is_found, is_passed, is_done}
use Rattle.ja_base.proofs.clause.is_among.Goals as goal
use Rattle.ja_base.proofs.clause.is_among.Goals.{then-eq, else-eq}

pub loop-lit-init : goal.loop-lit-init
loop-lit-init c = record {
  wanted_ascends = Ascends-from_increasing _ c.requires.part;
  rest_ascends = Ascends-from_increasing _ c.requires.whole;
  same = refl;
}

pub returns-then-lt : goal.returns-then-lt
returns-then-lt c =
    let i : ℕ = c.loop-lit.lit-index in
    let all : List ℕ = c.args.whole.now in
    let within : i < length all = omega arith in
    let below : c.first-item.result < c.lit-item.result = grind (arith, nat_tests) in
    sym (is_absent c.first-item.result c.lit-item.result i c.loop-lit.wanted.now all c.in-len1-up.len_at_least
    c.first-item.is within c.lit-item.is below c.loop-lit.invariant)

pub loop-lit-preserved : goal.loop-lit-preserved
loop-lit-preserved c =
    let i : ℕ = c.loop-lit.lit-index in
    let all : List ℕ = c.args.whole.now in
    let within : i < length all = omega arith in
    let x : ℕ = c.first-item.result in
    let y : ℕ = c.lit-item.result in
    elim c.if-eq.branch [
      | then-eq w ↦
          let same : x ≡ y = grind (arith, nat_tests) in
          let wanted : List ℕ = c.loop-lit.wanted.now in
          let all_left : take (length wanted - 1) (drop 1 wanted) ≡ drop 1 wanted =
          ap (λ n. take n (drop 1 wanted)) (sym (length-drop 1 wanted)) ∙ take-length (drop 1 wanted) in
          let P : List ℕ → Type 0 = λ v. IsSought c.args.part.now c.args.whole.now v (drop (i + 1) all) in
          rw w.wanted-is (subst P (sym all_left) (is_found x y i wanted all c.in-len1-up.len_at_least
          c.first-item.is within c.lit-item.is same c.loop-lit.invariant))
      | else-eq w ↦
          let below : y < x = grind (arith, nat_tests) in
          rw w.wanted-is (is_passed x y i c.loop-lit.wanted.now all c.in-len1-up.len_at_least c.first-item.is within
          c.lit-item.is below c.loop-lit.invariant)
    ]

pub returns : goal.returns
returns c =
    c.is_empty.ensures ∙ is_done c.loop-lit.lit-index c.loop-lit.wanted.now c.args.whole.now c.loop-lit-test.false
    c.loop-lit.invariant
