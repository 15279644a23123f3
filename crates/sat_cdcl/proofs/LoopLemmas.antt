-- What a search keeps over a turn, and what it answers with.
use Rattle.std.proofs.Common.{◌≡◌, ℕ, ◌^◌, ◌≤◌, Bool, false, List, [], length, take, Some, None, is_none, slice_get, refl, sym, subst, ◌∙◌, ap, arith, append-nil}
use Rattle.std.specs.List.{Contains}
use Rattle.std.proofs.lemmas.Bool.{both_ways}
use Rattle.std.proofs.lemmas.List.{take_at}
use Rattle.std.proofs.lemmas.List.Elements.{All-append, All-nil, All-same, All-take}
use Rattle.std.proofs.lemmas.Option.{get_or_from_slice_get, slice_get_within}
use Rattle.ja_base.specs.Literals.{value, SatisfiedBy}
use Rattle.ja_base.specs.declared.meter.Meter.{Meter}
use Rattle.refute_check.specs.Laws.{AreAccepted, with_lines}
use Rattle.refute_check.specs.Refuted.{is_covered}
use Rattle.refute_check.specs.declared.lines.Line.{Line}
use Rattle.refute_check.specs.declared.lines.Refuted.{Refuted}
use Rattle.sat_plain.specs.declared.place.Place.{Place}
use Rattle.sat_plain.specs.Trails.{lits_of, kinds_of}
use Rattle.sat_plain.specs.Rank.{rank}
use Rattle.sat_plain.specs.Ticks.{TicksAtMost}
use Rattle.sat_plain.specs.Payments.{Spends}
use Rattle.sat_plain.specs.Turns.{IsLog, IsModel, IsFurther}
use Rattle.sat_plain.specs.Outcomes.{SpendsFor, IsRefutation}
use Rattle.sat_plain.proofs.RankLemmas.{rank_below}
use Rattle.sat_plain.proofs.SearchLemmas.{spends_none, spends_chain, log_none}
use Rattle.sat_watch.specs.declared.step.Step.{Step}
use Rattle.sat_watch.specs.Steps.{IsForcedOn, IsStep}
use Rattle.sat_cdcl.specs.declared.query.Query.{Query}
use Rattle.sat_cdcl.specs.Files.{Filed, IsKept, AreForcedAll, list_of, places_of}
use Rattle.sat_cdcl.specs.Assumptions.{IsAssuming}
use Rattle.sat_cdcl.specs.Turns.{IsUnderWay, IsOnward, IsRefuting}
use Rattle.sat_cdcl.proofs.FileLemmas.{kept_none, kept_chain}
use Rattle.sat_cdcl.proofs.SearchLemmas.{root_grown}

-- what the loop of the search keeps
pub record IsSearching (under : List ℕ) (first : Filed) (start : Meter) (filed : Filed) (query : Query) (step : Step)
    (now : Meter) : Type 0 where
  pub kept : IsKept first filed
  pub under_way : IsUnderWay under filed query
  pub step_is : IsStep filed.watched step
  pub log : IsLog first.watched.trail.vars (list_of first) query.lines (list_of filed)
  pub few : length query.lines ≤ rank first.watched.trail.vars (kinds_of (places_of filed))
  pub paid : Spends start now (length query.lines)

pub searching_first : (under : List ℕ) (first : Filed) (start : Meter) (query : Query) (step : Step)
    → IsUnderWay under first query → IsStep first.watched step → query.lines ≡ []
    → IsSearching under first start first query step start
searching_first under first start query step under_way step_is e = record {
  kept = kept_none first first refl refl refl refl;
  under_way = under_way;
  step_is = step_is;
  log = let P : List Line → Type 0 = λ v. IsLog first.watched.trail.vars (list_of first) v (list_of first) in
      subst P (sym e) (log_none first.watched.trail.vars (list_of first));
  few = omega (arith, ap length e);
  paid = let P : ℕ → Type 0 = Spends start start in subst P (sym (ap length e)) (spends_none start);
}

pub searching_more : (under : List ℕ) (first : Filed) (start : Meter) (a b : Filed) (q q' : Query) (step next : Step)
    (now then : Meter) → IsSearching under first start a q step now → IsKept a b → IsOnward under a q b q' next
    → SpendsFor now then (length q.lines) (length q'.lines) → IsSearching under first start b q' next then
searching_more under first start a b q q' step next now then h kept onward spends =
    let v : a.watched.trail.vars ≡ first.watched.trail.vars = h.kept.vars in
    let L : ℕ → Type 0 = λ n. IsLog n (list_of first) q.lines (list_of a) in
    let M : ℕ → Type 0 = λ n. IsLog n (list_of first) q'.lines (list_of b) in
    let F : ℕ → Type 0 = λ n. IsFurther n (places_of a) (places_of b) in
    let further : IsFurther first.watched.trail.vars (places_of a) (places_of b) = subst F v onward.further in
    record {
      kept = kept_chain first a b h.kept kept;
      under_way = onward.under_way;
      step_is = onward.step_is;
      log = subst M v (onward.logged.log (list_of first) (subst L (sym v) h.log));
      few = omega (arith, h.few, onward.logged.few, further);
      paid = let P : ℕ → Type 0 = Spends start then in
          subst P (sym spends.1) (spends_chain start now then (length q.lines) spends.0 h.paid spends.2);
    }

-- the count of units stays within the bound, also with one more
pub within_bound : (under : List ℕ) (first : Filed) (start : Meter) (a : Filed) (q : Query) (step : Step) (now then : Meter)
    → IsSearching under first start a q step now → TicksAtMost now then 1
    → TicksAtMost start then (3 ^ first.watched.trail.vars)
within_bound under first start a q step now then h one =
    let paid = h.paid in
    let few = h.few in
    let below = rank_below first.watched.trail.vars (kinds_of (places_of a)) in
    omega (arith, paid.most, paid.refused)

-- ---- answers

pub model_front : (under : List ℕ) (first a b : Filed) (row : List Bool) → IsKept first a → IsKept a b
    → IsModel a.watched.trail.vars (list_of b) under row → IsModel first.watched.trail.vars (list_of first) under row
model_front under first a b row h k m =
    let whole = kept_chain first a b h k in
    let old : List (List ℕ) = list_of first in record {
      width = m.width ∙ h.vars;
      clauses_hold =
          All-same (SatisfiedBy (value row)) old (take (length old) (list_of b))
          (sym (ap (take (length old)) whole.list ∙ take_at old whole.more (length old) refl))
          (All-take (SatisfiedBy (value row)) (length old) (list_of b) m.clauses_hold);
      lits_hold = m.lits_hold;
    }

pub refutation_of : (under : List ℕ) (first : Filed) (start : Meter) (a b : Filed) (q q' : Query) (step : Step) (now : Meter)
    (refuted : Refuted) → refuted.lines ≡ q'.lines → IsSearching under first start a q step now
    → IsRefuting under a q b q' refuted.core
    → IsRefutation first.watched.trail.vars (list_of first) under refuted
refutation_of under first start a b q q' step now refuted e h r =
    let v : a.watched.trail.vars ≡ first.watched.trail.vars = h.kept.vars in
    let L : ℕ → Type 0 = λ n. IsLog n (list_of first) q.lines (list_of a) in
    let M : ℕ → Type 0 = λ n. IsLog n (list_of first) q'.lines (list_of b) in
    let log : IsLog first.watched.trail.vars (list_of first) q'.lines (list_of b) =
    subst M v (r.logged.log (list_of first) (subst L (sym v) h.log)) in
    let Q : List Line → Type 0 = AreAccepted first.watched.trail.vars (list_of first) in record {
      part = r.core_is.part;
      accepted = subst Q (sym e) log.accepted;
      covered = ap (λ v. is_covered (with_lines (list_of first) v) refuted.core) e
          ∙ ap (λ v. is_covered v refuted.core) (sym log.is) ∙ r.core_is.covered;
    }

-- ---- places that are forced

pub forced_all : (before after : List Place) → AreForcedAll before → IsForcedOn before after → AreForcedAll after
forced_all before after all h =
    let P : List Place → Type 0 = AreForcedAll in
    subst P (sym h.is) (All-append (λ (p : Place). is_none p.reason ≡ false) before h.more all h.forced)

no_decision : (places : List Place) (p : ℕ) (place : Place) → AreForcedAll places → slice_get places p ≡ Some place
    → place.reason ≡ None → ⊥
no_decision places p place all e decided =
    let R : Place → Type 0 = λ k. is_none k.reason ≡ false in
    let no : is_none place.reason ≡ false =
    subst R (get_or_from_slice_get places p place place e) (all p place (slice_get_within places p place e)) in
    both_ways (is_none place.reason) no (ap is_none decided)

pub assuming_first : (under : List ℕ) (places : List Place) → AreForcedAll places → IsAssuming under places None 0
assuming_first under places all = record {
  decisions = λ p place _ e decided. absurd (no_decision places p place all e decided);
  first = All-nil (Contains (lits_of places));
}

-- what propagation leaves
pub kept_forced : (a b : Filed) → b.watched.trail.vars ≡ a.watched.trail.vars → IsForcedOn (places_of a) (places_of b)
    → b.slots ≡ a.slots → list_of b ≡ list_of a → IsKept a b
kept_forced a b vars h slots list = record {
  vars = vars;
  root = root_grown (places_of a) (places_of b) (record { more = h.more; is = h.is });
  more_slots = [];
  slots = slots ∙ sym (append-nil a.slots);
  more = [];
  list = list ∙ sym (append-nil (list_of a));
}
