-- What the search of a question without a log keeps, and what it answers with.
use Rattle.std.proofs.Common.{◌≡◌, ℕ, ◌+◌, ◌*◌, ◌^◌, ◌<◌, ◌≤◌, Bool, false, List, length, get_or, map, Option, Some, None, refl, sym, subst, ◌∙◌, arith}
use Rattle.std.specs.List.{All, range_with_len}
use Rattle.std.proofs.lemmas.List.FromFn.{length-map-range_with_len, get_or-map-range_with_len}
use Rattle.std.proofs.lemmas.List.Elements.{Contains-get_or}
use Rattle.ja_base.specs.Literals.{bit}
use Rattle.ja_base.specs.Clauses.{IsBelow}
use Rattle.ja_base.specs.Trails.{IsTrail}
use Rattle.ja_base.specs.declared.meter.Meter.{Meter}
use Rattle.refute_check.specs.Checked.{Follows}
use Rattle.sat_plain.specs.Probed.{IsOpen, IsProbed}
use Rattle.sat_plain.specs.Payments.{Spends}
use Rattle.sat_plain.specs.Rank.{rank}
use Rattle.sat_plain.specs.Ticks.{TicksAtMost}
use Rattle.sat_plain.specs.Trails.{lits_of, kinds_of}
use Rattle.sat_plain.specs.Turns.{IsFurther}
use Rattle.sat_plain.specs.declared.probe.Probed.{Probed}
use Rattle.sat_plain.specs.declared.probe.Probed.TheVariants.{Open, Closed, Spent, Stopped, Memory}
use Rattle.sat_plain.proofs.RankLemmas.{rank_below}
use Rattle.sat_plain.proofs.SearchLemmas.{spends_none, spends_chain}
use Rattle.sat_watch.specs.declared.step.Step.{Step}
use Rattle.sat_watch.specs.Steps.{IsStep}
use Rattle.sat_cdcl.specs.declared.question.Question.{Question}
use Rattle.sat_cdcl.specs.Files.{Filed, IsKept, IsNumbered, list_of, places_of}
use Rattle.sat_cdcl.specs.Turns.{IsUnderWay}
use Rattle.sat_cdcl.specs.Questions.{LearnsOn, IsAhead, IsSettled, SpendsOne}
use Rattle.sat_cdcl.proofs.FileLemmas.{kept_none, kept_chain}
use Rattle.sat_cdcl.proofs.RowLemmas.{row_of}
use Rattle.sat_cdcl.proofs.QuestionLemmas.{closes_by}

-- what the loop of the search keeps
pub record IsProbing (under : List ℕ) (first : Filed) (given : Question) (start : Meter) (filed : Filed)
    (question : Question) (step : Step) (now : Meter) : Type 0 where
  pub kept : IsKept first filed
  pub learns : LearnsOn first given filed question
  pub under_way : IsUnderWay under filed question.query
  pub step_is : IsStep filed.watched step
  pub units : ℕ
  pub few : units ≤ rank first.watched.trail.vars (kinds_of (places_of filed))
  pub paid : Spends start now units

pub probing_first : (under : List ℕ) (first : Filed) (given : Question) (start : Meter) (step : Step)
    → IsUnderWay under first given.query → IsStep first.watched step → IsProbing under first given start first given step start
probing_first under first given start step under_way step_is = record {
  kept = kept_none first first refl refl refl refl;
  learns = λ added extra h. h;
  under_way = under_way;
  step_is = step_is;
  units = 0;
  few = omega arith;
  paid = spends_none start;
}

pub probing_more : (under : List ℕ) (first : Filed) (given : Question) (start : Meter) (a b : Filed) (q q' : Question)
    (step next : Step) (now then : Meter) → IsProbing under first given start a q step now → IsKept a b → LearnsOn a q b q'
    → IsAhead under a b q'.query next → SpendsOne now then → IsProbing under first given start b q' next then
probing_more under first given start a b q q' step next now then h kept learns ahead spends =
    let F : ℕ → Type 0 = λ n. IsFurther n (places_of a) (places_of b) in
    let further : IsFurther first.watched.trail.vars (places_of a) (places_of b) = subst F h.kept.vars ahead.further in
    record {
      kept = kept_chain first a b h.kept kept;
      learns = λ added extra l. learns added extra (h.learns added extra l);
      under_way = ahead.under_way;
      step_is = ahead.step_is;
      units = h.units + spends.0;
      few = let one = spends.1 in omega (arith, h.few, further, one);
      paid = spends_chain start now then h.units spends.0 h.paid spends.2;
    }

-- the count of units stays within the bound, also with one more
pub within_bound : (under : List ℕ) (first : Filed) (given : Question) (start : Meter) (a : Filed) (q : Question) (step : Step)
    (now then : Meter) → IsProbing under first given start a q step now → TicksAtMost now then 1
    → TicksAtMost start then (3 ^ first.watched.trail.vars)
within_bound under first given start a q step now then h one =
    let paid = h.paid in
    let few = h.few in
    let below = rank_below first.watched.trail.vars (kinds_of (places_of a)) in
    omega (arith, paid.most, paid.refused)

-- ---- answers

-- the bit of each variable
bits_of : ℕ → List Bool → List Bool
bits_of n values = map (λ v. bit values (2 * v)) (range_with_len 0 n)

bits_length : (n : ℕ) (values : List Bool) → length (bits_of n values) ≡ n
unfolding bits_of
bits_length n values = length-map-range_with_len (λ v. bit values (2 * v)) 0 n

bits_at : (n : ℕ) (values : List Bool) (v : ℕ) → v < n → bit (bits_of n values) v ≡ bit values (2 * v)
unfolding bits_of
bits_at n values v less = get_or-map-range_with_len (λ k. bit values (2 * k)) 0 n v v false less (omega arith)

-- where all variables are to be decided, the row is the front of one that meets all
pub open_of : (under : List ℕ) (among : Option (List ℕ)) (filed : Filed) (row : List Bool)
    → IsTrail filed.watched.trail.vars filed.watched.trail.values (lits_of (places_of filed))
    → IsNumbered filed.watched.store filed.slots → All (IsBelow filed.watched.trail.vars) (list_of filed)
    → IsSettled under among filed
    → ((v : ℕ) → v < length row → v < filed.watched.trail.vars → bit row v ≡ bit filed.watched.trail.values (2 * v))
    → IsOpen filed.watched.trail.vars (list_of filed) under among row
open_of under (Some vars) filed row is numbered below h bits = tt
open_of under None filed row is numbered below h bits =
    let vars : ℕ = filed.watched.trail.vars in
    let whole : List Bool = bits_of vars filed.watched.trail.values in
    let model = row_of filed whole under is h.full numbered h.quiet below (bits_length vars filed.watched.trail.values)
    (bits_at vars filed.watched.trail.values) h.holds in
    record {
      whole = whole;
      meets = record {
        width = model.width;
        clauses_hold = model.clauses_hold;
        under_holds = λ k d less. model.lits_hold (get_or under k d) (Contains-get_or under k d less);
      };
      same = λ v short less. bits v short less ∙ sym (bits_at vars filed.watched.trail.values v less);
    }

-- over clauses that hold just where these do
pub probed_by : (vars : ℕ) (clauses list : List (List ℕ)) (under : List ℕ) (among : Option (List ℕ)) (row : List Bool)
    (found : Probed) → Follows clauses list → Follows list clauses → IsProbed vars list under among row found
    → IsProbed vars clauses under among row found
probed_by vars clauses list under among row Open sound whole h = open_by among h
  where
    open_by : (o : Option (List ℕ)) → IsOpen vars list under o row → IsOpen vars clauses under o row
    open_by (Some v) k = tt
    open_by None k = record {
      whole = k.whole;
      meets = record {
        width = k.meets.width;
        clauses_hold = whole k.whole k.meets.clauses_hold;
        under_holds = k.meets.under_holds;
      };
      same = k.same;
    }
probed_by vars clauses list under among row (Closed core) sound whole h = closes_by vars clauses list under core sound h
probed_by vars clauses list under among row Spent sound whole h = tt
probed_by vars clauses list under among row Stopped sound whole h = tt
probed_by vars clauses list under among row Memory sound whole h = tt
