-- A closed list and the clauses behind it, once they are joined: the same clauses.
use Rattle.std.proofs.Common.{◌≡◌, ℕ, ◌+◌, Bool, true, false, not, List, [], ◌++◌, sym, ap, ◌∙◌, subst}
use Rattle.std.specs.Prelude.{All, Contains}
use Rattle.std.proofs.lemmas.Bool.{false≢true}
use Rattle.std.proofs.lemmas.List.{append-nil}
use Rattle.ja_base.specs.Circuit.{Circuit}
use Rattle.ja_base.specs.ClauseSets.{joined}
use Rattle.ja_base.specs.Invariants.{Covers, MeetsClauses, latch_value}
use Rattle.ja_base.specs.Literals.{SatisfiedBy}
use Rattle.ja_base.specs.Valuation.{latch_row}
use Rattle.ja_base.proofs.JoinLemmas.{joined_has_both, joined_has_no_other}
use Rattle.aig_model.specs.Netlist.{circuit}
use Rattle.aig_model.specs.Task.{VerificationTask, problem}
use Rattle.inv_cert.proofs.InductionLemmas.{All-part}
use Rattle.ic3_frames.specs.Levels.{AreLevels, Levels, is_blocked}
use Rattle.ic3_frames.specs.Soundness.{IsIn}
use Rattle.ic3_oblig.specs.declared.obligation.Obligation.{Obligation}
use Rattle.ic3_query.specs.Known.{KnownList, all_of}
use Rattle.ic3_query.specs.Questions.{BadFor, IsGoodFrom}
use Rattle.ic3_query.specs.Serving.{Serves}
use Rattle.ic3_engine.proofs.KeepLemmas.{all_above_top}
use Rattle.ic3_engine.specs.Climbing.{IsEngine}
use Rattle.ic3_engine.specs.Knowing.{IsBreak}
use Rattle.ic3_engine.specs.Turns.{state}
use Rattle.ic3_engine.proofs.SettleLemmas.{sound_where_more}

abbrev Says : Circuit → List (List ℕ) → List (List ℕ) → Type 0
Says c some others = (s : List Bool) → MeetsClauses c s some → MeetsClauses c s others

part_says : (c : Circuit) (many few : List (List ℕ)) → All (Contains many) few → Says c many few
part_says c many few part s met = All-part (SatisfiedBy (latch_value c.latches s)) many few met part

-- a solver serves where the same is known in other words
serves_same : (t : VerificationTask) (known other : List (List ℕ)) (f : Levels) (count : ℕ) (clauses : List (List ℕ))
    → Says (circuit t.design) known other → Says (circuit t.design) other known → Serves t.design known f count clauses
    → Serves t.design other f count clauses
serves_same t known other f count clauses there back serves = record {
  width = serves.width;
  small = serves.small;
  holds = record {
    step = λ row met. let step = serves.holds.step row met in
        record { coded = step.coded; known_met = there (latch_row (circuit t.design) row) step.known_met };
    level = serves.holds.level;
  };
  fits = λ row step k in_level exactly. serves.fits row
      (record { coded = step.coded; known_met = back (latch_row (circuit t.design) row) step.known_met }) k in_level exactly;
}

joined_all : (k j : KnownList) → j.list ≡ joined k.list k.own → j.own ≡ [] → all_of j ≡ joined k.list k.own
joined_all k j list own =
    ap (λ (xs : List (List ℕ)). j.list ++ xs) own ∙ append-nil j.list ∙ list

module _ (t : VerificationTask) (k j : KnownList) (list : j.list ≡ joined k.list k.own) (own : j.own ≡ []) where
  there : Says (circuit t.design) (all_of k) (all_of j)
  there = subst (Says (circuit t.design) (all_of k)) (sym (joined_all k j list own))
      (part_says (circuit t.design) (all_of k) (joined k.list k.own) (joined_has_no_other k.list k.own))

  back : Says (circuit t.design) (all_of j) (all_of k)
  back = subst (λ (known : List (List ℕ)). Says (circuit t.design) known (all_of k)) (sym (joined_all k j list own))
      (part_says (circuit t.design) (joined k.list k.own) (all_of k) (joined_has_both k.list k.own))

  pub engine_closed : (f : Levels) (queue : List Obligation) (count : ℕ) (added : List (List ℕ)) → problem j.task ≡ problem t
      → IsEngine t (state k f queue count added) → IsEngine t (state j f queue count added)
  engine_closed f queue count added task e = record {
    search = record {
      core = record {
        sound = sound_where_more (circuit t.design) t.expected (all_of k) (all_of j) f.kept back e.search.core.sound;
        apart = e.search.core.apart;
        own = e.search.core.own;
        levels = e.search.core.levels;
        serves = serves_same t (all_of k) (all_of j) f count added there back e.search.core.serves;
      };
      low = e.search.low;
      blocked = All-part (λ c. is_blocked f.kept f.top c ≡ true) (all_of k) (all_of j) e.search.blocked
          (subst (All (Contains (all_of k))) (sym (joined_all k j list own)) (joined_has_no_other k.list k.own));
    };
    task = task;
    high = e.high;
  }

  pub covers_closed : (p : ℕ) → Covers (circuit t.design) (all_of k) p → Covers (circuit t.design) (all_of j) p
  covers_closed p covers s x v step met constrained = covers s x v step (back s met) constrained

pub proved_covers : (c d : Circuit) (k : KnownList) (clauses : List (List ℕ)) (p : ℕ) → Covers c (all_of k) p → d ≡ c → k.own ≡ []
    → clauses ≡ k.list → Covers d clauses p
proved_covers c d k clauses p covers same own is =
    let known : all_of k ≡ clauses = ap (λ (xs : List (List ℕ)). k.list ++ xs) own ∙ append-nil k.list ∙ sym is in
    subst (λ (e : Circuit). Covers e clauses p) (sym same) (subst (λ (xs : List (List ℕ)). Covers c xs p) known covers)

-- what no row above the top breaks, what is known covers
pub good_above_covers : (t : VerificationTask) (known : List (List ℕ)) (f : Levels) (above p : ℕ) → AreLevels f → above ≡ f.top + 1
    → IsGoodFrom t known f above p → Covers (circuit t.design) known p
good_above_covers t known f above p levels is good s x v step met constrained =
    good s x v step met (subst (λ k. IsIn (circuit t.design) f.kept k s) (sym is) (all_above_top t f s levels)) constrained

pub asked_is_engine : (t : VerificationTask) (k : KnownList) (f : Levels) (queue : List Obligation) (count after : ℕ)
    (added more : List (List ℕ)) → IsEngine t (state k f queue count added) → after ≡ count → more ≡ added
    → IsEngine t (state k f queue after more)
asked_is_engine t k f queue count after added more e count_is added_is =
    subst (λ n. IsEngine t (state k f queue n more)) (sym count_is)
    (subst (λ (cs : List (List ℕ)). IsEngine t (state k f queue count cs)) (sym added_is) e)

-- the same, seen from the answer of the question
pub not_bad_covers : (t : VerificationTask) (known : List (List ℕ)) (f : Levels) (above p : ℕ) (values : List Bool) (breaks : Bool)
    → AreLevels f → above ≡ f.top + 1 → BadFor t known f above p values breaks → not breaks ≡ true → Covers (circuit t.design) known p
not_bad_covers t known f above p values true levels is answer holds = absurd (false≢true holds)
not_bad_covers t known f above p values false levels is answer holds = good_above_covers t known f above p levels is answer

pub bad_breaks : (t : VerificationTask) (known : List (List ℕ)) (f : Levels) (above p : ℕ) (values : List Bool) (breaks : Bool)
    → BadFor t known f above p values breaks → not breaks ≡ false → IsBreak (circuit t.design) p values
bad_breaks t known f above p values true answer holds = record { step = answer.now; constrained = answer.constrained; bad = answer.bad }
bad_breaks t known f above p values false answer holds = absurd (false≢true (sym holds))
