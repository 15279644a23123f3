-- Parts of clauses: by a core, and what the shrinking keeps.
use Rattle.std.proofs.Common.{◌≡◌, ℕ, ◌==◌, Bool, true, false, not, cond, List, [], ◌∷◌, ◌++◌, get_or, refl, sym, ap, ◌∙◌, subst, arith, ⊎_elim, ◌⊎◌}
use Rattle.std.specs.Prelude.{Contains, filter}
use Rattle.std.specs.List.{list_all}
use Rattle.std.proofs.lemmas.Bool.{or_parts, or_from, false_from_ne_true, both_ways}
use Rattle.std.proofs.lemmas.List.Elements.{All-contains, All-from_recursion, Contains-get_or, Contains-append_left, Contains-push, Contains-push_cases}
use Rattle.std.proofs.lemmas.List.Folds.{list_any_at}
use Rattle.ja_base.specs.Clauses.{IsSetOf, has_literal, is_part}
use Rattle.ja_base.specs.Literals.{negated}
use Rattle.ja_base.specs.Circuit.{Circuit}
use Rattle.ja_base.proofs.ClauseLemmas.{has_literal_decides, is_part_decides}
use Rattle.aig_model.specs.Netlist.{Netlist, circuit}
use Rattle.aig_model.specs.Task.{VerificationTask}
use Rattle.refute_check.specs.Refuted.{has_both_signs}
use Rattle.ja_project.specs.CodedClauses.{next_literal}
use Rattle.ja_project.specs.Latches.{is_foreign, is_over_latch}
use Rattle.ja_project.specs.Start.{agrees_with_reset, starts}
use Rattle.ja_project.proofs.ForeignLemmas.{all_over}
use Rattle.ic3_frames.specs.Levels.{Levels}
use Rattle.ic3_query.specs.declared.asked.Asked.{Asked}
use Rattle.ic3_query.specs.declared.asked.Asked.TheVariants.{Before, Blocked}
use Rattle.ic3_query.specs.Questions.{AnswersFor, IsBlockedBy, IsPartFor}
use Rattle.ic3_general.specs.Lifting.{without}
use Rattle.ic3_general.specs.Shrinking.{IsAfter, IsCut, IsShrunk, IsStartingPart, is_rested_on}
use Rattle.ic3_general.proofs.CubeLemmas.{all_pass, none_pass, passes_none}
use Rattle.ic3_general.proofs.DropLemmas.{first_or_later, in_filter, later}

-- ---- members and parts

abbrev pub AreAmong : List ℕ → List ℕ → Type 0
AreAmong part whole = (l : ℕ) → Contains part l → Contains whole l

pub in_filter_from : (p : ℕ → Bool) (xs : List ℕ) (m : ℕ) → Contains xs m → p m ≡ true → Contains (filter p xs) m
in_filter_from p [] m h pass = absurd (omega (arith, h.1))
in_filter_from p (x ∷ xs) m h pass = by_test (p x) refl (first_or_later x m xs h) (λ rest. in_filter_from p xs m rest pass)
  where
    by_test : (b : Bool) → p x ≡ b → ((x ≡ m) ⊎ Contains xs m) → (Contains xs m → Contains (filter p xs) m)
        → Contains (cond b (x ∷ filter p xs) (filter p xs)) m
    by_test true e at rest = ⊎_elim (λ same. (0, omega arith, same)) (λ k. later x m (filter p xs) (rest k)) at
    by_test false e at rest = ⊎_elim (λ same. absurd (both_ways (p x) e (ap p same ∙ pass))) rest at

pub part_from_members : (part whole : List ℕ) → AreAmong part whole → is_part part whole ≡ true
part_from_members part whole among =
    (is_part_decides part whole).1 (λ k d within. among (get_or part k d) (Contains-get_or part k d within))

pub members_from_part : (part whole : List ℕ) → is_part part whole ≡ true → AreAmong part whole
members_from_part part whole is l h = All-contains (Contains whole) part l ((is_part_decides part whole).0 is) h

pub part_of_part : (a b c : List ℕ) → is_part a b ≡ true → is_part b c ≡ true → is_part a c ≡ true
part_of_part a b c in_b in_c =
    part_from_members a c (λ l h. members_from_part b c in_c l (members_from_part a b in_b l h))

-- a part of a clause that may stand in a closed list may too
pub own_of_part : (c : Circuit) (part whole : List ℕ) → AreAmong part whole → is_foreign c whole ≡ false
    → is_foreign c part ≡ false
own_of_part c part whole among own =
    let parts = or_parts (has_both_signs whole) (not (list_all (is_over_latch c) whole)) own in
    or_from (has_both_signs part) (not (list_all (is_over_latch c) part))
    (none_pass (λ l. has_literal part (negated l)) part
    (λ l h. false_from_ne_true (has_literal part (negated l)) (λ t.
    both_ways (has_literal whole (negated l)) (passes_none (λ m. has_literal whole (negated m)) whole parts.0 l (among l h))
    ((has_literal_decides whole (negated l)).1 (among (negated l) ((has_literal_decides part (negated l)).0 t))))))
    (ap not (all_pass (is_over_latch c) part (λ l h.
    All-contains (λ m. is_over_latch c m ≡ true) whole l
    (All-from_recursion (λ m. is_over_latch c m ≡ true) whole (all_over c whole own)) (among l h))))

pub starts_by : (c : Circuit) (clause : List ℕ) (l : ℕ) → Contains clause l → agrees_with_reset c l ≡ true → starts c clause ≡ true
starts_by c clause l h agrees =
    list_any_at (agrees_with_reset c) clause h.0 l h.1 (ap (agrees_with_reset c) h.2 ∙ agrees)

pub without_is_among : (l : ℕ) (clause : List ℕ) → AreAmong (without l clause) clause
without_is_among l clause m h = (in_filter (λ k. not (k == l)) clause m h).0

-- ---- the part that a core needs

module _ (n : Netlist) (core clause : List ℕ) (own : is_foreign (circuit n) clause ≡ false) where
  -- what the core rests on is needed, and whatever more of the clause is kept does no harm
  part_for : (part : List ℕ) → AreAmong part clause → AreAmong (filter (is_rested_on n core) clause) part
      → IsPartFor n core clause part
  part_for part among has = record {
    within = part_from_members part clause among;
    needed = λ l there rests. has l (in_filter_from (is_rested_on n core) clause l there
        ((has_literal_decides core (negated (next_literal n.latches l))).1 rests));
  }

  pub rested_among : AreAmong (filter (is_rested_on n core) clause) clause
  rested_among l h = (in_filter (is_rested_on n core) clause l h).0

  pub cut_by_core : (part : List ℕ) → IsSetOf (filter (is_rested_on n core) clause) part → starts (circuit n) part ≡ true
      → IsCut n core clause part
  cut_by_core part set begins =
      let among : AreAmong part clause = λ l h. rested_among l ((set.members l).0 h) in
      record {
        rests = part_for part among (λ l h. (set.members l).1 h);
        own = own_of_part (circuit n) part clause among own;
        begins = begins;
      }

  pub cut_with_start : (part : List ℕ) (l : ℕ) → IsSetOf (filter (is_rested_on n core) clause ++ l ∷ []) part
      → Contains clause l → agrees_with_reset (circuit n) l ≡ true → IsCut n core clause part
  cut_with_start part l set there agrees =
      let lits : List ℕ = filter (is_rested_on n core) clause in
      let among : AreAmong part clause = λ m h. ⊎_elim (rested_among m) (λ same. subst (Contains clause) same there)
      (Contains-push_cases lits l m ((set.members m).0 h)) in
      record {
        rests = part_for part among (λ m h. (set.members m).1 (Contains-append_left lits (l ∷ []) m h));
        own = own_of_part (circuit n) part clause among own;
        begins = starts_by (circuit n) part l ((set.members l).1 (Contains-push lits l)) agrees;
      }

-- ---- what is left

module _ (t : VerificationTask) (known : List (List ℕ)) (f : Levels) (k : ℕ) where
  pub shrunk_by_cut : (clause core part : List ℕ) → IsBlockedBy t known f k clause core → IsCut t.design core clause part
      → IsShrunk t known f k clause part
  shrunk_by_cut clause core part blocked cut = record {
    starting = record { within = cut.rests.within; own = cut.own; begins = cut.begins };
    kept = blocked.parts part cut.rests;
  }

  pub shrunk_again : (clause left now : List ℕ) → IsShrunk t known f k clause left → IsShrunk t known f k left now
      → IsShrunk t known f k clause now
  shrunk_again clause left now first second = record {
    starting = record {
      within = part_of_part now left clause second.starting.within first.starting.within;
      own = second.starting.own;
      begins = second.starting.begins;
    };
    kept = second.kept;
  }

  pub shrunk_itself : (clause left : List ℕ) → IsShrunk t known f k clause left → IsShrunk t known f k left left
  shrunk_itself clause left is = record {
    starting = record {
      within = part_from_members left left (λ l h. h);
      own = is.starting.own;
      begins = is.starting.begins;
    };
    kept = is.kept;
  }

  pub shrunk_after : (left tried now : List ℕ) (values : List Bool) (asked : Asked) → IsShrunk t known f k left left
      → IsStartingPart t.design left tried → AnswersFor t known f k tried values asked → IsAfter t.design left tried asked now
      → IsShrunk t known f k left now
  shrunk_after left tried now values Before is part answer same = subst (IsShrunk t known f k left) (sym same) is
  shrunk_after left tried now values (Blocked core) is part answer cut =
      let less = shrunk_by_cut tried core now answer cut in
      record {
        starting = record {
          within = part_of_part now tried left less.starting.within part.within;
          own = cut.own;
          begins = cut.begins;
        };
        kept = less.kept;
      }
