-- What a question over the design and what is known says of a property.
use Rattle.std.proofs.Common.{◌≡◌, ℕ, ◌+◌, ◌↔◌, Bool, true, false, List, [], ◌∷◌, ◌++◌, append-nil, refl, sym, ap, subst, ◌∙◌, arith}
use Rattle.std.proofs.lemmas.List.Elements.{All-append, All-cons, All-nil}
use Rattle.ja_base.specs.Circuit.{Circuit, bad_literal}
use Rattle.ja_base.specs.Literals.{value, SatisfiedBy, AllSatisfiedBy}
use Rattle.ja_base.specs.Valuation.{IsBad, IsValuation, MeetsConstraints, latch_row}
use Rattle.ja_base.specs.Invariants.{Covers, MeetsClauses}
use Rattle.aig_model.specs.Netlist.{IsSound, circuit}
use Rattle.aig_model.specs.Task.{VerificationTask}
use Rattle.sat_plain.specs.Probed.{Closes, IsFront}
use Rattle.ja_project.specs.CodedClauses.{coded_clauses}
use Rattle.ja_project.specs.Meaning.{IsLegalStep}
use Rattle.ja_project.proofs.StepLemmas.{clauses_mean_steps}
use Rattle.ja_project.proofs.ValueLemmas.{met_now, met_back}
use Rattle.inv_cert.specs.Queries.{cover_clauses}
use Rattle.ic3_query.specs.Known.{AreOwn, KnownList, all_of}
use Rattle.ic3_query.proofs.RowLemmas.{all_of_part}
use Rattle.ic3_query.proofs.ServeLemmas.{first_part, second_part}

pub both : (b : Bool) → b ≡ true → b ≡ false → ⊥
both true e f = cc
both false e f = cc

module _ (t : VerificationTask) (known : List (List ℕ)) (p bad : ℕ) (sound : IsSound t.design) (own : AreOwn (circuit t.design) known)
    (meaning : (v : List Bool) → (value v bad ≡ true) ↔ IsBad (circuit t.design) p v) where
  abbrev c : Circuit
  c = circuit t.design

  -- a step from a row that meets what is known meets the clauses
  met : (s x v : List Bool) → IsValuation c s x v → MeetsClauses c s known → MeetsConstraints c v
      → AllSatisfiedBy (value v) (cover_clauses t known)
  met s x v now known_met constrained =
      let P : List Bool → Type 0 = λ state. MeetsClauses c state known in
      All-append (SatisfiedBy (value v)) (coded_clauses t.design) known
      ((clauses_mean_steps t.design sound v now.width).1 (s, x, now, constrained))
      (met_now c v known own (subst P (sym now.latches) known_met))

  pub closed_covers : (core : List ℕ) → Closes (t.design.vars + 1) (cover_clauses t known) (bad ∷ []) core
      → Covers (circuit t.design) known p
  closed_covers core closes s x v now known_met constrained = by_case (value v (bad_literal c p)) refl
    where
      P : ℕ → Type 0
      P l = value v l ≡ true

      by_case : (b : Bool) → value v (bad_literal c p) ≡ b → b ≡ false
      by_case false e = refl
      by_case true e = absurd (closes.refuted v (record {
        width = now.width;
        clauses_hold = met s x v now known_met constrained;
        under_holds = all_of_part P core (bad ∷ []) closes.part (All-cons P bad [] ((meaning v).1 e) (All-nil P));
      }))

  pub open_not_covers : (row : List Bool) → IsFront (t.design.vars + 1) (cover_clauses t known) (bad ∷ []) row
      → Covers (circuit t.design) known p → ⊥
  open_not_covers row front covers =
      let v : List Bool = front.whole in
      let all = front.meets.clauses_hold in
      let legal : IsLegalStep t.design v =
      (clauses_mean_steps t.design sound v front.meets.width).0 (first_part v (coded_clauses t.design) known all) in
      let there : MeetsClauses c (latch_row c v) known =
      met_back c v known own (second_part v (coded_clauses t.design) known all) in
      let P : List Bool → Type 0 = λ state. MeetsClauses c state known in
      both (value v (bad_literal c p)) ((meaning v).0 (front.meets.under_holds 0 0 (omega arith)))
      (covers legal.0 legal.1 v legal.2 (subst P legal.2.latches there) legal.3)

-- ---- the same by what a solver answered

pub front_of : (t : VerificationTask) (known : List (List ℕ)) (bad count : ℕ) (added : List (List ℕ)) (row : List Bool)
    → count ≡ t.design.vars + 1 → added ≡ cover_clauses t known → IsFront count added (bad ∷ []) row
    → IsFront (t.design.vars + 1) (cover_clauses t known) (bad ∷ []) row
front_of t known bad count added row count_is added_is front =
    subst (λ n. IsFront n (cover_clauses t known) (bad ∷ []) row) count_is
    (subst (λ (cs : List (List ℕ)). IsFront count cs (bad ∷ []) row) added_is front)

pub core_of : (t : VerificationTask) (known : List (List ℕ)) (bad count : ℕ) (added : List (List ℕ)) (core : List ℕ)
    → count ≡ t.design.vars + 1 → added ≡ cover_clauses t known → Closes count added (bad ∷ []) core
    → Closes (t.design.vars + 1) (cover_clauses t known) (bad ∷ []) core
core_of t known bad count added core count_is added_is closes =
    subst (λ n. Closes n (cover_clauses t known) (bad ∷ []) core) count_is
    (subst (λ (cs : List (List ℕ)). Closes count cs (bad ∷ []) core) added_is closes)

-- what a list covers, it covers where it alone is known
pub covers_known : (c : Circuit) (k : KnownList) (view : List (List ℕ)) (p : ℕ) → k.list ≡ view → k.own ≡ [] → Covers c view p
    → Covers c (all_of k) p
covers_known c k view p list own covers =
    subst (λ (known : List (List ℕ)). Covers c known p)
    (sym (ap (λ (xs : List (List ℕ)). k.list ++ xs) own ∙ append-nil k.list ∙ list)) covers
