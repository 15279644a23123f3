-- What a turn of the search leaves.
use Rattle.std.proofs.Common.{◌≡◌, ℕ, ◌+◌, ◌<◌, ◌≤◌, true, List, [], ◌∷◌, ◌++◌, length, get_or, map, take, Option, Some, None, slice_get, inl, inr, refl, sym, subst, ◌∙◌, ap, arith, append_assoc, append-nil}
use Rattle.std.specs.List.{All, Contains, list_any, list_all}
use Rattle.std.proofs.lemmas.Bool.Decides.{eqb_tells, Decides-by_and}
use Rattle.std.proofs.lemmas.Bool.{or_left}
use Rattle.std.proofs.lemmas.List.{length-take, length-map, length_push, take-append-le, take-take, map_push, get_or-map, get_or_push}
use Rattle.std.proofs.lemmas.List.Elements.{All-push, Contains-get_or}
use Rattle.std.proofs.lemmas.List.Recursion.{or_at}
use Rattle.std.proofs.lemmas.Option.{get_or_from_slice_get, slice_get_within, slice_get-get_or, same_Some}
use Rattle.ja_base.specs.Literals.{negated}
use Rattle.ja_base.specs.Clauses.{IsBelow, has_literal}
use Rattle.ja_base.proofs.LiteralLemmas.{negated_twice}
use Rattle.ja_base.proofs.ClauseLemmas.{has_literal_decides}
use Rattle.refute_check.specs.Checked.{Numbering}
use Rattle.refute_check.specs.Lines.{refusal}
use Rattle.refute_check.specs.Laws.{AreAccepted, with_lines}
use Rattle.refute_check.specs.Refuted.{is_false_under, has_both_signs}
use Rattle.refute_check.specs.declared.lines.Line.{Line}
use Rattle.refute_check.proofs.ListLemmas.{accepted_below}
use Rattle.sat_plain.specs.declared.place.Place.{Place}
use Rattle.ja_base.specs.Trails.{IsForcedBy, IsReason}
use Rattle.sat_plain.specs.Trails.{AreForced, lits_of}
use Rattle.sat_plain.specs.Walks.{IsCut, IsLast, IsChoice}
use Rattle.sat_plain.specs.Turns.{IsLog, IsSearch, IsNext, IsCore}
use Rattle.sat_plain.proofs.Members.{taken_at, Contains-none}
use Rattle.sat_plain.proofs.PlaceLemmas.{lits_at, lits_take, forced_push, forced_take, forced_more}
use Rattle.sat_plain.proofs.WalkLemmas.{taken_has}

-- ---- the log

accepted_push : (vars : ℕ) (clauses : List (List ℕ)) (lines : List Line) (line : Line) → AreAccepted vars clauses lines
    → refusal vars (with_lines clauses lines) line.clause line.hints ≡ None → AreAccepted vars clauses (lines ++ line ∷ [])
accepted_push vars clauses [] line h e =
    (ap (λ v. refusal vars v line.clause line.hints) (sym (append-nil clauses)) ∙ e, tt)
accepted_push vars clauses (l ∷ ls) line h e =
    let same : (clauses ++ l.clause ∷ []) ++ map (λ k. k.clause) ls ≡ clauses ++ (l.clause ∷ map (λ k. k.clause) ls) =
    append_assoc clauses (l.clause ∷ []) (map (λ (k : Line). k.clause) ls) in (
      h.0,
      accepted_push vars (clauses ++ l.clause ∷ []) ls line h.1
          (ap (λ v. refusal vars v line.clause line.hints) same ∙ e),
    )

pub log_push : (vars : ℕ) (clauses all : List (List ℕ)) (lines : List Line) (line : Line)
    → refusal vars all line.clause line.hints ≡ None → IsLog vars clauses lines all
    → IsLog vars clauses (lines ++ line ∷ []) (all ++ line.clause ∷ [])
log_push vars clauses all lines line e h = record {
  accepted = accepted_push vars clauses lines line h.accepted
      (ap (λ v. refusal vars v line.clause line.hints) (sym h.is) ∙ e);
  is = ap (λ v. v ++ line.clause ∷ []) h.is
      ∙ append_assoc clauses (map (λ (k : Line). k.clause) lines) (line.clause ∷ [])
      ∙ ap (λ v. clauses ++ v) (sym (map_push (λ (k : Line). k.clause) lines line));
}

-- ---- a line that was learnt

-- the line is accepted, and came last
pub record IsLogged (vars : ℕ) (lines : List Line) (clauses : Numbering) (line : Line) (lines' : List Line)
    (clauses' : Numbering) : Type 0 where
  pub accepted : refusal vars clauses.list line.clause line.hints ≡ None
  pub list : clauses'.list ≡ clauses.list ++ line.clause ∷ []
  pub log : lines' ≡ lines ++ line ∷ []
  pub added : clauses'.added ≡ clauses.added
  pub kept : clauses'.kept ≡ clauses.kept

pub next_logged : (vars assumed : ℕ) (places places' : List Place) (lines lines' : List Line) (clauses clauses' : Numbering)
    (line : Line) → IsSearch vars assumed places clauses.list → IsLogged vars lines clauses line lines' clauses'
    → AreForced clauses'.list places' → assumed ≤ length places' → take assumed places' ≡ take assumed places
    → IsNext vars assumed places lines clauses places' lines' clauses'
next_logged vars assumed places places' lines lines' clauses clauses' line h g forced base same = record {
  search = record {
    below = let P : List (List ℕ) → Type 0 = All (IsBelow vars) in
        subst P (sym g.list) (All-push (IsBelow vars) clauses.list line.clause h.below
        (accepted_below vars clauses.list line.clause line.hints g.accepted));
    forced = forced;
    base = base;
  };
  base = same;
  log = λ given k.
      let P : List (List ℕ) → Type 0 = λ v. IsLog vars given (lines ++ line ∷ []) v in
      let Q : List Line → Type 0 = λ v. IsLog vars given v clauses'.list in
      subst Q (sym g.log) (subst P (sym g.list) (log_push vars given clauses.list lines line g.accepted k));
  store = record { more = line.clause ∷ []; list = g.list; added = g.added; kept = g.kept };
  few = omega (arith, ap length g.log, length_push lines line);
}

pub logged_here : (vars : ℕ) (lines lines' : List Line) (clauses clauses' : Numbering) (line : Line)
    → IsLogged vars lines clauses line lines' clauses' → slice_get clauses'.list (length clauses.list) ≡ Some line.clause
logged_here vars lines lines' clauses clauses' line g =
    let whole : length (clauses.list ++ line.clause ∷ []) ≡ length clauses.list + 1 = length_push clauses.list line.clause in
    ap (λ v. slice_get v (length clauses.list)) g.list
    ∙ slice_get-get_or (clauses.list ++ line.clause ∷ []) (length clauses.list) [] (omega arith)
    ∙ ap Some (get_or_push clauses.list line.clause [] (length clauses.list) refl)

-- the same places
pub next_line : (vars assumed : ℕ) (places : List Place) (lines lines' : List Line) (clauses clauses' : Numbering) (line : Line)
    → IsSearch vars assumed places clauses.list → IsLogged vars lines clauses line lines' clauses'
    → IsNext vars assumed places lines clauses places lines' clauses'
next_line vars assumed places lines lines' clauses clauses' line h g =
    let P : List (List ℕ) → Type 0 = λ v. AreForced v places in
    next_logged vars assumed places places lines lines' clauses clauses' line h g
    (subst P (sym g.list) (forced_more clauses.list (line.clause ∷ []) places h.forced)) h.base refl

-- the decision at q gives way
pub next_flip : (vars assumed q number : ℕ) (places places' : List Place) (lines lines' : List Line)
    (clauses clauses' : Numbering) (line : Line) (cut : IsCut places q line.clause) → assumed ≤ q
    → number ≡ length clauses.list
    → places' ≡ take q places ++ record { lit = negated cut.place.lit; reason = Some number } ∷ []
    → IsSearch vars assumed places clauses.list → IsLogged vars lines clauses line lines' clauses'
    → IsNext vars assumed places lines clauses places' lines' clauses'
next_flip vars assumed q number places places' lines lines' clauses clauses' line cut high last is h g =
    let less : q < length places = slice_get_within places q cut.place cut.is in
    let x : Place = record { lit = negated cut.place.lit; reason = Some number } in
    let wide : length (take q places) ≡ q = omega (arith, length-take q places) in
    let R : List (List ℕ) → Type 0 = λ v. AreForced v places in
    let old : AreForced clauses'.list (take q places) =
    forced_take clauses'.list places q
    (subst R (sym g.list) (forced_more clauses.list (line.clause ∷ []) places h.forced)) in
    let by : IsForcedBy clauses'.list (lits_of (take q places)) (negated cut.place.lit) number =
    record {
      clause = line.clause;
      is = ap (slice_get clauses'.list) last ∙ logged_here vars lines lines' clauses clauses' line g;
      reason = let P : List ℕ → Type 0 = λ v. IsReason v (negated cut.place.lit) line.clause in
          subst P (sym (lits_take q places)) cut.reason;
    } in
    let forced : AreForced clauses'.list (take q places ++ x ∷ []) =
    forced_push clauses'.list (take q places) x
    (λ n r. let Q : ℕ → Type 0 = IsForcedBy clauses'.list (lits_of (take q places)) (negated cut.place.lit) in
    subst Q (same_Some number n r) by) old in
    let P : List Place → Type 0 = AreForced clauses'.list in
    next_logged vars assumed places places' lines lines' clauses clauses' line h g (subst P (sym is) forced)
    (omega (arith, ap length is, length_push (take q places) x))
    (ap (take assumed) is ∙ take-append-le assumed (take q places) (x ∷ []) (omega arith) ∙ take-take assumed q places high)

-- ---- a core

-- each literal of the clause is false by the lowest places
low_literals : (places : List Place) (assumed : ℕ) (clause : List ℕ) (last : Option ℕ) → IsLast places 0 clause last
    → IsChoice last assumed None → (m : ℕ) → Contains clause m → Contains (take assumed (lits_of places)) (negated m)
low_literals places assumed clause None h low m has =
    let P : List ℕ → Type 0 = λ v. Contains v m in absurd (Contains-none m (subst P h has))
low_literals places assumed clause (Some q) h low m has =
    let cut = h.1 in
    let less : q < assumed = low q refl in
    elim (eqb_tells m (negated cut.place.lit)) [
      | inl same ↦
          let is : cut.place.lit ≡ negated m = sym (negated_twice cut.place.lit) ∙ ap negated (sym same.1) in
          let P : ℕ → Type 0 = Contains (take assumed (lits_of places)) in
          subst P is (taken_has (lits_of places) q assumed cut.place.lit (lits_at places q cut.place cut.is) less)
      | inr other ↦
          let r = taken_at (lits_of places) q (negated m) (cut.reason.others m has other.1) in
          taken_has (lits_of places) r.0 assumed (negated m)
          (slice_get-get_or (lits_of places) r.0 (negated m) r.2 ∙ ap Some r.3) (omega (arith, r.1))
    ]

negations_have : (clause : List ℕ) (m : ℕ) → Contains clause m → Contains (map negated clause) (negated m)
negations_have clause m has = (
  has.0,
  omega (arith, has.1, length-map clause negated),
  get_or-map negated clause has.0 m (negated m) has.1
      ∙ ap negated has.2,
)

pub core_of : (places : List Place) (assumed number : ℕ) (clause core : List ℕ) (list : List (List ℕ)) (last : Option ℕ)
    → IsLast places 0 clause last → IsChoice last assumed None → core ≡ map negated clause
    → slice_get list number ≡ Some clause → IsCore (take assumed (lits_of places)) list core
core_of places assumed number clause core list last h low is there = record {
  part = let P : List ℕ → Type 0 = All (Contains (take assumed (lits_of places))) in
      subst P (sym is) (λ k d less.
      let within : k < length clause = omega (arith, length-map clause negated) in
      let Q : ℕ → Type 0 = Contains (take assumed (lits_of places)) in
      subst Q (sym (get_or-map negated clause k d d within))
      (low_literals places assumed clause last h low (get_or clause k d) (Contains-get_or clause k d within)));
  covered = or_left (list_any (is_false_under core) list) (has_both_signs core)
      (or_at (list_any (is_false_under core)) (is_false_under core) refl (λ _ _. refl) list number []
      (slice_get_within list number clause there)
      (ap (is_false_under core) (get_or_from_slice_get list number clause [] there) ∙ false_here));
}
  where
    false_here : is_false_under core clause ≡ true
    false_here =
        (Decides-by_and (λ l. has_literal core (negated l)) (λ l. Contains core (negated l))
        (list_all (λ l. has_literal core (negated l))) (λ l. has_literal_decides core (negated l)) refl (λ _ _. refl) clause).1
        (λ k d less.
        let P : List ℕ → Type 0 = λ v. Contains v (negated (get_or clause k d)) in
        subst P (sym is) (negations_have clause (get_or clause k d) (Contains-get_or clause k d less)))
