-- What a search keeps, part by part.
use Rattle.std.proofs.Common.{◌≡◌, ℕ, ◌<◌, ◌≤◌, ◌-◌, ◌⊎◌, Bool, true, false, List, [], ◌∷◌, ◌++◌, length, get_or, map, take, drop, Option, Some, None, is_none, unwrap_or, cond, slice_get, inl, inr, refl, sym, subst, ◌∙◌, ap, arith, append_assoc, append-nil}
use Rattle.std.specs.List.{All, Contains, list_any, list_all}
use Rattle.std.proofs.Math.Seq.{take-length}
use Rattle.std.proofs.lemmas.Bool.{or_left, or_right, both_ways, cases_lt, false_from_ne_true}
use Rattle.std.proofs.lemmas.Bool.Decides.{Decides-by_and}
use Rattle.std.proofs.lemmas.List.{length-take, length-append, length-map, length_push, take-append-le, take-take, get_or-map, get_or-take, get_or_append_left, get_or-append_right}
use Rattle.std.proofs.lemmas.List.Elements.{All-nil, All-cons, All-take, Contains-get_or}
use Rattle.std.proofs.lemmas.List.Recursion.{or_at}
use Rattle.std.proofs.lemmas.Option.{get_or_from_slice_get, slice_get_within, slice_get-get_or, same_Some, none-some}
use Rattle.ja_base.specs.Literals.{bit, variable, negated}
use Rattle.ja_base.specs.Clauses.{has_literal}
use Rattle.ja_base.proofs.ClauseLemmas.{has_literal_decides}
use Rattle.ja_base.proofs.LiteralLemmas.{variable_negated}
use Rattle.ja_base.specs.Trails.{IsTrail, AreApart}
use Rattle.refute_check.specs.Lines.{refusal}
use Rattle.refute_check.specs.Refuted.{is_false_under, has_both_signs}
use Rattle.refute_check.specs.declared.lines.Line.{Line}
use Rattle.sat_plain.specs.declared.place.Place.{Place}
use Rattle.sat_plain.specs.Trails.{IsGrown, lits_of, kinds_of}
use Rattle.sat_plain.specs.Rank.{rank}
use Rattle.sat_plain.specs.Turns.{IsLog, IsCore, IsFurther}
use Rattle.sat_plain.proofs.Members.{taken_is_on}
use Rattle.sat_plain.proofs.PlaceLemmas.{lits_at, lits_take, lits_length, slice_get_push, slice_get_take}
use Rattle.sat_plain.proofs.RankLemmas.{rank_grown, further_by_flip, further_by_places}
use Rattle.sat_plain.proofs.TurnLemmas.{log_push}
use Rattle.sat_plain.proofs.FinishLemmas.{one_sign}
use Rattle.sat_plain.proofs.StartLemmas.{contradiction_of}
use Rattle.refute_check.specs.declared.lines.Refuted.{Refuted}
use Rattle.sat_watch.specs.declared.step.Step.{Step}
use Rattle.sat_watch.specs.Steps.{IsForcedOn, IsStep}
use Rattle.sat_cdcl.specs.declared.query.Query.{Query}
use Rattle.sat_cdcl.proofs.FileLemmas.{last_is}
use Rattle.sat_watch.specs.Stores.{value_of}
use Rattle.sat_cdcl.specs.Files.{Filed, IsKept, list_of, places_of, AreForcedAll}
use Rattle.sat_cdcl.specs.Walks.{IsDecided}
use Rattle.sat_cdcl.specs.Assumptions.{DecidesUnder, IsFreeFrom, IsAssuming, AreNegatedIn, IsRetreated}
use Rattle.sat_cdcl.specs.Turns.{IsUnderWay, IsLogged, IsOnward, IsRefuting}
use Rattle.sat_cdcl.proofs.PointLemmas.{apart_at}

-- ---- a core

pub core_of : (under : List ℕ) (list : List (List ℕ)) (number : ℕ) (clause core : List ℕ) → core ≡ map negated clause
    → slice_get list number ≡ Some clause → AreNegatedIn under clause → IsCore under list core
core_of under list number clause core is there kept = record {
  part = let P : List ℕ → Type 0 = All (Contains under) in
      subst P (sym is) (λ k d less.
      let within : k < length clause = omega (arith, length-map clause negated) in
      let Q : ℕ → Type 0 = Contains under in
      subst Q (sym (get_or-map negated clause k d d within))
      (kept (get_or clause k d) (Contains-get_or clause k d within)));
  covered = or_left (list_any (is_false_under core) list) (has_both_signs core)
      (or_at (list_any (is_false_under core)) (is_false_under core) refl (λ _ _. refl) list number []
      (slice_get_within list number clause there)
      (ap (is_false_under core) (get_or_from_slice_get list number clause [] there) ∙ false_here));
}
  where
    negated_in : (m : ℕ) → Contains clause m → Contains (map negated clause) (negated m)
    negated_in m has = (
      has.0,
      omega (arith, has.1, length-map clause negated),
      get_or-map negated clause has.0 m (negated m) has.1 ∙ ap negated has.2,
    )

    false_here : is_false_under core clause ≡ true
    false_here =
        (Decides-by_and (λ l. has_literal core (negated l)) (λ l. Contains core (negated l))
        (list_all (λ l. has_literal core (negated l))) (λ l. has_literal_decides core (negated l)) refl (λ _ _. refl) clause).1
        (λ k d less.
        let P : List ℕ → Type 0 = λ v. Contains v (negated (get_or clause k d)) in
        subst P (sym is) (negated_in (get_or clause k d) (Contains-get_or clause k d less)))

-- ---- places that come

pub grown_of : (before after : List Place) (x : Place) → IsForcedOn (before ++ x ∷ []) after → IsGrown before after
grown_of before after x h = record {
  more = x ∷ h.more;
  is = h.is ∙ append_assoc before (x ∷ []) h.more;
}

pub longer_of : (before after : List Place) (x : Place) → IsForcedOn (before ++ x ∷ []) after → length before < length after
longer_of before after x h =
    omega (arith, ap length h.is, length-append (before ++ x ∷ []) h.more, length_push before x)

-- the places before stay the first ones
pub first_of : (before after : List Place) (n : ℕ) → IsGrown before after → n ≤ length before → take n after ≡ take n before
first_of before after n h low = ap (take n) h.is ∙ take-append-le n before h.more low

pub lits_first_of : (before after : List Place) (n : ℕ) → IsGrown before after → n ≤ length before
    → take n (lits_of after) ≡ take n (lits_of before)
lits_first_of before after n h low =
    sym (lits_take n after) ∙ ap lits_of (first_of before after n h low) ∙ lits_take n before

pub lits_grown : (before after : List Place) (l : ℕ) → IsGrown before after → Contains (lits_of before) l
    → Contains (lits_of after) l
lits_grown before after l h has =
    let P : List ℕ → Type 0 = λ v. Contains v l in
    let all : take (length before) (lits_of before) ≡ lits_of before =
    ap (λ n. take n (lits_of before)) (sym (lits_length before)) ∙ take-length (lits_of before) in
    taken_is_on (lits_of after) (length before) l
    (subst P (sym all ∙ sym (lits_first_of before after (length before) h (omega arith))) has)

-- a decision among places of which the last ones are forced stands among the first ones
pub decided_first : (before after : List Place) (x : Place) (p : ℕ) (place : Place) → IsForcedOn (before ++ x ∷ []) after
    → slice_get after p ≡ Some place → place.reason ≡ None
    → (slice_get before p ≡ Some place) ⊎ ((p ≡ length before) × (place ≡ x))
decided_first before after x p place h e decided =
    let Q : List Place → Type 0 = λ v. slice_get v p ≡ Some place in
    let all : slice_get ((before ++ x ∷ []) ++ h.more) p ≡ Some place = subst Q h.is e in
    elim (cases_lt p (length (before ++ x ∷ []))) [
      | inl low ↦
          slice_get_push before x p place
          (slice_get-get_or (before ++ x ∷ []) p place low
          ∙ ap Some (sym (get_or_append_left (before ++ x ∷ []) h.more place p low)
          ∙ get_or_from_slice_get ((before ++ x ∷ []) ++ h.more) p place place all))
      | inr high ↦
          let q : ℕ = p - length (before ++ x ∷ []) in
          let within : p < length ((before ++ x ∷ []) ++ h.more) =
          slice_get_within ((before ++ x ∷ []) ++ h.more) p place all in
          let is : get_or h.more q place ≡ place =
          sym (get_or-append_right (before ++ x ∷ []) h.more (length (before ++ x ∷ [])) p place refl high)
          ∙ get_or_from_slice_get ((before ++ x ∷ []) ++ h.more) p place place all in
          let R : Place → Type 0 = λ k. is_none k.reason ≡ false in
          let forced : is_none place.reason ≡ false =
          subst R is (h.forced q place (omega (arith, within, length-append (before ++ x ∷ []) h.more))) in
          let free : is_none place.reason ≡ true = ap is_none decided in
          absurd (both_ways (is_none place.reason) forced free)
    ]

-- ---- decisions

decides_after : (under : List ℕ) (before after : List Place) (x : Place) (n : ℕ) → IsForcedOn (before ++ x ∷ []) after
    → DecidesUnder under before n → (x.reason ≡ None → length before < n → Contains under x.lit) → DecidesUnder under after n
decides_after under before after x n h old new = λ p place less e decided.
    elim (decided_first before after x p place h e decided) [
      | inl low ↦ old p place less low decided
      | inr last ↦
          let P : Place → Type 0 = λ k. k.reason ≡ None in
          let Q : Place → Type 0 = λ k. Contains under k.lit in
          let end : length before < n = omega (arith, last.0) in
          subst Q (sym last.1) (new (subst P last.1 decided) end)
    ]

all_of : (under : List ℕ) (before : List Place) (n : ℕ) → DecidesUnder under before (length before) → DecidesUnder under before n
all_of under before n h = λ p place _ e. h p place (slice_get_within before p place e) e

-- a literal of `under` was decided
pub assumed_on : (under : List ℕ) (before after : List Place) (l : ℕ) (free : Option ℕ) (cursor : ℕ)
    → (let x : Place = record { lit = l; reason = None } in IsForcedOn (before ++ x ∷ []) after) → Contains under l
    → IsFreeFrom under before free → All (Contains (lits_of before)) (take cursor under)
    → IsAssuming under after free cursor
assumed_on under before after l free cursor h has old first = record {
  decisions = go free old;
  first = λ k d less. lits_grown before after (get_or (take cursor under) k d) grown (first k d less);
}
  where
    x : Place
    x = record { lit = l; reason = None }

    grown : IsGrown before after
    grown = grown_of before after x h

    go : (f : Option ℕ) → IsFreeFrom under before f → IsFreeFrom under after f
    go None g = decides_after under before after x (length after) h (all_of under before (length after) g) (λ _ _. has)
    go (Some f) g = (
      omega (arith, g.0, longer_of before after x h),
      decides_after under before after x f h g.1 (λ _ _. has),
      (let P : List ℕ → Type 0 = λ v. All (Contains v) under in
          subst P (sym (lits_first_of before after f grown g.0)) g.2),
    )

-- another literal was decided, where all of `under` are true
pub decided_on : (under : List ℕ) (before after : List Place) (l : ℕ) (free : Option ℕ) (n : ℕ)
    → (let x : Place = record { lit = l; reason = None } in IsForcedOn (before ++ x ∷ []) after)
    → n ≡ unwrap_or free (length before) → IsFreeFrom under before free → All (Contains (lits_of before)) under
    → IsAssuming under after (Some n) (length under)
decided_on under before after l free n h is old all = record {
  decisions = let P : ℕ → Type 0 = λ k. IsFreeFrom under after (Some k) in subst P (sym is) (go free old);
  first = let P : List ℕ → Type 0 = All (Contains (lits_of after)) in
      subst P (sym (take-length under)) (λ k d less. lits_grown before after (get_or under k d) grown (all k d less));
}
  where
    x : Place
    x = record { lit = l; reason = None }

    grown : IsGrown before after
    grown = grown_of before after x h

    go : (f : Option ℕ) → IsFreeFrom under before f → IsFreeFrom under after (Some (unwrap_or f (length before)))
    go None g =
        let P : List ℕ → Type 0 = λ v. All (Contains v) under in
        let whole : take (length before) (lits_of after) ≡ lits_of before =
        lits_first_of before after (length before) grown (omega arith)
        ∙ ap (λ k. take k (lits_of before)) (sym (lits_length before)) ∙ take-length (lits_of before) in (
          omega (arith, longer_of before after x h),
          decides_after under before after x (length before) h g (λ _ less. absurd (omega (arith, less))),
          subst P (sym whole) all,
        )
    go (Some f) g =
        let P : List ℕ → Type 0 = λ v. All (Contains v) under in (
          omega (arith, g.0, longer_of before after x h),
          decides_after under before after x f h g.1 (λ _ less. absurd (omega (arith, g.0, less))),
          subst P (sym (lits_first_of before after f grown g.0)) g.2,
        )

-- decisions gave way to a literal that is forced
pub retreated_on : (under : List ℕ) (places after : List Place) (x : Place) (to n : ℕ) (free free' : Option ℕ)
    (cursor cursor' : ℕ) → IsForcedOn (take to places ++ x ∷ []) after → x.reason ≡ Some n → to ≤ length places
    → IsRetreated to free cursor free' cursor' → IsAssuming under places free cursor → IsAssuming under after free' cursor'
retreated_on under places after x to n free free' cursor cursor' h forced fits retreated old =
    go free' retreated
  where
    left : List Place
    left = take to places

    wide : length left ≡ to
    wide = omega (arith, length-take to places, fits)

    never : x.reason ≡ None → ⊥
    never e = none-some n (sym e ∙ forced)

    kept : (f : Option ℕ) → free ≡ f → ((k : ℕ) → free ≡ Some k → to ≤ k) → DecidesUnder under left (length after)
    kept None e _ = λ p place _ there.
        let P : Option ℕ → Type 0 = IsFreeFrom under places in
        let g : P None = subst P e old.decisions in
        let r = slice_get_take to places p place there in g p place (slice_get_within places p place r.1) r.1
    kept (Some f) e high = λ p place _ there.
        let P : Option ℕ → Type 0 = IsFreeFrom under places in
        let g : P (Some f) = subst P e old.decisions in
        let r = slice_get_take to places p place there in g.1 p place (omega (arith, r.0, high f e)) r.1

    go : (f : Option ℕ) → IsRetreated to free cursor f cursor' → IsAssuming under after f cursor'
    go None r = record {
      decisions = decides_after under left after x (length after) h (kept free refl r.1) (λ e _. absurd (never e));
      first = let P : ℕ → Type 0 = λ k. All (Contains (lits_of after)) (take k under) in
          subst P (sym r.0) (All-nil (Contains (lits_of after)));
    }
    go (Some f) r =
        let P : Option ℕ → Type 0 = IsFreeFrom under places in
        let g : P (Some f) = subst P r.0 old.decisions in
        let low : f < to = r.1 in
        let same : take f (lits_of after) ≡ take f (lits_of places) =
        lits_first_of left after f (grown_of left after x h) (omega (arith, low, wide))
        ∙ ap (take f) (lits_take to places) ∙ take-take f to (lits_of places) (omega (arith, low)) in
        let Q : List ℕ → Type 0 = λ v. All (Contains v) under in
        let all : All (Contains (take f (lits_of after))) under = subst Q (sym same) g.2 in
        record {
          decisions = (
            omega (arith, low, wide, longer_of left after x h),
            decides_after under left after x f h
                (λ p place less there. let s = slice_get_take to places p place there in g.1 p place less s.1)
                (λ e _. absurd (never e)),
            all,
          );
          first = All-take (Contains (lits_of after)) cursor' under (λ k d less.
              taken_is_on (lits_of after) f (get_or under k d) (all k d less));
        }

-- ---- the lowest places

pub root_grown : (before after : List Place) → IsGrown before after → (n : ℕ) → n ≤ length before → AreForcedAll (take n before)
    → take n after ≡ take n before
root_grown before after h n low forced = first_of before after n h low

pub root_back : (places after : List Place) (x : Place) (to : ℕ) → IsForcedOn (take to places ++ x ∷ []) after
    → IsDecided places to → (n : ℕ) → n ≤ length places → AreForcedAll (take n places) → take n after ≡ take n places
root_back places after x to h decided n low forced =
    elim (cases_lt to n) [
      | inl less ↦
          let within : to < length places = slice_get_within places to decided.place decided.is in
          let R : Place → Type 0 = λ k. is_none k.reason ≡ false in
          let is : get_or (take n places) to decided.place ≡ decided.place =
          get_or-take n places to decided.place less
          ∙ get_or_from_slice_get places to decided.place decided.place decided.is in
          let no : is_none decided.place.reason ≡ false =
          subst R is (forced to decided.place (omega (arith, less, length-take n places, within))) in
          absurd (both_ways (is_none decided.place.reason) no (ap is_none decided.decided))
      | inr high ↦
          let within : to < length places = slice_get_within places to decided.place decided.is in
          first_of (take to places) after n (grown_of (take to places) after x h)
          (omega (arith, high, length-take to places, within))
          ∙ take-take n to places (omega (arith, high))
    ]

-- ---- the search comes further

pub further_on : (vars : ℕ) (values : List Bool) (before after : List Place) (x : Place) → IsTrail vars values (lits_of after)
    → IsForcedOn (before ++ x ∷ []) after → IsFurther vars before after
further_on vars values before after x is h =
    further_by_places vars before after (grown_of before after x h) (longer_of before after x h)
    (let s = is.short in omega (arith, s, lits_length after))

pub further_back : (vars : ℕ) (values : List Bool) (places after : List Place) (x : Place) (to : ℕ)
    → IsTrail vars values (lits_of after) → length places ≤ vars → IsForcedOn (take to places ++ x ∷ []) after
    → IsDecided places to → is_none x.reason ≡ false → IsFurther vars places after
further_back vars values places after x to is fits h decided forced =
    let one : IsFurther vars places (take to places ++ x ∷ []) =
    further_by_flip vars to places decided.place x decided.is decided.decided forced fits in
    let two : rank vars (kinds_of (take to places ++ x ∷ [])) ≤ rank vars (kinds_of after) =
    rank_grown vars (take to places ++ x ∷ []) after (record { more = h.more; is = h.is })
    (let s = is.short in omega (arith, s, lits_length after)) in
    omega (arith, one, two)

-- ---- values

pub value_none : (values : List Bool) (l : ℕ) → bit values l ≡ false → bit values (negated l) ≡ false
    → value_of values l ≡ None
value_none values l e f =
    ap (λ b. cond b (Some true) (cond (bit values (negated l)) (Some false) None)) e
    ∙ ap (λ b. cond b (Some false) None) f

-- once the places from that of a decision on are gone, what is asserted has no value
pub unset_back : (vars : ℕ) (values : List Bool) (places left : List Place) (back l : ℕ) → IsTrail vars values (lits_of left)
    → left ≡ take back places → AreApart (lits_of places) → Contains (drop back (lits_of places)) (negated l)
    → value_of values l ≡ None
unset_back vars values places left back l is e apart above =
    value_none values l (free l refl) (free (negated l) (variable_negated l))
  where
    free : (m : ℕ) → variable m ≡ variable l → bit values m ≡ false
    free m same =
        false_from_ne_true (bit values m) (λ t.
        let P : List ℕ → Type 0 = λ v. Contains v m in
        let low : Contains (take back (lits_of places)) m = subst P (ap lits_of e ∙ lits_take back places) (is.only m t) in
        apart_at (lits_of places) back (negated l) m apart above low (same ∙ sym (variable_negated l)))

-- ---- the log

pub logged_none : (a b : Filed) (lines lines' : List Line) → lines' ≡ lines → list_of b ≡ list_of a → IsLogged a lines b lines'
logged_none a b lines lines' e f = record {
  log = λ given h.
      let P : List Line → Type 0 = λ v. IsLog a.watched.trail.vars given v (list_of b) in
      let Q : List (List ℕ) → Type 0 = IsLog a.watched.trail.vars given lines in
      subst P (sym e) (subst Q (sym f) h);
  few = omega (arith, ap length e);
}

pub logged_one : (a b : Filed) (lines lines' : List Line) (line : Line)
    → refusal a.watched.trail.vars (list_of a) line.clause line.hints ≡ None → lines' ≡ lines ++ line ∷ []
    → list_of b ≡ list_of a ++ line.clause ∷ [] → IsLogged a lines b lines'
logged_one a b lines lines' line accepted e f = record {
  log = λ given h.
      let P : List Line → Type 0 = λ v. IsLog a.watched.trail.vars given v (list_of b) in
      let Q : List (List ℕ) → Type 0 = IsLog a.watched.trail.vars given (lines ++ line ∷ []) in
      subst P (sym e) (subst Q (sym f) (log_push a.watched.trail.vars given (list_of a) lines line accepted h));
  few = omega (arith, ap length e, length_push lines line);
}

-- ---- parts of a turn

-- a literal was decided
pub kept_on : (a b : Filed) (x : Place) → b.watched.trail.vars ≡ a.watched.trail.vars
    → IsForcedOn (places_of a ++ x ∷ []) (places_of b) → b.slots ≡ a.slots → list_of b ≡ list_of a → IsKept a b
kept_on a b x vars h slots list = record {
  vars = vars;
  root = root_grown (places_of a) (places_of b) (grown_of (places_of a) (places_of b) x h);
  more_slots = [];
  slots = slots ∙ sym (append-nil a.slots);
  more = [];
  list = list ∙ sym (append-nil (list_of a));
}

pub onward_of : (under : List ℕ) (a b : Filed) (q q' : Query) (x : Place) (step : Step)
    → b.watched.trail.vars ≡ a.watched.trail.vars → IsForcedOn (places_of a ++ x ∷ []) (places_of b)
    → IsTrail b.watched.trail.vars b.watched.trail.values (lits_of (places_of b)) → list_of b ≡ list_of a
    → q'.lines ≡ q.lines → IsStep b.watched step → IsUnderWay under b q' → IsOnward under a q b q' step
onward_of under a b q q' x step vars h is list lines step_is under_way =
    let P : ℕ → Type 0 = λ n. IsTrail n b.watched.trail.values (lits_of (places_of b)) in
    record {
      further = further_on a.watched.trail.vars b.watched.trail.values (places_of a) (places_of b) x (subst P vars is) h;
      step_is = step_is;
      under_way = under_way;
      logged = logged_none a b q.lines q'.lines lines list;
    }

-- a line came whose clause has negations of assumed literals alone
pub refuting_of : (under : List ℕ) (a b : Filed) (q q' : Query) (line : Line) (core : List ℕ)
    → refusal a.watched.trail.vars (list_of a) line.clause line.hints ≡ None → core ≡ map negated line.clause
    → list_of b ≡ list_of a ++ line.clause ∷ [] → q'.lines ≡ q.lines ++ line ∷ [] → AreNegatedIn under line.clause
    → IsRefuting under a q b q' core
refuting_of under a b q q' line core accepted is list lines kept = record {
  core_is = core_of under (list_of b) (length (list_of a)) line.clause core is
      (ap (λ v. slice_get v (length (list_of a))) list ∙ last_is (list_of a) line.clause) kept;
  logged = logged_one a b q.lines q'.lines line accepted lines list;
}

-- all literals of `under` are true where others were decided
pub free_holds : (under : List ℕ) (places : List Place) (f : ℕ) → IsFreeFrom under places (Some f)
    → All (Contains (lits_of places)) under
free_holds under places f h = λ k d less. taken_is_on (lits_of places) f (get_or under k d) (h.2 k d less)

-- a literal of `under` is false: then none but such literals were decided
pub only_assumed : (under : List ℕ) (values : List Bool) (vars : ℕ) (places : List Place) (l : ℕ) (free : Option ℕ)
    → IsTrail vars values (lits_of places) → Contains under l → Contains (lits_of places) (negated l)
    → IsFreeFrom under places free → DecidesUnder under places (length places)
only_assumed under values vars places l None is has wrong h = h
only_assumed under values vars places l (Some f) is has wrong h =
    let P : ℕ → Type 0 = Contains (lits_of places) in
    let right : Contains (lits_of places) l =
    subst P has.2 (free_holds under places f h has.0 l has.1) in
    absurd (one_sign (lits_of places) l is.apart right wrong)

-- both signs of a literal are assumed
pub both_of : (under : List ℕ) (a : Filed) (q : Query) (l : ℕ) (core : List ℕ) → core ≡ l ∷ negated l ∷ []
    → Contains under l → Contains under (negated l) → IsRefuting under a q a q core
both_of under a q l core is first second = record {
  core_is = record {
    part = let P : List ℕ → Type 0 = All (Contains under) in
        subst P (sym is) (All-cons (Contains under) l (negated l ∷ []) first
        (All-cons (Contains under) (negated l) [] second (All-nil (Contains under))));
    covered =
        let refuted : Refuted = record { core = core; lines = [] } in
        let both = contradiction_of under l refuted is refl first second in
        or_right (list_any (is_false_under core) (list_of a)) (has_both_signs core) both.both;
  };
  logged = logged_none a a q.lines q.lines refl refl;
}

-- the place of a literal
pub place_at : (places : List Place) (p l : ℕ) → slice_get (lits_of places) p ≡ Some l
    → (place : Place) × (slice_get places p ≡ Some place) × (place.lit ≡ l)
place_at places p l e =
    let d : Place = record { lit = 0; reason = None } in
    let less : p < length places =
    let w = slice_get_within (lits_of places) p l e in omega (arith, w, lits_length places) in
    let there : slice_get places p ≡ Some (get_or places p d) = slice_get-get_or places p d less in
    (get_or places p d, there, same_Some (get_or places p d).lit l (sym (lits_at places p (get_or places p d) there) ∙ e))
