-- What watches and front are as literals, clauses and variables come and go.
use Rattle.std.proofs.Common.{◌≡◌, ◌≢◌, ℕ, ◌*◌, ◌<◌, ◌≤◌, Bool, true, false, nat_lt, cond, List, [], ◌∷◌, ◌++◌, length, get_or, set, take, drop, Some, slice_get, inl, inr, refl, sym, subst, ◌∙◌, ap, arith}
use Rattle.std.specs.List.{Contains}
use Rattle.std.proofs.lemmas.Bool.{both_ways, cases_lt}
use Rattle.std.proofs.lemmas.Bool.Decides.{eqb_tells, nat_tests}
use Rattle.std.proofs.lemmas.List.{length-set, length_push, get_or-set_same, get_or_push, get_or_past, get_or_append_left}
use Rattle.std.proofs.lemmas.Option.{get_or_from_slice_get, slice_get-get_or, same_Some}
use Rattle.ja_base.specs.Literals.{bit}
use Rattle.sat_plain.specs.declared.place.Place.{Place}
use Rattle.sat_plain.specs.Trails.{lits_of}
use Rattle.sat_plain.proofs.PlaceLemmas.{lits_push, slice_get_push}
use Rattle.sat_plain.proofs.Members.{dropped_at, Contains-none}
use Rattle.sat_plain.proofs.TrailLemmas.{bit_set_same, bit_set_other, bit_within}
use Rattle.sat_watch.specs.declared.front.Front.{Front}
use Rattle.sat_watch.specs.declared.tag.Tag.{Tag}
use Rattle.sat_watch.specs.Stores.{Stored, IsThere, IsPut, put_at}
use Rattle.sat_watch.specs.Steps.{IsForcedOn}
use Rattle.sat_watch.specs.Watching.{Watching, IsKeptBut, IsPaired, Keeps}
use Rattle.sat_watch.specs.Visits.{IsSafe}
use Rattle.sat_watch.specs.Fronts.{IsFront, IsTended}
use Rattle.sat_watch.proofs.FrontLemmas.{front_more, front_grown, front_kept, slice_get_set}
use Rattle.sat_watch.proofs.SafeLemmas.{keeps_paired, paired_but, safe_but}
use Rattle.sat_watch.proofs.StillLemmas.{dropped_has}

-- ---- a literal comes

pub tended_push : (vars : ℕ) (store : Stored) (before after : List Place) (x : Place) (w : Watching) (front : Front)
    → after ≡ before ++ x ∷ [] → IsTended vars store (lits_of before) w front
    → IsTended vars store (lits_of after) w front
tended_push vars store before after x w front e h = record {
  wide = h.wide;
  long = h.long;
  paired = h.paired;
  front_is =
      front_more vars store w (lits_of before) (x.lit ∷ []) (lits_of after) front (ap lits_of e ∙ lits_push before x) h.front_is;
}

pub tended_grown : (vars : ℕ) (store : Stored) (before after : List Place) (a b : Watching) (front : Front)
    → IsForcedOn before after → Keeps store (lits_of before) a b → IsTended vars store (lits_of before) a front
    → IsTended vars store (lits_of after) b front
tended_grown vars store before after a b front grown keeps h = record {
  wide = omega (arith, h.wide, keeps.width);
  long = omega (arith, h.long, keeps.long);
  paired = λ k clause there two. keeps_paired store (lits_of before) a b k clause keeps there (h.paired k clause there two);
  front_is =
      front_grown vars store b before after front grown (front_kept vars store a b (lits_of before) front keeps h.front_is);
}

-- how far propagation has come is known anew
pub tended_front : (vars : ℕ) (store : Stored) (lits : List ℕ) (w : Watching) (a b : Front) → IsFront vars store w lits b
    → IsTended vars store lits w a → IsTended vars store lits w b
tended_front vars store lits w a b front h =
    record { wide = h.wide; long = h.long; paired = h.paired; front_is = front }

-- ---- fewer clauses are there

pub front_fewer : (vars : ℕ) (before after : Stored) (a b : Watching) (lits : List ℕ) (front : Front) (at : ℕ)
    → IsKeptBut at a b
    → ((k : ℕ) (clause : List ℕ) → IsThere after k clause → (k ≢ at) × IsThere before k clause) → IsFront vars before a lits front
    → IsFront vars after b lits front
front_fewer vars before after a b lits front at but fewer h = record {
  wide = h.wide;
  marked = λ d n f.
      let old = h.marked d n f in record {
        within = old.within;
        known = old.known;
        safe = λ k clause there off.
            let o = fewer k clause there in
            safe_but at a b (take d lits) (take d lits) k clause but o.0 (old.safe k clause o.1 off);
      };
  low = h.low;
  read = h.read;
  safe = λ f k clause there off.
      let o = fewer k clause there in safe_but at a b lits (take front.head lits) k clause but o.0 (h.safe f k clause o.1 off);
}

pub there_before : (before after : Stored) (at k : ℕ) (clause : List ℕ) → after.clauses ≡ before.clauses
    → after.live ≡ set before.live at false → IsThere after k clause → (k ≢ at) × IsThere before k clause
there_before before after at k clause clauses live there =
    let off : k ≢ at =
    λ same.
    let now : bit (set before.live at false) at ≡ true =
    ap (bit (set before.live at false)) (sym same) ∙ sym (ap (λ v. bit v k) live) ∙ there.live in
    elim (cases_lt at (length before.live)) [
      | inl less ↦ both_ways (bit (set before.live at false) at) (bit_set_same before.live at false less) now
      | inr past ↦
          let w = bit_within (set before.live at false) at now in
          absurd (omega (arith, w, past, length-set before.live at false))
    ] in (
      off,
      record {
        live = sym (bit_set_other before.live at k false off) ∙ sym (ap (λ v. bit v k) live) ∙ there.live;
        is = sym (ap (λ v. slice_get v k) clauses) ∙ there.is;
      },
    )

pub tended_forget : (vars : ℕ) (before after : Stored) (lits : List ℕ) (a b : Watching) (front : Front) (at : ℕ)
    → after.clauses ≡ before.clauses → after.live ≡ set before.live at false → IsKeptBut at a b
    → IsTended vars before lits a front → IsTended vars after lits b front
tended_forget vars before after lits a b front at clauses live but h = record {
  wide = omega (arith, h.wide, but.width);
  long = omega (arith, h.long, but.long, ap length clauses);
  paired = λ k clause there two.
      let old = there_before before after at k clause clauses live there in
      paired_but at a b k clause but old.0 (h.paired k clause old.1 two);
  front_is =
      front_fewer vars before after a b lits front at but (λ k clause there. there_before before after at k clause clauses live there)
      h.front_is;
}

-- ---- a slot is noted

-- what stands behind n in a longer log stands there too
drop_more : (log : List ℕ) (slot n k : ℕ) → Contains (drop n log) k → Contains (drop n (log ++ slot ∷ [])) k
drop_more log slot n k h =
    let r = dropped_at log n k h in
    dropped_has (log ++ slot ∷ []) n r.0 k r.1 (let w = length_push log slot in omega (arith, r.2, w))
    (get_or_append_left log (slot ∷ []) k r.0 r.2 ∙ r.3)

pub front_noted : (vars : ℕ) (store : Stored) (w : Watching) (lits : List ℕ) (a b : Front) (slot : ℕ) → b.marks.items ≡ a.marks.items
    → b.log.items ≡ a.log.items ++ slot ∷ [] → b.head ≡ a.head → b.seen ≡ a.seen → b.dirty ≡ a.dirty
    → IsFront vars store w lits a → IsFront vars store w lits b
front_noted vars store w lits a b slot marks log head seen dirty h =
    let more : (n k : ℕ) → Contains (drop n a.log.items) k → Contains (drop n b.log.items) k =
    λ n k has.
    let P : List ℕ → Type 0 = λ v. Contains (drop n v) k in subst P (sym log) (drop_more a.log.items slot n k has) in
    record {
      wide = let w = h.wide in omega (arith, w, ap length marks);
      marked = λ d n f.
          let old = h.marked d n (sym (ap (λ v. slice_get v d) marks) ∙ f) in
          record {
            within = old.within;
            known = let o = old.known in omega (arith, o, ap length log, length_push a.log.items slot);
            safe = λ k clause there off. old.safe k clause there (λ has. off (more n k has));
          };
      low = λ f. let l = h.low (sym dirty ∙ f) in omega (arith, l, head);
      read = λ f. let r = h.read (sym dirty ∙ f) in omega (arith, r, seen, ap length log, length_push a.log.items slot);
      safe = λ f k clause there off.
          let P : ℕ → Type 0 = λ n. IsSafe w lits (take n lits) k clause in
          let Q : ℕ → Type 0 = λ n. Contains (drop n b.log.items) k → ⊥ in
          subst P (sym head)
          (h.safe (sym dirty ∙ f) k clause there (λ has. let o = subst Q seen off in o (more a.seen k has)));
    }

-- ---- a clause takes its slot

slot_before : {X : Type 0} (xs : List X) (a : ℕ) (x : X) (b : ℕ) (y : X) → a ≤ length xs → b ≢ a
    → slice_get (put_at xs a x) b ≡ Some y → slice_get xs b ≡ Some y
slot_before {X} xs a x b y within off = by (nat_lt a (length xs)) refl
  where
    by : (t : Bool) → nat_lt a (length xs) ≡ t → slice_get (cond t (set xs a x) (xs ++ x ∷ [])) b ≡ Some y
        → slice_get xs b ≡ Some y
    by true _ e = elim (slice_get_set xs a x b y e) [ inl same ↦ absurd (off same.0) | inr old ↦ old ]
    by false past e =
        let end : a ≡ length xs = grind (arith, nat_tests) in
        elim (slice_get_push xs x b y e) [
          | inl old ↦ old
          | inr new ↦ absurd (off (new.0 ∙ sym end))
        ]

bit_slot : (xs : List Bool) (b : ℕ) → bit xs b ≡ true → slice_get xs b ≡ Some true
bit_slot xs b e = slice_get-get_or xs b false (bit_within xs b e) ∙ ap Some e

put_here : {X : Type 0} (xs : List X) (k : ℕ) (x : X) → k ≤ length xs → slice_get (put_at xs k x) k ≡ Some x
put_here {X} xs k x within = by (nat_lt k (length xs)) refl
  where
    by : (t : Bool) → nat_lt k (length xs) ≡ t → slice_get (cond t (set xs k x) (xs ++ x ∷ [])) k ≡ Some x
    by true low =
        let less : k < length xs = grind (arith, nat_tests) in
        let wide = length-set xs k x in
        slice_get-get_or (set xs k x) k x (omega (arith, less, wide)) ∙ ap Some (get_or-set_same xs k x x less)
    by false past =
        let end : k ≡ length xs = grind (arith, nat_tests) in
        let wide = length_push xs x in
        slice_get-get_or (xs ++ x ∷ []) k x (omega (arith, end, wide)) ∙ ap Some (get_or_push xs x x k (sym end))

there_put : (before after : Stored) (clause : List ℕ) (tag : Tag) (at k : ℕ) (other : List ℕ)
    → length before.live ≡ length before.clauses → IsPut before clause tag after at → IsThere after k other → k ≢ at
    → IsThere before k other
there_put before after clause tag at k other wide put there off =
    let w = put.within in
    record {
      live = get_or_from_slice_get before.live k true false
          (slot_before before.live at true k true (omega (arith, w, wide)) off
          (bit_slot (put_at before.live at true) k (sym (ap (λ v. bit v k) put.live) ∙ there.live)));
      is = slot_before before.clauses at clause k other w off (sym (ap (λ v. slice_get v k) put.clauses) ∙ there.is);
    }

-- the watches of one slot changed, of which nothing is known
front_but : (vars : ℕ) (store : Stored) (a b : Watching) (lits : List ℕ) (front : Front) (at : ℕ) → IsKeptBut at a b
    → ((clause : List ℕ) → IsThere store at clause → ⊥) → IsFront vars store a lits front → IsFront vars store b lits front
front_but vars store a b lits front at but free h =
    front_fewer vars store store a b lits front at but
    (λ k clause there.
    let off : k ≢ at = λ same. let P : ℕ → Type 0 = λ n. IsThere store n clause in free clause (subst P same there) in (off, there)) h

pub tended_but : (vars : ℕ) (store : Stored) (lits : List ℕ) (a b : Watching) (x y : Front) (at : ℕ) → IsKeptBut at a b
    → bit store.live at ≡ false → IsFront vars store a lits y → IsTended vars store lits a x → IsTended vars store lits b y
tended_but vars store lits a b x y at but free front h =
    let off : (clause : List ℕ) → IsThere store at clause → ⊥ = λ clause there. both_ways (bit store.live at) free there.live in
    record {
      wide = omega (arith, h.wide, but.width);
      long = omega (arith, h.long, but.long);
      paired = λ k clause there two.
          let apart : k ≢ at = λ same. let P : ℕ → Type 0 = λ n. IsThere store n clause in off clause (subst P same there) in
          paired_but at a b k clause but apart (h.paired k clause there two);
      front_is = front_but vars store a b lits y at but off front;
    }

length_put : {X : Type 0} (xs : List X) (k : ℕ) (x : X) (n : ℕ) → length xs ≤ n → k < n → length (put_at xs k x) ≤ n
length_put {X} xs k x n least less = by (nat_lt k (length xs)) refl
  where
    by : (t : Bool) → nat_lt k (length xs) ≡ t → length (cond t (set xs k x) (xs ++ x ∷ [])) ≤ n
    by true _ = omega (arith, length-set xs k x, least)
    by false past =
        let end : length xs ≤ k = grind (arith, nat_tests) in
        omega (arith, length_push xs x, end, less)

pub tended_put : (vars : ℕ) (before after : Stored) (lits : List ℕ) (a b : Watching) (x y : Front)
    (clause : List ℕ) (tag : Tag) (at : ℕ) → length before.live ≡ length before.clauses → IsPut before clause tag after at
    → IsKeptBut at a b → at < length b.pairs → (2 ≤ length clause → IsPaired b at clause) → y.marks.items ≡ x.marks.items
    → y.log.items ≡ x.log.items ++ at ∷ [] → y.head ≡ x.head → y.seen ≡ x.seen → y.dirty ≡ x.dirty
    → IsTended vars before lits a x → IsTended vars after lits b y
tended_put vars before after lits a b x y clause tag at wide put but long paired marks log head seen dirty h =
    let free : (c : List ℕ) → IsThere before at c → ⊥ = λ c there. both_ways (bit before.live at) put.free there.live in
    let front = front_noted vars before b lits x y at marks log head seen dirty (front_but vars before a b lits x at but free h.front_is) in
    let noted : (n : ℕ) → n ≤ length x.log.items → Contains (drop n y.log.items) at =
    λ n low.
    let P : List ℕ → Type 0 = λ v. Contains (drop n v) at in
    let w = length_push x.log.items at in
    subst P (sym log) (dropped_has (x.log.items ++ at ∷ []) n (length x.log.items) at low (omega (arith, w))
    (get_or_push x.log.items at at (length x.log.items) refl)) in
    let old : (n k : ℕ) (other : List ℕ) → n ≤ length x.log.items → IsThere after k other
    → (Contains (drop n y.log.items) k → ⊥) → IsThere before k other =
    λ n k other low there off.
    there_put before after clause tag at k other wide put there
    (λ same. let P : ℕ → Type 0 = Contains (drop n y.log.items) in off (subst P (sym same) (noted n low))) in
    record {
      wide = omega (arith, h.wide, but.width);
      long =
          let P : List (List ℕ) → Type 0 = λ v. length v ≤ length b.pairs in
          subst P (sym put.clauses) (length_put before.clauses at clause (length b.pairs) (omega (arith, h.long, but.long)) long);
      paired = λ k other there two.
          elim (eqb_tells k at) [
            | inl same ↦
                let P : ℕ → Type 0 = λ n. slice_get after.clauses n ≡ Some other in
                let is : other ≡ clause =
                same_Some other clause (sym (subst P same.1 there.is) ∙ ap (λ v. slice_get v at) put.clauses
                ∙ put_here before.clauses at clause put.within) in
                let Q : ℕ → Type 0 = λ n. IsPaired b n other in
                let R : List ℕ → Type 0 = λ v. IsPaired b at v in
                subst Q (sym same.1) (subst R (sym is) (paired (omega (arith, two, ap length is))))
            | inr off ↦
                paired_but at a b k other but off.1 (h.paired k other (there_put before after clause tag at k other wide put there off.1) two)
          ];
      front_is = record {
        wide = front.wide;
        marked = λ d n f.
            let first = h.front_is.marked d n (sym (ap (λ v. slice_get v d) marks) ∙ f) in
            let mark = front.marked d n f in
            record {
              within = mark.within;
              known = mark.known;
              safe = λ k other there off. mark.safe k other (old n k other first.known there off) off;
            };
        low = front.low;
        read = front.read;
        safe = λ f k other there off.
            let low = h.front_is.read (sym dirty ∙ f) in
            front.safe f k other (old y.seen k other (omega (arith, low, seen)) there off) off;
      };
    }

-- ---- one more variable

-- a list more at the end
list_kept : (lists : List (List ℕ)) (m k : ℕ) → Contains (get_or lists m []) k
    → Contains (get_or (lists ++ [] ∷ []) m []) k
list_kept lists m k has =
    elim (cases_lt m (length lists)) [
      | inl less ↦
          let P : List ℕ → Type 0 = λ v. Contains v k in
          subst P (sym (get_or_append_left lists ([] ∷ []) [] m less)) has
      | inr past ↦
          let P : List ℕ → Type 0 = λ v. Contains v k in
          absurd (Contains-none k (subst P (get_or_past lists m [] past) has))
    ]

paired_wider : (w : Watching) (k : ℕ) (clause : List ℕ) → IsPaired w k clause
    → IsPaired (record { lists = w.lists ++ [] ∷ []; pairs = w.pairs }) k clause
paired_wider w k clause h = record {
  pair = h.pair;
  is = h.is;
  one = h.one;
  two = h.two;
  apart = h.apart;
  in_one = list_kept w.lists h.pair.one k h.in_one;
  in_two = list_kept w.lists h.pair.two k h.in_two;
}

safe_wider : (a b : Watching) (lits known : List ℕ) (k : ℕ) (clause : List ℕ)
    → b ≡ record { lists = a.lists ++ [] ∷ []; pairs = a.pairs } → IsSafe a lits known k clause → IsSafe b lits known k clause
unfolding paired_wider
safe_wider a b lits known k clause e (inl h) = inl h
safe_wider a b lits known k clause e (inr h) =
    let P : Watching → Type 0 = λ v. IsSafe v lits known k clause in
    subst P (sym e) (inr (record {
      paired = paired_wider a k clause h.paired;
      one_open = h.one_open;
      two_open = h.two_open;
    }))

-- one list more
pub tended_listed : (vars : ℕ) (store : Stored) (lits : List ℕ) (a b : Watching) (front : Front)
    → b ≡ record { lists = a.lists ++ [] ∷ []; pairs = a.pairs } → IsTended vars store lits a front → IsTended vars store lits b front
tended_listed vars store lits a b front e h =
    let none : List ℕ = [] in
    record {
      wide = omega (arith, h.wide, ap (λ (v : Watching). length v.lists) e, length_push a.lists none);
      long = omega (arith, h.long, ap (λ (v : Watching). length v.pairs) e);
      paired = λ k clause there two.
          let P : Watching → Type 0 = λ v. IsPaired v k clause in
          subst P (sym e) (paired_wider a k clause (h.paired k clause there two));
      front_is = record {
        wide = h.front_is.wide;
        marked = λ d n f.
            let old = h.front_is.marked d n f in
            record {
              within = old.within;
              known = old.known;
              safe = λ k clause there off. safe_wider a b (take d lits) (take d lits) k clause e (old.safe k clause there off);
            };
        low = h.front_is.low;
        read = h.front_is.read;
        safe = λ f k clause there off. safe_wider a b lits (take front.head lits) k clause e (h.front_is.safe f k clause there off);
      };
    }

pub tended_wider : (vars wider : ℕ) (store : Stored) (lits : List ℕ) (w : Watching) (x y : Front) → 2 * wider ≤ length w.lists
    → IsFront wider store w lits y → IsTended vars store lits w x → IsTended wider store lits w y
tended_wider vars wider store lits w x y wide front h =
    record { wide = wide; long = h.long; paired = h.paired; front_is = front }

pub tended_new : (vars : ℕ) (store : Stored) (lits : List ℕ) (w : Watching) (front : Front) → store.live ≡ [] → store.clauses ≡ []
    → 2 * vars ≤ length w.lists → IsFront vars store w lits front → IsTended vars store lits w front
tended_new vars store lits w front none clauses wide h = record {
  wide = wide;
  long = omega (arith, ap length clauses);
  paired = λ k clause there two.
      let P : List Bool → Type 0 = λ v. bit v k ≡ true in
      let on : bit [] k ≡ true = subst P none there.live in cc;
  front_is = h;
}
