-- Marks, and what is known behind them.
use Rattle.std.proofs.Common.{◌≡◌, ℕ, ◌+◌, ◌<◌, ◌≤◌, ◌⊎◌, true, false, List, [], ◌∷◌, ◌++◌, length, get_or, set, take, drop, Option, Some, None, slice_get, inl, inr, sym, subst, ◌∙◌, ap, arith}
use Rattle.std.proofs.Math.Seq.{take-length}
use Rattle.std.proofs.lemmas.Bool.{both_ways, cases_lt}
use Rattle.std.proofs.lemmas.Bool.Decides.{eqb_tells}
use Rattle.std.proofs.lemmas.List.{length-set, length-take, length_push, map-append, length-append, take-take, take-append-le, get_or-set_same, get_or-set_other}
use Rattle.std.proofs.lemmas.List.Elements.{Contains-append_left}
use Rattle.std.proofs.lemmas.Option.{get_or_from_slice_get, slice_get-get_or, slice_get_within, none-some, same_Some}
use Rattle.sat_plain.proofs.Members.{taken_is_on}
use Rattle.sat_plain.specs.declared.place.Place.{Place}
use Rattle.sat_plain.specs.Trails.{lits_of}
use Rattle.sat_plain.proofs.PlaceLemmas.{slice_get_push, lits_length}
use Rattle.sat_watch.specs.Steps.{IsForcedOn}
use Rattle.sat_watch.specs.declared.front.Front.{Front}
use Rattle.sat_watch.specs.Stores.{Stored, IsThere}
use Rattle.sat_watch.specs.Watching.{Watching, Keeps}
use Rattle.sat_watch.specs.Visits.{IsSafe}
use Rattle.sat_watch.specs.Fronts.{IsFine, AreSafe, IsMark, IsFront}
use Rattle.sat_watch.proofs.StillLemmas.{fine_more}
use Rattle.sat_watch.proofs.SafeLemmas.{safe_more, safe_less, safe_kept}

pub slice_get_set : {X : Type 0} (xs : List X) (k : ℕ) (y : X) (d : ℕ) (x : X) → slice_get (set xs k y) d ≡ Some x
    → ((d ≡ k) × (x ≡ y)) ⊎ (slice_get xs d ≡ Some x)
slice_get_set xs k y d x e =
    let less : d < length (set xs k y) = slice_get_within (set xs k y) d x e in
    let within : d < length xs = omega (arith, length-set xs k y) in
    let is : get_or (set xs k y) d x ≡ x = get_or_from_slice_get (set xs k y) d x x e in
    elim (eqb_tells d k) [
      | inl same ↦
          let at : k < length xs = omega (arith, same.1) in
          inl (same.1, sym is ∙ ap (λ n. get_or (set xs k y) n x) same.1 ∙ get_or-set_same xs k y x at)
      | inr other ↦
          inr (slice_get-get_or xs d x within ∙ ap Some (sym (get_or-set_other xs k d y x other.1) ∙ is))
    ]

-- more literals came
pub front_more : (vars : ℕ) (store : Stored) (w : Watching) (lits more all : List ℕ) (front : Front) → all ≡ lits ++ more
    → IsFront vars store w lits front → IsFront vars store w all front
front_more vars store w lits more all front e h =
    let P : List ℕ → Type 0 = λ v. IsFront vars store w v front in
    let wide = length-append lits more in
    subst P (sym e) (record {
      wide = h.wide;
      marked = λ d n f.
          let old = h.marked d n f in
          let within = old.within in
          record {
            within = omega (arith, within, wide);
            known = old.known;
            safe = λ k clause there off.
                let Q : List ℕ → Type 0 = λ v. IsSafe w v v k clause in
                subst Q (sym (take-append-le d lits more within)) (old.safe k clause there off);
          };
      low = λ f. let l = h.low f in omega (arith, l, wide);
      read = h.read;
      safe = λ f k clause there off.
          let Q : List ℕ → Type 0 = λ v. IsSafe w (lits ++ more) v k clause in
          subst Q (sym (take-append-le front.head lits more (h.low f)))
          (safe_more w lits (lits ++ more) (take front.head lits) k clause (λ m has. Contains-append_left lits more m has)
          (h.safe f k clause there off));
    })

-- other fields than these do not matter
pub front_same : (vars : ℕ) (store : Stored) (w : Watching) (lits : List ℕ) (a b : Front) → b.marks.items ≡ a.marks.items
    → b.log.items ≡ a.log.items → b.head ≡ a.head → b.seen ≡ a.seen → b.dirty ≡ a.dirty → IsFront vars store w lits a
    → IsFront vars store w lits b
front_same vars store w lits a b marks log head seen dirty h =
    let L : List ℕ → Type 0 = λ v. length v ≡ length v in
    record {
      wide = omega (arith, h.wide, ap length marks);
      marked = λ d n f.
          let P : List ℕ → Type 0 = λ v. IsMark store w lits v d n in
          subst P (sym log) (h.marked d n (sym (ap (λ v. slice_get v d) marks) ∙ f));
      low = λ f. let l = h.low (sym dirty ∙ f) in omega (arith, l, head);
      read = λ f. let r = h.read (sym dirty ∙ f) in omega (arith, r, seen, ap length log);
      safe = λ f.
          let P : List ℕ → Type 0 = λ v. AreSafe store w lits (drop b.seen v) b.head in
          let Q : ℕ → Type 0 = λ n. AreSafe store w lits (drop n a.log.items) b.head in
          let R : ℕ → Type 0 = AreSafe store w lits (drop a.seen a.log.items) in
          subst P (sym log) (subst Q (sym seen) (subst R (sym head) (h.safe (sym dirty ∙ f))));
    }

pub front_new : (vars : ℕ) (store : Stored) (w : Watching) (lits : List ℕ) (front : Front) → vars + 1 ≤ length front.marks.items
    → ((d n : ℕ) → slice_get front.marks.items d ≡ Some (Some n) → ⊥) → front.dirty ≡ true → IsFront vars store w lits front
front_new vars store w lits front wide free dirty = record {
  wide = wide;
  marked = λ d n f. absurd (free d n f);
  low = λ f. absurd (both_ways front.dirty f dirty);
  read = λ f. absurd (both_ways front.dirty f dirty);
  safe = λ f. absurd (both_ways front.dirty f dirty);
}

-- a place for a mark came
pub front_wider : (vars wider : ℕ) (store : Stored) (w : Watching) (lits : List ℕ) (a b : Front) → wider ≤ vars + 1
    → b.marks.items ≡ a.marks.items ++ None ∷ [] → b.log.items ≡ a.log.items → b.head ≡ a.head → b.seen ≡ a.seen
    → b.dirty ≡ a.dirty → IsFront vars store w lits a → IsFront wider store w lits b
front_wider vars wider store w lits a b most marks log head seen dirty h =
    record {
      wide = omega (arith, h.wide, ap length marks, length_push a.marks.items None);
      marked = λ d n f.
          let P : List ℕ → Type 0 = λ v. IsMark store w lits v d n in
          subst P (sym log) (h.marked d n (elim (slice_get_push a.marks.items None d (Some n)
          (sym (ap (λ v. slice_get v d) marks) ∙ f)) [
            | inl old ↦ old
            | inr new ↦ absurd (none-some n (sym new.1))
          ]));
      low = λ f. let l = h.low (sym dirty ∙ f) in omega (arith, l, head);
      read = λ f. let r = h.read (sym dirty ∙ f) in omega (arith, r, seen, ap length log);
      safe = λ f.
          let P : List ℕ → Type 0 = λ v. AreSafe store w lits (drop b.seen v) b.head in
          let Q : ℕ → Type 0 = λ n. AreSafe store w lits (drop n a.log.items) b.head in
          let R : ℕ → Type 0 = AreSafe store w lits (drop a.seen a.log.items) in
          subst P (sym log) (subst Q (sym seen) (subst R (sym head) (h.safe (sym dirty ∙ f))));
    }

-- propagation ended quiet
pub front_marked : (vars : ℕ) (store : Stored) (w : Watching) (lits : List ℕ) (a b : Front) (len : ℕ) → len ≡ length lits
    → b.marks.items ≡ set a.marks.items len (Some (length a.log.items)) → b.log.items ≡ a.log.items → b.head ≡ a.head
    → b.seen ≡ a.seen → b.dirty ≡ a.dirty
    → ((k : ℕ) (clause : List ℕ) → IsThere store k clause → IsSafe w lits lits k clause) → IsFront vars store w lits a
    → IsFront vars store w lits b
front_marked vars store w lits a b len end marks log head seen dirty still h =
    record {
      wide = omega (arith, h.wide, ap length marks, length-set a.marks.items len (Some (length a.log.items)));
      marked = λ d n f.
          let P : List ℕ → Type 0 = λ v. IsMark store w lits v d n in
          subst P (sym log) (elim (slice_get_set a.marks.items len (Some (length a.log.items)) d (Some n)
          (sym (ap (λ v. slice_get v d) marks) ∙ f)) [
            | inl new ↦
                let whole : take d lits ≡ lits = ap (λ k. take k lits) (new.0 ∙ end) ∙ take-length lits in
                record {
                  within = omega (arith, new.0, end);
                  known = let e = same_Some n (length a.log.items) new.1 in omega (arith, e);
                  safe = λ k clause there _.
                      let Q : List ℕ → Type 0 = λ v. IsSafe w v v k clause in
                      subst Q (sym whole) (still k clause there);
                }
            | inr old ↦ h.marked d n old
          ]);
      low = λ f. let l = h.low (sym dirty ∙ f) in omega (arith, l, head);
      read = λ f. let r = h.read (sym dirty ∙ f) in omega (arith, r, seen, ap length log);
      safe = λ f.
          let P : List ℕ → Type 0 = λ v. AreSafe store w lits (drop b.seen v) b.head in
          let Q : ℕ → Type 0 = λ n. AreSafe store w lits (drop n a.log.items) b.head in
          let R : ℕ → Type 0 = AreSafe store w lits (drop a.seen a.log.items) in
          subst P (sym log) (subst Q (sym seen) (subst R (sym head) (h.safe (sym dirty ∙ f))));
    }

-- the first places are left, and what is known is what was known at a mark
pub front_back : (vars : ℕ) (store : Stored) (w : Watching) (lits : List ℕ) (a b : Front) (to len : ℕ) → len ≡ length lits → to ≤ len
    → length b.marks.items ≡ length a.marks.items
    → ((d n : ℕ) → slice_get b.marks.items d ≡ Some (Some n) → slice_get a.marks.items d ≡ Some (Some n))
    → ((d n : ℕ) → to < d → d ≤ len → slice_get b.marks.items d ≡ Some (Some n) → ⊥) → b.log.items ≡ a.log.items
    → (b.dirty ≡ false → slice_get b.marks.items b.head ≡ Some (Some b.seen)) → IsFront vars store w lits a
    → IsFront vars store w (take to lits) b
front_back vars store w lits a b to len end low wide fewer gone log found h = record {
  wide = omega (arith, h.wide, wide);
  marked = marked;
  low = λ f. let m = marked b.head b.seen (found f) in m.within;
  read = λ f. let m = marked b.head b.seen (found f) in m.known;
  safe = λ f k clause there off.
      let m = marked b.head b.seen (found f) in
      safe_more w (take b.head (take to lits)) (take to lits) (take b.head (take to lits)) k clause
      (λ l has. taken_is_on (take to lits) b.head l has) (m.safe k clause there off);
}
  where
    marked : (d n : ℕ) → slice_get b.marks.items d ≡ Some (Some n) → IsMark store w (take to lits) b.log.items d n
    marked d n f =
        let old = h.marked d n (fewer d n f) in
        let within = old.within in
        let under : d ≤ to =
        elim (cases_lt to d) [
          | inl past ↦ absurd (gone d n past (omega (arith, within, end)) f)
          | inr less ↦ less
        ] in
        let P : List ℕ → Type 0 = λ v. IsMark store w (take to lits) v d n in
        subst P (sym log) (record {
          within = omega (arith, under, length-take to lits, end, low);
          known = old.known;
          safe = λ k clause there off.
              let Q : List ℕ → Type 0 = λ v. IsSafe w v v k clause in
              subst Q (sym (take-take d to lits under)) (old.safe k clause there off);
        })

-- a mark that was taken off
pub slice_get_off : (marks : List (Option ℕ)) (at d n : ℕ) → at < length marks → d ≡ at
    → slice_get (set marks at None) d ≡ Some (Some n) → ⊥
slice_get_off marks at d n less same e =
    let off : Option ℕ = None in
    let is : get_or (set marks at off) at off ≡ off = get_or-set_same marks at off off less in
    let there : get_or (set marks at off) at off ≡ Some n =
    ap (λ k. get_or (set marks at off) k off) (sym same) ∙ get_or_from_slice_get (set marks at off) d (Some n) off e in
    none-some n (sym is ∙ there)

-- ---- as places come

pub lits_more : (before after : List Place) (h : IsForcedOn before after) → lits_of after ≡ lits_of before ++ lits_of h.more
lits_more before after h = ap lits_of h.is ∙ map-append (λ (p : Place). p.lit) before h.more

pub fine_grown : (before after : List Place) (head : ℕ) (clause : List ℕ) → IsForcedOn before after → head ≤ length before
    → IsFine (lits_of before) head clause → IsFine (lits_of after) head clause
fine_grown before after head clause h low f =
    let P : List ℕ → Type 0 = λ v. IsFine v head clause in
    subst P (sym (lits_more before after h))
    (fine_more (lits_of before) (lits_of h.more) head clause (omega (arith, low, lits_length before)) f)

pub front_grown : (vars : ℕ) (store : Stored) (w : Watching) (before after : List Place) (front : Front) → IsForcedOn before after
    → IsFront vars store w (lits_of before) front → IsFront vars store w (lits_of after) front
front_grown vars store w before after front h f =
    front_more vars store w (lits_of before) (lits_of h.more) (lits_of after) front (lits_more before after h) f

-- what is known of all clauses but those that came
pub front_known : (vars : ℕ) (store : Stored) (w : Watching) (lits : List ℕ) (a b : Front) → b.marks.items ≡ a.marks.items
    → b.log.items ≡ a.log.items → b.head ≤ length lits → b.seen ≤ length b.log.items → AreSafe store w lits (drop b.seen b.log.items) b.head
    → IsFront vars store w lits a → IsFront vars store w lits b
front_known vars store w lits a b marks log low read fine h = record {
  wide = omega (arith, h.wide, ap length marks);
  marked = λ d n f.
      let P : List ℕ → Type 0 = λ v. IsMark store w lits v d n in
      subst P (sym log) (h.marked d n (sym (ap (λ v. slice_get v d) marks) ∙ f));
  low = λ _. low;
  read = λ _. read;
  safe = λ _. fine;
}

pub longer_of : (before after : List Place) → IsForcedOn before after → length before ≤ length after
longer_of before after h = omega (arith, ap length h.is, length-append before h.more)

-- where all clauses are safe, nothing need be known of the past
pub front_cleared : (vars : ℕ) (store : Stored) (w : Watching) (lits : List ℕ) (a b : Front) → length b.marks.items ≡ length a.marks.items
    → ((d n : ℕ) → slice_get b.marks.items d ≡ Some (Some n) → ⊥) → b.head ≡ a.head → b.seen ≡ 0 → b.dirty ≡ a.dirty
    → ((k : ℕ) (clause : List ℕ) → IsThere store k clause → IsSafe w lits lits k clause) → IsFront vars store w lits a
    → IsFront vars store w lits b
front_cleared vars store w lits a b wide gone head seen dirty still h = record {
  wide = omega (arith, h.wide, wide);
  marked = λ d n f. absurd (gone d n f);
  low = λ f. let l = h.low (sym dirty ∙ f) in omega (arith, l, head);
  read = λ f. omega (arith, seen);
  safe = λ f k clause there off.
      safe_less w lits lits (take b.head lits) k clause (λ m has. taken_is_on lits b.head m has) (still k clause there);
}

-- other literals watch
pub front_kept : (vars : ℕ) (store : Stored) (a b : Watching) (lits : List ℕ) (front : Front) → Keeps store lits a b
    → IsFront vars store a lits front → IsFront vars store b lits front
front_kept vars store a b lits front keeps h = record {
  wide = h.wide;
  marked = λ d n f.
      let old = h.marked d n f in
      record {
        within = old.within;
        known = old.known;
        safe = λ k clause there off.
            safe_kept store lits a b (take d lits) (take d lits) k clause keeps (λ m has. taken_is_on lits d m has) there
            (old.safe k clause there off);
      };
  low = h.low;
  read = h.read;
  safe = λ f k clause there off.
      safe_kept store lits a b lits (take front.head lits) k clause keeps (λ m has. taken_is_on lits front.head m has) there
      (h.safe f k clause there off);
}
