-- Clauses by number, as they come and go.
use Rattle.std.proofs.Common.{◌≡◌, ◌≢◌, ℕ, ◌+◌, ◌<◌, ◌≤◌, Bool, true, false, nat_lt, cond, List, [], ◌∷◌, ◌++◌, length, get_or, map, set, take, Some, slice_get, inl, inr, refl, sym, subst, ◌∙◌, ap, arith, append-nil, append_assoc}
use Rattle.std.specs.List.{Contains}
use Rattle.std.specs.Option.{option_map}
use Rattle.std.proofs.lemmas.Bool.{both_ways}
use Rattle.std.proofs.lemmas.Bool.Decides.{eqb_tells, nat_tests}
use Rattle.std.proofs.lemmas.List.{ext_get_or, length-map, length-set, length-take, length_push, get_or-set_same, get_or_push, map_push, take_at}
use Rattle.std.proofs.lemmas.Option.{get_or_from_slice_get, slice_get-get_or, slice_get-map, slice_get_within}
use Rattle.ja_base.specs.Literals.{bit}
use Rattle.refute_check.specs.Checked.{clauses_at}
use Rattle.sat_plain.specs.declared.place.Place.{Place}
use Rattle.sat_plain.specs.Trails.{Assigned}
use Rattle.sat_plain.proofs.Members.{taken_at}
use Rattle.sat_plain.proofs.PlaceLemmas.{slice_get_left, slice_get_push}
use Rattle.sat_plain.proofs.WalkLemmas.{taken_has}
use Rattle.sat_plain.proofs.TrailLemmas.{bit_set_other, bit_set_same, bit_within}
use Rattle.sat_watch.specs.declared.tag.Tag.{Tag}
use Rattle.sat_watch.specs.Stores.{Stored, IsThere, IsPut, put_at}
use Rattle.sat_watch.proofs.SlotLemmas.{put_within, put_behind, slot_kept, bit_kept}
use Rattle.sat_cdcl.specs.Files.{Filed, IsAt, IsNumbered, IsKept, list_of, places_of, AreForcedAll}

-- ---- a list in which an element takes a place

put_width : {X : Type 0} (xs : List X) (k : ℕ) (x : X)
    → length (put_at xs k x) ≡ cond (nat_lt k (length xs)) (length xs) (length xs + 1)
put_width {X} xs k x = by (nat_lt k (length xs))
  where
    by : (b : Bool) → length (cond b (set xs k x) (xs ++ x ∷ [])) ≡ cond b (length xs) (length xs + 1)
    by true = length-set xs k x
    by false = length_push xs x

put_length : {X Y : Type 0} (xs : List X) (ys : List Y) (k : ℕ) (x : X) (y : Y) → length xs ≡ length ys
    → length (put_at xs k x) ≡ length (put_at ys k y)
put_length xs ys k x y e =
    put_width xs k x ∙ ap (λ n. cond (nat_lt k n) n (n + 1)) e ∙ sym (put_width ys k y)

pub last_is : {X : Type 0} (xs : List X) (x : X) → slice_get (xs ++ x ∷ []) (length xs) ≡ Some x
last_is xs x =
    let whole = length_push xs x in
    slice_get-get_or (xs ++ x ∷ []) (length xs) x (omega arith) ∙ ap Some (get_or_push xs x x (length xs) refl)

put_here : {X : Type 0} (xs : List X) (k : ℕ) (x : X) → k ≤ length xs → slice_get (put_at xs k x) k ≡ Some x
put_here {X} xs k x within =
    elim (eqb_tells k (length xs)) [
      | inl same ↦
          let P : List X → Type 0 = λ v. slice_get v k ≡ Some x in
          subst P (put_behind xs k x (omega (arith, same.1)))
          (ap (slice_get (xs ++ x ∷ [])) same.1 ∙ last_is xs x)
      | inr other ↦
          let o = other.1 in
          let less : k < length xs = grind arith in
          let wide = length-set xs k x in
          let P : List X → Type 0 = λ v. slice_get v k ≡ Some x in
          subst P (put_within xs k x less)
          (slice_get-get_or (set xs k x) k x (omega arith) ∙ ap Some (get_or-set_same xs k x x less))
    ]

bit_put_other : (xs : List Bool) (k n : ℕ) → k ≤ length xs → n ≢ k → bit (put_at xs k true) n ≡ true → bit xs n ≡ true
bit_put_other xs k n within off = by (nat_lt k (length xs)) refl
  where
    by : (b : Bool) → nat_lt k (length xs) ≡ b → bit (cond b (set xs k true) (xs ++ true ∷ [])) n ≡ true → bit xs n ≡ true
    by true _ e = sym (bit_set_other xs k n true off) ∙ e
    by false past e =
        let end : k ≡ length xs = grind (arith, nat_tests) in
        let here : slice_get (xs ++ true ∷ []) n ≡ Some true =
        slice_get-get_or (xs ++ true ∷ []) n false (bit_within (xs ++ true ∷ []) n e) ∙ ap Some e in
        elim (slice_get_push xs true n true here) [
          | inl old ↦ get_or_from_slice_get xs n true false old
          | inr last ↦ absurd (off (last.0 ∙ sym end))
        ]

-- ---- clauses by number

pub list_at : (store : Stored) (slots : List ℕ) (m k : ℕ) (clause : List ℕ) → slice_get slots m ≡ Some k
    → IsThere store k clause → slice_get (clauses_at store.clauses slots) m ≡ Some clause
list_at store slots m k clause e there =
    let f : ℕ → List ℕ = λ n. get_or store.clauses n [] in
    slice_get-map f slots m ∙ ap (option_map f) e ∙ ap Some (get_or_from_slice_get store.clauses k clause [] there.is)

-- the clause of a number is there
pub at_number : (store : Stored) (slots : List ℕ) (m : ℕ) (clause : List ℕ) → IsNumbered store slots
    → slice_get (clauses_at store.clauses slots) m ≡ Some clause → (k : ℕ) × IsThere store k clause
at_number store slots m clause h e =
    let f : ℕ → List ℕ = λ n. get_or store.clauses n [] in
    let less : m < length slots =
    let w = slice_get_within (clauses_at store.clauses slots) m clause e in omega (arith, length-map slots f) in
    let k : ℕ = get_or slots m 0 in
    let there : slice_get slots m ≡ Some k = slice_get-get_or slots m 0 less in
    let is = h.at m k there in
    let same : is.clause ≡ clause =
    sym (get_or_from_slice_get (clauses_at store.clauses slots) m is.clause clause
    (list_at store slots m k is.clause there is.there))
    ∙ get_or_from_slice_get (clauses_at store.clauses slots) m clause clause e in
    let P : List ℕ → Type 0 = IsThere store k in
    (k, subst P same is.there)

-- ---- one more clause

pub there_put : (before after : Stored) (clause : List ℕ) (tag : Tag) (at : ℕ) → length before.live ≡ length before.clauses
    → IsPut before clause tag after at → IsThere after at clause
there_put before after clause tag at wide put =
    let w = put.within in
    record {
      live = ap (λ v. bit v at) put.live
          ∙ get_or_from_slice_get (put_at before.live at true) at true false (put_here before.live at true (omega arith));
      is = ap (λ v. slice_get v at) put.clauses ∙ put_here before.clauses at clause w;
    }

-- a clause in another slot stays
apart_put : (before after : Stored) (clause : List ℕ) (tag : Tag) (at k : ℕ) → IsPut before clause tag after at
    → bit before.live k ≡ true → k ≢ at
apart_put before after clause tag at k put live =
    λ same. both_ways (bit before.live k) (ap (bit before.live) same ∙ put.free) live

there_stays : (before after : Stored) (clause : List ℕ) (tag : Tag) (at k : ℕ) (other : List ℕ)
    → IsPut before clause tag after at → IsThere before k other → IsThere after k other
there_stays before after clause tag at k other put h =
    let apart = apart_put before after clause tag at k put h.live in
    record {
      live = ap (λ v. bit v k) put.live ∙ bit_kept before.live at k apart h.live;
      is = ap (λ v. slice_get v k) put.clauses ∙ slot_kept before.clauses at clause k other apart h.is;
    }

at_put : (before after : Stored) (clause : List ℕ) (tag : Tag) (at k m : ℕ) → IsPut before clause tag after at
    → IsAt before k m → IsAt after k m
at_put before after clause tag at k m put h = record {
  clause = h.clause;
  there = there_stays before after clause tag at k h.clause put h.there;
  tag = h.tag;
  tagged =
      ap (λ v. slice_get v k) put.tags
      ∙ slot_kept before.tags at tag k h.tag (apart_put before after clause tag at k put h.there.live) h.tagged;
  number = h.number;
}

pub numbered_put : (before after : Stored) (slots : List ℕ) (clause : List ℕ) (tag : Tag) (at : ℕ) → IsNumbered before slots
    → IsPut before clause tag after at → tag.number ≡ length slots → IsNumbered after (slots ++ at ∷ [])
numbered_put before after slots clause tag at h put last =
    let w = put.within in
    let live_wide = h.live_len in
    let tags_wide = h.tags_len in
    record {
      live_len = ap length put.live ∙ put_length before.live before.clauses at true clause h.live_len
          ∙ sym (ap length put.clauses);
      tags_len = ap length put.tags ∙ put_length before.tags before.clauses at tag clause h.tags_len
          ∙ sym (ap length put.clauses);
      at = λ m k e.
          elim (slice_get_push slots at m k e) [
            | inl old ↦ at_put before after clause tag at k m put (h.at m k old)
            | inr new ↦
                let P : ℕ → Type 0 = λ n. IsAt after n m in
                subst P (sym new.1) (record {
                  clause = clause;
                  there = there_put before after clause tag at h.live_len put;
                  tag = tag;
                  tagged = ap (λ v. slice_get v at) put.tags ∙ put_here before.tags at tag (omega arith);
                  number = last ∙ sym new.0;
                })
          ];
      numbered = λ k e.
          elim (eqb_tells k at) [
            | inl same ↦ (length slots, last_is slots at ∙ ap Some (sym same.1))
            | inr other ↦
                let old : bit before.live k ≡ true =
                bit_put_other before.live at k (omega arith) other.1 (sym (ap (λ v. bit v k) put.live) ∙ e) in
                let r = h.numbered k old in
                (r.0, slice_get_left slots (at ∷ []) r.0 k r.1)
          ];
    }

-- the clauses before keep their numbers
clauses_put : (before after : Stored) (slots : List ℕ) (clause : List ℕ) (tag : Tag) (at : ℕ) → IsNumbered before slots
    → IsPut before clause tag after at → clauses_at after.clauses slots ≡ clauses_at before.clauses slots
clauses_put before after slots clause tag at h put =
    let f : ℕ → List ℕ = λ n. get_or after.clauses n [] in
    let g : ℕ → List ℕ = λ n. get_or before.clauses n [] in
    ext_get_or [] (map f slots) (map g slots) (length-map slots f ∙ sym (length-map slots g)) (λ m less.
    let within : m < length slots = omega (arith, length-map slots f) in
    let k : ℕ = get_or slots m 0 in
    let there : slice_get slots m ≡ Some k = slice_get-get_or slots m 0 within in
    let old = h.at m k there in
    let new : IsThere after k old.clause = there_stays before after clause tag at k old.clause put old.there in
    get_or_from_slice_get (map f slots) m old.clause [] (list_at after slots m k old.clause there new)
    ∙ sym (get_or_from_slice_get (map g slots) m old.clause [] (list_at before slots m k old.clause there old.there)))

pub list_put : (before after : Stored) (slots : List ℕ) (clause : List ℕ) (tag : Tag) (at : ℕ) → IsNumbered before slots
    → IsPut before clause tag after at
    → clauses_at after.clauses (slots ++ at ∷ []) ≡ clauses_at before.clauses slots ++ clause ∷ []
list_put before after slots clause tag at h put =
    let f : ℕ → List ℕ = λ n. get_or after.clauses n [] in
    let there = there_put before after clause tag at h.live_len put in
    map_push f slots at
    ∙ ap (λ v. v ++ f at ∷ []) (clauses_put before after slots clause tag at h put)
    ∙ ap (λ v. clauses_at before.clauses slots ++ v ∷ []) (get_or_from_slice_get after.clauses at clause [] there.is)

-- ---- the last clause goes

-- the last clause forces no place
pub idle_last : (places : List Place) (store : Stored) (slots : List ℕ) (n last : ℕ) → IsNumbered store slots
    → slice_get slots n ≡ Some last
    → ((p k : ℕ) (place : Place) → slice_get places p ≡ Some place → place.reason ≡ Some k → Contains (take n slots) k)
    → (p : ℕ) (place : Place) → slice_get places p ≡ Some place → place.reason ≢ Some last
idle_last places store slots n last h e rooted p place there r =
    let low = taken_at slots n last (rooted p last place there r) in
    let first = h.at low.0 last (slice_get-get_or slots low.0 last low.2 ∙ ap Some low.3) in
    let second = h.at n last e in
    let same : first.tag ≡ second.tag =
    sym (get_or_from_slice_get store.tags last first.tag second.tag first.tagged)
    ∙ get_or_from_slice_get store.tags last second.tag second.tag second.tagged in
    let number : low.0 ≡ n = sym first.number ∙ ap (λ (t : Tag). t.number) same ∙ second.number in
    absurd (omega (arith, low.1))

pub numbered_pop : (before after : Stored) (slots left : List ℕ) (last : ℕ) → IsNumbered before slots
    → slots ≡ left ++ last ∷ [] → after.clauses ≡ before.clauses → after.tags ≡ before.tags
    → after.live ≡ set before.live last false → IsNumbered after left
numbered_pop before after slots left last h whole clauses tags live =
    let P : List ℕ → Type 0 = IsNumbered before in
    let g : IsNumbered before (left ++ last ∷ []) = subst P whole h in
    let end = g.at (length left) last (last_is left last) in
    let apart : (m k : ℕ) → slice_get left m ≡ Some k → k ≢ last =
    λ m k e same.
    let less : m < length left = slice_get_within left m k e in
    let one = g.at m k (slice_get_left left (last ∷ []) m k e) in
    let Q : ℕ → Type 0 = λ n. slice_get before.tags n ≡ Some one.tag in
    let same_tag : one.tag ≡ end.tag =
    sym (get_or_from_slice_get before.tags last one.tag end.tag (subst Q same one.tagged))
    ∙ get_or_from_slice_get before.tags last end.tag end.tag end.tagged in
    let number : m ≡ length left = sym one.number ∙ ap (λ (t : Tag). t.number) same_tag ∙ end.number in
    omega arith in
    record {
      live_len = ap length live ∙ length-set before.live last false ∙ g.live_len ∙ sym (ap length clauses);
      tags_len = ap length tags ∙ g.tags_len ∙ sym (ap length clauses);
      at = λ m k e.
          let one = g.at m k (slice_get_left left (last ∷ []) m k e) in
          record {
            clause = one.clause;
            there = record {
              live = ap (λ v. bit v k) live ∙ bit_set_other before.live last k false (apart m k e) ∙ one.there.live;
              is = ap (λ v. slice_get v k) clauses ∙ one.there.is;
            };
            tag = one.tag;
            tagged = ap (λ v. slice_get v k) tags ∙ one.tagged;
            number = one.number;
          };
      numbered = λ k e.
          elim (eqb_tells k last) [
            | inl same ↦
                let off : bit after.live k ≡ false =
                ap (λ v. bit v k) live ∙ ap (bit (set before.live last false)) same.1
                ∙ bit_set_same before.live last false (bit_within before.live last end.there.live) in
                absurd (both_ways (bit after.live k) off e)
            | inr other ↦
                let old : bit before.live k ≡ true =
                sym (bit_set_other before.live last k false other.1) ∙ sym (ap (λ v. bit v k) live) ∙ e in
                let r = g.numbered k old in
                elim (slice_get_push left last r.0 k r.1) [
                  | inl low ↦ (r.0, low)
                  | inr high ↦ absurd (other.1 high.1)
                ]
          ];
    }

pub list_front : (clauses : List (List ℕ)) (left : List ℕ) (last : ℕ)
    → clauses_at clauses left ≡ take (length left) (clauses_at clauses (left ++ last ∷ []))
list_front clauses left last =
    let f : ℕ → List ℕ = λ n. get_or clauses n [] in
    sym (ap (take (length left)) (map_push f left last) ∙ take_at (map f left) (f last ∷ []) (length left) (length-map left f))

-- what is among the first is among more of them
pub taken_more : (xs : List ℕ) (n m k : ℕ) → n ≤ m → Contains (take n xs) k → Contains (take m xs) k
taken_more xs n m k less h =
    let r = taken_at xs n k h in
    taken_has xs r.0 m k (slice_get-get_or xs r.0 k r.2 ∙ ap Some r.3) (omega (arith, r.1))

-- ---- over parts of a search

pub kept_none : (a b : Filed) → b.watched.trail.vars ≡ a.watched.trail.vars → places_of b ≡ places_of a → b.slots ≡ a.slots
    → list_of b ≡ list_of a → IsKept a b
kept_none a b vars places slots list = record {
  vars = vars;
  root = λ n _ _. ap (take n) places;
  more_slots = [];
  slots = slots ∙ sym (append-nil a.slots);
  more = [];
  list = list ∙ sym (append-nil (list_of a));
}

pub kept_chain : (a b c : Filed) → IsKept a b → IsKept b c → IsKept a c
kept_chain a b c h k = record {
  vars = k.vars ∙ h.vars;
  root = λ n within forced.
      let first : take n (places_of b) ≡ take n (places_of a) = h.root n within forced in
      let P : List Place → Type 0 = AreForcedAll in
      let fits : n ≤ length (places_of b) =
      omega (arith, ap length first, length-take n (places_of a), length-take n (places_of b)) in
      k.root n fits (subst P (sym first) forced) ∙ first;
  more_slots = h.more_slots ++ k.more_slots;
  slots = k.slots ∙ ap (λ v. v ++ k.more_slots) h.slots ∙ append_assoc a.slots h.more_slots k.more_slots;
  more = h.more ++ k.more;
  list = k.list ∙ ap (λ v. v ++ k.more) h.list ∙ append_assoc (list_of a) h.more k.more;
}

pub kept_same : (a b : Filed) → b ≡ a → IsKept a b
kept_same a b e =
    let P : Filed → Type 0 = IsKept a in subst P (sym e) (kept_none a a refl refl refl refl)

pub kept_put : (a b : Filed) (slot : ℕ) (clause : List ℕ) → b.watched.trail ≡ a.watched.trail → b.slots ≡ a.slots ++ slot ∷ []
    → list_of b ≡ list_of a ++ clause ∷ [] → IsKept a b
kept_put a b slot clause trail slots list = record {
  vars = ap (λ (t : Assigned). t.vars) trail;
  root = λ n _ _. ap (λ (t : Assigned). take n t.places) trail;
  more_slots = slot ∷ [];
  slots = slots;
  more = clause ∷ [];
  list = list;
}
