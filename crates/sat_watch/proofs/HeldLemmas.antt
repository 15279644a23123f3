-- What a trail rests on, as places and clauses come and go.
use Rattle.std.proofs.Common.{◌≡◌, ◌≢◌, ℕ, true, false, List, [], ◌∷◌, ◌++◌, set, take, Some, slice_get, inl, inr, sym, subst, ◌∙◌, ap}
use Rattle.std.proofs.lemmas.Bool.{both_ways}
use Rattle.ja_base.specs.Literals.{bit}
use Rattle.ja_base.specs.Trails.{IsForcedBy}
use Rattle.sat_plain.specs.declared.place.Place.{Place}
use Rattle.sat_plain.specs.Trails.{Assigned, AreForced, lits_of}
use Rattle.sat_plain.proofs.PlaceLemmas.{slice_get_push, slice_get_take, forced_push, forced_take}
use Rattle.sat_plain.proofs.TrailLemmas.{bit_set_other}
use Rattle.sat_watch.specs.Stores.{Stored, IsHeld, IsIdle, IsPut, over}
use Rattle.sat_watch.specs.declared.tag.Tag.{Tag}
use Rattle.sat_watch.proofs.SlotLemmas.{slot_kept, bit_kept}

-- one more place
pub held_push : (store : Stored) (before after : Assigned) (x : Place) → IsHeld (over before store)
    → after.places ≡ before.places ++ x ∷ []
    → ((n : ℕ) → x.reason ≡ Some n → IsForcedBy store.clauses (lits_of before.places) x.lit n)
    → ((n : ℕ) → x.reason ≡ Some n → bit store.live n ≡ true) → IsHeld (over after store)
held_push store before after x h more forced live =
    let P : List Place → Type 0 = AreForced store.clauses in
    record {
      forced = subst P (sym more) (forced_push store.clauses before.places x forced h.forced);
      live = λ p n place e r.
          let Q : List Place → Type 0 = λ v. slice_get v p ≡ Some place in
          elim (slice_get_push before.places x p place (subst Q more e)) [
            | inl old ↦ h.live p n place old r
            | inr last ↦
                let R : Place → Type 0 = λ k. k.reason ≡ Some n in
                live n (subst R last.1 r)
          ];
    }

-- the first places
pub held_take : (store : Stored) (before after : Assigned) (to : ℕ) → IsHeld (over before store) → after.places ≡ take to before.places
    → IsHeld (over after store)
held_take store before after to h fewer =
    let P : List Place → Type 0 = AreForced store.clauses in
    record {
      forced = subst P (sym fewer) (forced_take store.clauses before.places to h.forced);
      live = λ p n place e r.
          let Q : List Place → Type 0 = λ v. slice_get v p ≡ Some place in
          let old = slice_get_take to before.places p place (subst Q fewer e) in
          h.live p n place old.1 r;
    }

-- a clause that forces no place is let go
pub held_forget : (before after : Stored) (trail : Assigned) (at : ℕ) → IsHeld (over trail before) → IsIdle trail.places at
    → after.clauses ≡ before.clauses → after.live ≡ set before.live at false → IsHeld (over trail after)
held_forget before after trail at h idle clauses live =
    let P : List (List ℕ) → Type 0 = λ v. AreForced v trail.places in
    record {
      forced = subst P (sym clauses) h.forced;
      live = λ p n place e r.
          let apart : n ≡ at → ⊥ = λ same. idle p place e (r ∙ ap Some same) in
          ap (λ v. bit v n) live ∙ bit_set_other before.live at n false apart ∙ h.live p n place e r;
    }

-- a clause takes a slot that was free
pub held_put : (before after : Stored) (trail : Assigned) (clause : List ℕ) (tag : Tag) (at : ℕ) → IsHeld (over trail before)
    → IsPut before clause tag after at → IsHeld (over trail after)
held_put before after trail clause tag at h put = record {
  forced = record {
    at = λ p n place e r.
        let by = h.forced.at p n place e r in
        let there = slot_kept before.clauses at clause n by.clause (apart p n place e r) by.is in
        record { clause = by.clause; is = ap (λ v. slice_get v n) put.clauses ∙ there; reason = by.reason };
  };
  live = λ p n place e r.
      ap (λ v. bit v n) put.live ∙ bit_kept before.live at n (apart p n place e r) (h.live p n place e r);
}
  where
    apart : (p n : ℕ) (place : Place) → slice_get trail.places p ≡ Some place → place.reason ≡ Some n → n ≢ at
    apart p n place e r = λ same. both_ways (bit before.live n) (ap (bit before.live) same ∙ put.free) (h.live p n place e r)
