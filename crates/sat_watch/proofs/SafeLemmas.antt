-- What keeps clauses safe.
use Rattle.std.proofs.Common.{◌≡◌, ◌≢◌, ℕ, ◌⊎◌, Bool, List, [], Some, slice_get, inl, inr, refl, sym, subst, ◌∙◌, ap, arith}
use Rattle.std.specs.List.{Contains}
use Rattle.std.proofs.lemmas.Bool.{both_ways}
use Rattle.std.proofs.lemmas.Bool.Decides.{eqb_tells}
use Rattle.std.proofs.lemmas.Option.{same_Some}
use Rattle.ja_base.specs.Literals.{bit, negated}
use Rattle.ja_base.specs.Trails.{IsTrail}
use Rattle.sat_plain.proofs.Members.{Contains-none}
use Rattle.sat_plain.proofs.FinishLemmas.{one_sign}
use Rattle.sat_watch.specs.declared.pair.Pair.{Pair}
use Rattle.sat_watch.specs.Stores.{Stored, IsThere}
use Rattle.sat_watch.specs.Watching.{Watching, slots_at, IsKeptBut, IsPassed, IsPaired, IsWatchedBut, IsWatched, IsOther, Keeps}
use Rattle.sat_watch.specs.Visits.{IsBased, IsTrueUnder, IsSafe, Moves, IsOpenPair}
use Rattle.sat_watch.specs.Fronts.{IsStillUnder}
use Rattle.sat_watch.proofs.StillLemmas.{still_forced, open_has_two}

-- ---- as more becomes true, and less need be known

pub true_more : (lits more clause : List ℕ) → ((m : ℕ) → Contains lits m → Contains more m) → IsTrueUnder lits clause
    → IsTrueUnder more clause
true_more lits more clause grown h = record { literal = h.literal; has = h.has; on = grown h.literal h.on }

pub watched_less : (w : Watching) (known less : List ℕ) (k : ℕ) (clause : List ℕ)
    → ((m : ℕ) → Contains less m → Contains known m) → IsWatched w known k clause → IsWatched w less k clause
watched_less w known less k clause fewer h =
    let p = h.paired in
    record {
      paired = p;
      one_open = λ has. h.one_open (fewer (negated p.pair.one) has);
      two_open = λ has. h.two_open (fewer (negated p.pair.two) has);
    }

pub safe_more : (w : Watching) (lits more known : List ℕ) (k : ℕ) (clause : List ℕ)
    → ((m : ℕ) → Contains lits m → Contains more m) → IsSafe w lits known k clause → IsSafe w more known k clause
safe_more w lits more known k clause grown (inl h) = inl (true_more lits more clause grown h)
safe_more w lits more known k clause grown (inr h) = inr h

pub safe_less : (w : Watching) (lits known less : List ℕ) (k : ℕ) (clause : List ℕ)
    → ((m : ℕ) → Contains less m → Contains known m) → IsSafe w lits known k clause → IsSafe w lits less k clause
safe_less w lits known less k clause fewer (inl h) = inl h
safe_less w lits known less k clause fewer (inr h) = inr (watched_less w known less k clause fewer h)

-- two that are watched are known to be by no literal
pub watched_none : (w : Watching) (k : ℕ) (clause : List ℕ) → IsPaired w k clause → IsWatched w [] k clause
watched_none w k clause h =
    record {
      paired = h;
      one_open = λ has. Contains-none (negated h.pair.one) has;
      two_open = λ has. Contains-none (negated h.pair.two) has;
    }

-- ---- as what watches changes

pub keeps_none : (store : Stored) (lits : List ℕ) (w : Watching) → Keeps store lits w w
keeps_none store lits w = record { width = refl; long = omega arith; watched = λ known k clause within there h. h }

pub keeps_chain : (store : Stored) (lits more : List ℕ) (a b c : Watching)
    → ((m : ℕ) → Contains lits m → Contains more m) → Keeps store lits a b → Keeps store more b c → Keeps store lits a c
keeps_chain store lits more a b c grown f g = record {
  width = g.width ∙ f.width;
  long = omega (arith, f.long, g.long);
  watched = λ known k clause within there h.
      g.watched known k clause (λ m has. grown m (within m has)) there (f.watched known k clause within there h);
}

pub keeps_same : (store : Stored) (lits : List ℕ) (a b : Watching) → b ≡ a → Keeps store lits a b
keeps_same store lits a b e =
    let P : Watching → Type 0 = Keeps store lits a in subst P (sym e) (keeps_none store lits a)

pub keeps_paired : (store : Stored) (lits : List ℕ) (a b : Watching) (k : ℕ) (clause : List ℕ) → Keeps store lits a b
    → IsThere store k clause → IsPaired a k clause → IsPaired b k clause
keeps_paired store lits a b k clause keeps there h =
    let r = keeps.watched [] k clause (λ m has. absurd (Contains-none m has)) there (watched_none a k clause h) in r.paired

pub safe_kept : (store : Stored) (before : List ℕ) (a b : Watching) (lits known : List ℕ) (k : ℕ) (clause : List ℕ)
    → Keeps store before a b → ((m : ℕ) → Contains known m → Contains before m) → IsThere store k clause
    → IsSafe a lits known k clause → IsSafe b lits known k clause
safe_kept store before a b lits known k clause keeps within there (inl h) = inl h
safe_kept store before a b lits known k clause keeps within there (inr h) = inr (keeps.watched known k clause within there h)

pub based_kept : (store : Stored) (lits more : List ℕ) (a b : Watching) (k : ℕ) → ((m : ℕ) → Contains lits m → Contains more m)
    → Keeps store lits a b → IsBased store lits a k → IsBased store more b k
based_kept store lits more a b k grown keeps based clause there = go (based clause there)
  where
    go : IsTrueUnder lits clause ⊎ IsPaired a k clause → IsTrueUnder more clause ⊎ IsPaired b k clause
    go (inl t) = inl (true_more lits more clause grown t)
    go (inr p) = inr (keeps_paired store lits a b k clause keeps there p)

pub paired_but : (slot : ℕ) (a b : Watching) (k : ℕ) (clause : List ℕ) → IsKeptBut slot a b → k ≢ slot → IsPaired a k clause
    → IsPaired b k clause
paired_but slot a b k clause but off h = record {
  pair = h.pair;
  is = but.pairs k h.pair off h.is;
  one = h.one;
  two = h.two;
  apart = h.apart;
  in_one = but.lists h.pair.one k off h.in_one;
  in_two = but.lists h.pair.two k off h.in_two;
}

pub watched_but : (slot : ℕ) (a b : Watching) (known : List ℕ) (k : ℕ) (clause : List ℕ) → IsKeptBut slot a b → k ≢ slot
    → IsWatched a known k clause → IsWatched b known k clause
unfolding paired_but
watched_but slot a b known k clause but off h =
    record { paired = paired_but slot a b k clause but off h.paired; one_open = h.one_open; two_open = h.two_open }

pub safe_but : (slot : ℕ) (a b : Watching) (lits known : List ℕ) (k : ℕ) (clause : List ℕ) → IsKeptBut slot a b → k ≢ slot
    → IsSafe a lits known k clause → IsSafe b lits known k clause
safe_but slot a b lits known k clause but off (inl h) = inl h
safe_but slot a b lits known k clause but off (inr h) = inr (watched_but slot a b known k clause but off h)

pub keeps_moves : (store : Stored) (lits : List ℕ) (a : Watching) (l at slot : ℕ) (b : Watching)
    → Moves store lits a l at slot b → Keeps store lits a b
keeps_moves store lits a l at slot b h = record {
  width = h.but.width;
  long = h.but.long;
  watched = λ known k clause within there w.
      elim (eqb_tells k slot) [
        | inl same ↦
            let P : ℕ → Type 0 = λ n. IsWatched b known n clause in
            let Q : ℕ → Type 0 = λ n. IsThere store n clause in
            let R : ℕ → Type 0 = λ n. IsWatched a known n clause in
            let v = subst R same.1 w in
            subst P (sym same.1) (h.moves known clause within (subst Q same.1 there)
            (record { paired = v.paired; one_open = λ _ has. v.one_open has; two_open = λ _ has. v.two_open has }))
        | inr other ↦ watched_but slot a b known k clause h.but other.1 w
      ];
}

-- a clause passes from one literal to another, which is not false
pub passed_moves : (store : Stored) (lits : List ℕ) (a : Watching) (l at slot other to : ℕ) (b : Watching) (clause : List ℕ)
    → IsPassed a l at slot other to b → IsOther a slot l other → to ≢ other → (Contains lits (negated to) → ⊥)
    → Contains clause to → slice_get store.clauses slot ≡ Some clause → Moves store lits a l at slot b
passed_moves store lits a l at slot other to b clause h o apart free has is = record {
  but = h.but;
  rest = h.rest;
  fewer = h.fewer;
  moves = λ known found within there w.
      let p = w.paired in
      let same : clause ≡ found = same_Some clause found (sym is ∙ there.is) in
      let pair : o.pair ≡ p.pair = pair_same (sym o.is ∙ p.is) in
      let P : List ℕ → Type 0 = λ v. Contains v to in
      let facts : (Contains found other) × (other ≢ l) × Contains (slots_at a other) slot × (Contains known (negated other) → ⊥) =
      other_is known found w pair in
      record {
        paired = record {
          pair = record { one = other; two = to };
          is = h.pair;
          one = facts.0;
          two = subst P same has;
          apart = λ e. apart (sym e);
          in_one = h.stays other facts.1 facts.2;
          in_two = h.has;
        };
        one_open = facts.3;
        two_open = λ k. free (within (negated to) k);
      };
}
  where
    pair_same : {p q : Pair} → Some p ≡ Some q → p ≡ q
    pair_same {p} {q} e = same_Some p q e

    other_is : (known found : List ℕ) (w : IsWatchedBut a l known slot found) → o.pair ≡ w.paired.pair
        → (Contains found other) × (other ≢ l) × Contains (slots_at a other) slot × (Contains known (negated other) → ⊥)
    other_is known found w e =
        let p = w.paired in
        elim (eqb_tells p.pair.one l) [
          | inl one ↦
              let is : other ≡ p.pair.two = o.two (ap (λ (q : Pair). q.one) e ∙ one.1) ∙ ap (λ (q : Pair). q.two) e in
              let P : ℕ → Type 0 =
              λ n. (Contains found n) × (n ≢ l) × Contains (slots_at a n) slot × (Contains known (negated n) → ⊥) in
              let off : p.pair.two ≢ l = λ z. p.apart (one.1 ∙ sym z) in
              subst P (sym is) (p.two, off, p.in_two, w.two_open off)
          | inr not_one ↦
              let off : p.pair.one ≢ l = not_one.1 in
              let is : other ≡ p.pair.one = o.one (λ z. off (sym (ap (λ (q : Pair). q.one) e) ∙ z)) ∙ ap (λ (q : Pair). q.one) e in
              let P : ℕ → Type 0 =
              λ n. (Contains found n) × (n ≢ l) × Contains (slots_at a n) slot × (Contains known (negated n) → ⊥) in
              subst P (sym is) (p.one, off, p.in_one, w.one_open off)
        ]

-- the other literal of a clause that is watched is one of its literals
pub other_in : (a : Watching) (slot l other : ℕ) (clause : List ℕ) → IsOther a slot l other → IsPaired a slot clause
    → Contains clause other
other_in a slot l other clause o p =
    let e : o.pair ≡ p.pair = same_Some o.pair p.pair (sym o.is ∙ p.is) in
    let P : ℕ → Type 0 = Contains clause in
    elim (eqb_tells o.pair.one l) [
      | inl one ↦ subst P (sym (o.two one.1 ∙ ap (λ (q : Pair). q.two) e)) p.two
      | inr off ↦ subst P (sym (o.one off.1 ∙ ap (λ (q : Pair). q.one) e)) p.one
    ]

-- ---- safe clauses are still

pub safe_still : (vars : ℕ) (values : List Bool) (lits : List ℕ) (w : Watching) (k : ℕ) (clause : List ℕ)
    → IsTrail vars values lits → IsSafe w lits lits k clause → IsStillUnder lits clause
safe_still vars values lits w k clause is (inl h) =
    still_forced lits clause h.literal h.has h.on (one_sign lits h.literal is.apart h.on)
safe_still vars values lits w k clause is (inr h) =
    let p = h.paired in open_has_two lits clause p.pair.one p.pair.two p.one p.two p.apart h.one_open h.two_open

-- a pair that is not false watches under all that is true
pub open_watched : (vars : ℕ) (values : List Bool) (lits : List ℕ) (w : Watching) (k : ℕ) (clause : List ℕ)
    → IsTrail vars values lits → IsPaired w k clause → IsOpenPair values w k → IsWatched w lits k clause
open_watched vars values lits w k clause is p open_is =
    let o = open_is p.pair p.is in
    record {
      paired = p;
      one_open = λ has. both_ways (bit values (negated p.pair.one)) o.0 (is.on (negated p.pair.one) has);
      two_open = λ has. both_ways (bit values (negated p.pair.two)) o.1 (is.on (negated p.pair.two) has);
    }
