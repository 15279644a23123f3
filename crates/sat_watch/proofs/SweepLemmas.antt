-- What a pass over the clauses that one literal watches has come to.
use Rattle.std.proofs.Common.{◌≡◌, ◌≢◌, ℕ, ◌+◌, ◌≤◌, ◌⊎◌, Bool, true, false, List, length, take, drop, Some, slice_get, inl, inr, sym, subst, ◌∙◌, ap, arith}
use Rattle.std.specs.List.{Contains}
use Rattle.std.proofs.lemmas.Bool.{both_ways}
use Rattle.std.proofs.lemmas.Bool.Decides.{eqb_tells}
use Rattle.std.proofs.lemmas.List.Elements.{Contains-push_cases}
use Rattle.ja_base.specs.Literals.{bit, negated}
use Rattle.ja_base.specs.Trails.{IsTrail}
use Rattle.ja_base.proofs.LiteralLemmas.{negated_twice}
use Rattle.sat_plain.proofs.FinishLemmas.{one_sign}
use Rattle.sat_plain.proofs.Members.{Contains-cases, drop_next, dropped_at, taken_is_on, take_next}
use Rattle.sat_watch.specs.Stores.{Stored, IsThere}
use Rattle.sat_watch.specs.Watching.{Watching, slots_at, IsPaired, IsOther, Keeps}
use Rattle.sat_watch.specs.Visits.{IsBased, IsTrueUnder, IsSafe, Moves, Narrows, AreSwept}
use Rattle.sat_watch.proofs.SafeLemmas.{true_more, safe_more, safe_but, other_in}

pub swept_begin : (store : Stored) (lits : List ℕ) (w : Watching) (l : ℕ) → AreSwept store lits w lits w l 0
swept_begin store lits w l known more k clause n there off s = go s
  where
    go : IsSafe w lits known k clause → IsSafe w lits more k clause
    go (inl h) = inl h
    go (inr h) =
        let p = h.paired in
        let P : ℕ → Type 0 = λ m. Contains (slots_at w m) k in
        inr (record {
          paired = p;
          one_open = λ has. h.one_open (n.one p.pair.one has (λ e. off (subst P e p.in_one)));
          two_open = λ has. h.two_open (n.one p.pair.two has (λ e. off (subst P e p.in_two)));
        })

-- the next clause is true
pub swept_next : (store : Stored) (before lits all : List ℕ) (a b : Watching) (l at slot : ℕ)
    → AreSwept store before a lits b l at → slice_get (slots_at b l) at ≡ Some slot
    → ((m : ℕ) → Contains lits m → Contains all m)
    → ((clause : List ℕ) → IsThere store slot clause → IsTrueUnder all clause) → AreSwept store before a all b l (at + 1)
swept_next store before lits all a b l at slot h is grown true_now known more k clause n there off s =
    elim (eqb_tells k slot) [
      | inl same ↦ let P : ℕ → Type 0 = λ m. IsThere store m clause in inl (true_now clause (subst P same.1 there))
      | inr other ↦
          let o = other.1 in
          let P : List ℕ → Type 0 = λ v. Contains v k in
          safe_more b lits all more k clause grown
          (h known more k clause n there
          (λ has. elim (Contains-cases slot k (drop (at + 1) (slots_at b l)) (subst P (drop_next (slots_at b l) at slot is) has)) [
            | inl same ↦ o (sym same)
            | inr later ↦ off later
          ])
          s)
    ]

-- the next clause is watched by another literal
pub swept_passed : (store : Stored) (before lits : List ℕ) (a b c : Watching) (l at slot : ℕ)
    → AreSwept store before a lits b l at → Keeps store before a b → ((m : ℕ) → Contains before m → Contains lits m)
    → Moves store lits b l at slot c → AreSwept store before a lits c l at
swept_passed store before lits a b c l at slot h keeps grown moved known more k clause n there off s =
    elim (eqb_tells k slot) [
      | inl same ↦
          let P : ℕ → Type 0 = λ m. IsSafe c lits more m clause in
          let Q : ℕ → Type 0 = λ m. IsThere store m clause in
          let R : ℕ → Type 0 = λ m. IsSafe a before known m clause in
          let here = subst Q same.1 there in
          subst P (sym same.1) (go here (subst R same.1 s))
      | inr other ↦
          let o = other.1 in
          safe_but slot b c lits more k clause moved.but o
          (h known more k clause n there (λ has. off (moved.rest k o has)) s)
    ]
  where
    go : IsThere store slot clause → IsSafe a before known slot clause → IsSafe c lits more slot clause
    go here (inl t) = inl (true_more before lits clause grown t)
    go here (inr w) =
        let v = keeps.watched known slot clause n.least here w in
        inr (moved.moves more clause (λ m has. grown m (n.within m has)) here (record {
          paired = v.paired;
          one_open = λ apart has. v.one_open (n.one v.paired.pair.one has apart);
          two_open = λ apart has. v.two_open (n.one v.paired.pair.two has apart);
        }))

-- the literals before the next place, and those up to it
pub narrows_next : (lits : List ℕ) (head l : ℕ) → slice_get lits head ≡ Some l
    → Narrows (negated l) lits (take head lits) (take (head + 1) lits)
narrows_next lits head l is = record {
  within = λ m has. taken_is_on lits (head + 1) m has;
  least = λ m has. taken_is_on lits head m has;
  one = λ m has off.
      let P : List ℕ → Type 0 = λ v. Contains v (negated m) in
      elim (Contains-push_cases (take head lits) l (negated m) (subst P (take_next lits head l is) has)) [
        | inl old ↦ old
        | inr new ↦ absurd (off (sym (negated_twice m) ∙ ap negated (sym new)))
      ];
}

-- nothing stands past the end
pub past_end : (xs : List ℕ) (n k : ℕ) → length xs ≤ n → Contains (drop n xs) k → ⊥
past_end xs n k e has = let r = dropped_at xs n k has in omega (arith, r.1, r.2, e)

-- ---- a clause that is settled

-- where all literals but one are false, and that one is not true, the clause has it
pub left_in : (store : Stored) (vars : ℕ) (values : List Bool) (lits : List ℕ) (w : Watching) (slot l other : ℕ) (clause : List ℕ)
    → IsTrail vars values lits → IsBased store lits w slot → IsOther w slot l other → IsThere store slot clause
    → bit values other ≡ false → ((m : ℕ) → Contains clause m → m ≢ other → bit values (negated m) ≡ true)
    → Contains clause other
left_in store vars values lits w slot l other clause is based o there unset wrong = go (based clause there)
  where
    go : IsTrueUnder lits clause ⊎ IsPaired w slot clause → Contains clause other
    go (inr p) = other_in w slot l other clause o p
    go (inl t) =
        elim (eqb_tells t.literal other) [
          | inl same ↦
              let P : ℕ → Type 0 = Contains lits in
              absurd (both_ways (bit values other) unset (is.on other (subst P same.1 t.on)))
          | inr off ↦
              absurd (one_sign lits t.literal is.apart t.on (is.only (negated t.literal) (wrong t.literal t.has off.1)))
        ]

-- where the other literal that watches it is true, the clause is
pub other_true : (store : Stored) (vars : ℕ) (values : List Bool) (lits : List ℕ) (w : Watching) (slot l other : ℕ)
    (clause : List ℕ) → IsTrail vars values lits → IsBased store lits w slot → IsOther w slot l other → IsThere store slot clause
    → bit values other ≡ true → IsTrueUnder lits clause
other_true store vars values lits w slot l other clause is based o there on = go (based clause there)
  where
    go : IsTrueUnder lits clause ⊎ IsPaired w slot clause → IsTrueUnder lits clause
    go (inl t) = t
    go (inr p) = record { literal = other; has = other_in w slot l other clause o p; on = is.only other on }
