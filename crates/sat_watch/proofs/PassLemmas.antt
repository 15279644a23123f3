-- How far propagation has come behind a pass.
use Rattle.std.proofs.Common.{◌≡◌, ℕ, ◌+◌, ◌<◌, ◌≤◌, ◌⊎◌, Bool, true, false, List, length, take, drop, Some, slice_get, inl, inr, refl, sym, subst, ◌∙◌, ap, arith}
use Rattle.std.specs.List.{Contains}
use Rattle.std.proofs.lemmas.Bool.{both_ways}
use Rattle.std.proofs.lemmas.List.{take_at, take-append-le, take_all}
use Rattle.ja_base.specs.Trails.{IsTrail}
use Rattle.ja_base.specs.Literals.{negated}
use Rattle.sat_plain.proofs.Members.{taken_is_on}
use Rattle.sat_plain.proofs.PlaceLemmas.{lits_length}
use Rattle.sat_plain.specs.declared.place.Place.{Place}
use Rattle.sat_plain.specs.Trails.{lits_of}
use Rattle.sat_watch.specs.declared.front.Front.{Front}
use Rattle.sat_watch.specs.Stores.{Stored, IsThere}
use Rattle.sat_watch.specs.Steps.{IsForcedOn, IsStill}
use Rattle.sat_watch.specs.Watching.{Watching, slots_at, IsPaired}
use Rattle.sat_watch.specs.Visits.{IsBased, IsTrueUnder, IsSafe, AreSwept}
use Rattle.sat_watch.specs.Fronts.{IsMark, IsReady, IsTended}
use Rattle.sat_watch.proofs.MemberLemmas.{is_in}
use Rattle.sat_watch.proofs.FrontLemmas.{front_known, lits_more, longer_of}
use Rattle.sat_watch.proofs.SafeLemmas.{safe_less, safe_still}
use Rattle.sat_watch.proofs.StillLemmas.{still_values}
use Rattle.sat_watch.proofs.SweepLemmas.{narrows_next, past_end}
use Rattle.sat_watch.proofs.TendLemmas.{tended_front}

-- the first places are as they were
same_first : (before after : List Place) (n : ℕ) → IsForcedOn before after → n ≤ length before
    → take n (lits_of after) ≡ take n (lits_of before)
same_first before after n grown low =
    ap (take n) (lits_more before after grown)
    ∙ take-append-le n (lits_of before) (lits_of grown.more) (omega (arith, low, lits_length before))

pub grown_has : (before after : List Place) → IsForcedOn before after → (m : ℕ) → Contains (lits_of before) m
    → Contains (lits_of after) m
grown_has before after grown m has =
    let P : List ℕ → Type 0 = λ v. Contains v m in
    let whole : take (length (lits_of before)) (lits_of after) ≡ lits_of before =
    ap (take (length (lits_of before))) (lits_more before after grown)
    ∙ take_at (lits_of before) (lits_of grown.more) (length (lits_of before)) refl in
    taken_is_on (lits_of after) (length (lits_of before)) m (subst P (sym whole) has)

-- ---- all clauses were looked at

pub tended_looked : (vars : ℕ) (store : Stored) (before after : List Place) (w : Watching) (a b : Front)
    → IsForcedOn before after → b.marks.items ≡ a.marks.items → b.log.items ≡ a.log.items → b.head ≡ length before
    → b.seen ≡ length b.log.items
    → ((k : ℕ) (clause : List ℕ) → IsThere store k clause → IsSafe w (lits_of after) (lits_of before) k clause)
    → IsTended vars store (lits_of after) w a → IsTended vars store (lits_of after) w b
tended_looked vars store before after w a b grown marks log head seen safe h =
    let within : (m : ℕ) → Contains (take b.head (lits_of after)) m → Contains (lits_of before) m =
    λ m has.
    let P : List ℕ → Type 0 = λ v. Contains v m in
    taken_is_on (lits_of before) b.head m (subst P (same_first before after b.head grown (omega (arith, head))) has) in
    tended_front vars store (lits_of after) w a b
    (front_known vars store w (lits_of after) a b marks log
    (omega (arith, head, longer_of before after grown, lits_length after)) (omega (arith, seen))
    (λ k clause there off.
    safe_less w (lits_of after) (lits_of before) (take b.head (lits_of after)) k clause within (safe k clause there)) h.front_is) h

-- ---- the clauses that came were looked at

pub tended_new_looked : (vars : ℕ) (store : Stored) (before after : List Place) (w : Watching) (a b : Front)
    → IsForcedOn before after → a.dirty ≡ false → a.head ≤ length before → b.marks.items ≡ a.marks.items
    → b.log.items ≡ a.log.items → b.head ≡ a.head → b.seen ≡ length b.log.items
    → ((k : ℕ) (clause : List ℕ) → Contains (drop a.seen a.log.items) k → IsThere store k clause
    → IsSafe w (lits_of after) (lits_of before) k clause)
    → IsTended vars store (lits_of after) w a → IsTended vars store (lits_of after) w b
tended_new_looked vars store before after w a b grown clean low marks log head seen safe h =
    let within : (m : ℕ) → Contains (take b.head (lits_of after)) m → Contains (lits_of before) m =
    λ m has.
    let P : List ℕ → Type 0 = λ v. Contains v m in
    taken_is_on (lits_of before) b.head m (subst P (same_first before after b.head grown (omega (arith, head, low))) has) in
    tended_front vars store (lits_of after) w a b
    (front_known vars store w (lits_of after) a b marks log
    (omega (arith, head, low, longer_of before after grown, lits_length after)) (omega (arith, seen))
    (λ k clause there off.
    elim (is_in (drop a.seen a.log.items) k) [
      | inl has ↦
          safe_less w (lits_of after) (lits_of before) (take b.head (lits_of after)) k clause within (safe k clause has there)
      | inr free ↦
          let P : ℕ → Type 0 = λ n. IsSafe w (lits_of after) (take n (lits_of after)) k clause in
          subst P (sym head) (h.front_is.safe clean k clause there free)
    ]) h.front_is) h

-- ---- the clauses that the next literal watches were visited

pub tended_swept : (vars : ℕ) (store : Stored) (before after : List Place) (old w : Watching) (a b : Front) (l : ℕ)
    → IsForcedOn before after → IsReady a → a.head < length before → slice_get (lits_of before) a.head ≡ Some l
    → b.marks.items ≡ a.marks.items → b.log.items ≡ a.log.items → b.head ≡ a.head + 1 → b.seen ≡ a.seen
    → AreSwept store (lits_of before) old (lits_of after) w (negated l) (length (slots_at w (negated l)))
    → IsTended vars store (lits_of before) old a → IsTended vars store (lits_of after) w a
    → IsTended vars store (lits_of after) w b
tended_swept vars store before after old w a b l grown ready low is marks log head seen swept first h =
    let same : take b.head (lits_of after) ≡ take (a.head + 1) (lits_of before) =
    ap (λ n. take n (lits_of after)) head ∙ same_first before after (a.head + 1) grown (omega (arith, low)) in
    tended_front vars store (lits_of after) w a b
    (front_known vars store w (lits_of after) a b marks log
    (omega (arith, head, low, longer_of before after grown, lits_length after))
    (omega (arith, seen, ap length log, ready.seen))
    (λ k clause there off.
    let P : List ℕ → Type 0 = λ v. IsSafe w (lits_of after) v k clause in
    subst P (sym same)
    (swept (take a.head (lits_of before)) (take (a.head + 1) (lits_of before)) k clause
    (narrows_next (lits_of before) a.head l is) there
    (past_end (slots_at w (negated l)) (length (slots_at w (negated l))) k (omega arith))
    (first.front_is.safe ready.clean k clause there
    (past_end a.log.items a.seen k (omega (arith, ready.seen)))))) h.front_is) h

-- where all clauses that came were looked at, each is true or watched
pub tended_based : (vars : ℕ) (store : Stored) (lits : List ℕ) (w : Watching) (front : Front) → IsReady front
    → IsTended vars store lits w front → (k : ℕ) → IsBased store lits w k
tended_based vars store lits w front ready h k clause there =
    go (h.front_is.safe ready.clean k clause there (past_end front.log.items front.seen k (omega (arith, ready.seen))))
  where
    go : IsSafe w lits (take front.head lits) k clause → IsTrueUnder lits clause ⊎ IsPaired w k clause
    go (inl t) = inl t
    go (inr v) = inr v.paired

-- ---- at the end

-- where nothing is left to look at, all clauses are safe
pub tended_end : (vars : ℕ) (store : Stored) (lits : List ℕ) (w : Watching) (front : Front) → IsReady front
    → length lits ≤ front.head → IsTended vars store lits w front → (k : ℕ) (clause : List ℕ) → IsThere store k clause
    → IsSafe w lits lits k clause
tended_end vars store lits w front ready past h k clause there =
    let P : List ℕ → Type 0 = λ v. IsSafe w lits v k clause in
    subst P (take_all front.head lits past)
    (h.front_is.safe ready.clean k clause there (past_end front.log.items front.seen k (omega (arith, ready.seen))))

-- and then no clause is false or forces a literal without a value
pub tended_quiet : (vars : ℕ) (store : Stored) (values : List Bool) (lits : List ℕ) (w : Watching) (front : Front) (n : ℕ)
    → IsTrail n values lits → IsReady front → length lits ≤ front.head → IsTended vars store lits w front
    → (k : ℕ) (clause : List ℕ) → IsThere store k clause → IsStill values clause
tended_quiet vars store values lits w front n is ready past h k clause there =
    still_values n values lits clause is
    (safe_still n values lits w k clause is (tended_end vars store lits w front ready past h k clause there))

-- it is not known any longer how far propagation has come
pub tended_dirty : (vars : ℕ) (store : Stored) (lits : List ℕ) (w : Watching) (a b : Front) → b.marks.items ≡ a.marks.items
    → b.log.items ≡ a.log.items → b.dirty ≡ true → IsTended vars store lits w a → IsTended vars store lits w b
tended_dirty vars store lits w a b marks log dirty h =
    tended_front vars store lits w a b
    (record {
      wide = omega (arith, h.front_is.wide, ap length marks);
      marked = λ d n f.
          let P : List ℕ → Type 0 = λ v. IsMark store w lits v d n in
          subst P (sym log) (h.front_is.marked d n (sym (ap (λ v. slice_get v d) marks) ∙ f));
      low = λ f. absurd (both_ways b.dirty f dirty);
      read = λ f. absurd (both_ways b.dirty f dirty);
      safe = λ f. absurd (both_ways b.dirty f dirty);
    }) h
