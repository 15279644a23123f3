-- Steps that are repeated, as a loop goes and as a whole.
use Rattle.std.proofs.Common.{◌≡◌, ℕ, zero, suc, ◌+◌, ◌-◌, ◌<◌, ◌≤◌, List, [], ◌∷◌, ◌++◌, length, Result, Ok, Err, refl, sym, ap, subst, ◌∙◌, inl, inr, append_assoc, arith}
use Rattle.std.proofs.lemmas.List.{append-nil}
use Rattle.ja_base.specs.declared.memory.OrMemory.{OrMemory}
use Rattle.ja_base.specs.declared.memory.OrMemory.TheVariants as or_memory
use Rattle.ja_text.specs.Reading.{◌>>=◌, Fails}
use Rattle.ja_text.specs.Repeated.{repeated, Chain, with_front, IsUnderway, FailsBehind}
use Rattle.ja_text.proofs.ReadingLemmas.{bind_ok, bind_err, ok_is}

ok_not_err : {A F : Type 0} (x : A) (f : F) → ◌≡◌ {A = Result A F} (Ok x) (Err f) → ⊥
ok_not_err x f e = cc

-- ---- as a loop goes

regroup : {S X F : Type 0} (front : List X) (x : X) (read : Result (List X × S) F)
    → with_front front (read >>= λ r. Ok (x ∷ r.0, r.1)) ≡ with_front (front ++ x ∷ []) read
regroup {X} front x (Ok r) = ap (λ (xs : List X). Ok (xs, r.1)) (sym (append_assoc front (x ∷ []) r.0))
regroup front x (Err f) = refl

no_front : {S X F : Type 0} (read : Result (List X × S) F) → with_front [] read ≡ read
no_front (Ok r) = refl
no_front (Err f) = refl

module _ {S X F : Type 0} {step : S → Result (X × S) F} where
  -- no step was made
  pub begins : (count : ℕ) (start : S) → IsUnderway step count start 0 [] start
  begins count start = record {
    whole = no_front (repeated step (count - 0) start)
        ∙ ap (λ (n : ℕ). repeated step n start) (omega arith);
  }

  -- one more step was made
  pub goes_on : {count i : ℕ} {start s t : S} {front : List X} {x : X} → IsUnderway step count start i front s → i < count
      → step s ≡ Ok (x, t)
      → IsUnderway step count start (i + 1) (front ++ x ∷ []) t
  unfolding repeated
  goes_on {count} {i} {start} {s} {t} {front} {x} so_far lt h =
      let left : count - i ≡ suc (count - (i + 1)) = omega arith in
      let one : with_front front (repeated step (count - i) s) ≡ with_front (front ++ x ∷ [])
      (repeated step (count - (i + 1)) t) = rw (left, h) (regroup front x (repeated step (count - (i + 1)) t)) in
      record { whole = sym one ∙ so_far.whole }

  -- a step failed, and so do all
  pub ends : (e : OrMemory F) {count i : ℕ} {start s : S} {front : List X} → IsUnderway step count start i front s → i < count
      → Fails e (step s)
      → Fails e (repeated step count start)
  unfolding repeated
  ends or_memory.Memory so_far lt h = tt
  ends (or_memory.Refused f) {count} {i} {start} {s} {front} so_far lt h =
      let left : count - i ≡ suc (count - (i + 1)) = omega arith in
      let one : with_front front (repeated step (count - i) s) ≡ Err f = rw (left, h) refl in
      sym so_far.whole ∙ one

  -- all steps were made
  pub is_done : {count i : ℕ} {start s : S} {front : List X} → IsUnderway step count start i front s → count ≤ i
      → repeated step count start ≡ Ok (front, s)
  unfolding repeated
  is_done {count} {i} {start} {s} {front} so_far le =
      let left : count - i ≡ 0 = omega arith in
      let one : with_front front (repeated step (count - i) s) ≡ Ok (front, s) = rw left
      (ap (λ (xs : List X). Ok (xs, s)) (append-nil front)) in
      sym so_far.whole ∙ one

-- ---- as a whole

module _ {S X F : Type 0} (step : S → Result (X × S) F) where
  takes_next : (P : S → X → S → Type 0) (I : S → Type 0) (n : ℕ) (s : S) (x : X) (u : S) (ys : List X) (v : S) (xs : List X)
      (t : S)
      → P s x u → Chain P u ys v → I v → length ys ≡ n → ◌≡◌ {A = Result (List X × S) F} (Ok (x ∷ ys, v)) (Ok (xs, t))
      → Chain P s xs t × I t × (length xs ≡ suc n)
  takes_next P I n s x u ys v xs t p c i len e =
      subst (λ (q : List X × S). Chain P s q.0 q.1 × I q.1 × (length q.0 ≡ suc n)) (ok_is (x ∷ ys, v) (xs, t) e)
      ((u, p, c), i, ap suc len)

  -- where each step from a state with I takes what P says and keeps I, all of them take a chain of it
  pub repeated_takes : (P : S → X → S → Type 0) (I : S → Type 0)
      → ((s : S) (x : X) (t : S) → I s → step s ≡ Ok (x, t) → P s x t × I t)
      → (n : ℕ) (s : S) (xs : List X) (t : S) → I s → repeated step n s ≡ Ok (xs, t) → Chain P s xs t × I t × (length xs ≡ n)
  unfolding repeated
  repeated_takes P I each zero s xs t i e =
      subst (λ (p : List X × S). Chain P s p.0 p.1 × I p.1 × (length p.0 ≡ 0)) (ok_is ([], s) (xs, t) e) (refl, i, refl)
  repeated_takes P I each (suc n) s xs t i e =
      let a = bind_ok (step s) (λ first. repeated step n first.1 >>= λ others. Ok (first.0 ∷ others.0, others.1)) (xs, t) e in
      let b = bind_ok (repeated step n a.0.1) (λ others. Ok (a.0.0 ∷ others.0, others.1)) (xs, t) a.2 in
      let first = each s a.0.0 a.0.1 i a.1 in
      let others = repeated_takes P I each n a.0.1 b.0.0 b.0.1 first.1 b.1 in
      takes_next P I n s a.0.0 a.0.1 b.0.0 b.0.1 xs t first.0 others.0 others.1 others.2 b.2

  -- where each item that P allows is read again, a chain of them is
  pub repeated_again : (P : S → X → S → Type 0) → ((s : S) (x : X) (t : S) → P s x t → step s ≡ Ok (x, t))
      → (s : S) (xs : List X) (t : S) → Chain P s xs t → repeated step (length xs) s ≡ Ok (xs, t)
  unfolding repeated
  repeated_again P each s [] t h = ap (λ (u : S). Ok ([], u)) h
  repeated_again P each s (x ∷ xs) t h = rw (each s x h.0 h.1, repeated_again P each h.0 xs t h.2) refl

  FailsBehind-more : (n : ℕ) (s u : S) (x : X) (f : F) → step s ≡ Ok (x, u) → FailsBehind step n u f
      → FailsBehind step (suc n) s f
  FailsBehind-more n s u x f read h =
      record { items = x ∷ h.items; state = h.state; made = (u, read, h.made); fewer = omega (arith, h.fewer); fails = h.fails }

  fails_next : (n : ℕ) (s : S) (f : F) (first : X × S) → step s ≡ Ok first
      → ((d : F) → repeated step n first.1 ≡ Err d → FailsBehind step n first.1 d)
      → with_front (first.0 ∷ []) (repeated step n first.1) ≡ Err f → FailsBehind step (suc n) s f
  fails_next n s f first read ih e =
      elim (bind_err (repeated step n first.1) (λ others. Ok (first.0 ∷ others.0, others.1)) f e) [
        | inl h ↦ FailsBehind-more n s first.1 first.0 f read (ih f h)
        | inr h ↦ absurd (ok_not_err (first.0 ∷ h.0.0, h.0.1) f h.2)
      ]

  -- where all of them fail, one step does
  pub repeated_fails : (n : ℕ) (s : S) (f : F) → repeated step n s ≡ Err f → FailsBehind step n s f
  unfolding repeated
  repeated_fails zero s f e = absurd (ok_not_err ([], s) f e)
  repeated_fails (suc n) s f e =
      elim (bind_err (step s) (λ first. repeated step n first.1 >>= λ others. Ok (first.0 ∷ others.0, others.1)) f e) [
        | inl h ↦ record { items = []; state = s; made = refl; fewer = omega arith; fails = h }
        | inr h ↦ fails_next n s f h.0 h.1 (λ d g. repeated_fails n h.0.1 d g) h.2
      ]
