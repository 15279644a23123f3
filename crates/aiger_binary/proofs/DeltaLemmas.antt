-- Deltas are read as they are spelled, and what is spelled so is read so.
use Rattle.std.proofs.Common.{◌≡◌, ℕ, zero, suc, ◌+◌, ◌-◌, ◌*◌, ◌%◌, ◌^◌, ◌<◌, ◌≤◌, true, false, ltb, List, [], ◌∷◌, ◌++◌, length, Result, Ok, Err, refl, sym, ap, subst, ◌∙◌, inl, inr, add-one, arith}
use Rattle.std.proofs.lemmas.Bool.Decides.{nat_tests}
use Rattle.std.proofs.lemmas.Nat.{mul-le}
use Rattle.std.proofs.Math.Nat.{pow-suc}
use Rattle.ja_text.specs.Forms.{BeginsWith}
use Rattle.ja_text.specs.Reading.{◌>>=◌}
use Rattle.ja_text.proofs.ReadingLemmas.{bind_ok, chosen, ok_is}
use Rattle.aiger_lines.specs.declared.refusal.ReadRefusal.{ReadRefusal}
use Rattle.aiger_lines.specs.declared.refusal.ReadRefusal.TheVariants as refusal
use Rattle.aiger_lines.specs.Reading.{place}
use Rattle.aiger_binary.specs.Delta.{HasOneEnd, groups_value, IsDelta}
use Rattle.aiger_binary.specs.Reading.{groups_at, delta_at}

is_below : (m n : ℕ) → ltb m n ≡ true → m < n
is_below m n h = grind (arith, nat_tests)

is_not_below : (m n : ℕ) → ltb m n ≡ false → n ≤ m
is_not_below m n h = grind (arith, nat_tests)

tests_below : (m n : ℕ) → m < n → ltb m n ≡ true
tests_below m n h = grind (arith, nat_tests)

tests_not_below : (m n : ℕ) → n ≤ m → ltb m n ≡ false
tests_not_below m n h = grind (arith, nat_tests)

-- ---- as the loop goes

-- groups of less weight came before: their value is known, and the weight of those that are still read
abbrev pub with_low : ℕ → ℕ → Result (ℕ × List ℕ) ReadRefusal → Result (ℕ × List ℕ) ReadRefusal
with_low number scale read = read >>= λ r. Ok (number + scale * r.0, r.1)

pub no_low : (read : Result (ℕ × List ℕ) ReadRefusal) → with_low 0 1 read ≡ read
no_low (Ok r) = ap (λ (n : ℕ). Ok (n, r.1)) (omega arith)
no_low (Err e) = refl

weighed : (number scale b n : ℕ) → number + scale * (b + 128 * n) ≡ number + b * scale + scale * 128 * n
weighed number scale b n = omega arith

more_low : (number scale b : ℕ) (read : Result (ℕ × List ℕ) ReadRefusal)
    → with_low number scale (read >>= λ r. Ok (b + 128 * r.0, r.1)) ≡ with_low (number + b * scale) (scale * 128) read
more_low number scale b (Ok r) = ap (λ (n : ℕ). Ok (n, r.1)) (weighed number scale b r.0)
more_low number scale b (Err e) = refl

module _ (size at number scale i : ℕ) (whole : Result (ℕ × List ℕ) ReadRefusal) where
  pub low_lacks : (rest : List ℕ) → i < 5 → rest ≡ [] → with_low number scale (groups_at size at (5 - i) rest) ≡ whole
      → whole ≡ Err (refusal.Short size)
  low_lacks rest lt e so_far =
      let left : 5 - i ≡ suc (5 - (i + 1)) = omega arith in
      let one : with_low number scale (groups_at size at (5 - i) rest) ≡ Err (refusal.Short size) = rw (left, e) refl in
      sym so_far ∙ one

  pub low_ends : (rest after : List ℕ) (b : ℕ) → i < 5 → rest ≡ b ∷ after → b < 128
      → with_low number scale (groups_at size at (5 - i) rest) ≡ whole → whole ≡ Ok (number + b % 128 * scale, after)
  low_ends rest after b lt e low so_far =
      let left : 5 - i ≡ suc (5 - (i + 1)) = omega arith in
      let one : with_low number scale (groups_at size at (5 - i) rest) ≡ Ok (number + scale * b, after) = rw
      (left, e, tests_below b 128 low) refl in
      let group : b % 128 ≡ b = omega arith in
      let same : number + scale * b ≡ number + b % 128 * scale = rw group (omega arith) in
      sym so_far ∙ one ∙ ap (λ (n : ℕ). Ok (n, after)) same

  pub low_goes_on : (rest after : List ℕ) (b : ℕ) → i < 5 → rest ≡ b ∷ after → 128 ≤ b
      → with_low number scale (groups_at size at (5 - i) rest) ≡ whole
      → with_low (number + b % 128 * scale) (scale * 128) (groups_at size at (5 - (i + 1)) after) ≡ whole
  low_goes_on rest after b lt e high so_far =
      let left : 5 - i ≡ suc (5 - (i + 1)) = omega arith in
      let one : with_low number scale (groups_at size at (5 - i) rest) ≡ with_low number scale
      (groups_at size at (5 - (i + 1)) after >>= λ r. Ok (b % 128 + 128 * r.0, r.1)) = rw
      (left, e, tests_not_below b 128 high) refl in
      sym (more_low number scale (b % 128) (groups_at size at (5 - (i + 1)) after)) ∙ sym one ∙ so_far

  pub low_is_full : (rest : List ℕ) → 5 ≤ i → with_low number scale (groups_at size at (5 - i) rest) ≡ whole
      → whole ≡ Err (refusal.Line at)
  low_is_full rest le so_far =
      let left : 5 - i ≡ 0 = omega arith in
      let one : with_low number scale (groups_at size at (5 - i) rest) ≡ Err (refusal.Line at) = rw left refl in
      sym so_far ∙ one

-- ---- the loop's numbers are small

pub product_small : (group scale : ℕ) → group < 128 → scale ≤ 34359738368 → group * scale < 2 ^ 63
product_small group scale g s =
    let most : group * scale ≤ 127 * 34359738368 = mul-le group scale 127 34359738368 (omega arith) s in
    omega arith

pub number_below : (number b scale : ℕ) → number < scale → number + b % 128 * scale < scale * 128
number_below number b scale lt =
    let part : b % 128 * scale ≤ 127 * scale = mul-le (b % 128) scale 127 scale (omega arith) (omega arith) in
    omega arith

pub next_scale : (i scale : ℕ) → scale ≡ 128 ^ i → scale * 128 ≡ 128 ^ (i + 1)
next_scale i scale e =
    let power : 128 ^ (i + 1) ≡ 128 ^ i * 128 = rw add-one (pow-suc 128 i) in
    omega arith

power_small : (i : ℕ) → i < 5 → 128 ^ i ≤ 268435456
power_small zero lt = omega arith
power_small (suc zero) lt = omega arith
power_small (suc (suc zero)) lt = omega arith
power_small (suc (suc (suc zero))) lt = omega arith
power_small (suc (suc (suc (suc zero)))) lt = omega arith
power_small (suc (suc (suc (suc (suc i))))) lt = absurd (omega arith)

pub next_small : (i scale : ℕ) → i < 5 → scale ≡ 128 ^ i → scale * 128 ≤ 34359738368
next_small i scale lt e =
    let small : 128 ^ i ≤ 268435456 = power_small i lt in
    omega arith

-- ---- as a whole

-- the text of groups, at most so many
record TakesGroups (most : ℕ) (bytes : List ℕ) (n : ℕ) (rest : List ℕ) : Type 0 where
  text : List ℕ
  parts : bytes ≡ text ++ rest
  ends : HasOneEnd text
  few : length text ≤ most
  value : n ≡ groups_value text

ends_more : (b : ℕ) (text : List ℕ) → 128 ≤ b → HasOneEnd text → HasOneEnd (b ∷ text)
ends_more b [] high ends = absurd ends
ends_more b (c ∷ bs) high ends = (high, ends)

last_group : (most b : ℕ) (bs : List ℕ) → b < 128 → TakesGroups (suc most) (b ∷ bs) b bs
last_group most b bs low = record { text = b ∷ []; parts = refl; ends = low; few = omega arith; value = omega arith }

one_more : (most b n : ℕ) (bs rest : List ℕ) → 128 ≤ b → TakesGroups most bs n rest
    → TakesGroups (suc most) (b ∷ bs) (b % 128 + 128 * n) rest
one_more most b n bs rest high t = record {
  text = b ∷ t.text;
  parts = ap (λ (k : List ℕ). b ∷ k) t.parts;
  ends = ends_more b t.text high t.ends;
  few = omega (arith, t.few);
  value = ap (λ (k : ℕ). b % 128 + 128 * k) t.value;
}

groups_take : (size at most : ℕ) (bytes : List ℕ) (n : ℕ) (rest : List ℕ) → groups_at size at most bytes ≡ Ok (n, rest)
    → TakesGroups most bytes n rest
groups_take size at zero bytes n rest e = absurd cc
groups_take size at (suc most) [] n rest e = absurd cc
groups_take size at (suc most) (b ∷ bs) n rest e =
    let Taken = λ (p : ℕ × List ℕ). TakesGroups (suc most) (b ∷ bs) p.0 p.1 in
    let Others : ℕ × List ℕ → Result (ℕ × List ℕ) ReadRefusal = λ r. Ok (b % 128 + 128 * r.0, r.1) in
    let others : Result (ℕ × List ℕ) ReadRefusal = groups_at size at most bs >>= Others in
    elim (chosen (ltb b 128) (Ok (b, bs)) others (Ok (n, rest)) e) [
      | inl h ↦ subst Taken (ok_is (b, bs) (n, rest) h.1) (last_group most b bs (is_below b 128 h.0))
      | inr h ↦
          let r = bind_ok (groups_at size at most bs) Others (n, rest) h.1 in
          let more = one_more most b r.0.0 bs r.0.1 (is_not_below b 128 h.0) (groups_take size at most bs r.0.0 r.0.1 r.1) in
          subst Taken (ok_is (b % 128 + 128 * r.0.0, r.0.1) (n, rest) r.2) more
    ]

groups_again : (size at most : ℕ) (text rest : List ℕ) → HasOneEnd text → length text ≤ most
    → groups_at size at most (text ++ rest) ≡ Ok (groups_value text, rest)
groups_again size at most [] rest ends few = absurd ends
groups_again size at zero (b ∷ bs) rest ends few = absurd (omega arith)
groups_again size at (suc most) (b ∷ []) rest ends few =
    let group : b ≡ b % 128 + 128 * 0 = omega arith in
    rw (tests_below b 128 ends) (ap (λ (k : ℕ). Ok (k, rest)) group)
groups_again size at (suc most) (b ∷ c ∷ bs) rest ends few =
    let others = groups_again size at most (c ∷ bs) rest ends.1 (omega arith) in
    rw (tests_not_below b 128 ends.0, others) refl

pub delta_takes : (size : ℕ) (bytes : List ℕ) (n : ℕ) (rest : List ℕ) → delta_at size bytes ≡ Ok (n, rest)
    → BeginsWith (λ text. IsDelta text n) bytes rest
unfolding delta_at
delta_takes size bytes n rest e =
    let t = groups_take size (place size bytes) 5 bytes n rest e in
    record { text = t.text; form = record { ends = t.ends; few = t.few; value = t.value }; parts = t.parts }

pub delta_again : (size : ℕ) (text : List ℕ) (n : ℕ) (rest : List ℕ) → IsDelta text n
    → delta_at size (text ++ rest) ≡ Ok (n, rest)
unfolding delta_at
delta_again size text n rest d = groups_again size (place size (text ++ rest)) 5 text rest d.ends d.few
    ∙ ap (λ (k : ℕ). Ok (k, rest)) (sym d.value)
