-- What a question without a log knows of its clauses, step by step.
use Rattle.std.proofs.Common.{◌≡◌, ℕ, ◌+◌, ◌-◌, ◌<◌, ◌≤◌, Bool, true, false, nat_lt, cond, List, [], ◌∷◌, ◌++◌, length, map, take, Option, Some, None, inl, inr, refl, sym, subst, ◌∙◌, ap, arith}
use Rattle.std.specs.Bool.{OnFalse}
use Rattle.std.specs.List.{All, Contains}
use Rattle.std.proofs.lemmas.Bool.{OnFalse_at}
use Rattle.std.proofs.lemmas.Bool.Decides.{nat_tests}
use Rattle.std.proofs.lemmas.List.{length_push, take_at, get_or_append_left}
use Rattle.std.proofs.lemmas.List.Elements.{All-nil, All-push, All-same, All-take}
use Rattle.std.proofs.lemmas.Option.{get_or_from_slice_get, slice_get_within}
use Rattle.ja_base.specs.Literals.{bit, negated, value, SatisfiedBy, AllSatisfiedBy}
use Rattle.ja_base.proofs.ClauseLemmas.{is_part_decides}
use Rattle.refute_check.specs.Checked.{Follows, FollowsOne}
use Rattle.refute_check.specs.Lines.{refusal}
use Rattle.refute_check.proofs.Covered.{covered_is_refuted}
use Rattle.refute_check.proofs.ListLemmas.{accepted_below}
use Rattle.refute_check.proofs.Sound.{accepted_follows}
use Rattle.sat_plain.specs.Answer.{clauses_of}
use Rattle.sat_plain.specs.Probed.{Closes}
use Rattle.sat_plain.proofs.PlaceLemmas.{slice_get_push}
use Rattle.sat_cdcl.specs.declared.query.Query.{Query}
use Rattle.sat_cdcl.specs.declared.question.Question.{Question}
use Rattle.sat_cdcl.specs.Assumptions.{AreNegatedIn}
use Rattle.sat_cdcl.specs.Files.{Filed, list_of}
use Rattle.sat_cdcl.specs.Questions.{is_tainted, IsKeepable, IsLearning, LearnsOn}
use Rattle.sat_cdcl.proofs.FileLemmas.{last_is}
use Rattle.sat_cdcl.proofs.SearchLemmas.{core_of, both_of}
use Rattle.sat_cdcl.proofs.TaintLemmas.{named_follows}

-- ---- a list of clauses

pub follows_self : (list : List (List ℕ)) → Follows list list
follows_self list v all = all

pub follows_push : (added list : List (List ℕ)) (c : List ℕ) → Follows added list → FollowsOne added c
    → Follows added (list ++ c ∷ [])
follows_push added list c h one v all = All-push (SatisfiedBy (value v)) list c (h v all) (one v all)

pub follows_front : (list more : List (List ℕ)) → Follows (list ++ more) list
follows_front list more v all =
    All-same (SatisfiedBy (value v)) list (take (length list) (list ++ more))
    (sym (take_at list more (length list) refl)) (All-take (SatisfiedBy (value v)) (length list) (list ++ more) all)

pub last_holds : (list : List (List ℕ)) (c : List ℕ) (v : List Bool) → AllSatisfiedBy (value v) (list ++ c ∷ [])
    → SatisfiedBy (value v) c
last_holds list c v all =
    let P : List ℕ → Type 0 = SatisfiedBy (value v) in
    let wide = length_push list c in
    subst P (get_or_from_slice_get (list ++ c ∷ []) (length list) c [] (last_is list c))
    (all (length list) [] (omega (arith, wide)))

-- ---- taints

-- one more bit changes no other number
tainted_before : (first n : ℕ) (taints : List Bool) (b : Bool) → n < first + length taints
    → is_tainted first (taints ++ b ∷ []) n ≡ is_tainted first taints n
tainted_before first n taints b less = go (nat_lt n first) refl
  where
    go : (low : Bool) → nat_lt n first ≡ low
        → cond low false (bit (taints ++ b ∷ []) (n - first)) ≡ cond low false (bit taints (n - first))
    go true e = refl
    go false e =
        let high : first ≤ n = grind (arith, nat_tests) in
        get_or_append_left taints (b ∷ []) false (n - first) (omega (arith, less, high))

tainted_last : (first n : ℕ) (taints : List Bool) (b : Bool) → n ≡ first + length taints
    → is_tainted first (taints ++ b ∷ []) n ≡ b
tainted_last first n taints b e = go (nat_lt n first) refl
  where
    go : (low : Bool) → nat_lt n first ≡ low → cond low false (bit (taints ++ b ∷ []) (n - first)) ≡ b
    go true f = absurd (let low : n < first = grind (arith, nat_tests) in omega (arith, low, e))
    go false f =
        ap (bit (taints ++ b ∷ [])) (let is : n - first ≡ length taints = omega (arith, e) in is)
        ∙ get_or_from_slice_get (taints ++ b ∷ []) (length taints) b false (last_is taints b)

-- ---- steps

-- one more clause, with its bit
pub learning_push : (vars : ℕ) (added : List (List ℕ)) (extra : Option (List ℕ)) (list : List (List ℕ)) (c : List ℕ) (b : Bool)
    (q q' : Question) → IsLearning vars added extra list q → q'.first ≡ q.first → q'.taints.items ≡ q.taints.items ++ b ∷ []
    → All (IsKeepable vars added) q'.kept.items → FollowsOne (clauses_of added extra) c → (b ≡ false → FollowsOne added c)
    → IsLearning vars added extra (list ++ c ∷ []) q'
learning_push vars added extra list c b q q' h first taints keeps one clean = record {
  width = length_push list c ∙ ap (λ n. n + 1) h.width
      ∙ (let l = ap length taints ∙ length_push q.taints.items b in omega (arith, l, first));
  sound = follows_push (clauses_of added extra) list c h.sound one;
  whole = λ v all. h.whole v (follows_front list (c ∷ []) v all);
  clean = λ n d e off.
      let T : Bool = is_tainted q'.first q'.taints.items n in
      let same : T ≡ is_tainted q.first (q.taints.items ++ b ∷ []) n =
      ap (λ k. is_tainted k q'.taints.items n) first ∙ ap (λ v. is_tainted q.first v n) taints in
      elim (slice_get_push list c n d e) [
        | inl old ↦
            let low = slice_get_within list n d old in
            h.clean n d old (sym (tainted_before q.first n q.taints.items b (omega (arith, low, h.width))) ∙ sym same ∙ off)
        | inr last ↦
            let P : List ℕ → Type 0 = FollowsOne added in
            subst P (sym last.1)
            (clean (sym (tainted_last q.first n q.taints.items b (last.0 ∙ h.width)) ∙ sym same ∙ off))
      ];
  keeps = keeps;
}

-- other copies are kept
pub learning_kept : (vars : ℕ) (added : List (List ℕ)) (extra : Option (List ℕ)) (list : List (List ℕ)) (q q' : Question)
    → IsLearning vars added extra list q → q'.first ≡ q.first → q'.taints.items ≡ q.taints.items
    → All (IsKeepable vars added) q'.kept.items → IsLearning vars added extra list q'
learning_kept vars added extra list q q' h first taints keeps = record {
  width = let l = ap length taints in let w = h.width in omega (arith, l, first, w);
  sound = h.sound;
  whole = h.whole;
  clean = λ n d e off.
      h.clean n d e (sym (ap (λ k. is_tainted k q'.taints.items n) first ∙ ap (λ v. is_tainted q.first v n) taints) ∙ off);
  keeps = keeps;
}

-- the clause of a line, which may rest on the extra clause only where a clause does that a hint names
pub line_clean : (vars : ℕ) (added : List (List ℕ)) (extra : Option (List ℕ)) (list : List (List ℕ)) (n : ℕ)
    (clause hints : List ℕ) (q : Question) → IsLearning vars added extra list q → refusal n list clause hints ≡ None
    → All (λ k. is_tainted q.first q.taints.items k ≡ false) hints → FollowsOne added clause
line_clean vars added extra list n clause hints q h e off v all =
    named_follows n (is_tainted q.first q.taints.items) list clause hints v e off
    (λ k c there clean. h.clean k c there clean v all)

pub line_sound : (vars : ℕ) (added : List (List ℕ)) (extra : Option (List ℕ)) (list : List (List ℕ)) (n : ℕ)
    (clause hints : List ℕ) (q : Question) → IsLearning vars added extra list q → refusal n list clause hints ≡ None
    → FollowsOne (clauses_of added extra) clause
line_sound vars added extra list n clause hints q h e v all = accepted_follows n list clause hints e v (h.sound v all)

-- the clause of a line is kept only where no clause that a hint names is tainted
pub noted_of : (vars : ℕ) (added : List (List ℕ)) (extra : Option (List ℕ)) (list : List (List ℕ)) (clause hints : List ℕ)
    (q : Question) (b : Bool) (kept : List (List ℕ)) → IsLearning vars added extra list q
    → refusal vars list clause hints ≡ None
    → OnFalse b (All (λ k. is_tainted q.first q.taints.items k ≡ false) hints)
    → (All (IsKeepable vars added) q.kept.items → (b ≡ false → IsKeepable vars added clause)
    → All (IsKeepable vars added) kept) → All (IsKeepable vars added) kept
noted_of vars added extra list clause hints q b kept h e off note =
    note h.keeps (λ f. (
      accepted_below vars list clause hints e,
      line_clean vars added extra list vars clause hints q h e (OnFalse_at f off),
    ))

-- the extra clause
pub learning_extra : (vars : ℕ) (added list : List (List ℕ)) (clause : List ℕ) (q q' : Question)
    → IsLearning vars added None list q → q'.first ≡ q.first → q'.taints.items ≡ q.taints.items ++ true ∷ []
    → q'.kept.items ≡ q.kept.items → IsLearning vars added (Some clause) (list ++ clause ∷ []) q'
learning_extra vars added list clause q q' h first taints kept =
    let K : List (List ℕ) → Type 0 = All (IsKeepable vars added) in
    record {
      width = length_push list clause ∙ ap (λ n. n + 1) h.width
          ∙ (let l = ap length taints ∙ length_push q.taints.items true in omega (arith, l, first));
      sound = λ v all.
          All-push (SatisfiedBy (value v)) list clause (h.sound v (follows_front added (clause ∷ []) v all))
          (last_holds added clause v all);
      whole = λ v all.
          All-push (SatisfiedBy (value v)) added clause (h.whole v (follows_front list (clause ∷ []) v all))
          (last_holds list clause v all);
      clean = λ n d e off.
          let same : is_tainted q'.first q'.taints.items n ≡ is_tainted q.first (q.taints.items ++ true ∷ []) n =
          ap (λ k. is_tainted k q'.taints.items n) first ∙ ap (λ v. is_tainted q.first v n) taints in
          elim (slice_get_push list clause n d e) [
            | inl old ↦
                let low = slice_get_within list n d old in
                h.clean n d old
                (sym (tainted_before q.first n q.taints.items true (omega (arith, low, h.width))) ∙ sym same ∙ off)
            | inr last ↦
                let wrong : true ≡ false =
                sym (tainted_last q.first n q.taints.items true (last.0 ∙ h.width)) ∙ sym same ∙ off in
                cc
          ];
      keeps = subst K (sym kept) h.keeps;
    }

pub learning_first : (vars : ℕ) (added list : List (List ℕ)) (q : Question) → Follows added list → Follows list added
    → q.first ≡ length list → q.taints.items ≡ [] → q.kept.items ≡ [] → IsLearning vars added None list q
learning_first vars added list q sound whole first taints kept = record {
  width = let l = ap length taints in omega (arith, l, first);
  sound = sound;
  whole = whole;
  clean = λ n d e off v all.
      let P : List ℕ → Type 0 = SatisfiedBy (value v) in
      subst P (get_or_from_slice_get list n d [] e) (sound v all n [] (slice_get_within list n d e));
  keeps = let K : List (List ℕ) → Type 0 = All (IsKeepable vars added) in
      subst K (sym kept) (All-nil (IsKeepable vars added));
}

-- ---- cores

-- a line whose clause has negations of assumed literals alone
pub closes_of : (vars n : ℕ) (list : List (List ℕ)) (under clause hints core : List ℕ) → refusal n list clause hints ≡ None
    → core ≡ map negated clause → AreNegatedIn under clause → Closes vars list under core
closes_of vars n list under clause hints core e is kept =
    let whole : List (List ℕ) = list ++ clause ∷ [] in
    let h = core_of under whole (length list) clause core is (last_is list clause) kept in
    record {
      part = (is_part_decides core under).1 h.part;
      refuted = covered_is_refuted vars list whole core
          (follows_push list list clause (follows_self list) (accepted_follows n list clause hints e)) h.covered;
    }

-- over clauses of which these follow
pub closes_by : (vars : ℕ) (clauses list : List (List ℕ)) (under core : List ℕ) → Follows clauses list
    → Closes vars list under core → Closes vars clauses under core
closes_by vars clauses list under core follows h = record {
  part = h.part;
  refuted = λ row meets.
      h.refuted row (record {
        width = meets.width;
        clauses_hold = follows row meets.clauses_hold;
        under_holds = meets.under_holds;
      });
}

-- both signs of a literal are assumed
pub closes_both : (under : List ℕ) (a : Filed) (q : Query) (l : ℕ) (core : List ℕ) → core ≡ l ∷ negated l ∷ []
    → Contains under l → Contains under (negated l) → Closes a.watched.trail.vars (list_of a) under core
closes_both under a q l core is first second =
    let h = both_of under a q l core is first second in
    record {
      part = (is_part_decides core under).1 h.core_is.part;
      refuted = covered_is_refuted a.watched.trail.vars (list_of a) (list_of a) core (follows_self (list_of a)) h.core_is.covered;
    }

-- ---- parts of a turn

-- no clause came
pub learns_same : (a b : Filed) (q q' : Question) → b.watched.trail.vars ≡ a.watched.trail.vars → list_of b ≡ list_of a
    → q'.first ≡ q.first → q'.taints.items ≡ q.taints.items → q'.kept.items ≡ q.kept.items → LearnsOn a q b q'
learns_same a b q q' vars list first taints kept added extra h =
    let V : ℕ → Type 0 = λ n. IsLearning n added extra (list_of b) q' in
    let L : List (List ℕ) → Type 0 = λ v. IsLearning a.watched.trail.vars added extra v q' in
    let K : List (List ℕ) → Type 0 = All (IsKeepable a.watched.trail.vars added) in
    subst V (sym vars)
    (subst L (sym list)
    (learning_kept a.watched.trail.vars added extra (list_of a) q q' h first taints (subst K (sym kept) h.keeps)))

pub learns_chain : (a b c : Filed) (p q r : Question) → LearnsOn a p b q → LearnsOn b q c r → LearnsOn a p c r
learns_chain a b c p q r h k added extra l = k added extra (h added extra l)
