-- What a solver keeps between questions.
use Rattle.std.proofs.Common.{◌≡◌, ℕ, ◌+◌, ◌<◌, ◌≤◌, ◌^◌, List, [], ◌∷◌, ◌++◌, length, get_or, take, None, Some, slice_get, refl, sym, subst, ◌∙◌, ap, arith}
use Rattle.std.specs.List.{All}
use Rattle.std.proofs.lemmas.List.{length_push, length-append, length-map, get_or-map, take_at}
use Rattle.std.proofs.lemmas.List.Elements.{All-push, All-take, All-weaker}
use Rattle.std.proofs.lemmas.Option.{get_or_from_slice_get, slice_get_within}
use Rattle.ja_base.specs.Literals.{value, SatisfiedBy}
use Rattle.refute_check.specs.Checked.{Follows, FollowsOne, clauses_at}
use Rattle.refute_check.proofs.ListLemmas.{clauses_at_push, clauses_at_more}
use Rattle.sat_plain.specs.Trails.{Assigned}
use Rattle.sat_cdcl.specs.declared.question.Question.{Question}
use Rattle.sat_cdcl.specs.Files.{Filed, IsKept, AreForcedAll, list_of, places_of}
use Rattle.sat_cdcl.specs.Questions.{IsKeeper, IsLearning}
use Rattle.sat_cdcl.proofs.FileLemmas.{last_is}
use Rattle.sat_cdcl.proofs.QuestionLemmas.{follows_front, follows_push, last_holds, learning_first}

pub all_front : {X : Type 0} (P : X → Type 0) (xs : List X) (x : X) → All P (xs ++ x ∷ []) → All P xs
all_front {X} P xs x h =
    let Q : List X → Type 0 = All P in
    subst Q (take_at xs (x ∷ []) (length xs) refl) (All-take P (length xs) (xs ++ x ∷ []) h)

pub all_last : {X : Type 0} (P : X → Type 0) (xs : List X) (x : X) → All P (xs ++ x ∷ []) → P x
all_last P xs x h =
    let wide = length_push xs x in
    subst P (get_or_from_slice_get (xs ++ x ∷ []) (length xs) x x (last_is xs x)) (h (length xs) x (omega (arith, wide)))

-- the clauses of these numbers are among all
pub chosen_follow : (list : List (List ℕ)) (added : List ℕ) → All (λ n. n < length list) added
    → Follows list (clauses_at list added)
chosen_follow list added within v all = λ k d less.
    let f : ℕ → List ℕ = λ n. get_or list n [] in
    let low : k < length added = omega (arith, less, length-map added f) in
    let P : List ℕ → Type 0 = SatisfiedBy (value v) in
    subst P (sym (get_or-map f added k 0 d low)) (all (get_or added k 0) [] (within k 0 low))

-- a clause of a list that follows
pub follows_at : (added list : List (List ℕ)) (k : ℕ) (clause : List ℕ) → Follows added list → slice_get list k ≡ Some clause
    → FollowsOne added clause
follows_at added list k clause follows is v all =
    let P : List ℕ → Type 0 = SatisfiedBy (value v) in
    subst P (get_or_from_slice_get list k clause clause is) (follows v all k clause (slice_get_within list k clause is))

-- one more added clause
pub keeper_push : (vars : ℕ) (a b : Filed) (added : List ℕ) (clause : List ℕ) → IsKeeper vars a added
    → b.watched.trail ≡ a.watched.trail → list_of b ≡ list_of a ++ clause ∷ [] → length added + 1 < 2 ^ 32
    → IsKeeper vars b (added ++ length (list_of a) ∷ [])
keeper_push vars a b added clause h trail list short =
    let old : List (List ℕ) = list_of a in
    let T : Assigned → Type 0 = λ t. t.vars ≤ vars in
    let F : Assigned → Type 0 = λ t. AreForcedAll t.places in
    let more : length (list_of b) ≡ length old + 1 = ap length list ∙ length_push old clause in
    let L : List (List ℕ) → Type 0 = λ v. Follows (clauses_at v (added ++ length old ∷ [])) v in
    let C : List (List ℕ) → Type 0 = λ v. Follows v (old ++ clause ∷ []) in
    record {
      ordered = subst T (sym trail) h.ordered;
      forced = subst F (sym trail) h.forced;
      within = All-push (λ n. n < length (list_of b)) added (length old)
          (All-weaker (λ n. n < length old) (λ n. n < length (list_of b)) (λ n less. omega (arith, less, more)) added h.within)
          (omega (arith, more));
      sound = subst L (sym list)
          (subst C (sym (clauses_at_push old clause added h.within)) (λ v all.
          All-push (SatisfiedBy (value v)) old clause
          (h.sound v (follows_front (clauses_at old added) (clause ∷ []) v all))
          (last_holds (clauses_at old added) clause v all)));
      short = omega (arith, length_push added (length old));
    }

-- the last clause is taken off one list, and joins the other
pub recall_follows : (added list : List (List ℕ)) (left whole : List (List ℕ)) (clause : List ℕ) (after : List (List ℕ))
    → whole ≡ left ++ clause ∷ [] → after ≡ list ++ clause ∷ [] → All (FollowsOne added) whole × Follows added list
    → All (FollowsOne added) left × Follows added after
recall_follows added list left whole clause after e f h =
    let P : List (List ℕ) → Type 0 = All (FollowsOne added) in
    let Q : List (List ℕ) → Type 0 = Follows added in
    let all : All (FollowsOne added) (left ++ clause ∷ []) = subst P e h.0 in
    let one : FollowsOne added clause = all_last (FollowsOne added) left clause all in
    (all_front (FollowsOne added) left clause all, subst Q (sym f) (follows_push added list clause h.1 one))

-- ---- a question

-- what is known when it begins
pub keeper_learns : (vars : ℕ) (s a : Filed) (added : List ℕ) (q : Question) → IsKeeper vars s added → list_of a ≡ list_of s
    → q.first ≡ length (list_of a) → q.taints.items ≡ [] → q.kept.items ≡ []
    → IsLearning a.watched.trail.vars (clauses_at (list_of s) added) None (list_of a) q
keeper_learns vars s a added q h list first taints kept =
    let chosen : List (List ℕ) = clauses_at (list_of s) added in
    let S : List (List ℕ) → Type 0 = Follows chosen in
    let W : List (List ℕ) → Type 0 = λ v. Follows v chosen in
    learning_first a.watched.trail.vars chosen (list_of a) q (subst S (sym list) h.sound)
    (subst W (sym list) (chosen_follow (list_of s) added h.within)) first taints kept

-- the clauses from before it, once the others are gone
pub cut_back : (s a b : Filed) (n : ℕ) (left : List (List ℕ)) → list_of a ≡ list_of s → IsKept a b → n ≡ length (list_of a)
    → left ≡ take n (list_of b) → left ≡ list_of s
cut_back s a b n left list kept is e =
    e ∙ ap (take n) kept.list ∙ take_at (list_of a) kept.more n (sym is) ∙ list

-- the added clauses behind it
pub chosen_kept : (s r : Filed) (left : List (List ℕ)) (more : List (List ℕ)) (vars : ℕ) (added : List ℕ) → IsKeeper vars s added
    → left ≡ list_of s → list_of r ≡ left ++ more → clauses_at (list_of r) added ≡ clauses_at (list_of s) added
chosen_kept s r left more vars added h same list =
    ap (λ v. clauses_at v added) (list ∙ ap (λ v. v ++ more) same) ∙ clauses_at_more (list_of s) more added h.within

pub keeper_after : (vars vars' : ℕ) (s r : Filed) (left more : List (List ℕ)) (added : List ℕ) → IsKeeper vars s added
    → r.watched.trail.vars ≤ vars' → AreForcedAll (places_of r) → left ≡ list_of s → list_of r ≡ left ++ more
    → Follows (clauses_at (list_of s) added) (list_of r) → IsKeeper vars' r added
keeper_after vars vars' s r left more added h ordered forced same list follows =
    let F : List (List ℕ) → Type 0 = λ v. Follows v (list_of r) in
    let wide : length (list_of r) ≡ length left + length more = ap length list ∙ length-append left more in
    let first : length left ≡ length (list_of s) = ap length same in
    record {
      ordered = ordered;
      forced = forced;
      within = All-weaker (λ n. n < length (list_of s)) (λ n. n < length (list_of r))
          (λ n less. omega (arith, less, wide, first)) added h.within;
      sound = subst F (sym (chosen_kept s r left more vars added h same list)) follows;
      short = h.short;
    }
