-- What is known and the levels, in the values of a step.
use Rattle.std.proofs.Common.{◌≡◌, ℕ, ◌+◌, ◌≤◌, ◌<◌, Bool, true, false, Some, List, [], ◌∷◌, ◌++◌, length, take, get_or, slice_get, sym, ap, subst, ◌∙◌, arith}
use Rattle.std.specs.Bool.{OnTrue}
use Rattle.std.specs.List.{All}
use Rattle.std.proofs.lemmas.Option.{get_or_from_slice_get, slice_get-get_or, slice_get_within}
use Rattle.std.proofs.lemmas.List.{take_more, append_assoc}
use Rattle.std.proofs.lemmas.List.Elements.{All-append}
use Rattle.ja_base.specs.Literals.{value, SatisfiedBy, AllSatisfiedBy}
use Rattle.ja_base.specs.Clauses.{IsBelow}
use Rattle.ja_base.specs.Circuit.{Problem}
use Rattle.ja_base.specs.Valuation.{latch_row}
use Rattle.ja_base.specs.Invariants.{MeetsClauses}
use Rattle.ja_base.proofs.JoinLemmas.{first_is_part, second_is_part}
use Rattle.aig_model.specs.Netlist.{Netlist, IsSound, circuit}
use Rattle.aig_model.specs.Task.{VerificationTask, problem}
use Rattle.ja_project.specs.Latches.{is_foreign}
use Rattle.ja_project.proofs.ForeignLemmas.{own_is_below}
use Rattle.ja_project.proofs.ValueLemmas.{met_back}
use Rattle.inv_cert.specs.Proofs.{IsCandidate}
use Rattle.inv_cert.proofs.InductionLemmas.{All-part}
use Rattle.ic3_frames.specs.Levels.{Entry, IfEntry}
use Rattle.ic3_frames.specs.Soundness.{MeetsAt}
use Rattle.ic3_query.specs.Known.{AreOwn, IsKnown}
use Rattle.ic3_query.specs.Questions.{AreOwnLevels}
use Rattle.ic3_query.proofs.RowLemmas.{met_by_latches}

-- ---- clauses over the variables of the design

pub own_at : (n : Netlist) → IsSound n → (clauses : List (List ℕ)) (at count : ℕ) (clause : List ℕ) → AreOwn (circuit n) clauses
    → slice_get clauses at ≡ Some clause → is_foreign (circuit n) clause ≡ false
own_at n sound clauses at count clause own is =
    let P : List ℕ → Type 0 = λ clause. is_foreign (circuit n) clause ≡ false in
    subst P (get_or_from_slice_get clauses at clause clause is) (own at clause (slice_get_within clauses at clause is))

pub below_at : (n : Netlist) → IsSound n → (clauses : List (List ℕ)) (at count : ℕ) (clause : List ℕ) → AreOwn (circuit n) clauses
    → slice_get clauses at ≡ Some clause → n.vars + 1 ≤ count → IsBelow count clause
below_at n sound clauses at count clause own is wide k d within =
    omega (arith, own_is_below n sound clause (own_at n sound clauses at count clause own is) k d within, wide)

pub are_below : (n : Netlist) → IsSound n → (clauses : List (List ℕ)) (count : ℕ) → AreOwn (circuit n) clauses
    → n.vars + 1 ≤ count
    → All (IsBelow count) clauses
are_below n sound clauses count own wide j c within k d low =
    omega (arith, own_is_below n sound (get_or clauses j c) (own j c within) k d low, wide)

pub own_for : (p : Problem) (t : VerificationTask) (clauses : List (List ℕ)) → p ≡ problem t → AreOwn p.circuit clauses
    → AreOwn (circuit t.design) clauses
own_for p t clauses same own = let P : Problem → Type 0 = λ q. AreOwn q.circuit clauses in subst P same own

pub list_is_own : (p : Problem) (t : VerificationTask) (list own : List (List ℕ)) → p ≡ problem t → IsKnown p (list ++ own)
    → AreOwn (circuit t.design) list
list_is_own p t list own same h =
    own_for p t list same (All-part (λ c. is_foreign p.circuit c ≡ false) (list ++ own) list h.own (first_is_part list own))

pub own_is_own : (p : Problem) (t : VerificationTask) (list own : List (List ℕ)) → p ≡ problem t → IsKnown p (list ++ own)
    → AreOwn (circuit t.design) own
own_is_own p t list own same h =
    own_for p t own same (All-part (λ c. is_foreign p.circuit c ≡ false) (list ++ own) own h.own (second_is_part list own))

pub candidates_are_own : (t : VerificationTask) (clauses : List (List ℕ)) → All (IsCandidate t) clauses
    → AreOwn (circuit t.design) clauses
candidates_are_own t clauses h k d within = (h k d within).own

-- ---- a list of clauses is loaded

pub loaded_more : {X : Type 0} (before now next xs : List X) (i : ℕ) (x : X) → now ≡ before ++ take i xs → slice_get xs i ≡ Some x
    → next ≡ now ++ x ∷ [] → next ≡ before ++ take (i + 1) xs
loaded_more before now next xs i x is at push =
    push ∙ ap (λ l. l ++ x ∷ []) is ∙ append_assoc before (take i xs) (x ∷ [])
    ∙ ap (λ l. before ++ l) (sym (take_more xs i x (slice_get_within xs i x at)
    ∙ ap (λ y. take i xs ++ y ∷ []) (get_or_from_slice_get xs i x x at)))

-- ---- tests

pub OnTrue-map : (b : Bool) (P Q : Type 0) → (P → Q) → OnTrue b P → OnTrue b Q
OnTrue-map true P Q f h = f h
OnTrue-map false P Q f h = tt

pub known_met : (p : Problem) (t : VerificationTask) (list own : List (List ℕ)) (values : List Bool) → p ≡ problem t
    → IsKnown p (list ++ own) → AllSatisfiedBy (value values) list → AllSatisfiedBy (value values) own
    → MeetsClauses (circuit t.design) (latch_row (circuit t.design) values) (list ++ own)
known_met p t list own values same h a b =
    met_back (circuit t.design) values (list ++ own) (own_for p t (list ++ own) same h.own)
    (All-append (SatisfiedBy (value values)) list own a b)

pub levels_below : (n : Netlist) → IsSound n → (kept : List Entry) (count : ℕ) → AreOwnLevels n kept → count ≡ n.vars + 1
    → All (λ (e : Entry). IsBelow count e.clause) kept
levels_below n sound kept count own wide j e within k d low =
    omega (arith, own_is_below n sound (get_or kept j e).clause (own j e within) k d low, wide)

pub level_met : (n : Netlist) (kept : List Entry) (level : ℕ) (values : List Bool) → AreOwnLevels n kept
    → ((k : ℕ) (e : Entry) → k < length kept → slice_get kept k ≡ Some e → level ≤ e.level → SatisfiedBy (value values) e.clause)
    → MeetsAt (circuit n) (latch_row (circuit n) values) kept level
level_met n kept level values own h k d within up =
    met_by_latches (circuit n) values (get_or kept k d).clause (own k d within)
    (h k (get_or kept k d) within (slice_get-get_or kept k d within) up)

pub below_entry : (kept : List Entry) (at count : ℕ) (clause : List ℕ) → at < length kept
    → All (λ (e : Entry). IsBelow count e.clause) kept → IfEntry kept at (λ e. e.clause ≡ clause) → IsBelow count clause
below_entry kept at count clause within below is =
    let d : Entry = record { clause = []; level = 0 } in
    let P : List ℕ → Type 0 = IsBelow count in
    subst P (is (get_or kept at d) (slice_get-get_or kept at d within)) (below at d within)
