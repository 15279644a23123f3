-- Solver, levels and what is known after they changed together.
use Rattle.std.proofs.Common.{◌≡◌, ℕ, ◌≤◌, false, List, [], ◌∷◌, ◌++◌, refl, sym, ap, subst, ◌∙◌}
use Rattle.std.specs.List.{All}
use Rattle.std.specs.Prelude.{Contains}
use Rattle.std.proofs.lemmas.List.{append_assoc}
use Rattle.std.proofs.lemmas.List.Elements.{All-cons, All-nil, Contains-get_or}
use Rattle.ja_base.specs.ClauseSets.{joined, fresh}
use Rattle.ja_base.proofs.JoinLemmas.{second_is_part, joined_is_fresh, fresh_again, All-joined}
use Rattle.aig_model.specs.Netlist.{Netlist, circuit}
use Rattle.ja_project.specs.Latches.{is_foreign}
use Rattle.inv_cert.proofs.InductionLemmas.{All-part}
use Rattle.ic3_frames.specs.Levels.{Levels, Entry, IfEntry, added, moved}
use Rattle.ic3_frames.specs.Soundness.{Gains}
use Rattle.ic3_frames.proofs.GainLemmas.{additions_gain, moves_gain}
use Rattle.ic3_frames.proofs.LevelLemmas.{All-added}
use Rattle.ic3_query.specs.Known.{KnownList, AreOwn, HoldsAtStart, all_of}
use Rattle.ic3_query.specs.Questions.{AreOwnLevels}
use Rattle.ic3_query.specs.Serving.{IsMovable, Serves}
use Rattle.ic3_query.specs.Under.{IsGuarded}
use Rattle.ic3_query.proofs.KnownLemmas.{all_has_imported, imported_has_all}
use Rattle.ic3_query.proofs.ServeLemmas.{serves_gained, serves_known, serves_kept}

-- the solver has the same variables, and these clauses more
serves_as : (n : Netlist) (known : List (List ℕ)) (f : Levels) (count seen_count : ℕ) (clauses seen : List (List ℕ))
    → seen_count ≡ count → seen ≡ clauses → Serves n known f count clauses → Serves n known f seen_count seen
serves_as n known f count seen_count clauses seen e g h =
    let P : ℕ → Type 0 = λ m. Serves n known f m seen in
    let Q : List (List ℕ) → Type 0 = Serves n known f count in
    subst P (sym e) (subst Q (sym g) h)

-- a clause is kept under the switch of its level
pub serves_added : (n : Netlist) (known : List (List ℕ)) (old new : Levels) (level : ℕ) (clause guarded : List ℕ)
    (count seen_count : ℕ)
    (clauses seen : List (List ℕ)) → Serves n known old count clauses → level ≤ old.top → is_foreign (circuit n) clause ≡ false
    → HoldsAtStart (circuit n) clause → IsGuarded n level clause guarded → seen_count ≡ count → seen ≡ clauses ++ guarded ∷ []
    → new.kept ≡ added clause level old.kept → new.top ≡ old.top → Serves n known new seen_count seen
serves_added n known old new level clause guarded count seen_count clauses seen h high own begins is e g kept top =
    let P : List Entry → Type 0 = Gains (circuit n) level clause old.kept in
    let gains = subst P (sym kept) (additions_gain (circuit n) old.kept clause level) in
    serves_as n known new count seen_count (clauses ++ guarded ∷ []) seen e g
    (serves_gained n known old new level clause guarded clauses top high gains own begins is count h)

-- a clause was moved up
pub serves_moved : (n : Netlist) (known : List (List ℕ)) (old new : Levels) (at level : ℕ) (clause guarded : List ℕ)
    (count seen_count : ℕ) (clauses seen : List (List ℕ)) → Serves n known old count clauses → level ≤ old.top
    → IsMovable n old at level → IfEntry old.kept at (λ e. e.clause ≡ clause) → IsGuarded n level clause guarded
    → seen_count ≡ count
    → seen ≡ clauses ++ guarded ∷ [] → IfEntry old.kept at (λ e. new.kept ≡ moved old.kept at e level) → new.top ≡ old.top
    → Serves n known new seen_count seen
serves_moved n known old new at level clause guarded count seen_count clauses seen h high m there is e g kept top =
    let P : List Entry → Type 0 = Gains (circuit n) level m.entry.clause old.kept in
    let Q : List ℕ → Type 0 = λ c. IsGuarded n level c guarded in
    let gains = subst P (sym (kept m.entry m.is)) (moves_gain (circuit n) old.kept at m.entry level m.is m.up) in
    serves_as n known new count seen_count (clauses ++ guarded ∷ []) seen e g
    (serves_gained n known old new level m.entry.clause guarded clauses top high gains m.own m.begins
    (subst Q (sym (there m.entry m.is)) is) count h)

all_in : (xs : List (List ℕ)) → All (Contains xs) xs
all_in xs k d within = Contains-get_or xs k d within

-- clauses became known
pub serves_extended : (n : Netlist) (f : Levels) (old new : KnownList) (more seen_more : List (List ℕ)) (count seen_count : ℕ)
    (clauses seen : List (List ℕ)) → Serves n (all_of old) f count clauses → AreOwn (circuit n) more → seen_count ≡ count
    → seen ≡ clauses ++ seen_more → seen_more ≡ more
    → new ≡ record { task = old.task; list = old.list; own = old.own ++ more } → Serves n (all_of new) f seen_count seen
serves_extended n f old new more seen_more count seen_count clauses seen h own e g same is =
    let all : List (List ℕ) = old.list ++ old.own ++ more in
    let raw : Serves n (old.list ++ old.own ++ more) f count (clauses ++ more) =
    serves_known n (all_of old) more (old.list ++ old.own ++ more) own (all_in (old.list ++ old.own ++ more))
    (all_in (old.list ++ old.own ++ more)) f count clauses h in
    let P : List (List ℕ) → Type 0 = λ known. Serves n known f seen_count seen in
    let Q : KnownList → Type 0 = λ k. Serves n (all_of k) f seen_count seen in
    subst Q (sym is) (subst P (append_assoc old.list old.own more)
    (serves_as n (old.list ++ old.own ++ more) f count seen_count (clauses ++ more) seen e
    (g ∙ ap (λ (m : List (List ℕ)). clauses ++ m) same) raw))

-- a clause became known, and stands at the top
pub serves_joined : (n : Netlist) (before after : Levels) (old new : KnownList) (level : ℕ) (clause : List ℕ)
    (count seen_count : ℕ)
    (clauses seen : List (List ℕ)) → Serves n (all_of old) before count clauses → is_foreign (circuit n) clause ≡ false
    → seen_count ≡ count → seen ≡ clauses ++ clause ∷ []
    → new ≡ record { task = old.task; list = old.list; own = old.own ++ clause ∷ [] }
    → after.kept ≡ added clause level before.kept → after.top ≡ before.top → Serves n (all_of new) after seen_count seen
serves_joined n before after old new level clause count seen_count clauses seen h own e g is kept top =
    let R : List ℕ → Type 0 = λ c. is_foreign (circuit n) c ≡ false in
    let P : List Entry → Type 0 = Gains (circuit n) level clause before.kept in
    let gains = subst P (sym kept) (additions_gain (circuit n) before.kept clause level) in
    let S : List (List ℕ) → Type 0 = λ known. Serves n known before seen_count seen in
    let Q : List (List ℕ) → Type 0 = λ known. Serves n known after seen_count seen in
    let assoc = append_assoc old.list old.own (clause ∷ []) in
    let known : all_of new ≡ old.list ++ old.own ++ clause ∷ [] = ap all_of is ∙ sym assoc in
    let extended = serves_extended n before old new (clause ∷ []) (clause ∷ []) count seen_count clauses seen h
    (All-cons R clause [] own (All-nil R)) e g refl is in
    subst Q (sym known) (serves_kept n (all_of old) before after clause level top gains seen_count seen (subst S known extended))

pub fresh_is_own : (n : Netlist) (list more : List (List ℕ)) → AreOwn (circuit n) list → AreOwn (circuit n) more
    → AreOwn (circuit n) (fresh list more)
fresh_is_own n list more own_list own_more =
    let P : List ℕ → Type 0 = λ c. is_foreign (circuit n) c ≡ false in
    let Q : List (List ℕ) → Type 0 = All P in
    let whole : AreOwn (circuit n) (list ++ fresh list more) =
    subst Q (joined_is_fresh list more) (All-joined P list more own_list own_more) in
    All-part P (list ++ fresh list more) (fresh list more) whole (second_is_part list (fresh list more))

-- a closed list became known
pub serves_imported : (n : Netlist) (f : Levels) (old new : KnownList) (more fresh_more seen_more : List (List ℕ))
    (count seen_count : ℕ)
    (clauses seen : List (List ℕ)) → Serves n (all_of old) f count clauses → AreOwn (circuit n) old.list → AreOwn (circuit n) more
    → seen_count ≡ count → seen ≡ clauses ++ seen_more → seen_more ≡ fresh_more → fresh_more ≡ fresh old.list more
    → new.list ≡ joined old.list more → new.own ≡ old.own → Serves n (all_of new) f seen_count seen
serves_imported n f old new more fresh_more seen_more count seen_count clauses seen h own_list own_more e g same is list own =
    let own_fresh = fresh_is_own n old.list more own_list own_more in
    let again : joined old.list (fresh old.list more) ≡ joined old.list more =
    joined_is_fresh old.list (fresh old.list more) ∙ ap (λ (m : List (List ℕ)). old.list ++ m) (fresh_again old.list more)
    ∙ sym (joined_is_fresh old.list more) in
    let raw : Serves n (joined old.list (fresh old.list more) ++ old.own) f count (clauses ++ fresh old.list more) =
    serves_known n (all_of old) (fresh old.list more) (joined old.list (fresh old.list more) ++ old.own) own_fresh
    (all_has_imported old.list old.own (fresh old.list more)) (imported_has_all old.list old.own (fresh old.list more)) f count
    clauses h in
    let S : List (List ℕ) → Type 0 = λ known. Serves n known f seen_count seen in
    let known : joined old.list (fresh old.list more) ++ old.own ≡ all_of new =
    ap (λ (m : List (List ℕ)). m ++ old.own) (again ∙ sym list) ∙ ap (λ (m : List (List ℕ)). new.list ++ m) (sym own) in
    subst S known
    (serves_as n (joined old.list (fresh old.list more) ++ old.own) f count seen_count (clauses ++ fresh old.list more) seen e
    (g ∙ ap (λ (m : List (List ℕ)). clauses ++ m) (same ∙ is)) raw)

-- an own clause comes to own clauses
pub levels_added : (n : Netlist) (old new : List Entry) (clause : List ℕ) (level : ℕ) → AreOwnLevels n old
    → is_foreign (circuit n) clause ≡ false → new ≡ added clause level old → AreOwnLevels n new
levels_added n old new clause level h own is =
    let P : Entry → Type 0 = λ e. is_foreign (circuit n) e.clause ≡ false in
    let Q : List Entry → Type 0 = All P in
    subst Q (sym is) (All-added clause level P old h own)
