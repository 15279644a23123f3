-- What a scan tells of a clause, and what a pass keeps.
use Rattle.std.proofs.Common.{◌≡◌, ◌≢◌, ℕ, ◌<◌, Bool, true, false, cond, List, [], ◌∷◌, ◌++◌, is_none, Some, slice_get, refl, sym, subst, ◌∙◌, ap, append_assoc, append-nil}
use Rattle.std.proofs.lemmas.List.Elements.{All-nil, All-append}
use Rattle.std.specs.List.{All, Contains}
use Rattle.std.proofs.lemmas.Option.{get_or_from_slice_get, slice_get_within}
use Rattle.ja_base.specs.Literals.{bit, variable}
use Rattle.ja_base.specs.Clauses.{IsBelow}
use Rattle.ja_base.specs.Trails.{open_lits}
use Rattle.refute_check.specs.Lines.{found_of}
use Rattle.refute_check.specs.declared.found.Found.{Found}
use Rattle.refute_check.specs.declared.found.Found.TheVariants.{Forces, Other}
use Rattle.sat_plain.specs.declared.place.Place.{Place}
use Rattle.sat_watch.specs.Steps.{IsStill, IsForcedOn}

-- what a scan found over the values and literals that were read is what is found of the clause
pub scanned : (values row : List Bool) (clause lits : List ℕ) (found : Found) → found ≡ found_of row (open_lits row lits)
    → row ≡ values → lits ≡ clause → found ≡ found_of values (open_lits values clause)
scanned values row clause lits found e r l =
    e ∙ ap (λ v. found_of v (open_lits v lits)) r ∙ ap (λ v. found_of values (open_lits values v)) l

true_if : (b : Bool) (m : ℕ) → cond b Other (Forces m) ≡ Other → b ≡ true
true_if true m e = refl
true_if false m e = cc

still_open : (values : List Bool) (left : List ℕ) → found_of values left ≡ Other
    → (left ≢ []) × ((l : ℕ) → left ≡ l ∷ [] → bit values l ≡ true)
still_open values [] e = cc
still_open values (m ∷ []) e = (λ z. cc, λ l z. let t = true_if (bit values m) m e in cc)
still_open values (m ∷ k ∷ ms) e = (λ z. cc, λ l z. cc)

pub still : (values : List Bool) (clause : List ℕ) → found_of values (open_lits values clause) ≡ Other → IsStill values clause
still values clause e =
    let r = still_open values (open_lits values clause) e in
    record { some = r.0; unforced = r.1 }

-- ---- places that came

pub forced_none : (places : List Place) → IsForcedOn places places
forced_none places = record {
  more = [];
  is = sym (append-nil places);
  forced = All-nil (λ (p : Place). is_none p.reason ≡ false);
}

pub forced_chain : (a b c : List Place) → IsForcedOn a b → IsForcedOn b c → IsForcedOn a c
forced_chain a b c h k = record {
  more = h.more ++ k.more;
  is = k.is ∙ ap (λ v. v ++ k.more) h.is ∙ append_assoc a h.more k.more;
  forced = All-append (λ (p : Place). is_none p.reason ≡ false) h.more k.more h.forced k.forced;
}

-- a literal of a clause is below what the clauses are
pub lit_below : (vars : ℕ) (clauses : List (List ℕ)) (slot : ℕ) (clause : List ℕ) (l : ℕ) → All (IsBelow vars) clauses
    → slice_get clauses slot ≡ Some clause → Contains clause l → variable l < vars
lit_below vars clauses slot clause l all is has =
    let P : List ℕ → Type 0 = IsBelow vars in
    let Q : ℕ → Type 0 = λ n. variable n < vars in
    let below : IsBelow vars clause =
    subst P (get_or_from_slice_get clauses slot clause clause is) (all slot clause (slice_get_within clauses slot clause is)) in
    subst Q has.2 (below has.0 l has.1)
