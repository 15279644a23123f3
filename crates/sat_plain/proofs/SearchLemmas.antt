-- What a search keeps over a turn, and what it answers with.
use Rattle.std.proofs.Common.{◌≡◌, ℕ, ◌+◌, ◌^◌, ◌≤◌, Bool, List, [], ◌++◌, length, take, Some, refl, sym, subst, ◌∙◌, ap, arith, append_assoc, append-nil}
use Rattle.std.specs.List.{All, Contains}
use Rattle.std.proofs.lemmas.List.{take_at}
use Rattle.std.proofs.lemmas.List.Elements.{All-take, All-same}
use Rattle.ja_base.specs.Meter.{next_count}
use Rattle.ja_base.specs.declared.meter.Meter.{Meter}
use Rattle.ja_base.specs.Literals.{value, SatisfiedBy}
use Rattle.refute_check.specs.Checked.{Numbering}
use Rattle.refute_check.specs.Laws.{AreAccepted, with_lines}
use Rattle.refute_check.specs.Refuted.{is_covered}
use Rattle.refute_check.specs.declared.lines.Line.{Line}
use Rattle.refute_check.specs.declared.lines.Refuted.{Refuted}
use Rattle.sat_plain.specs.declared.place.Place.{Place}
use Rattle.sat_plain.specs.Trails.{lits_of, kinds_of}
use Rattle.sat_plain.specs.Rank.{rank}
use Rattle.sat_plain.specs.Ticks.{TicksAtMost, SpendsAtLeast, IsGranted, IsRefused}
use Rattle.sat_plain.specs.Payments.{Spends}
use Rattle.sat_plain.specs.Turns.{IsLog, IsExtended, IsSearch, IsNext, IsCore, IsModel, IsFurther}
use Rattle.sat_plain.specs.Outcomes.{SpendsFor, IsRefutation}
use Rattle.sat_plain.proofs.Members.{taken_is_on}
use Rattle.sat_plain.proofs.PlaceLemmas.{lits_take}
use Rattle.sat_plain.proofs.RankLemmas.{rank_below}

-- what the loop of the search keeps
pub record IsSearching (vars assumed : ℕ) (places : List Place) (clauses : Numbering) (before : Meter)
    (places' : List Place) (lines' : List Line) (clauses' : Numbering) (now : Meter) : Type 0 where
  pub search : IsSearch vars assumed places' clauses'.list
  pub base : take assumed places' ≡ take assumed places
  pub log : IsLog vars clauses.list lines' clauses'.list
  pub store : IsExtended clauses clauses'
  pub few : length lines' ≤ rank vars (kinds_of places')
  pub paid : Spends before now (length lines')

-- ---- units

pub spends_none : (m : Meter) → Spends m m 0
spends_none m = record {
  limit = refl;
  refused = refl;
  later = omega arith;
  least = omega arith;
  most = omega arith;
}

pub spends_chain : (a b c : Meter) (n m : ℕ) → Spends a b n → Spends b c m → Spends a c (n + m)
spends_chain a b c n m h k = record {
  limit = k.limit ∙ h.limit;
  refused = k.refused ∙ h.refused;
  later = omega (arith, h.later, k.later);
  least = omega (arith, h.least, k.least);
  most = omega (arith, h.most, k.most);
}

pub extended_none : (a : Numbering) → IsExtended a a
extended_none a = record { more = []; list = sym (append-nil a.list); added = refl; kept = refl }

pub extended_chain : (a b c : Numbering) → IsExtended a b → IsExtended b c → IsExtended a c
extended_chain a b c h k = record {
  more = h.more ++ k.more;
  list = k.list ∙ ap (λ v. v ++ k.more) h.list ∙ append_assoc a.list h.more k.more;
  added = k.added ∙ h.added;
  kept = k.kept ∙ h.kept;
}

pub log_none : (vars : ℕ) (clauses : List (List ℕ)) → IsLog vars clauses [] clauses
log_none vars clauses = record { accepted = tt; is = sym (append-nil clauses) }

-- ---- one turn more

pub searching_first : (vars assumed : ℕ) (places : List Place) (lines : List Line) (clauses : Numbering) (m : Meter)
    → IsSearch vars assumed places clauses.list → lines ≡ []
    → IsSearching vars assumed places clauses m places lines clauses m
searching_first vars assumed places lines clauses m h e = record {
  search = h;
  base = refl;
  log = let P : List Line → Type 0 = λ v. IsLog vars clauses.list v clauses.list in
      subst P (sym e) (log_none vars clauses.list);
  store = extended_none clauses;
  few = omega (arith, ap length e);
  paid = let P : ℕ → Type 0 = Spends m m in subst P (sym (ap length e)) (spends_none m);
}

pub searching_more : (vars assumed : ℕ) (places : List Place) (clauses : Numbering) (m : Meter) (p q : List Place)
    (lines news : List Line) (store store' : Numbering) (now next : Meter)
    → IsSearching vars assumed places clauses m p lines store now → IsNext vars assumed p lines store q news store'
    → IsFurther vars p q → SpendsFor now next (length lines) (length news)
    → IsSearching vars assumed places clauses m q news store' next
searching_more vars assumed places clauses m p q lines news store store' now next h n further spends = record {
  search = n.search;
  base = n.base ∙ h.base;
  log = n.log clauses.list h.log;
  store = extended_chain clauses store store' h.store n.store;
  few = omega (arith, h.few, n.few, further);
  paid = let P : ℕ → Type 0 = Spends m next in
      subst P (sym spends.1) (spends_chain m now next (length lines) spends.0 h.paid spends.2);
}

-- the count of units stays within the bound, also with one more
pub within_bound : (vars assumed : ℕ) (places : List Place) (clauses : Numbering) (m : Meter) (p : List Place)
    (lines : List Line) (store : Numbering) (now next : Meter)
    → IsSearching vars assumed places clauses m p lines store now → TicksAtMost now next 1 → TicksAtMost m next (3 ^ vars)
within_bound vars assumed places clauses m p lines store now next h one =
    let paid = h.paid in
    let few = h.few in
    let below = rank_below vars (kinds_of p) in
    omega (arith, paid.most, paid.refused)

-- ---- answers

pub model_of_old : (vars assumed : ℕ) (places q : List Place) (old list more : List (List ℕ)) (row : List Bool)
    → list ≡ old ++ more → take assumed q ≡ take assumed places → IsModel vars list (lits_of q) row
    → IsModel vars old (take assumed (lits_of places)) row
model_of_old vars assumed places q old list more row e same h = record {
  width = h.width;
  clauses_hold =
      All-same (SatisfiedBy (value row)) old (take (length old) list)
      (sym (ap (take (length old)) e ∙ take_at old more (length old) refl))
      (All-take (SatisfiedBy (value row)) (length old) list h.clauses_hold);
  lits_hold = λ l has.
      let lits : take assumed (lits_of places) ≡ take assumed (lits_of q) =
      sym (lits_take assumed places) ∙ ap lits_of (sym same) ∙ lits_take assumed q in
      let P : List ℕ → Type 0 = λ v. Contains v l in
      h.lits_hold l (taken_is_on (lits_of q) assumed l (subst P lits has));
}

pub refutation_of : (vars assumed : ℕ) (places q : List Place) (clauses : List (List ℕ)) (lines : List Line)
    (all : List (List ℕ)) (refuted : Refuted) → refuted.lines ≡ lines → take assumed q ≡ take assumed places
    → IsLog vars clauses lines all → IsCore (take assumed (lits_of q)) all refuted.core
    → IsRefutation vars clauses (take assumed (lits_of places)) refuted
refutation_of vars assumed places q clauses lines all refuted e same log core =
    let lits : take assumed (lits_of q) ≡ take assumed (lits_of places) =
    sym (lits_take assumed q) ∙ ap lits_of same ∙ lits_take assumed places in
    let P : List ℕ → Type 0 = λ v. All (Contains v) refuted.core in
    let Q : List Line → Type 0 = AreAccepted vars clauses in
    record {
      part = subst P lits core.part;
      accepted = subst Q (sym e) log.accepted;
      covered = ap (λ v. is_covered (with_lines clauses v) refuted.core) e ∙ ap (λ v. is_covered v refuted.core) (sym log.is)
          ∙ core.covered;
    }

-- a query of which one unit was spent before the search, and n in it
pub granted : (start before now : Meter) (n : ℕ) → (start.limit ≡ Some start.spent → ⊥) → Spends start before 1
    → Spends before now n → IsGranted start now × SpendsAtLeast start now 1 × SpendsAtLeast start now (1 + n)
granted start before now n free h k =
    let all = spends_chain start before now 1 n h k in
    (record { counted = all.refused; unreached = free }, omega (arith, all.least), all.least)

pub refused : (start before now next : Meter) (n : ℕ) → Spends start before 1 → Spends before now n → IsRefused now next
    → IsRefused start next
refused start before now next n h k r = record {
  counted = r.counted ∙ ap next_count (k.refused ∙ h.refused);
  reached = r.reached;
}

-- the number of variables and of assumed places is what it was at first
pub as_at_first : (vars assumed vars' assumed' : ℕ) (p q : List Place) (lines news : List Line) (store store' : Numbering)
    → vars' ≡ vars → assumed' ≡ assumed → IsNext vars' assumed' p lines store q news store'
    → IsNext vars assumed p lines store q news store'
as_at_first vars assumed vars' assumed' p q lines news store store' e f h =
    let P : ℕ → Type 0 = λ n. IsNext n assumed p lines store q news store' in
    let Q : ℕ → Type 0 = λ n. IsNext vars' n p lines store q news store' in
    subst P e (subst Q f h)
