use Rattle.std.proofs.Common.{◌≡◌, ℕ, List, length, take}
use Rattle.sat_plain.specs.Trails.{lits_of}
use Rattle.sat_plain.specs.Derive.{IsDerived, IsWalked}
use Rattle.sat_cdcl.specs.Files.{list_of, places_of}
use Rattle.sat_cdcl.specs.Assumptions.{DecidesUnder, AreNegatedIn}
use Rattle.sat_cdcl.proofs.conclude.conclude.Given as goal

abbrev pub invariant-loop-at : goal.invariant-loop-at
invariant-loop-at l =
    record {
      derived : (trail : List ℕ) → take l.from trail ≡ take l.from (lits_of (places_of l.db))
          → IsWalked l.db.watched.trail.vars trail
          → IsDerived l.db.watched.trail.vars (list_of l.db) trail l.from l.initial.derivation
          → IsDerived l.db.watched.trail.vars (list_of l.db) trail l.at l.derivation;
      kept : (under : List ℕ) → DecidesUnder under (places_of l.db) l.from → AreNegatedIn under l.initial.derivation.lits
          → AreNegatedIn under l.derivation.lits;
      width : length l.derivation.marks ≡ length l.initial.derivation.marks;
    }
