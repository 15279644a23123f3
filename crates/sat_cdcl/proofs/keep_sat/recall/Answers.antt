use Rattle.std.proofs.Common.{ℕ, List, refl, sym, subst, ◌∙◌}
use Rattle.std.specs.List.{All}
use Rattle.ja_base.specs.Clauses.{IsBelow}
use Rattle.sat_plain.specs.Trails.{Assigned}
use Rattle.sat_cdcl.specs.Files.{list_of}
use Rattle.sat_cdcl.proofs.FileLemmas.{kept_none, kept_put, kept_chain}
use Rattle.sat_cdcl.proofs.KeeperLemmas.{all_front, all_last, recall_follows}
use Rattle.sat_cdcl.proofs.keep_sat.recall.Goals as goal

pub loop-clause-init : goal.loop-clause-init
loop-clause-init c = record {
  kept = kept_none c.args.db.now c.args.db.now refl refl refl refl;
  trail = refl;
  below = c.requires;
  follows = λ added all follows. (all, follows);
}

pub put-requires : goal.put-requires
put-requires c =
    let vars : ℕ = c.loop-clause.db.watched.trail.vars in
    let P : List (List ℕ) → Type 0 = All (IsBelow vars) in
    all_last (IsBelow vars) c.pop.new.self.items c.in-Some.clause (subst P c.in-Some.ensures.items c.loop-clause.invariant.below)

pub loop-clause-preserved : goal.loop-clause-preserved
loop-clause-preserved c =
    let vars : ℕ = c.loop-clause.db.watched.trail.vars in
    let left : List (List ℕ) = c.pop.new.self.items in
    let P : List (List ℕ) → Type 0 = All (IsBelow vars) in
    let T : Assigned → Type 0 = λ t. All (IsBelow t.vars) left in
    let i = c.loop-clause.invariant in
    let trail = c.in-Ok.ensures.trail in
    record {
      kept = kept_chain c.args.db.now c.loop-clause.db c.put.new.self i.kept
          (kept_put c.loop-clause.db c.put.new.self c.in-Ok.field-0 c.in-Some.clause trail c.in-Ok.ensures.slots
          c.in-Ok.ensures.list);
      trail = trail ∙ i.trail;
      below = subst T (sym trail)
          (all_front (IsBelow vars) left c.in-Some.clause (subst P c.in-Some.ensures.items i.below));
      follows = λ added all follows.
          recall_follows added (list_of c.loop-clause.db) left c.loop-clause.clauses.items c.in-Some.clause
          (list_of c.put.new.self) c.in-Some.ensures.items c.in-Ok.ensures.list (i.follows added all follows);
    }
