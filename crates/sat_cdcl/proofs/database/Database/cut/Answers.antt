use Rattle.std.proofs.Common.{◌≡◌, ℕ, ◌-◌, ◌<◌, List, length, take, slice_get, sym, subst, ◌∙◌, ap, arith}
use Rattle.std.specs.List.{Contains}
use Rattle.std.proofs.lemmas.List.{length-take, take-take}
use Rattle.sat_plain.specs.Trails.{Assigned}
use Rattle.sat_cdcl.specs.Files.{list_of}
use Rattle.sat_cdcl.proofs.FileLemmas.{taken_more}
use Rattle.sat_cdcl.proofs.database.Database.cut.Goals as goal

pub pop-requires-clause-rooted : goal.pop-requires-clause-rooted
pop-requires-clause-rooted c = λ p k place e r.
    let slots : List ℕ = c.loop-self.self.slots in
    let more : c.args.to < length slots = let t = c.loop-self-test.true in omega (arith, t, c.len.ensures.slots) in
    taken_more slots c.args.to (length slots - 1) k (omega arith) (c.loop-self.invariant.rooted p k place e r)

pub loop-self-preserved : goal.loop-self-preserved
loop-self-preserved c =
    let slots : List ℕ = c.loop-self.self.slots in
    let first : List ℕ = c.args.self.now.slots in
    let list : List (List ℕ) = list_of c.args.self.now in
    let n : ℕ = length slots in
    let more : c.args.to < n = let t = c.loop-self-test.true in omega (arith, t, c.len.ensures.slots) in
    let short : length c.pop.new.self.slots ≡ n - 1 =
    omega (arith, ap length c.pop.ensures.slots, length-take (n - 1) slots) in
    record {
      trail = c.pop.ensures.trail ∙ c.loop-self.invariant.trail;
      within = omega (arith, short, more);
      slots = c.pop.ensures.slots ∙ ap (take (n - 1)) c.loop-self.invariant.slots ∙ take-take (n - 1) n first (omega arith)
          ∙ ap (λ k. take k first) (sym short);
      list = c.pop.ensures.list ∙ ap (take (n - 1)) c.loop-self.invariant.list ∙ take-take (n - 1) n list (omega arith)
          ∙ ap (λ k. take k list) (sym short);
      rooted = λ p k place e r.
          let there = ap (λ (t : Assigned). slice_get t.places p) (sym c.pop.ensures.trail) ∙ e in
          let P : List ℕ → Type 0 = λ v. Contains v k in
          subst P (sym (ap (take c.args.to) c.pop.ensures.slots ∙ take-take c.args.to (n - 1) slots (omega arith)))
          (c.loop-self.invariant.rooted p k place there r);
    }
