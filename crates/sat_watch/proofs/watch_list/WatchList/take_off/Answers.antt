use Rattle.std.proofs.Common.{◌≡◌, ℕ, ◌+◌, ◌-◌, ◌≤◌, ◌<◌, List, length, take, drop, Some, slice_get, sym, subst, ◌∙◌, ap, arith}
use Rattle.std.specs.List.{Contains}
use Rattle.std.proofs.lemmas.List.{length-take}
use Rattle.std.proofs.lemmas.Option.{slice_get-get_or}
use Rattle.sat_watch.proofs.WatchLemmas.{taken_off}
use Rattle.sat_watch.proofs.watch_list.WatchList.take_off.Goals as goal

pub returns-clause-others : goal.returns-clause-others
returns-clause-others c = λ slot from k e low off has.
    let xs : List ℕ = c.self.inside.slots.items in
    let n : ℕ = c.self.inside.len - 1 in
    let last : ℕ = c.index-last.result.now in
    let short : c.self.inside.len ≤ length xs = c.self.invariant.0 in
    let len : length c.args.self.now ≡ c.self.inside.len =
    omega (arith, ap length (sym c.self.view_is), length-take c.self.inside.len xs, short) in
    let one : n + 1 ≡ c.self.inside.len = let r = c.requires in omega (arith, r, len) in
    let whole : take (n + 1) xs ≡ c.args.self.now = ap (λ m. take m xs) one ∙ c.self.view_is in
    let P : List ℕ → Type 0 = λ v. slice_get v c.args.at ≡ Some slot in
    let Q : List ℕ → Type 0 = λ v. Contains (drop from v) k in
    let less : n < length xs = omega (arith, one, short) in
    taken_off xs n c.args.at last (let r = c.requires in omega (arith, r, len, one)) (omega (arith, one, short))
    (slice_get-get_or xs n last less ∙ ap Some (sym c.index-last.ensures)) slot from k
    (subst P (sym whole) e) low off (subst Q (sym whole) has)
