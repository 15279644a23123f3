use Rattle.std.proofs.Common.{◌≡◌, ℕ, ◌<◌, List, [], length, set, Some, slice_get, sym, subst, ◌∙◌, arith}
use Rattle.std.specs.List.{Contains}
use Rattle.std.proofs.lemmas.List.{get_or_default}
use Rattle.sat_watch.specs.Watching.{Watching, slots_at, IsKeptBut}
use Rattle.sat_watch.proofs.WatchLemmas.{but_list}
use Rattle.sat_watch.proofs.watches.Watches.unlist.Goals as goal

pub returns-in-Some : goal.returns-in-Some
returns-in-Some c =
    let w : Watching = record { lists = c.self.inside.lists.items; pairs = c.self.inside.pairs.items } in
    let view : w ≡ c.args.self.now = c.self.view_is in
    let slot : ℕ = c.args.slot in
    let j : ℕ = c.number-in-Some.result in
    let less : j < length w.lists =
    let t = c.if-number-len.false in omega (arith, t, c.number.ensures, c.number-in-Some.ensures, c.len.ensures) in
    let is : c.index_mut.result.now ≡ slots_at w j =
    c.index_mut.ensures.value ∙ get_or_default w.lists j c.index_mut.result.now [] less in
    let I : Watching → Type 0 = λ v. slice_get (slots_at v c.args.lit) c.in-Some.at ≡ Some slot in
    let J : ℕ → Type 0 = λ n. slice_get (slots_at w n) c.in-Some.at ≡ Some slot in
    let K : List ℕ → Type 0 = λ v. slice_get v c.in-Some.at ≡ Some slot in
    let there = subst K (sym is) (subst J (sym c.number-in-Some.ensures) (subst I (sym view) c.in-Some.ensures.is)) in
    let new : Watching = record { lists = set w.lists j c.take_off.new.self; pairs = w.pairs } in
    let P : Watching → Type 0 = λ v. IsKeptBut slot v new in
    subst P view (but_list w j slot c.take_off.new.self less
    (λ k off has.
    let Q : List ℕ → Type 0 = λ v. Contains v k in
    c.take_off.ensures.others slot 0 k there (omega arith) off (subst Q (sym is) has)))
