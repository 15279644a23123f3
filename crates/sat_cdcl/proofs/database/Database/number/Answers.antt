use Rattle.std.proofs.Common.{◌≡◌, ℕ, true, List, Some, slice_get, sym, subst, ◌∙◌, ap}
use Rattle.std.proofs.lemmas.Option.{get_or_from_slice_get}
use Rattle.ja_base.specs.Literals.{bit}
use Rattle.sat_watch.specs.declared.tag.Tag.{Tag}
use Rattle.sat_watch.specs.Stores.{IsThere, Stored}
use Rattle.sat_cdcl.specs.Files.{Filed, list_of}
use Rattle.sat_cdcl.proofs.FileLemmas.{list_at}
use Rattle.sat_cdcl.proofs.database.Database.number.Goals as goal

pub returns : goal.returns
returns c = λ clause there.
    let store : Stored = c.self.inside.watch.store in
    let slots : List ℕ = c.self.inside.slots.items in
    let slot : ℕ = c.args.slot in
    let L : Filed → Type 0 = λ f. bit f.watched.store.live slot ≡ true in
    let live : bit store.live slot ≡ true = subst L (sym c.self.view_is) c.requires in
    let T : Filed → Type 0 = λ f. IsThere f.watched.store slot clause in
    let here : IsThere store slot clause = subst T (sym c.self.view_is) there in
    let r = c.self.invariant.0.numbered slot live in
    let is = c.self.invariant.0.at r.0 slot r.1 in
    let tag : Tag = c.tag.result in
    let same : is.tag ≡ tag =
    sym (get_or_from_slice_get store.tags slot is.tag tag is.tagged)
    ∙ get_or_from_slice_get store.tags slot tag tag c.tag.ensures in
    let number : r.0 ≡ tag.number = sym is.number ∙ ap (λ (t : Tag). t.number) same in
    let P : ℕ → Type 0 = λ n. slice_get slots n ≡ Some slot in
    ap (λ (f : Filed). slice_get (list_of f) tag.number) (sym c.self.view_is)
    ∙ list_at store slots tag.number slot clause (subst P number r.1) here
