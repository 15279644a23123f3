use Rattle.std.proofs.Common.{◌≡◌, ℕ, ◌<◌, [], length, get_or, set, sym, subst, ◌∙◌, ap, arith}
use Rattle.std.specs.List.{Contains}
use Rattle.std.proofs.lemmas.List.{get_or_default}
use Rattle.sat_watch.specs.Watching.{Watching, slots_at, IsKeptBut}
use Rattle.sat_watch.proofs.WatchLemmas.{IsListedIn, listed_in, listed_has, not_listed}
use Rattle.sat_watch.proofs.watches.Watches.list_in.Goals as goal

pub returns-then-put-clause-but : goal.returns-then-put-clause-but
returns-then-put-clause-but c =
    let w : Watching = record { lists = c.self.inside.lists.items; pairs = c.self.inside.pairs.items } in
    let j : ℕ = c.number.result in
    let less : j < length w.lists =
    let r = c.requires in omega (arith, r, ap (λ (v : Watching). length v.lists) c.self.view_is, c.number.ensures) in
    let is : c.index_mut.result.now ≡ slots_at w j =
    c.index_mut.ensures.value ∙ get_or_default w.lists j c.index_mut.result.now [] less in
    let new : Watching = record { lists = set w.lists j c.put.new.self; pairs = w.pairs } in
    let P : Watching → Type 0 = λ v. IsKeptBut c.args.slot v new in
    let h : IsListedIn w c.args.slot j new = listed_in w c.args.slot j c.index_mut.result.now c.put.new.self less is c.if-put.ensures.put in
    subst P c.self.view_is h.but

pub returns-then-put-clause-has : goal.returns-then-put-clause-has
returns-then-put-clause-has c =
    let w : Watching = record { lists = c.self.inside.lists.items; pairs = c.self.inside.pairs.items } in
    let j : ℕ = c.number.result in
    let less : j < length w.lists =
    let r = c.requires in omega (arith, r, ap (λ (v : Watching). length v.lists) c.self.view_is, c.number.ensures) in
    let is : c.index_mut.result.now ≡ slots_at w j =
    c.index_mut.ensures.value ∙ get_or_default w.lists j c.index_mut.result.now [] less in
    let new : Watching = record { lists = set w.lists j c.put.new.self; pairs = w.pairs } in
    let P : ℕ → Type 0 = λ n. Contains (get_or new.lists n []) c.args.slot in
    subst P c.number.ensures (listed_has w c.args.slot j c.index_mut.result.now c.put.new.self less c.if-put.ensures.put)

pub returns-then-put-clause-stays : goal.returns-then-put-clause-stays
returns-then-put-clause-stays c = λ m has.
    let w : Watching = record { lists = c.self.inside.lists.items; pairs = c.self.inside.pairs.items } in
    let j : ℕ = c.number.result in
    let less : j < length w.lists =
    let r = c.requires in omega (arith, r, ap (λ (v : Watching). length v.lists) c.self.view_is, c.number.ensures) in
    let is : c.index_mut.result.now ≡ slots_at w j =
    c.index_mut.ensures.value ∙ get_or_default w.lists j c.index_mut.result.now [] less in
    let new : Watching = record { lists = set w.lists j c.put.new.self; pairs = w.pairs } in
    let P : Watching → Type 0 = λ v. Contains (slots_at v m) c.args.slot in
    let h : IsListedIn w c.args.slot j new = listed_in w c.args.slot j c.index_mut.result.now c.put.new.self less is c.if-put.ensures.put in
    h.stays m (subst P (sym c.self.view_is) has)

pub returns-clause-but : goal.returns-clause-but
returns-clause-but c =
    let w : Watching = record { lists = c.self.inside.lists.items; pairs = c.self.inside.pairs.items } in
    let j : ℕ = c.number.result in
    let less : j < length w.lists =
    let r = c.requires in omega (arith, r, ap (λ (v : Watching). length v.lists) c.self.view_is, c.number.ensures) in
    let is : c.index_mut.result.now ≡ slots_at w j =
    c.index_mut.ensures.value ∙ get_or_default w.lists j c.index_mut.result.now [] less in
    let new : Watching = record { lists = set w.lists j c.put.new.self; pairs = w.pairs } in
    let P : Watching → Type 0 = λ v. IsKeptBut c.args.slot v new in
    let h : IsListedIn w c.args.slot j new = not_listed w c.args.slot j c.index_mut.result.now c.put.new.self less is c.if-put.ensures.full in
    subst P c.self.view_is h.but

pub returns-clause-stays : goal.returns-clause-stays
returns-clause-stays c = λ m has.
    let w : Watching = record { lists = c.self.inside.lists.items; pairs = c.self.inside.pairs.items } in
    let j : ℕ = c.number.result in
    let less : j < length w.lists =
    let r = c.requires in omega (arith, r, ap (λ (v : Watching). length v.lists) c.self.view_is, c.number.ensures) in
    let is : c.index_mut.result.now ≡ slots_at w j =
    c.index_mut.ensures.value ∙ get_or_default w.lists j c.index_mut.result.now [] less in
    let new : Watching = record { lists = set w.lists j c.put.new.self; pairs = w.pairs } in
    let P : Watching → Type 0 = λ v. Contains (slots_at v m) c.args.slot in
    let h : IsListedIn w c.args.slot j new = not_listed w c.args.slot j c.index_mut.result.now c.put.new.self less is c.if-put.ensures.full in
    h.stays m (subst P (sym c.self.view_is) has)
