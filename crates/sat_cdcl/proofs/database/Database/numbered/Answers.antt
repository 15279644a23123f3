use Rattle.std.proofs.Common.{◌≡◌, ℕ, List, [], Some, length, get_or, slice_get, sym, ◌∙◌, ap, arith}
use Rattle.std.proofs.lemmas.List.{length-map}
use Rattle.std.proofs.lemmas.Option.{slice_get-get_or, slice_get_within, same_Some}
use Rattle.sat_watch.specs.Stores.{Stored}
use Rattle.sat_cdcl.specs.Files.{Filed, list_of}
use Rattle.sat_cdcl.proofs.FileLemmas.{list_at}
use Rattle.sat_cdcl.proofs.database.Database.numbered.Goals as goal

pub clause-requires : goal.clause-requires
clause-requires c =
    let store : Stored = c.self.inside.watch.store in
    let slots : List ℕ = c.self.inside.slots.items in
    let wide : length (list_of c.args.self.now) ≡ length slots =
    sym (ap (λ (f : Filed). length (list_of f)) c.self.view_is) ∙ length-map slots (λ k. get_or store.clauses k []) in
    let there : slice_get slots c.args.number ≡ Some c.index.result.now =
    slice_get-get_or slots c.args.number c.index.result.now (omega (arith, wide, c.requires)) ∙ ap Some (sym c.index.ensures) in
    let h = c.self.invariant.0.at c.args.number c.index.result.now there in
    slice_get_within store.clauses c.index.result.now h.clause h.there.is

pub returns-clause-is : goal.returns-clause-is
returns-clause-is c =
    let store : Stored = c.self.inside.watch.store in
    let slots : List ℕ = c.self.inside.slots.items in
    let number : ℕ = c.args.number in
    let k : ℕ = c.index.result.now in
    let clause : List ℕ = c.clause.result.now in
    let wide : length (list_of c.args.self.now) ≡ length slots =
    sym (ap (λ (f : Filed). length (list_of f)) c.self.view_is) ∙ length-map slots (λ j. get_or store.clauses j []) in
    let there : slice_get slots number ≡ Some k =
    slice_get-get_or slots number k (omega (arith, wide, c.requires)) ∙ ap Some (sym c.index.ensures) in
    let h = c.self.invariant.0.at number k there in
    let same : h.clause ≡ clause = same_Some h.clause clause (sym h.there.is ∙ c.clause.ensures.is) in
    ap (λ (f : Filed). slice_get (list_of f) number) (sym c.self.view_is)
    ∙ list_at store slots number k h.clause there h.there ∙ ap Some same
