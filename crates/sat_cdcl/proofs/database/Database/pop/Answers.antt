use Rattle.std.proofs.Common.{◌≡◌, ℕ, ◌-◌, ◌<◌, ◌^◌, List, [], ◌∷◌, ◌++◌, length, take, set, Some, false, slice_get, sym, subst, ◌∙◌, ap, arith}
use Rattle.std.specs.List.{All}
use Rattle.std.proofs.lemmas.List.{length_push}
use Rattle.std.proofs.lemmas.List.Elements.{All-take}
use Rattle.std.proofs.lemmas.Option.{slice_get_within}
use Rattle.ja_base.specs.Clauses.{IsBelow}
use Rattle.refute_check.specs.Checked.{clauses_at}
use Rattle.sat_watch.specs.Stores.{Stored}
use Rattle.sat_cdcl.specs.Files.{Filed, IsRooted}
use Rattle.sat_cdcl.proofs.FileLemmas.{last_is, list_front, idle_last, numbered_pop}
use Rattle.sat_cdcl.proofs.database.Database.pop.Goals as goal

-- the last of a list
last_at : (slots left : List ℕ) (last : ℕ) → slots ≡ left ++ last ∷ [] → slice_get slots (length slots - 1) ≡ Some last
last_at slots left last whole =
    let same : length slots - 1 ≡ length left = omega (arith, ap length whole, length_push left last) in
    ap (λ v. slice_get v (length slots - 1)) whole ∙ ap (slice_get (left ++ last ∷ [])) same ∙ last_is left last

pub forget-requires-clause-within : goal.forget-requires-clause-within
forget-requires-clause-within c =
    let slots : List ℕ = c.self.inside.slots.items in
    let last : ℕ = c.in-Some.slot in
    let is = c.self.invariant.0.at (length slots - 1) last (last_at slots c.pop.new.self.items last c.in-Some.ensures.items) in
    slice_get_within c.self.inside.watch.store.clauses last is.clause is.there.is

pub forget-requires-clause-idle : goal.forget-requires-clause-idle
forget-requires-clause-idle c =
    let slots : List ℕ = c.self.inside.slots.items in
    let last : ℕ = c.in-Some.slot in
    let R : Filed → Type 0 = λ f. IsRooted (length f.slots - 1) f in
    idle_last c.self.inside.watch.trail.places c.self.inside.watch.store slots (length slots - 1) last c.self.invariant.0
    (last_at slots c.pop.new.self.items last c.in-Some.ensures.items) (subst R (sym c.self.view_is) c.requires.rooted)

pub invariant_of-self : goal.invariant_of-self
invariant_of-self c =
    let old : Stored = c.self.inside.watch.store in
    let new : Stored = c.forget.new.self.store in
    let slots : List ℕ = c.self.inside.slots.items in
    let left : List ℕ = c.pop.new.self.items in
    let last : ℕ = c.in-Some.slot in
    let whole : slots ≡ left ++ last ∷ [] = c.in-Some.ensures.items in
    let clauses : new.clauses ≡ old.clauses = ap (λ (s : Stored). s.clauses) c.forget.ensures.store in
    let tags : new.tags ≡ old.tags = ap (λ (s : Stored). s.tags) c.forget.ensures.store in
    let live : new.live ≡ set old.live last false = ap (λ (s : Stored). s.live) c.forget.ensures.store in
    let same : c.forget.new.self.trail.vars ≡ c.self.inside.watch.trail.vars = ap (λ t. t.vars) c.forget.ensures.trail in
    let P : List (List ℕ) → Type 0 = All (IsBelow c.self.inside.watch.trail.vars) in
    let Q : ℕ → Type 0 = λ n. All (IsBelow n) (clauses_at new.clauses left) in
    let front : clauses_at new.clauses left ≡ take (length left) (clauses_at old.clauses slots) =
    ap (λ v. clauses_at v left) clauses ∙ list_front old.clauses left last
    ∙ ap (λ v. take (length left) (clauses_at old.clauses v)) (sym whole) in
    let short : length left < 2 ^ 32 = omega (arith, ap length whole, length_push left last, c.self.invariant.2) in (
      numbered_pop old new slots left last c.self.invariant.0 whole clauses tags live,
      subst Q (sym same) (subst P (sym front)
          (All-take (IsBelow c.self.inside.watch.trail.vars) (length left) (clauses_at old.clauses slots) c.self.invariant.1)),
      short,
    )
