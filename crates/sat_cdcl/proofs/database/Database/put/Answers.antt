use Rattle.std.proofs.Common.{◌≡◌, ℕ, ◌+◌, ◌<◌, ◌^◌, false, List, [], ◌∷◌, ◌++◌, length, sym, subst, ◌∙◌, ap, arith}
use Rattle.std.specs.List.{All}
use Rattle.std.proofs.lemmas.Bool.Decides.{nat_tests}
use Rattle.std.proofs.lemmas.List.{length_push}
use Rattle.std.proofs.lemmas.List.Elements.{All-push}
use Rattle.ja_base.specs.Clauses.{IsBelow}
use Rattle.refute_check.specs.Checked.{clauses_at}
use Rattle.sat_watch.specs.declared.tag.Tag.{Tag}
use Rattle.sat_watch.specs.Stores.{Stored, IsPut}
use Rattle.sat_cdcl.specs.Files.{Filed, list_of, IsNumbered}
use Rattle.sat_cdcl.proofs.FileLemmas.{numbered_put, list_put, there_put}
use Rattle.sat_cdcl.proofs.database.Database.put.Goals as goal

pub invariant_of-self-2 : goal.invariant_of-self-2
invariant_of-self-2 c =
    let old : Stored = c.self.inside.watch.store in
    let new : Stored = c.add.new.self.store in
    let slots : List ℕ = c.self.inside.slots.items in
    let clause : List ℕ = c.args.clause in
    let slot : ℕ = c.in_ok-slot.slot in
    let tag : Tag = record { tainted = false; number = c.len-number.result } in
    let put : IsPut old clause tag new slot = c.in_ok-slot.ensures.ok in
    let items : c.push_reserved.new.self.items ≡ slots ++ slot ∷ [] =
    c.push_reserved.ensures.items ∙ ap (λ v. v ++ slot ∷ []) c.reserve.ensures.items in
    let last : tag.number ≡ length slots = c.len-number.ensures.slots ∙ ap (λ (f : Filed). length f.slots) (sym c.self.view_is) in
    let vars : ℕ = c.self.inside.watch.trail.vars in
    let same : c.add.new.self.trail.vars ≡ vars = ap (λ t. t.vars) c.add.ensures.trail in
    let R : Filed → Type 0 = λ f. IsBelow f.watched.trail.vars clause in
    let below : IsBelow vars clause = subst R (sym c.self.view_is) c.requires in
    let P : List ℕ → Type 0 = IsNumbered new in
    let Q : ℕ → Type 0 = λ n. All (IsBelow n) (clauses_at new.clauses c.push_reserved.new.self.items) in
    let short : length c.push_reserved.new.self.items < 2 ^ 32 =
    let number = c.len-number.ensures.slots in
    let is : c.len-number.result ≡ length slots = last in
    let off = c.if-number.false in
    let all = c.self.invariant.2 in
    let more : length c.push_reserved.new.self.items ≡ length slots + 1 = ap length items ∙ length_push slots slot in
    grind (arith, nat_tests) in
    let S : List (List ℕ) → Type 0 = All (IsBelow vars) in (
      subst P (sym items) (numbered_put old new slots clause tag slot c.self.invariant.0 put last),
      subst Q (sym same)
          (subst S (sym (ap (clauses_at new.clauses) items ∙ list_put old new slots clause tag slot c.self.invariant.0 put))
          (All-push (IsBelow vars) (clauses_at old.clauses slots) clause c.self.invariant.1 below)),
      short,
    )

pub returns-clause-list : goal.returns-clause-list
returns-clause-list c =
    let old : Stored = c.self.inside.watch.store in
    let new : Stored = c.add.new.self.store in
    let slots : List ℕ = c.self.inside.slots.items in
    let slot : ℕ = c.in_ok-slot.slot in
    let tag : Tag = record { tainted = false; number = c.len-number.result } in
    let put : IsPut old c.args.clause tag new slot = c.in_ok-slot.ensures.ok in
    let items : c.push_reserved.new.self.items ≡ slots ++ slot ∷ [] =
    c.push_reserved.ensures.items ∙ ap (λ v. v ++ slot ∷ []) c.reserve.ensures.items in
    ap (clauses_at new.clauses) items ∙ list_put old new slots c.args.clause tag slot c.self.invariant.0 put
    ∙ ap (λ (f : Filed). list_of f ++ c.args.clause ∷ []) c.self.view_is

pub returns-clause-there : goal.returns-clause-there
returns-clause-there c =
    let tag : Tag = record { tainted = false; number = c.len-number.result } in
    there_put c.self.inside.watch.store c.add.new.self.store c.args.clause tag c.in_ok-slot.slot c.self.invariant.0.live_len
    c.in_ok-slot.ensures.ok
