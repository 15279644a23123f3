use Rattle.std.proofs.Common.{◌≡◌, List, length, take, sym, subst, ◌∙◌, ap, arith}
use Rattle.sat_plain.specs.declared.place.Place.{Place}
use Rattle.sat_plain.specs.Trails.{Assigned}
use Rattle.sat_cdcl.specs.Files.{Filed, AreForcedAll, places_of}
use Rattle.sat_cdcl.proofs.LoopLemmas.{forced_all}
use Rattle.sat_cdcl.proofs.QueryLemmas.{root_kept, root_within, rooted_kept}
use Rattle.sat_cdcl.proofs.learn_sat.LearnSat.query.Goals as goal

pub undo-requires : goal.undo-requires
undo-requires g c =
    let a : Filed = c.propagate-root.new.self in
    let forced : AreForcedAll (places_of a) =
    forced_all (places_of c.self.inside.db) (places_of a) c.self.invariant.1 c.propagate-root.ensures.places in
    let root : c.len-root.result ≡ length (places_of a) =
    c.len-root.ensures.value ∙ ap (λ (t : Assigned). length t.places) c.trail.ensures.value in
    omega (arith, root, root_within a c.ask-answer.new.db forced c.ask-answer.ensures.kept)

pub cut-requires-clause-rooted : goal.cut-requires-clause-rooted
cut-requires-clause-rooted g c =
    let a : Filed = c.propagate-root.new.self in
    let forced : AreForcedAll (places_of a) =
    forced_all (places_of c.self.inside.db) (places_of a) c.self.invariant.1 c.propagate-root.ensures.places in
    let root : c.len-root.result ≡ length (places_of a) =
    c.len-root.ensures.value ∙ ap (λ (t : Assigned). length t.places) c.trail.ensures.value in
    rooted_kept a c.ask-answer.new.db c.undo.new.self c.len-added.result c.len-root.result forced c.ask-answer.ensures.kept
    c.trail.ensures.held c.trail.ensures.numbered c.len-added.ensures.slots root c.undo.ensures.places c.undo.ensures.slots

pub invariant_of-self : goal.invariant_of-self
invariant_of-self g c =
    let a : Filed = c.propagate-root.new.self in
    let forced : AreForcedAll (places_of a) =
    forced_all (places_of c.self.inside.db) (places_of a) c.self.invariant.1 c.propagate-root.ensures.places in
    let root : c.len-root.result ≡ length (places_of a) =
    c.len-root.ensures.value ∙ ap (λ (t : Assigned). length t.places) c.trail.ensures.value in
    let vars : c.cut.new.self.watched.trail.vars ≡ c.self.inside.db.watched.trail.vars =
    ap (λ (t : Assigned). t.vars) c.cut.ensures.trail ∙ c.undo.ensures.vars ∙ c.ask-answer.ensures.kept.vars
    ∙ c.propagate-root.ensures.vars in
    let places : places_of c.cut.new.self ≡ places_of a =
    ap (λ (t : Assigned). t.places) c.cut.ensures.trail ∙ c.undo.ensures.places
    ∙ ap (λ n. take n (places_of c.ask-answer.new.db)) root ∙ root_kept a c.ask-answer.new.db forced c.ask-answer.ensures.kept in
    let P : List Place → Type 0 = AreForcedAll in
    (omega (arith, vars, c.release_all.ensures.same, c.ask-answer.ensures.order, c.self.invariant.0), subst P (sym places) forced)
