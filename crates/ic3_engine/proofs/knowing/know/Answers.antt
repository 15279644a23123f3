use Rattle.std.proofs.Common.{List, ℕ, [], ◌∷◌, ◌++◌, sym, ap, ◌∙◌, subst}
use Rattle.ja_base.specs.Circuit.{Problem}
use Rattle.ja_base.specs.Invariants.{IsInductive}
use Rattle.aig_model.specs.Netlist.{circuit}
use Rattle.aig_model.specs.Task.{problem}
use Rattle.ic3_query.specs.Known.{IsKnown, all_of}
use Rattle.ic3_query.proofs.KnownLemmas.{inductive_with}
use Rattle.ic3_engine.proofs.FixLemmas.{extended_is}
use Rattle.ic3_engine.proofs.LearnLemmas.{one_more_is_engine}
use Rattle.ic3_engine.proofs.knowing.know.Goals as goal

pub extend-requires-clause-inductive : goal.extend-requires-clause-inductive
extend-requires-clause-inductive g c =
    let t = c.args.coded.now in
    let known : List (List ℕ) = all_of c.args.z.now.known in
    let more_is = c.in_ok-push.ensures.ok ∙ ap (λ (xs : List (List ℕ)). xs ++ c.in_ok-copy.field-0 ∷ []) c.new-more.ensures
    ∙ ap (λ (x : List ℕ). x ∷ []) c.in_ok-copy.ensures in
    let is = subst (λ (q : Problem). IsKnown q known) c.requires.engine.task c.own-before.ensures.known in
    subst (λ (more : List (List ℕ)). IsInductive (circuit t.design) t.expected (known ++ more)) (sym more_is)
    (inductive_with (circuit t.design) t.expected known c.args.clause is.inductive c.requires.good)

pub returns-clause-engine : goal.returns-clause-engine
returns-clause-engine g c =
    let t = c.args.coded.now in
    let k = c.args.z.now.known in
    let j = c.extend.new.known in
    let more_is = c.in_ok-push.ensures.ok ∙ ap (λ (xs : List (List ℕ)). xs ++ c.in_ok-copy.field-0 ∷ []) c.new-more.ensures
    ∙ ap (λ (x : List ℕ). x ∷ []) c.in_ok-copy.ensures in
    let all = extended_is k j c.push.new.self c.extend.ensures.list c.in_ok-extend.ensures.own
    ∙ ap (λ (more : List (List ℕ)). all_of k ++ more) more_is in
    let task = ap problem c.extend.ensures.task ∙ c.requires.engine.task in
    let is = subst (λ (q : Problem). IsKnown q (all_of j)) task c.own-after.ensures.known in
    one_more_is_engine t k j c.args.clause c.args.z.now.frames c.put.new.frames c.args.z.now.queue _ _ _ _ all is task
    c.in_ok-extend.ensures.serves c.put.ensures.top c.in_ok-put.ensures.kept c.requires.engine
