use Rattle.std.proofs.Common.{List, ℕ, ◌++◌, sym, ap, ◌∙◌}
use Rattle.ja_base.proofs.JoinLemmas.{joined_is_fresh}
use Rattle.inv_cert.proofs.join.joined.Goals as goal

pub returns : goal.returns
returns c =
    let first : List (List ℕ) = c.args.first.now in
    c.in_ok-append.ensures.ok ∙ ap (λ list. list ++ c.in_ok-added.added) c.in_ok-both.ensures
    ∙ ap (λ list. first ++ list) c.in_ok-added.ensures ∙ sym (joined_is_fresh first c.args.second.now)
