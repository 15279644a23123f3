use Rattle.std.proofs.Common.{List, ℕ, sym, ap, ◌∙◌}
use Rattle.inv_cert.specs.Closed.{ClosedList}
use Rattle.ic3_engine.specs.Putting.{put_all}
use Rattle.ic3_engine.proofs.PutLemmas.{put_all_append}
use Rattle.ic3_engine.proofs.putting.put_known.Goals as goal

pub returns-clause-kept : goal.returns-clause-kept
returns-clause-kept c =
    let top = c.args.frames.now.top in
    let list = ap (λ (l : ClosedList). l.clauses) c.list.ensures.value in
    let first = c.in_ok-put_closed.ensures.kept ∙ ap (λ (cs : List (List ℕ)). put_all top cs c.args.frames.now.kept) list in
    c.in_ok-put_list.ensures.kept
    ∙ ap (λ n. put_all n c.own.result.now c.put_closed.new.frames.kept) c.put_closed.ensures.top
    ∙ ap (λ (cs : List (List ℕ)). put_all top cs c.put_closed.new.frames.kept) c.own.ensures.value
    ∙ ap (put_all top c.args.known.now.own) first
    ∙ sym (put_all_append top c.args.known.now.list c.args.known.now.own c.args.frames.now.kept)
