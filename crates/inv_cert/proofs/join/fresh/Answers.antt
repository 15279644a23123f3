use Rattle.std.proofs.Common.{◌≡◌, ℕ, ◌+◌, List, [], ◌∷◌, ◌++◌, length, append_assoc, sym, ap, ◌∙◌, subst, arith}
use Rattle.inv_cert.proofs.KnownLemmas.{IsRead-same, IsJoinedTo, IsJoinedTo-new, IsJoinedTo-again, fresh_at_end}
use Rattle.inv_cert.proofs.join.fresh.Goals as goal
use Rattle.inv_cert.proofs.join.fresh.Goals.{then-branch+in_ok-copy+in_ok-push, else-branch}

pub loop-clause-preserved : goal.loop-clause-preserved
loop-clause-preserved c =
    let first : List (List ℕ) = c.args.first.now in
    let second : List (List ℕ) = c.args.second.now in
    let at : ℕ = c.loop-clause.clause-index in
    let added : List (List ℕ) = c.loop-clause.added in
    let both : List (List ℕ) = first ++ added in
    let literals : List ℕ = c.clause-item.result in
    let read = IsRead-same c.as_slice-clause-items.result.now second at c.lits.result literals
    c.as_slice-clause-items.ensures.value c.loop-clause-test.true c.clause-item.is c.lits.ensures.value in
    elim c.if-branch.branch [
      | then-branch+in_ok-copy+in_ok-push w ↦
          let pushed : added ++ c.lits.result.now ∷ [] ≡ c.if-branch.added =
          ap (λ x. added ++ x ∷ []) (c.lits.ensures.value ∙ sym w.in_ok-copy.ensures) ∙ sym w.in_ok-push.ensures.ok
          ∙ sym w.added-is in
          subst (λ list. IsJoinedTo first second (at + 1) list c.insert.new.self)
          (append_assoc first added (c.lits.result.now ∷ []) ∙ ap (λ list. first ++ list) pushed)
          (IsJoinedTo-new first second at both c.loop-clause.known c.insert.new.self c.lits.result literals read
          c.loop-clause.invariant
          c.in_ok-insert.ensures.updates c.in_ok-insert.field-0 c.in_ok-insert.ensures.added w.if-branch.true)
      | else-branch w ↦
          subst (λ list. IsJoinedTo first second (at + 1) (first ++ list) c.insert.new.self) (sym w.added-is)
          (IsJoinedTo-again first second at both c.loop-clause.known c.insert.new.self c.lits.result literals read
          c.loop-clause.invariant
          c.in_ok-insert.ensures.updates c.in_ok-insert.field-0 c.in_ok-insert.ensures.added w.if-branch.false)
    ]

pub returns : goal.returns
returns c =
    fresh_at_end c.args.first.now c.args.second.now c.loop-clause.added c.loop-clause.clause-index c.loop-clause.known
    (omega (arith, ap length c.as_slice-clause-items.ensures.value)) c.loop-clause.invariant
