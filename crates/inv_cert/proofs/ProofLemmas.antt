-- What a checker has taken of a proof, line by line.
use Rattle.std.proofs.Common.{◌≡◌, ℕ, ◌+◌, ◌≤◌, true, Option, Some, None, List, [], ◌∷◌, ◌++◌, length, map, take, is_none, append_assoc, append-nil, refl, sym, ap, subst, ◌∙◌, arith}
use Rattle.std.proofs.Math.Seq.{take-append_seam}
use Rattle.refute_check.specs.Lines.{refusal, accepts_line}
use Rattle.refute_check.specs.Laws.{with_lines}
use Rattle.refute_check.specs.Checked.{Checked, with_line, without_lines}
use Rattle.refute_check.specs.declared.lines.Line.{Line}
use Rattle.inv_cert.specs.declared.not_closed.NotClosed.TheVariants as case
use Rattle.inv_cert.specs.Refusals.{hint_or, refused_line}
use Rattle.inv_cert.specs.Taken.{IsLoaded, HasTaken, HasLines, line_refusal}

-- so many lines are taken, and these are left
pub record IsTaking (vars : ℕ) (clauses : List (List ℕ)) (lines : List Line) (at : ℕ) (left : List Line)
    (checker : Checked) : Type 0 where
  pub vars_are : checker.vars ≡ vars
  pub kept : checker.kept ≡ length clauses
  pub room : length left ≤ checker.spare
  pub count : at + length left ≡ length lines
  pub same : refused_line vars clauses 0 lines ≡ refused_line vars checker.list at left
  pub list : with_lines checker.list left ≡ with_lines clauses lines
  pub held : HasLines vars clauses checker

-- ---- a checker with lines behind its clauses

pub HasLines-none : (vars : ℕ) (clauses : List (List ℕ)) (checker : Checked) → IsLoaded vars clauses checker
    → HasLines vars clauses checker
HasLines-none vars clauses checker h =
    record { vars_are = h.vars_are; lines = []; list = h.list ∙ sym (append-nil clauses); kept = h.kept }

HasLines-more : (vars : ℕ) (clauses : List (List ℕ)) (checker : Checked) (clause : List ℕ) → HasLines vars clauses checker
    → HasLines vars clauses (with_line checker clause)
HasLines-more vars clauses checker clause h = record {
  vars_are = h.vars_are;
  lines = h.lines ++ clause ∷ [];
  list = ap (λ (list : List (List ℕ)). list ++ clause ∷ []) h.list ∙ append_assoc clauses h.lines (clause ∷ []);
  kept = h.kept;
}

-- the lines are given back
pub IsLoaded-forgotten : (vars : ℕ) (clauses : List (List ℕ)) (checker : Checked) → HasLines vars clauses checker
    → IsLoaded vars clauses (without_lines checker)
IsLoaded-forgotten vars clauses checker h = record {
  vars_are = h.vars_are;
  list = ap (λ (n : ℕ). take n checker.list) h.kept ∙ ap (take (length clauses)) h.list ∙ take-append_seam clauses h.lines;
  kept = h.kept;
}

-- ---- line by line

module _ (vars : ℕ) (clauses : List (List ℕ)) (lines : List Line) where
  pub IsTaking-none : (checker : Checked) → IsLoaded vars clauses checker → length lines ≤ checker.spare
      → IsTaking vars clauses lines 0 lines checker
  IsTaking-none checker h room = record {
    vars_are = h.vars_are;
    kept = h.kept;
    room = room;
    count = omega arith;
    same = ap (λ (list : List (List ℕ)). refused_line vars list 0 lines) (sym h.list);
    list = ap (λ (list : List (List ℕ)). with_lines list lines) h.list;
    held = HasLines-none vars clauses checker h;
  }

  pub IsTaking-as : (at : ℕ) (left seen : List Line) (checker : Checked) → left ≡ seen
      → IsTaking vars clauses lines at left checker
      → IsTaking vars clauses lines at seen checker
  IsTaking-as at left seen checker e h = let P : List Line
      → Type 0 = λ ls. IsTaking vars clauses lines at ls checker in subst P e h

  -- an accepted line
  pub IsTaking-more : (at : ℕ) (line : Line) (left : List Line) (checker : Checked)
      → IsTaking vars clauses lines at (line ∷ left) checker
      → refusal checker.vars checker.list line.clause line.hints ≡ None
      → IsTaking vars clauses lines (at + 1) left (with_line checker line.clause)
  IsTaking-more at line left checker h accepted = record {
    vars_are = h.vars_are;
    kept = h.kept;
    room = omega (arith, h.room);
    count = omega (arith, h.count);
    same = h.same
        ∙ ap (λ (r : Option ℕ). hint_or r at (refused_line vars (checker.list ++ line.clause ∷ []) (at + 1) left))
        (ap (λ (n : ℕ). refusal n checker.list line.clause line.hints) (sym h.vars_are) ∙ accepted);
    list = append_assoc checker.list (line.clause ∷ []) (map (λ (k : Line). k.clause) left) ∙ h.list;
    held = HasLines-more vars clauses checker line.clause h.held;
  }

  -- a line that is refused
  pub refused_at : (number at hint : ℕ) (line : Line) (left : List Line) (checker : Checked)
      → IsTaking vars clauses lines at (line ∷ left) checker
      → refusal checker.vars checker.list line.clause line.hints ≡ Some hint
      → line_refusal number (refused_line vars clauses 0 lines) ≡ Some (case.Line number at hint)
  refused_at number at hint line left checker h refused =
      ap (line_refusal number) (h.same
      ∙ ap (λ (r : Option ℕ). hint_or r at (refused_line vars (checker.list ++ line.clause ∷ []) (at + 1) left))
      (ap (λ (n : ℕ). refusal n checker.list line.clause line.hints) (sym h.vars_are) ∙ refused))

  -- no line is left
  pub none_refused : (number at : ℕ) (checker : Checked) → IsTaking vars clauses lines at [] checker
      → line_refusal number (refused_line vars clauses 0 lines) ≡ None
  none_refused number at checker h = ap (line_refusal number) h.same

  pub HasTaken-all : (at : ℕ) (checker : Checked) → IsTaking vars clauses lines at [] checker
      → HasTaken vars clauses lines checker
  HasTaken-all at checker h = record { vars_are = h.vars_are; list = sym (append-nil checker.list) ∙ h.list; kept = h.kept }

pub is_accepted : (vars : ℕ) (list : List (List ℕ)) (clause hints : List ℕ) → true ≡ accepts_line vars list clause hints
    → refusal vars list clause hints ≡ None
is_accepted vars list clause hints e = by_case (refusal vars list clause hints) e
  where
    by_case : (o : Option ℕ) → true ≡ is_none o → o ≡ None
    by_case None e = refl
    by_case (Some x) e = cc
