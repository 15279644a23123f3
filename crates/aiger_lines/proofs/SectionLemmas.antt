-- Lines of numbers are read as they are spelled, and what is spelled so is read so.
use Rattle.std.proofs.Common.{◌≡◌, ℕ, ◌+◌, ◌*◌, ◌≤◌, true, false, cond, eqb, leb, List, [], ◌∷◌, ◌++◌, length, Result, Ok, Err, refl, sym, ap, subst, ◌∙◌, inl, inr, append_assoc, arith}
use Rattle.std.specs.List.{AllByRecursion}
use Rattle.std.proofs.lemmas.Bool.{eqb-true}
use Rattle.std.proofs.lemmas.Bool.Decides.{nat_tests}
use Rattle.ja_text.specs.Rows.{IsRow, TakesRow, row_at}
use Rattle.ja_text.specs.Reading.{◌>>=◌}
use Rattle.ja_text.specs.Repeated.{repeated, Chain}
use Rattle.ja_text.proofs.RowLemmas.{row_takes, row_again}
use Rattle.ja_text.proofs.ReadingLemmas.{bind_ok, guard_held, chosen, ok_is, ok_or_ok}
use Rattle.ja_text.proofs.RepeatedLemmas.{repeated_takes, repeated_again}
use Rattle.aig_model.specs.declared.netlist.Reset.{Reset}
use Rattle.aig_model.specs.declared.netlist.Reset.TheVariants.{Zero, One, Free}
use Rattle.aiger_lines.specs.declared.refusal.ReadRefusal.{ReadRefusal}
use Rattle.aiger_lines.specs.declared.refusal.ReadRefusal.TheVariants as refusal
use Rattle.aiger_lines.specs.Lines.{AreLines, IsLiteralLine, IsUsed, TakesItem, TakesItems, reset_number}
use Rattle.aiger_lines.specs.Reading.{place, line_refusal, numbers_at, one_number, used_at, reset_at, literal_at}

-- ---- an item and a section

module _ {X S : Type 0} (IsLine : List ℕ → X → Type 0) (InRange : X → Type 0) (P : S → X → S → Type 0) (left : S → List ℕ) where
  pub items_from_chain : ((s : S) (x : X) (t : S) → P s x t → TakesItem IsLine InRange (left s) x (left t))
      → (s : S) (xs : List X) (t : S) → Chain P s xs t
      → TakesItems IsLine InRange (left s) xs (left t)
  items_from_chain each s [] t h = record { text = []; parts = ap left h; lines = refl; range = tt }
  items_from_chain each s (x ∷ xs) t h =
      let one = each s x h.0 h.1 in
      let others = items_from_chain each h.0 xs t h.2 in
      record {
        text = one.line ++ others.text;
        parts = one.parts ∙ ap (λ (k : List ℕ). one.line ++ k) others.parts ∙ sym (append_assoc one.line others.text (left t));
        lines = (one.line, others.text, one.form, refl, others.lines);
        range = (one.range, others.range);
      }

-- ---- the numbers of a line

pub numbers_take : (size : ℕ) (bytes ns rest : List ℕ) → numbers_at size bytes ≡ Ok (ns, rest) → TakesRow 9 bytes ns rest
unfolding numbers_at
numbers_take size bytes ns rest e = row_takes 9 bytes (ns, rest)
    (ok_or_ok (row_at 9 bytes) (line_refusal size bytes) (ns, rest) e)

pub numbers_again : (size : ℕ) (text ns rest : List ℕ) → IsRow text ns → length ns ≤ 9
    → numbers_at size (text ++ rest) ≡ Ok (ns, rest)
unfolding numbers_at
numbers_again size text ns rest h few = rw (row_again 9 text ns rest h few) refl

pub one_takes : (at : ℕ) (ns : List ℕ) (n : ℕ) → one_number at ns ≡ Ok n → ns ≡ n ∷ []
one_takes at [] n e = absurd cc
one_takes at (m ∷ []) n e = ap (λ (k : ℕ). k ∷ []) (ok_is m n e)
one_takes at (m ∷ k ∷ ns) n e = absurd cc

is_at_most : (m n : ℕ) → leb m n ≡ true → m ≤ n
is_at_most m n h = grind (arith, nat_tests)

tests_at_most : (m n : ℕ) → m ≤ n → leb m n ≡ true
tests_at_most m n h = grind (arith, nat_tests)

pub used_takes : (vars at n l : ℕ) → used_at vars at n ≡ Ok l → IsUsed vars l × (n ≡ l)
used_takes vars at n l e =
    let held = guard_held (leb n (2 * vars + 1)) (refusal.Range at) n l e in
    (subst (λ (k : ℕ). IsUsed vars k) held.1 (is_at_most n (2 * vars + 1) held.0), held.1)

pub used_again : (vars at l : ℕ) → IsUsed vars l → used_at vars at l ≡ Ok l
used_again vars at l h = rw (tests_at_most l (2 * vars + 1) h) refl

-- ---- lines of a literal

pub literal_takes : (vars size : ℕ) (bytes : List ℕ) (l : ℕ) (rest : List ℕ) → literal_at vars size bytes ≡ Ok (l, rest)
    → TakesItem IsLiteralLine (IsUsed vars) bytes l rest
unfolding literal_at
literal_takes vars size bytes l rest e =
    let at = place size bytes in
    let a = bind_ok (numbers_at size bytes) (λ row. one_number at row.0 >>= λ n. used_at vars at n >>= λ k. Ok (k, row.1))
    (l, rest) e in
    let b = bind_ok (one_number at a.0.0) (λ n. used_at vars at n >>= λ k. Ok (k, a.0.1)) (l, rest) a.2 in
    let c = bind_ok (used_at vars at b.0) (λ k. Ok (k, a.0.1)) (l, rest) b.2 in
    let last = ok_is (c.0, a.0.1) (l, rest) c.2 in
    let row = numbers_take size bytes a.0.0 a.0.1 a.1 in
    let used = used_takes vars at b.0 c.0 c.1 in
    let form : IsLiteralLine row.row.text c.0 = subst (λ (ns : List ℕ). IsRow row.row.text ns)
    (one_takes at a.0.0 b.0 b.1 ∙ ap (λ (k : ℕ). k ∷ []) used.1) row.row.form in
    let taken : TakesItem IsLiteralLine
    (IsUsed vars) bytes c.0 a.0.1 = record { line = row.row.text; parts = row.row.parts; form = form; range = used.0 } in
    subst (λ (p : ℕ × List ℕ). TakesItem IsLiteralLine (IsUsed vars) bytes p.0 p.1) last taken

pub literal_again : (vars size : ℕ) (bytes : List ℕ) (l : ℕ) (rest : List ℕ) → TakesItem IsLiteralLine (IsUsed vars) bytes l rest
    → literal_at vars size bytes ≡ Ok (l, rest)
unfolding literal_at
literal_again vars size bytes l rest h =
    let read : numbers_at size bytes ≡ Ok (l ∷ [], rest) = ap (numbers_at size) h.parts
    ∙ numbers_again size h.line (l ∷ []) rest h.form (omega arith) in
    rw (read, used_again vars (place size bytes) l h.range) refl

pub literals_take : (vars size n : ℕ) (bytes ls rest : List ℕ) → repeated (literal_at vars size) n bytes ≡ Ok (ls, rest)
    → TakesItems IsLiteralLine (IsUsed vars) bytes ls rest × (length ls ≡ n)
literals_take vars size n bytes ls rest e =
    let P = λ (s : List ℕ) (l : ℕ) (t : List ℕ). TakesItem IsLiteralLine (IsUsed vars) s l t in
    let chain = repeated_takes (literal_at vars size) P (λ _. Unit {0})
    (λ s l t i read. (literal_takes vars size s l t read, tt)) n bytes ls rest tt e in
    (items_from_chain IsLiteralLine (IsUsed vars) P (λ (s : List ℕ). s) (λ s l t h. h) bytes ls rest chain.0, chain.2)

literal_chain : (vars : ℕ) (text ls rest : List ℕ) → AreLines IsLiteralLine text ls → AllByRecursion (IsUsed vars) ls
    → Chain (λ s l t. TakesItem IsLiteralLine (IsUsed vars) s l t) (text ++ rest) ls rest
literal_chain vars text [] rest lines range = ap (λ (k : List ℕ). k ++ rest) lines
literal_chain vars text (l ∷ ls) rest lines range = (
  lines.1 ++ rest,
  record {
    line = lines.0;
    parts = ap (λ (k : List ℕ). k ++ rest) lines.3
        ∙ append_assoc lines.0 lines.1 rest;
    form = lines.2;
    range = range.0;
  },
  literal_chain vars lines.1 ls rest lines.4 range.1,
)

pub literals_again : (vars size : ℕ) (text ls rest : List ℕ) → AreLines IsLiteralLine text ls → AllByRecursion (IsUsed vars) ls
    → repeated (literal_at vars size) (length ls) (text ++ rest) ≡ Ok (ls, rest)
literals_again vars size text ls rest lines range =
    let P = λ (s : List ℕ) (l : ℕ) (t : List ℕ). TakesItem IsLiteralLine (IsUsed vars) s l t in
    repeated_again (literal_at vars size) P (literal_again vars size) (text ++ rest) ls rest
    (literal_chain vars text ls rest lines range)

-- ---- a reset

pub reset_takes : (l at n : ℕ) (r : Reset) → reset_at l at n ≡ Ok r → n ≡ reset_number l r
reset_takes l at n r e =
    let P = λ (k : Reset). n ≡ reset_number l k in
    let own : Result Reset ReadRefusal = cond (eqb n l) (Ok Free) (Err (refusal.Range at)) in
    let one : Result Reset ReadRefusal = cond (eqb n 1) (Ok One) own in
    elim (chosen (eqb n 0) (Ok Zero) one (Ok r) e) [
      | inl z ↦ subst P (ok_is Zero r z.1) (eqb-true n 0 z.0)
      | inr z ↦ elim (chosen (eqb n 1) (Ok One) own (Ok r) z.1) [
        | inl o ↦ subst P (ok_is One r o.1) (eqb-true n 1 o.0)
        | inr o ↦
            let f = guard_held (eqb n l) (refusal.Range at) Free r o.1 in
            subst P f.1 (eqb-true n l f.0)
      ]
    ]

pub reset_again : (l at : ℕ) (r : Reset) → 2 ≤ l → reset_at l at (reset_number l r) ≡ Ok r
reset_again l at Zero h = refl
reset_again l at One h = refl
reset_again l at Free h =
    let not_zero : eqb l 0 ≡ false = grind (arith, nat_tests) in
    let not_one : eqb l 1 ≡ false = grind (arith, nat_tests) in
    let own : eqb l l ≡ true = grind (arith, nat_tests) in
    rw (not_zero, not_one, own) refl
