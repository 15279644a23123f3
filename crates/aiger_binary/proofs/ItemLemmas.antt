-- Items that define the next literal, one behind the other: they are read as they are spelled, and what is spelled so is read so.
use Rattle.std.proofs.Common.{◌≡◌, ℕ, ◌+◌, ◌≤◌, List, [], ◌∷◌, ◌++◌, length, Result, Ok, refl, ap, subst, ◌∙◌, append_assoc, arith}
use Rattle.std.specs.List.{AllByRecursion}
use Rattle.ja_text.specs.Repeated.{repeated, Chain}
use Rattle.ja_text.proofs.RepeatedLemmas.{repeated_takes, repeated_again}
use Rattle.aiger_lines.specs.declared.refusal.ReadRefusal.{ReadRefusal}
use Rattle.aiger_lines.specs.Lines.{AreLines, TakesItem, TakesItems}
use Rattle.aiger_lines.proofs.SectionLemmas.{items_from_chain}
use Rattle.aiger_binary.specs.Reading.{State}
use Rattle.aiger_binary.proofs.OrderLemmas.{AreCounted}

-- the text of an item was read, and it defines the literal that was next
pub record Defines {X : Type 0} (IsText : List ℕ → X → Type 0) (InRange : X → Type 0) (literal_of : X → ℕ) (s : State) (x : X)
    (t : State) : Type 0 where
  pub item : TakesItem IsText InRange s.rest x t.rest
  pub above : 2 ≤ s.lit
  pub lit : literal_of x ≡ s.lit
  pub next : t.lit ≡ s.lit + 2

-- a step that reads an item, against the item's text
pub record IsStep {X : Type 0} (step : State → Result (X × State) ReadRefusal) (IsText : List ℕ → X → Type 0)
    (InRange : X → Type 0) (literal_of : X → ℕ) : Type 0 where
  pub takes : (s : State) (x : X) (t : State) → 2 ≤ s.lit → step s ≡ Ok (x, t) → Defines IsText InRange literal_of s x t
  pub again : (s : State) (x : X) (t : State) → Defines IsText InRange literal_of s x t → step s ≡ Ok (x, t)

module _ {X : Type 0} (step : State → Result (X × State) ReadRefusal) (IsText : List ℕ → X → Type 0) (InRange : X → Type 0)
    (literal_of : X → ℕ) where
  counted_from_chain : (s : State) (xs : List X) (t : State) → Chain (Defines IsText InRange literal_of) s xs t
      → AreCounted literal_of s.lit xs
  counted_from_chain s [] t h = tt
  counted_from_chain s (x ∷ xs) t h =
      (h.1.lit, subst (λ (l : ℕ). AreCounted literal_of l xs) h.1.next (counted_from_chain h.0 xs t h.2))

  pub section_takes : IsStep step IsText InRange literal_of → (n : ℕ) (s : State) (xs : List X) (t : State) → 2 ≤ s.lit
      → repeated step n s ≡ Ok (xs, t)
      → TakesItems IsText InRange s.rest xs t.rest × AreCounted literal_of s.lit xs × (length xs ≡ n)
  section_takes is_step n s xs t above e =
      let P = Defines IsText InRange literal_of in
      let chain = repeated_takes step P (λ (u : State). 2 ≤ u.lit)
      (λ u x v i read. let d = is_step.takes u x v i read in (d, omega (arith, d.next))) n s xs t above e in (
        items_from_chain IsText InRange P (λ (u : State). u.rest) (λ u x v h. h.item) s xs t chain.0,
        counted_from_chain s xs t chain.0,
        chain.2,
      )

  -- the literal behind those of the items
  behind : ℕ → List X → ℕ
  behind l [] = l
  behind l (x ∷ xs) = behind (l + 2) xs

  section_chain : (l : ℕ) (text : List ℕ) (xs : List X) (rest : List ℕ) → 2 ≤ l → AreLines IsText text xs
      → AllByRecursion InRange xs → AreCounted literal_of l xs
      → Chain (Defines IsText InRange literal_of) (record { lit = l; rest = text ++ rest }) xs
      (record { lit = behind l xs; rest = rest })
  unfolding behind
  section_chain l text [] rest above lines range counted = ap (λ (k : List ℕ). record { lit = l; rest = k ++ rest }) lines
  section_chain l text (x ∷ xs) rest above lines range counted = (
    record { lit = l + 2; rest = lines.1 ++ rest },
    record {
      item = record {
        line = lines.0;
        parts = ap (λ (k : List ℕ). k ++ rest) lines.3
            ∙ append_assoc lines.0 lines.1 rest;
        form = lines.2;
        range = range.0;
      };
      above = above;
      lit = counted.0;
      next = refl;
    },
    section_chain (l + 2) lines.1 xs rest (omega arith) lines.4 range.1 counted.1,
  )

  pub section_again : IsStep step IsText InRange literal_of → (l : ℕ) (text : List ℕ) (xs : List X) (rest : List ℕ) → 2 ≤ l
      → AreLines IsText text xs → AllByRecursion InRange xs → AreCounted literal_of l xs
      → (next : ℕ) × (repeated step (length xs) (record { lit = l; rest = text ++ rest }) ≡ Ok
      (xs, record { lit = next; rest = rest }))
  section_again is_step l text xs rest above lines range counted = (
    behind l xs,
    repeated_again step (Defines IsText InRange literal_of) is_step.again (record { lit = l; rest = text ++ rest }) xs
        (record { lit = behind l xs; rest = rest }) (section_chain l text xs rest above lines range counted),
  )
