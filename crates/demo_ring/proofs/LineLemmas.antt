-- Lines of numbers as rows, and sections as lines.
use Rattle.std.proofs.Common.{ℕ, zero, suc, ◌+◌, ◌<◌, ◌≤◌, List, [], ◌∷◌, ◌++◌, map, refl, ap, sym, ◌∙◌, append_assoc, arith}
use Rattle.std.specs.Fmt.{decimal}
use Rattle.std.specs.List.{AllByRecursion, flat_map, range_with_len}
use Rattle.std.proofs.lemmas.List.{append-nil}
use Rattle.ja_text.specs.Numbers.{IsNumber}
use Rattle.ja_text.specs.Rows.{IsRow}
use Rattle.ja_text.proofs.DecimalLemmas.{decimal_is_number}
use Rattle.aiger_lines.specs.Lines.{AreLines}
use Rattle.demo_ring.specs.DemoText.{spaced, numbers_line}

small_number : (m : ℕ) → m ≤ 4000 → IsNumber (decimal m) m
small_number m small = decimal_is_number m (omega arith)

pub line_is_row : (n : ℕ) (ns : List ℕ) → AllByRecursion (λ m. m ≤ 4000) (n ∷ ns) → IsRow (numbers_line (n ∷ ns)) (n ∷ ns)
line_is_row n [] small =
    (decimal n, small_number n small.0, ap (λ (t : List ℕ). t ++ 10 ∷ []) (append-nil (decimal n)))
line_is_row n (m ∷ ns) small = (
  decimal n,
  numbers_line (m ∷ ns),
  small_number n small.0,
  append_assoc (decimal n) (32 ∷ (decimal m ++ flat_map spaced ns)) (10 ∷ []),
  line_is_row m ns small.1,
)

-- a line for each place of a range
pub lines_of_range : {X : Type 0} (IsLine : List ℕ → X → Type 0) (row : ℕ → List ℕ) (item : ℕ → X) (a k : ℕ)
    → ((i : ℕ) → i < a + k → IsLine (numbers_line (row i)) (item i))
    → AreLines IsLine (flat_map (λ i. numbers_line (row i)) (range_with_len a k)) (map item (range_with_len a k))
lines_of_range IsLine row item a zero h = refl
lines_of_range IsLine row item a (suc k) h = (
  numbers_line (row a),
  flat_map (λ i. numbers_line (row i)) (range_with_len (a + 1) k),
  h a (omega arith),
  refl,
  lines_of_range IsLine row item (a + 1) k (λ i within. h i (omega arith)),
)

pub one_line : {X : Type 0} (IsLine : List ℕ → X → Type 0) (line : List ℕ) (x : X) → IsLine line x → AreLines IsLine line (x ∷ [])
one_line IsLine line x form = (line, [], form, sym (append-nil line), refl)

pub lines_joined : {X : Type 0} (IsLine : List ℕ → X → Type 0) (t u : List ℕ) (xs ys : List X) → AreLines IsLine t xs
    → AreLines IsLine u ys → AreLines IsLine (t ++ u) (xs ++ ys)
lines_joined IsLine t u [] ys g h = rw g h
lines_joined IsLine t u (x ∷ xs) ys g h = (
  g.0,
  g.1 ++ u,
  g.2,
  ap (λ (k : List ℕ). k ++ u) g.3 ∙ append_assoc g.0 g.1 u,
  lines_joined IsLine g.1 u xs ys g.4 h,
)
