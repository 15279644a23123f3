-- The text spells the lists.
use Rattle.std.proofs.Common.{◌≡◌, ℕ, ◌+◌, ◌-◌, ◌*◌, ◌<◌, ◌≤◌, Bool, false, cond, eqb, List, [], ◌∷◌, ◌++◌, map, refl, ap, subst, sym, inl, inr, length-append, arith}
use Rattle.std.specs.List.{range_with_len}
use Rattle.std.proofs.lemmas.Bool.Decides.{nat_tests}
use Rattle.std.proofs.lemmas.List.{append-nil}
use Rattle.std.proofs.lemmas.List.FromFn.{length-map-range_with_len}
use Rattle.aiger_lines.specs.declared.form.Form.TheVariants.{Ascii}
use Rattle.aiger_lines.specs.declared.sizes.Header.{Header}
use Rattle.aiger_lines.specs.Header.{header_of, IsHeaderLine, IsWithinLimits}
use Rattle.aiger_lines.specs.Lines.{AreLines, IsLiteralLine}
use Rattle.aiger_lines.specs.Tail.{IsTail}
use Rattle.aiger_lines.specs.Files.{Counts}
use Rattle.aiger_ascii.specs.Grammar.{IsLatchLine, IsGateLine, Sections, text_of, AreSpelled, Spells}
use Rattle.demo_ring.specs.DemoText.{numbers_line, sizes_row, header_text, first_latch_row, latch_row, later_latches_text, latches_text, bad_row, neighbour_bads_text, bads_text, gate_row, last_gate_row, neighbour_gates_text, gates_text, demo_text}
use Rattle.demo_ring.specs.DemoParts.{DemoTextIsADesign, later_latch, demo_latches, neighbour_gate, last_gate, demo_gates, demo_bads, demo_parts}
use Rattle.demo_ring.proofs.RowLemmas.{short_sizes, short_first_latch, short_latch, short_bad, short_last_bad, short_gate, short_last_gate}
use Rattle.demo_ring.proofs.LineLemmas.{line_is_row, lines_of_range, one_line, lines_joined}
use Rattle.demo_ring.proofs.SizeLemmas.{short_text}
use Rattle.demo_ring.proofs.PartsLemmas.{parts_in_range, parts_make_design}

-- ---- the sections

abbrev sizes : ℕ → Header
sizes n = header_of (sizes_row n)

header_line : (n : ℕ) → n ≤ 1000 → IsHeaderLine Ascii (header_text n) (sizes n)
header_line n most = record {
  row = numbers_line (sizes_row n);
  numbers = sizes_row n;
  text_is = refl;
  spelled = line_is_row (2 * n) (0 ∷ n ∷ 0 ∷ n ∷ (n + 1) ∷ []) (short_sizes n most).small;
  five = omega arith;
  nine = omega arith;
  header_is = refl;
}

latch_lines : (n : ℕ) → 3 ≤ n → n ≤ 1000 → AreLines IsLatchLine (latches_text n) (demo_latches n)
latch_lines n three most = (
  numbers_line (first_latch_row n),
  later_latches_text (n - 1),
  inl (line_is_row 2 ((2 * n) ∷ 1 ∷ []) (short_first_latch n most).small),
  refl,
  lines_of_range IsLatchLine latch_row later_latch 1 (n - 1)
      (λ i within. inr (line_is_row (2 * (i + 1)) ((2 * i) ∷ []) (short_latch i (omega arith)).small, refl)),
)

bad_lines : (n : ℕ) → 3 ≤ n → n ≤ 1000 → AreLines IsLiteralLine (bads_text n) (demo_bads n)
bad_lines n three most =
    lines_joined IsLiteralLine (neighbour_bads_text n n) (numbers_line ((2 * n) ∷ []))
    (map (λ i. 2 * (n + 1 + i)) (range_with_len 0 n)) ((2 * n) ∷ [])
    (lines_of_range IsLiteralLine (bad_row n) (λ i. 2 * (n + 1 + i)) 0 n
    (λ i within. line_is_row (2 * (n + 1 + i)) [] (short_bad n i most (omega arith)).small))
    (one_line IsLiteralLine (numbers_line ((2 * n) ∷ [])) (2 * n) (line_is_row (2 * n) [] (short_last_bad n most).small))

gate_lines : (n : ℕ) → 3 ≤ n → n ≤ 1000 → AreLines IsGateLine (gates_text n) (demo_gates n)
gate_lines n three most =
    lines_joined IsGateLine (neighbour_gates_text n (n - 1)) (numbers_line (last_gate_row n))
    (map (neighbour_gate n) (range_with_len 0 (n - 1))) (last_gate n ∷ [])
    (lines_of_range IsGateLine (gate_row n) (neighbour_gate n) 0 (n - 1)
    (λ i within. line_is_row (2 * (n + 1 + i)) ((2 * (i + 2)) ∷ (2 * (i + 1)) ∷ []) (short_gate n i most (omega arith)).small))
    (one_line IsGateLine (numbers_line (last_gate_row n)) (last_gate n)
    (line_is_row (4 * n) ((2 * n) ∷ 2 ∷ []) (short_last_gate n most).small))

-- ---- the whole text

abbrev sections : ℕ → Sections
sections n = record {
  header = header_text n;
  inputs = [];
  latches = latches_text n;
  outputs = [];
  bads = bads_text n;
  constraints = [];
  gates = gates_text n;
  tail = [];
}

regrouped : (h l b g : List ℕ) → h ++ l ++ b ++ g ≡ h ++ [] ++ l ++ [] ++ b ++ [] ++ g ++ []
regrouped h l b g = simp append-nil

text_is : (n : ℕ) → demo_text n ≡ text_of (sections n)
unfolding demo_text
text_is n = regrouped (header_text n) (latches_text n) (bads_text n) (gates_text n)

no_tail : (h : Header) → IsTail h []
no_tail h = record { rest = []; lines = record { lines = []; text_is = refl; passed = tt }; ends = inl (inl refl) }

spelled : (n : ℕ) → 3 ≤ n → n ≤ 1000 → AreSpelled (sizes n) (demo_parts n) (demo_bads n) (sections n)
unfolding demo_parts
spelled n three most = record {
  header = header_line n most;
  inputs = refl;
  latches = latch_lines n three most;
  outputs = refl;
  bad_lines = bad_lines n three most;
  constraints = refl;
  gates = gate_lines n three most;
  tail = no_tail (sizes n);
}

counts : (n : ℕ) → 3 ≤ n → Counts (sizes n) (demo_parts n) (demo_bads n)
unfolding demo_parts
counts n three = record {
  vars = refl;
  inputs = refl;
  latches = omega (arith, length-map-range_with_len later_latch 1 (n - 1));
  outputs = refl;
  bad_lines = omega (
    arith,
    length-append (map (λ i. 2 * (n + 1 + i)) (range_with_len 0 n)) ((2 * n) ∷ []),
    length-map-range_with_len (λ i. 2 * (n + 1 + i)) 0 n,
  );
  constraints = refl;
  gates = omega (
    arith,
    length-append (map (neighbour_gate n) (range_with_len 0 (n - 1))) (last_gate n ∷ []),
    length-map-range_with_len (neighbour_gate n) 0 (n - 1),
  );
}

-- where there is a bad, the bads are the properties
chosen : {X : Type 0} (b : ℕ) (outputs bads : X) → 0 < b → bads ≡ cond (eqb b 0) outputs bads
chosen b outputs bads some =
    let not_none : eqb b 0 ≡ false = grind (arith, nat_tests) in
    sym (ap (λ (t : Bool). cond t outputs bads) not_none)

limits : (n : ℕ) → 3 ≤ n → n ≤ 1000 → IsWithinLimits Ascii (sizes n)
limits n three most = record {
  vars = omega arith;
  justice = refl;
  fairness = refl;
  sum = omega arith;
  properties = subst (λ (k : ℕ). k ≤ 20000) (chosen (n + 1) 0 (n + 1) (omega arith)) (omega arith);
  outputs = omega arith;
  constraints = omega arith;
}

spells : (n : ℕ) → 3 ≤ n → n ≤ 1000 → Spells (demo_text n) (demo_parts n)
unfolding demo_parts
spells n three most = record {
  head = sizes n;
  bads = demo_bads n;
  sections = sections n;
  bytes_are = text_is n;
  spelled = spelled n three most;
  counts = counts n three;
  properties = chosen (n + 1) [] (demo_bads n) (omega arith);
  file = short_text n three most;
  limits = limits n three most;
  range = parts_in_range n three most;
  design = parts_make_design n three most;
}

pub text_is_a_design : DemoTextIsADesign
text_is_a_design = λ n three most. (demo_parts n, spells n three most, refl)
