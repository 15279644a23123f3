-- The sections of a file, read from left to right: their lists, or the first refusal that is met.
use Rattle.std.specs.Prelude.{ℕ, ◌+◌, ◌*◌, ◌%◌, ◌==◌, ◌&&◌, Bool, false, true, nat_le, if◌then◌else◌, List, [], ◌∷◌, length, replicate, slice_set, Result, Ok, Err}
use Rattle.ja_base.specs.Literals.{bit, variable}
use Rattle.ja_text.specs.Reading.{◌>>=◌}
use Rattle.ja_text.specs.Repeated.{repeated}
use Rattle.aig_model.specs.declared.netlist.Latch.{Latch}
use Rattle.aig_model.specs.declared.netlist.AndGate.{AndGate}
use Rattle.aig_model.specs.declared.netlist.Parts.{Parts}
use Rattle.aiger_lines.specs.declared.form.Form.TheVariants.{Ascii}
use Rattle.aiger_lines.specs.declared.sizes.Header.{Header}
use Rattle.aiger_lines.specs.declared.refusal.ReadRefusal.{ReadRefusal}
use Rattle.aiger_lines.specs.declared.refusal.ReadRefusal.TheVariants as refusal
use Rattle.aiger_lines.specs.Reading.{place, numbers_at, one_number, used_at, reset_at, literal_at, header_at}
use Rattle.aiger_lines.specs.Files.{File}

-- for each variable whether it is defined so far, and the bytes that are left
pub record State : Type 0 where
  pub seen : List Bool
  pub rest : List ℕ

-- a literal that may be defined
abbrev pub new_at : ℕ → ℕ → ℕ → Result ℕ ReadRefusal
new_at vars at n = if (n % 2 == 0) && nat_le 2 n && nat_le n (2 * vars) then Ok n
    else Err (refusal.Range at)

-- the literal's variable is defined from now on, if it was not before
abbrev pub define_at : ℕ → List Bool → ℕ → Result (List Bool) ReadRefusal
define_at at seen l = if bit seen (variable l) then Err (refusal.Twice at)
    else Ok (slice_set seen (variable l) true)

-- a line whose numbers say what it is, and which literal it defines
abbrev pub defining_at : {X : Type 0} → (ℕ → List ℕ → Result X ReadRefusal) → (X → ℕ) → ℕ → State
    → Result (X × State) ReadRefusal
defining_at item_from literal_of size s = do
  row ← numbers_at size s.rest
  item ← item_from (place size s.rest) row.0
  seen ← define_at (place size s.rest) s.seen (literal_of item)
  Ok (item, record { seen = seen; rest = row.1 })

-- ---- inputs

abbrev pub input_from : ℕ → ℕ → List ℕ → Result ℕ ReadRefusal
input_from vars at ns = one_number at ns >>= new_at vars at

unfoldable pub input_at : ℕ → ℕ → State → Result (ℕ × State) ReadRefusal
input_at vars size s = defining_at (input_from vars) (λ l. l) size s

-- ---- latches

-- the numbers of a latch line; a reset that is left out is 0
abbrev pub latch_numbers : ℕ → List ℕ → Result (ℕ × ℕ × ℕ) ReadRefusal
latch_numbers at (lit ∷ next ∷ []) = Ok (lit, next, 0)
latch_numbers at (lit ∷ next ∷ reset ∷ []) = Ok (lit, next, reset)
latch_numbers at _ = Err (refusal.Line at)

unfoldable pub latch_from : ℕ → ℕ → List ℕ → Result Latch ReadRefusal
latch_from vars at ns = do
  n ← latch_numbers at ns
  lit ← new_at vars at n.0
  next ← used_at vars at n.1
  reset ← reset_at lit at n.2
  Ok (record { lit = lit; next = next; reset = reset })

unfoldable pub latch_at : ℕ → ℕ → State → Result (Latch × State) ReadRefusal
latch_at vars size s = defining_at (latch_from vars) (λ k. k.lit) size s

-- ---- gates

abbrev pub gate_numbers : ℕ → List ℕ → Result (ℕ × ℕ × ℕ) ReadRefusal
gate_numbers at (lhs ∷ rhs0 ∷ rhs1 ∷ []) = Ok (lhs, rhs0, rhs1)
gate_numbers at _ = Err (refusal.Line at)

unfoldable pub gate_from : ℕ → ℕ → List ℕ → Result AndGate ReadRefusal
gate_from vars at ns = do
  n ← gate_numbers at ns
  lhs ← new_at vars at n.0
  rhs0 ← used_at vars at n.1
  rhs1 ← used_at vars at n.2
  Ok (record { lhs = lhs; rhs0 = rhs0; rhs1 = rhs1 })

unfoldable pub gate_at : ℕ → ℕ → State → Result (AndGate × State) ReadRefusal
gate_at vars size s = defining_at (gate_from vars) (λ g. g.lhs) size s

-- ---- all sections

-- nothing is defined yet
abbrev pub state_before : ℕ → List ℕ → State
state_before vars rest = record { seen = replicate (vars + 1) false; rest = rest }

-- the lists of a file's sections, and what follows them
unfoldable pub sections_at : ℕ → Header → List ℕ → Result (Parts × List ℕ) ReadRefusal
sections_at size h rest = do
  inputs ← repeated (input_at h.vars size) h.inputs (state_before h.vars rest)
  latches ← repeated (latch_at h.vars size) h.latches inputs.1
  outputs ← repeated (literal_at h.vars size) h.outputs latches.1.rest
  bads ← repeated (literal_at h.vars size) h.bads outputs.1
  constraints ← repeated (literal_at h.vars size) h.constraints bads.1
  gates ← repeated (gate_at h.vars size) h.gates (record {
    seen = latches.1.seen;
    rest = constraints.1;
  })
  Ok (
    record {
      vars = h.vars;
      inputs = inputs.0;
      latches = latches.0;
      bads = if h.bads == 0 then outputs.0 else bads.0;
      constraints = constraints.0;
      outputs = outputs.0;
      gates = gates.0;
    },
    gates.1.rest,
  )

unfoldable pub file_at : List ℕ → Result File ReadRefusal
file_at bytes = do
  head ← header_at Ascii bytes
  lists ← sections_at (length bytes) head.0 head.1
  Ok (record { head = head.0; parts = lists.0; tail = lists.1 })
