-- The sections of a file, read from left to right: their lists, or the first refusal that is met.
use Rattle.std.specs.Prelude.{ℕ, zero, suc, ◌+◌, ◌-◌, ◌*◌, ◌%◌, ◌==◌, ◌&&◌, nat_lt, nat_le, if◌then◌else◌, List, [], ◌∷◌, length, map, Result, Ok, Err}
use Rattle.std.specs.List.{range_with_len}
use Rattle.ja_text.specs.Reading.{◌>>=◌}
use Rattle.ja_text.specs.Repeated.{repeated}
use Rattle.aig_model.specs.declared.netlist.Latch.{Latch}
use Rattle.aig_model.specs.declared.netlist.AndGate.{AndGate}
use Rattle.aig_model.specs.declared.netlist.Parts.{Parts}
use Rattle.aiger_lines.specs.declared.form.Form.TheVariants.{Binary}
use Rattle.aiger_lines.specs.declared.sizes.Header.{Header}
use Rattle.aiger_lines.specs.declared.refusal.ReadRefusal.{ReadRefusal}
use Rattle.aiger_lines.specs.declared.refusal.ReadRefusal.TheVariants as refusal
use Rattle.aiger_lines.specs.Reading.{place, numbers_at, used_at, reset_at, literal_at, header_at}
use Rattle.aiger_lines.specs.Files.{File}
use Rattle.aiger_binary.specs.declared.delta.TheConstants.{MOST_DELTA_BYTES}

-- the literal that is defined next, and the bytes that are left
pub record State : Type 0 where
  pub lit : ℕ
  pub rest : List ℕ

-- the literals of so many inputs, which have no lines: the variables from 1 on
abbrev pub input_literals : ℕ → List ℕ
input_literals n = map (λ v. 2 * v) (range_with_len 1 n)

-- ---- latches

-- the numbers of a latch line; a reset that is left out is 0
abbrev pub latch_numbers : ℕ → List ℕ → Result (ℕ × ℕ) ReadRefusal
latch_numbers at (next ∷ []) = Ok (next, 0)
latch_numbers at (next ∷ reset ∷ []) = Ok (next, reset)
latch_numbers at _ = Err (refusal.Line at)

unfoldable pub latch_from : ℕ → ℕ → ℕ → List ℕ → Result Latch ReadRefusal
latch_from vars lit at ns = do
  n ← latch_numbers at ns
  next ← used_at vars at n.0
  reset ← reset_at lit at n.1
  Ok (record { lit = lit; next = next; reset = reset })

unfoldable pub latch_at : ℕ → ℕ → State → Result (Latch × State) ReadRefusal
latch_at vars size s = do
  row ← numbers_at size s.rest
  latch ← latch_from vars s.lit (place size s.rest) row.0
  Ok (latch, record { lit = s.lit + 2; rest = row.1 })

-- ---- gates

-- What groups at the front stand for, at most so many, up to the first byte without its top bit, and what follows that byte.
-- The file may end before it, or the last of the groups have its top bit set.
abbrev pub groups_at : ℕ → ℕ → ℕ → List ℕ → Result (ℕ × List ℕ) ReadRefusal
groups_at size at zero bytes = Err (refusal.Line at)
groups_at size at (suc most) [] = Err (refusal.Short size)
groups_at size at (suc most) (b ∷ bs) = if nat_lt b 128 then Ok (b, bs)
    else groups_at size at most bs >>= λ r. Ok
    (b % 128 + 128 * r.0, r.1)

-- the delta at the front, and what follows it
unfoldable pub delta_at : ℕ → List ℕ → Result (ℕ × List ℕ) ReadRefusal
delta_at size bytes = groups_at size (place size bytes) MOST_DELTA_BYTES bytes

-- the literal that is below this one by at least so much, as the delta at the front says
unfoldable pub right_at : ℕ → ℕ → ℕ → List ℕ → Result (ℕ × List ℕ) ReadRefusal
right_at least size above bytes = do
  delta ← delta_at size bytes
  if nat_le least delta.0 && nat_le delta.0 above then Ok (above - delta.0, delta.1)
      else Err (refusal.Order (place size bytes))

unfoldable pub gate_at : ℕ → State → Result (AndGate × State) ReadRefusal
gate_at size s = do
  rhs0 ← right_at 1 size s.lit s.rest
  rhs1 ← right_at 0 size rhs0.0 rhs0.1
  Ok (
    record { lhs = s.lit; rhs0 = rhs0.0; rhs1 = rhs1.0 },
    record {
      lit = s.lit + 2;
      rest = rhs1.1;
    },
  )

-- ---- all sections

-- the variables of the latches come behind those of the inputs
abbrev pub before_latches : Header → List ℕ → State
before_latches h rest = record { lit = 2 * (h.inputs + 1); rest = rest }

-- the variables of the gates come behind those of the latches
abbrev pub before_gates : Header → List ℕ → State
before_gates h rest = record { lit = 2 * (h.inputs + h.latches + 1); rest = rest }

-- the lists of a file's sections, and what follows them
unfoldable pub sections_at : ℕ → Header → List ℕ → Result (Parts × List ℕ) ReadRefusal
sections_at size h rest = do
  latches ← repeated (latch_at h.vars size) h.latches (before_latches h rest)
  outputs ← repeated (literal_at h.vars size) h.outputs latches.1.rest
  bads ← repeated (literal_at h.vars size) h.bads outputs.1
  constraints ← repeated (literal_at h.vars size) h.constraints bads.1
  gates ← repeated (gate_at size) h.gates (before_gates h constraints.1)
  Ok (
    record {
      vars = h.vars;
      inputs = input_literals h.inputs;
      latches = latches.0;
      bads = if h.bads == 0 then outputs.0 else bads.0;
      constraints = constraints.0;
      outputs = outputs.0;
      gates = gates.0;
    },
    gates.1.rest,
  )

-- a file up to its gates
unfoldable pub file_at : List ℕ → Result File ReadRefusal
file_at bytes = do
  head ← header_at Binary bytes
  lists ← sections_at (length bytes) head.0 head.1
  Ok (record { head = head.0; parts = lists.0; tail = lists.1 })
