-- A design as a list of clauses over its variables, and the literals that say what its task asks.
use Rattle.std.specs.Prelude.{ℕ, ◌==◌, nat_lt, true, if◌then◌else◌, List, [], ◌∷◌, ◌++◌, length, map, flat_map}
use Rattle.std.specs.List.{range_with_len}
use Rattle.ja_base.specs.Literals.{bit, variable, is_negated, negated, literal_of}
use Rattle.ja_base.specs.Circuit.{bad_literal, is_defined}
use Rattle.aig_model.specs.declared.netlist.Latch.{Latch}
use Rattle.aig_model.specs.declared.netlist.AndGate.{AndGate}
use Rattle.aig_model.specs.Netlist.{Netlist, circuit}
use Rattle.aig_model.specs.Task.{VerificationTask}

-- the literal in its place among others that ascend, if it is none of them
abbrev pub with_literal : ℕ → List ℕ → List ℕ
with_literal l [] = l ∷ []
with_literal l (m ∷ ms) = if l == m then m ∷ ms else if nat_lt l m then l ∷ m ∷ ms
    else m ∷ with_literal l ms

-- the clause of these literals: in ascending order, each once
abbrev pub clause_of : List ℕ → List ℕ
clause_of [] = []
clause_of (l ∷ ls) = with_literal l (clause_of ls)

-- the gate is at most each of its right sides, and it is 1 where both are
abbrev pub gate_clauses : AndGate → List (List ℕ)
gate_clauses g =
    clause_of (negated g.lhs ∷ g.rhs0 ∷ [])
    ∷ clause_of (negated g.lhs ∷ g.rhs1 ∷ [])
    ∷ clause_of (g.lhs ∷ negated g.rhs0 ∷ negated g.rhs1 ∷ [])
    ∷ []

-- the variable is 0, if nothing defines it
abbrev pub undefined_clauses : Netlist → ℕ → List (List ℕ)
undefined_clauses n u = if is_defined (circuit n) u then [] else (literal_of u true ∷ []) ∷ []

-- In this order: the constant is 0; the clauses of each gate, in the design's order; each variable above the constant that
-- nothing defines is 0, in ascending order; each constraint is 1, in the file's order.
abbrev pub coded_clauses : Netlist → List (List ℕ)
coded_clauses n =
    (1 ∷ []) ∷ flat_map gate_clauses n.gates
    ++ flat_map (undefined_clauses n) (range_with_len 1 n.vars)
    ++ map (λ l. l ∷ []) n.constraints

-- the negated bad literal, if the property is expected to hold
abbrev pub held_literals_of : VerificationTask → ℕ → List ℕ
held_literals_of t p =
    if bit t.expected p then negated (bad_literal (circuit t.design) p) ∷ [] else []

-- the negated bad literals of the properties that are expected to hold, by ascending property
abbrev pub held_literals : VerificationTask → List ℕ
held_literals t = flat_map (held_literals_of t) (range_with_len 0 (length t.design.bads))

-- the next literal of a latch, negated where the literal over the latch is
abbrev pub with_sign_of : ℕ → ℕ → ℕ
with_sign_of l next = if is_negated l then negated next else next

-- what the literal is one step later: the next literal of its latch, with its sign
abbrev pub next_literal : List Latch → ℕ → ℕ
next_literal [] l = 0
next_literal (k ∷ ks) l = if variable k.lit == variable l then with_sign_of l k.next
    else next_literal ks l

-- one step later each literal of the clause is 0
abbrev pub negated_next : Netlist → List ℕ → List ℕ
negated_next n clause = map (λ l. negated (next_literal n.latches l)) clause
