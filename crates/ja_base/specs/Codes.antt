-- Codes of circuits and problems, by which a proof tells their values apart. A record that holds a finite map has none by itself.
use Rattle.std.specs.Prelude.{ℕ, Bool, List, Option, refl}
use Rattle.std.specs.Coded.{Coded, code_by, coded×, coded_ℕ, coded_bool, coded_list, coded_option}
use Rattle.std.specs.FinMap as finite_map
use Rattle.std.specs.Ordering.{nat_cmp}
use Rattle.ja_base.specs.Circuit.{Latch, Circuit, Problem}

-- a latch is its variable, the literal of its next state and its first state
abbrev pub latch_code : Coded Latch
latch_code =
    code_by (ℕ × (ℕ × Option Bool)) (coded× coded_ℕ (coded× coded_ℕ (coded_option coded_bool)))
    (λ l. (l.var, (l.next, l.reset)))
    (λ p. record { var = p.0; next = p.1.0; reset = p.1.1 }) (λ _. refl)

-- a circuit is its number of variables and its lists
abbrev pub circuit_code : Coded Circuit
circuit_code =
    code_by (ℕ × (List ℕ × (List Latch × (finite_map.FinMap nat_cmp (ℕ × ℕ) × (List ℕ × List ℕ)))))
    (coded× coded_ℕ (coded× (coded_list coded_ℕ) (coded× (coded_list latch_code)
    (coded× (finite_map.code coded_ℕ (coded× coded_ℕ coded_ℕ))
    (coded× (coded_list coded_ℕ) (coded_list coded_ℕ))))))
    (λ c. (c.vars, (c.inputs, (c.latches, (c.gates, (c.bads, c.constraints))))))
    (λ p. record {
      vars = p.0;
      inputs = p.1.0;
      latches = p.1.1.0;
      gates = p.1.1.1.0;
      bads = p.1.1.1.1.0;
      constraints = p.1.1.1.1.1;
    })
    (λ _. refl)

-- a problem is its circuit and a bit for each property
abbrev pub problem_code : Coded Problem
problem_code =
    code_by (Circuit × List Bool) (coded× circuit_code (coded_list coded_bool))
    (λ t. (t.circuit, t.assumed))
    (λ p. record { circuit = p.0; assumed = p.1 }) (λ _. refl)
