-- Chains of one step, of one step more, and a chain from an initial row.
use Rattle.std.proofs.Common.{◌≡◌, ℕ, Bool, List, [], ◌∷◌, ◌++◌, length, sym, ap, ◌∙◌, arith}
use Rattle.std.specs.Prelude.{All}
use Rattle.std.proofs.lemmas.List.{length-append, length-map}
use Rattle.std.proofs.lemmas.List.Elements.{All-nil, All-cons}
use Rattle.ja_base.specs.Literals.{bit}
use Rattle.ja_base.specs.Circuit.{Circuit, Problem}
use Rattle.ja_base.specs.Runs.{IsInitial, IsRun, IsLocalFailure}
use Rattle.ja_base.specs.Valuation.{IsBad, IsValuation, MeetsConstraints, AssumptionsHold, next_state}
use Rattle.ic3_general.specs.Chains.{Leads}

pub leads_last : (t : Problem) (p : ℕ) (s x v : List Bool) → IsValuation t.circuit s x v → MeetsConstraints t.circuit v
    → IsBad t.circuit p v → Leads t p s (x ∷ [])
leads_last t p s x v step constrained bad = record {
  earlier = [];
  last = v;
  runs = (step, tt);
  constrained = All-cons (MeetsConstraints t.circuit) v [] constrained (All-nil (MeetsConstraints t.circuit));
  held = All-nil (AssumptionsHold t.circuit t.assumed);
  bad = bad;
}

pub leads_back : (t : Problem) (p : ℕ) (s x v : List Bool) (chain : List (List Bool)) → IsValuation t.circuit s x v
    → MeetsConstraints t.circuit v → AssumptionsHold t.circuit t.assumed v → Leads t p (next_state t.circuit v) chain
    → Leads t p s (x ∷ chain)
leads_back t p s x v chain step constrained held leads = record {
  earlier = v ∷ leads.earlier;
  last = leads.last;
  runs = (step, leads.runs);
  constrained = All-cons (MeetsConstraints t.circuit) v (leads.earlier ++ leads.last ∷ []) constrained leads.constrained;
  held = All-cons (AssumptionsHold t.circuit t.assumed) v leads.earlier held leads.held;
  bad = leads.bad;
}

pub start_fails : (t : Problem) (p : ℕ) (s : List Bool) (chain : List (List Bool)) → IsInitial t.circuit s → Leads t p s chain
    → IsLocalFailure t p (record { first = s; inputs = chain })
start_fails t p s chain initial leads = record {
  earlier = leads.earlier;
  last = leads.last;
  reached = record {
    legal = record {
      replay = record {
        starts = initial;
        runs = leads.runs;
        has_step = let h = length-append leads.earlier (leads.last ∷ []) in omega (arith, h);
      };
      constrained = leads.constrained;
    };
    held = leads.held;
  };
  bad = leads.bad;
}

-- the rows of a run have a bit for each input
pub run_widths : (c : Circuit) (s : List Bool) (chain steps : List (List Bool)) → IsRun c s chain steps
    → All (λ row. length row ≡ length c.inputs) chain
run_widths c s [] steps runs = All-nil (λ row. length row ≡ length c.inputs)
run_widths c s (x ∷ xs) [] runs = absurd runs
run_widths c s (x ∷ xs) (v ∷ vs) runs =
    All-cons (λ row. length row ≡ length c.inputs) x xs (sym (ap length runs.0.inputs) ∙ length-map c.inputs (bit v))
    (run_widths c (next_state c v) xs vs runs.1)
