-- How the board of a sign-off is opened, and what of a report marks are judged by.
use Rattle.std.specs.Prelude.{ℕ, Bool, Some, List, map}
use Rattle.ja_base.specs.Circuit.{Problem}
use Rattle.ja_base.specs.Failures.{Failure}
use Rattle.store_core.specs.declared.journal.Opening.{Opening}
use Rattle.store_core.specs.Marks.{Evidence}
use Rattle.report.specs.declared.parts.PropStim.{PropStim}
use Rattle.report.specs.Findings.{Findings, marks_of}
use Rattle.sign_task.specs.declared.terms.Terms.{Terms}

-- the properties are drawn in this order, on these terms
abbrev pub opening_of : List Bool → List ℕ → Terms → Opening
opening_of expected plan terms = record {
  plan = plan;
  assumed = expected;
  fail_fast = terms.fail_fast;
  limit = terms.limit;
}

-- the failures whose stimuli the report has
abbrev pub failures_of : Findings → List Failure
failures_of r = map (λ (x : PropStim). record { property = x.prop; stimulus = x.stim }) r.stimuli

-- what the report's marks are judged by
abbrev pub evidence_of : Problem → Opening → Findings → Evidence
evidence_of t o r = record {
  task = t;
  opening = o;
  clauses = r.clauses;
  failures = failures_of r;
  marks = map Some (marks_of r.lines);
  journal = r.journal;
}
