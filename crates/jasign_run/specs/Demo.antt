-- What a demonstration is: a sign-off of the ring that its words name.
use Rattle.std.specs.Prelude.{ℕ, false, true, length, replicate, None}
use Rattle.aig_model.specs.Netlist.{Netlist, circuit, IsSound}
use Rattle.aig_model.specs.Task.{VerificationTask}
use Rattle.aiger_ascii.specs.Grammar.{IsAsciiDesign}
use Rattle.demo_ring.specs.DemoText.{demo_text}
use Rattle.ja_words.specs.Words.{Demo}
use Rattle.report.specs.Findings.{Findings}
use Rattle.sign_task.specs.declared.terms.Terms.{Terms}
use Rattle.sign_task.specs.SignOff.{IsSignOff}

-- no limit, to the end whatever fails, and no journal
abbrev pub demo_terms : Terms
demo_terms = record { limit = None; fail_fast = false; journal = false }

-- the design with all of its properties expected to hold
abbrev pub demo_task : Netlist → VerificationTask
demo_task d = record { design = d; expected = replicate (length d.bads) true }

-- the design is the one that the demonstration's text spells, and the report is that of its sign-off
pub record Demonstrates (demo : Demo) (report : Findings) : Type 0 where
  pub netlist : Netlist
  pub spelled : IsAsciiDesign (demo_text demo.n) (circuit netlist)
  pub sound : IsSound netlist
  pub signed : IsSignOff (demo_task netlist) demo_terms report
