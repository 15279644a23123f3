-- What contracts see of a `Task`, and the problem that it is.
use Rattle.std.specs.Prelude.{Bool, List}
use Rattle.ja_base.specs.Circuit.{Problem}
use Rattle.aig_model.specs.Netlist.{Netlist, circuit}

-- a design, and for each property whether it is expected to hold
pub record VerificationTask : Type 0 where
  pub design : Netlist
  pub expected : List Bool

abbrev pub problem : VerificationTask → Problem
problem t = record { circuit = circuit t.design; assumed = t.expected }
