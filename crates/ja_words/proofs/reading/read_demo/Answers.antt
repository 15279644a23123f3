use Rattle.std.proofs.Common.{◌∙◌, ap}
use Rattle.clap.specs.Words.{is_simple, is_simple_and_free}
use Rattle.ja_words.proofs.CommandLemmas.{demo_is_simple, demo_is_free}
use Rattle.ja_words.proofs.reading.read_demo.Goals as goal

pub matches_of-requires-clause-simple : goal.matches_of-requires-clause-simple
matches_of-requires-clause-simple c = ap is_simple c.in_ok-demo_command.ensures ∙ demo_is_simple

pub matches_of-requires-clause-free : goal.matches_of-requires-clause-free
matches_of-requires-clause-free c = ap is_simple_and_free c.in_ok-demo_command.ensures ∙ demo_is_free
