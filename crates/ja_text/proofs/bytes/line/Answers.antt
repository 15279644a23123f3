use Rattle.std.proofs.Common.{refl, arith}
use Rattle.std.proofs.lemmas.Grind.{common_steps}
use Rattle.ja_text.proofs.LineLemmas.{line_at-position}
use Rattle.ja_text.proofs.bytes.line.Goals as goal

pub returns-in_err-at-clause-read : goal.returns-in_err-at-clause-read
returns-in_err-at-clause-read c = rw (line_at-position c.args.bytes.now, ← c.in_err-at.ensures, c.from_residual.ensures) refl

pub returns-clause-read : goal.returns-clause-read
returns-clause-read c = rw (line_at-position c.args.bytes.now, ← c.in_ok-at.ensures) (grind (arith, common_steps))
