use Rattle.ja_text.proofs.DecimalLemmas.{decimal_is_number, decimal_is_canonical, canonical_is_decimal}
use Rattle.ja_text.proofs.laws.decimal_is_exact.Goals as goal

pub returns-clause-number : goal.returns-clause-number
returns-clause-number c = decimal_is_number

pub returns-clause-canonical : goal.returns-clause-canonical
returns-clause-canonical c = λ text n h. (λ k. canonical_is_decimal text n h k, λ e. rw e (decimal_is_canonical n h))
