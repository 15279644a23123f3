use Rattle.ja_text.proofs.NumberLemmas.{whole_number_takes, whole_number_again}
use Rattle.ja_text.proofs.laws.whole_number_is_exact.Goals as goal

pub returns : goal.returns
returns c = λ bytes n. (whole_number_takes bytes n, whole_number_again bytes n)
