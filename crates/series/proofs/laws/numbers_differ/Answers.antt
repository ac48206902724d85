use Rattle.series.proofs.NumberLemmas.{same_number}
use Rattle.series.proofs.laws.numbers_differ.Goals as goal

pub returns : goal.returns
returns c name other n m small low e = same_number name other n m small low e
