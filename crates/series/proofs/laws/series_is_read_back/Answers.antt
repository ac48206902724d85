use Rattle.series.proofs.NumberLemmas.{series_of_number}
use Rattle.series.proofs.laws.series_is_read_back.Goals as goal

pub returns : goal.returns
returns c name n small = series_of_number name n small
