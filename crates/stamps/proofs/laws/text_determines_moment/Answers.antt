use Rattle.stamps.proofs.MomentLemmas.{moment_text_of_injective}
use Rattle.stamps.proofs.laws.text_determines_moment.Goals as goal

pub returns : goal.returns
returns c m k here there e = moment_text_of_injective m k here.1 there.1 e
