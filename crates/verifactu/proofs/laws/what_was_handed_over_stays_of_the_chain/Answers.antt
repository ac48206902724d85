use Rattle.verifactu.proofs.Sessions.{stays_of_chain}
use Rattle.verifactu.proofs.laws.what_was_handed_over_stays_of_the_chain.Goals as goal

pub returns : goal.returns
returns c = stays_of_chain
