use Rattle.agency_port.proofs.LastNamed.{kept_is, kept_more}
use Rattle.agency_port.proofs.laws.the_last_named_reply_is_kept.Goals as goal

pub returns-clause-is : goal.returns-clause-is
returns-clause-is c = kept_is

pub returns-clause-more : goal.returns-clause-more
returns-clause-more c = kept_more
