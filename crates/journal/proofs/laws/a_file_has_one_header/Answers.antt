use Rattle.journal.proofs.OneHeader.{one_header, one_version}
use Rattle.journal.proofs.laws.a_file_has_one_header.Goals as goal

pub returns-clause-header : goal.returns-clause-header
returns-clause-header c = one_header

pub returns-clause-version : goal.returns-clause-version
returns-clause-version c = one_version
