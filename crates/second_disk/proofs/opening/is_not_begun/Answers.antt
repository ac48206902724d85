use Rattle.journal.specs.declared.reading.Header.TheVariants.{NotBegun}
use Rattle.second_disk.proofs.opening.is_not_begun.Goals as goal

pub returns-in_default : goal.returns-in_default
returns-in_default g c = record {
  is = λ tells not. c.in_default.not-NotBegun (c.a_file_has_one_header.ensures.header _ _ NotBegun (c.in_ok-read_header.ensures.header tells) not);
  same = c.read_header.ensures.same;
  cause = record { later = c.read_header.ensures.cause.later; failed = tt };
}
