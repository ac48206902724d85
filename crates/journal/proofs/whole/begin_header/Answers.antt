use Rattle.journal.specs.File.{IsNotBegun}
use Rattle.journal.proofs.Shut.{both_runs}
use Rattle.journal.proofs.whole.begin_header.Goals as goal

pub returns-in_err-write_header-clause-any_moment : goal.returns-in_err-write_header-clause-any_moment
returns-in_err-write_header-clause-any_moment g c = λ tells.
    both_runs _ _ _ IsNotBegun (c.shut_first.ensures.any_moment tells) (c.write_header.ensures.any_moment tells)

pub returns-clause-any_moment : goal.returns-clause-any_moment
returns-clause-any_moment g c = λ tells.
    both_runs _ _ _ IsNotBegun (c.shut_first.ensures.any_moment tells) (c.write_header.ensures.any_moment tells)
