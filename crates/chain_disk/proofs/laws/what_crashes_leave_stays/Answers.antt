use Rattle.std.proofs.Common.{IsTrue}
use Rattle.chain_disk.specs.Stays as law
use Rattle.chain_disk.proofs.laws.what_crashes_leave_stays.Goals as goal

pub returns-clause-none : goal.returns-clause-none
returns-clause-none c = λ t test. law.none_still t (λ l. IsTrue (test l))

pub returns-clause-follow : goal.returns-clause-follow
returns-clause-follow c = λ t u v test. law.runs_still t u v (λ l. IsTrue (test l))

pub returns-clause-call : goal.returns-clause-call
returns-clause-call c = λ t content now test. law.call_still t content now (λ l. IsTrue (test l))

pub returns-clause-sync : goal.returns-clause-sync
returns-clause-sync c = λ t test. law.sync_still t (λ l. IsTrue (test l))
