use Rattle.std.proofs.Common.{◌≡◌}
use Rattle.chain_lock.specs.Words.{known, lock_id, pass_lock}
use Rattle.base_tests.proofs.chain_lock_tests.glance_all.Given as goal

abbrev pub invariant-loop : goal.invariant-loop
invariant-loop l = record {
  lock : pass_lock l.pass ≡ lock_id l.lock;
  numbers : (known l.pass).numbers ≡ (known l.fn.pass).numbers;
}
