use Rattle.std.proofs.Common.{All}
use Rattle.chain_store.specs.Store.{Ready}
use Rattle.issuer_tests.proofs.offices.opened.Given as goal

abbrev pub invariant-loop-issuer : goal.invariant-loop-issuer
invariant-loop-issuer g l = All (Ready g.D.Disk.tells g.D.Disk.on_disk) l.stores.items
