use Rattle.chain_store.specs.Store.{Ready}
use Rattle.issuer_tests.proofs.Pushing.{one_more}
use Rattle.issuer_tests.proofs.offices.open_more.Goals as goal

pub returns-in-Ok-push : goal.returns-in-Ok-push
returns-in-Ok-push g c olds =
    one_more (Ready g.D.Disk.tells g.D.Disk.on_disk) c.args.stores.now.items c.push.new.self.items c.in-Ok.store
    c.in-Ok-push.ensures.items olds c.in-Ok.ensures.ready
