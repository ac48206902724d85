use Rattle.std.proofs.Common.{arith}
use Rattle.chain_disk.specs.OnDisk.{synced}
use Rattle.chain_disk.specs.Stays.{run_of}
use Rattle.chain_store.specs.Losing.{none_lost_since}
use Rattle.chain_store.specs.Store.{journal_of, state_of}
use Rattle.journal.specs.Journal.{disk_of}
use Rattle.shop_drain.proofs.Finishing.{found_since}
use Rattle.shop_drain.proofs.opening.open.Goals as goal

pub returns-in-Ok-clause-opened : goal.returns-in-Ok-clause-opened
returns-in-Ok-clause-opened g c =
    let store = c.in-Ok.store in
    let told = g.D.Disk.on_disk in
    let e = c.in-Ok.ensures in
    record {
      issuer_is = e.issuer;
      clock_is = e.clock;
      found = e.found;
      any_moment = λ says. found_since c.a_file_has_one_meaning.ensures.not_begun (state_of store).version c.args.issuer.now
          (state_of store).entries (told c.args.post.disk) (told (disk_of (journal_of store))) (e.found says) (e.any_moment says)
          (e.unwritten says);
      never_loses = λ says. none_lost_since (told c.args.post.disk) (synced (told c.args.post.disk))
          (told (disk_of (journal_of store))) (e.never_loses says) (omega arith) (run_of (e.any_moment says));
      every_crash = e.every_crash;
      later = e.later;
    }
