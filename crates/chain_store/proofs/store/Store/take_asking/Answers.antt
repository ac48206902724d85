use Rattle.std.proofs.Common.{rules, sym}
use Rattle.journal.specs.Journal.{disk_of}
use Rattle.chain_store.specs.Losing.{none_lost}
use Rattle.chain_store.proofs.Reading.{took_by_clock}
use Rattle.chain_store.proofs.Taking.{none_gained}
use Rattle.chain_store.proofs.store.Store.take_asking.Goals as goal

pub returns-in-Some : goal.returns-in-Some
returns-in-Some g c =
    record {
      ready = search rules;
      takes = search rules;
      never_loses = λ tells. none_lost (g.D.Disk.on_disk (disk_of c.args.self.now.journal));
      appended = search rules;
      content = λ entry gained. absurd (none_gained c.args.self.now.state.entries entry gained);
      acknowledged = search rules;
      going_on = search rules;
      nothing_taken = search rules;
      no_memory = search rules;
      fault = search rules;
      torn = search rules;
      stopped = search rules;
      untouched = search rules;
      later = search rules;
      read = g.met.C.Clock.unread c.args.self.now.clock;
    }

pub returns : goal.returns
returns g c =
    took_by_clock g.D.Disk g.C.Clock c.args.self.now c.take_at.new.self c.now-seconds.new.self c.args.ask.now c.take_at.result
    c.now-seconds.result (sym c.in_default.ensures) c.now-seconds.ensures.told c.now-seconds.ensures.moved c.now-seconds.ensures.read
    c.take_at.ensures.taken
