use Rattle.journal.proofs.Appends.{appends_none}
use Rattle.journal.specs.Journal.{disk_of, end_of}
use Rattle.chain_store.specs.Losing.{none_lost}
use Rattle.chain_store.proofs.Stores.{untouched_around}
use Rattle.chain_store.proofs.store.Store.note.Goals as goal

pub returns-in_default-from_slice-clause-any_moment : goal.returns-in_default-from_slice-clause-any_moment
returns-in_default-from_slice-clause-any_moment g c going_on tells =
    untouched_around c.args.self.now.state (end_of c.args.self.now.journal) _ _ (c.requires.ready.holds going_on tells)
    c.is_legal.ensures

pub returns-in_default-from_slice-clause-appended : goal.returns-in_default-from_slice-clause-appended
returns-in_default-from_slice-clause-appended g c going tells =
    appends_none (end_of c.args.self.now.journal) _ (c.requires.ready.holds going tells).file.nothing_pending

pub returns-in-Some-clause-never_loses : goal.returns-in-Some-clause-never_loses
returns-in-Some-clause-never_loses g c tells = none_lost (g.D.Disk.on_disk (disk_of c.args.self.now.journal))

pub returns-in_default-from_slice-clause-never_loses : goal.returns-in_default-from_slice-clause-never_loses
returns-in_default-from_slice-clause-never_loses g c tells = none_lost (g.D.Disk.on_disk (disk_of c.args.self.now.journal))
