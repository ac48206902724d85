use Rattle.std.proofs.Common.{refl, subst}
use Rattle.record_codec.specs.declared.entry.Entry.{Entry}
use Rattle.standby.specs.Arriving.{KeepsEntry}
use Rattle.standby.specs.Pairs.{both_of}
use Rattle.standby.proofs.Pairing.{both_by, shop_failed}
use Rattle.standby.proofs.pair.keep_both.Goals as goal

pub returns-in-Err-clause-keeps : goal.returns-in-Err-clause-keeps
returns-in-Err-clause-keeps g c =
    shop_failed g.D.Disk.tells g.D.Disk.on_disk g.D.Disk.faults g.M.Disk.tells g.M.Disk.on_disk g.M.Disk.faults
    (both_of c.args.store.now c.args.standby.now) (both_of c.keep_in_store.new.store c.args.standby.now) c.args.twice.entry
    c.in-Err.fault c.in-Err.ensures.keeps refl c.in-Err.ensures.cause

pub returns-in-Ok-clause-keeps : goal.returns-in-Ok-clause-keeps
returns-in-Ok-clause-keeps g c =
    both_by g.D.Disk.tells g.D.Disk.on_disk g.D.Disk.faults g.M.Disk.tells g.M.Disk.on_disk g.M.Disk.faults
    (both_of c.args.store.now c.args.standby.now) (both_of c.keep_in_store.new.store c.keep-told.new.self) c.args.twice.entry
    c.keep-told.result c.in-Ok.ensures.keeps
    (subst (λ (e : Entry). KeepsEntry g.M.Disk.tells g.M.Disk.on_disk g.M.Disk.faults c.args.standby.now c.keep-told.new.self e
    c.keep-told.result) c.requires.copy.0 c.keep-told.ensures.keeps) c.keep-told.ensures.cause
