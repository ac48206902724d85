use Rattle.std.proofs.Common.{subst}
use Rattle.standby.specs.Arriving.{IsLooked, IsNextPiece}
use Rattle.standby.specs.Chains.{ChainOnDisk}
use Rattle.standby.specs.declared.arriving.Looked.{Looked}
use Rattle.standby.proofs.Chained.{piece_failed, piece_kept}
use Rattle.standby.proofs.standby.Standby.meet.Goals as goal

pub returns-in-Ok-clause-arrives : goal.returns-in-Ok-clause-arrives
returns-in-Ok-clause-arrives g c going =
    let s = c.self.inside.state in
    let here : IsNextPiece s.version s.issuer s.entries c.args.piece.now c.in-Ok-Next.entry =
    subst (λ (l : Looked). IsLooked s.version s.issuer s.entries c.args.piece.now l) c.in-Ok-Next.field-0-is c.in-Ok-Next.ensures in
    let next = subst (λ (v : ChainOnDisk g.row.D.Denot). IsNextPiece v.history.version v.history.issuer v.history.entries c.args.piece.now
    c.in-Ok-Next.entry) c.self.view_is here in
    piece_kept g.D.Disk.tells g.D.Disk.on_disk g.D.Disk.faults c.args.self.now c.add.new.self c.args.piece.now c.in-Ok-Next.entry
    next c.in-Ok.ensures

pub returns-in-Err-add-clause-arrives : goal.returns-in-Err-add-clause-arrives
returns-in-Err-add-clause-arrives g c going =
    let s = c.self.inside.state in
    let here : IsNextPiece s.version s.issuer s.entries c.args.piece.now c.in-Ok-Next.entry =
    subst (λ (l : Looked). IsLooked s.version s.issuer s.entries c.args.piece.now l) c.in-Ok-Next.field-0-is c.in-Ok-Next.ensures in
    let next = subst (λ (v : ChainOnDisk g.row.D.Denot). IsNextPiece v.history.version v.history.issuer v.history.entries c.args.piece.now
    c.in-Ok-Next.entry) c.self.view_is here in
    piece_failed g.D.Disk.tells g.D.Disk.on_disk g.D.Disk.faults c.args.self.now c.add.new.self c.args.piece.now
    c.in-Ok-Next.entry c.in-Err-add.fault next c.in-Err-add.ensures
