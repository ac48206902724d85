use Rattle.std.proofs.Common.{subst}
use Rattle.mirror_disk.specs.Halves.{IsMirror}
use Rattle.mirror_disk.specs.Mirror.{Mirrored}
use Rattle.mirror_disk.proofs.Mirrors.{first_half, second_half}
use Rattle.mirror_disk.proofs.mirror.MirrorDisk.each_half_is_an_image.Goals as goal

pub returns-clause-first : goal.returns-clause-first
returns-clause-first g c = λ tells. first_half g.D.Disk.tells g.D.Disk.on_disk g.D.Disk.faults g.M.Disk.tells g.M.Disk.on_disk
    g.M.Disk.faults c.args.self.now
    (subst (λ (m : Mirrored g.row.D.Denot g.row.M.Denot). IsMirror g.D.Disk.tells g.D.Disk.on_disk g.M.Disk.tells
    g.M.Disk.on_disk m) c.self.view_is c.self.invariant) tells

pub returns-clause-second : goal.returns-clause-second
returns-clause-second g c = λ tells. second_half g.D.Disk.tells g.D.Disk.on_disk g.D.Disk.faults g.M.Disk.tells
    g.M.Disk.on_disk g.M.Disk.faults c.args.self.now
    (subst (λ (m : Mirrored g.row.D.Denot g.row.M.Denot). IsMirror g.D.Disk.tells g.D.Disk.on_disk g.M.Disk.tells
    g.M.Disk.on_disk m) c.self.view_is c.self.invariant) tells
