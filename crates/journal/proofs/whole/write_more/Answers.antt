use Rattle.std.proofs.Common.{length}
use Rattle.journal.proofs.Shut.{writing_written, writing_failed, writing_more}
use Rattle.journal.proofs.whole.write_more.Goals as goal

pub returns-in_err-write_at-clause-any_moment : goal.returns-in_err-write_at-clause-any_moment
returns-in_err-write_at-clause-any_moment g c = λ tells version issuer before is.
    writing_failed version issuer before c.args.at (g.D.Disk.on_disk c.args.disk.now) is (length c.args.bytes.now) _
    (c.in_err-write_at.ensures.err tells)

pub returns-clause-ok : goal.returns-clause-ok
returns-clause-ok g c = λ tells version issuer before is.
    writing_more version issuer before c.args.at (g.D.Disk.on_disk c.args.disk.now) is c.args.bytes.now _
    (c.in_ok-write_at.ensures.ok tells)

pub returns-clause-any_moment : goal.returns-clause-any_moment
returns-clause-any_moment g c = λ tells version issuer before is.
    writing_written version issuer before c.args.at (g.D.Disk.on_disk c.args.disk.now) is c.args.bytes.now _
    (c.in_ok-write_at.ensures.ok tells)
