use Rattle.journal.proofs.Windows.{read_window}
use Rattle.journal.specs.declared.ahead.TheConstants.{AHEAD}
use Rattle.journal.proofs.ahead.ReadAhead.fill.Goals as goal

pub returns-clause-ok : goal.returns-clause-ok
returns-clause-ok g c = λ tells.
    read_window AHEAD (g.D.Disk.on_disk c.args.disk.now).content c.args.at c.in_ok-self-inside.field-0 c.self.inside.room c.read_at.new.buf
    c.self.ranges.0.1.0.1 (c.in_ok-self-inside.ensures.bytes tells)
