use Rattle.std.proofs.Common.{refl, ap, length, subst, sym, ◌∙◌}
use Rattle.chain_disk.specs.OnDisk.{OnDisk}
use Rattle.journal.proofs.Windows.{read_window}
use Rattle.journal.specs.Looking.{IsHeldAs}
use Rattle.journal.proofs.whole.look.Goals as goal

pub returns-clause-held : goal.returns-clause-held
returns-clause-held g c = λ tells.
    let t = g.D.Disk.on_disk c.args.disk.now in
    let u = g.D.Disk.on_disk c.len.new.self in
    let window = read_window 19 u.content 0 c.in_ok-n.n _ c.read_at.new.buf refl (c.in_ok-n.ensures.bytes tells) in
    subst (λ (d : OnDisk). IsHeldAs c.args.version c.args.issuer.now d.content c.held_in.result) c.len.ensures.same
    (c.held_in.ensures u.content window (c.in_ok-length.ensures.length tells ∙
    ap (λ (d : OnDisk). length d.content) (sym c.len.ensures.same)))
