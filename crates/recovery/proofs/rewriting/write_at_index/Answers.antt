use Rattle.std.proofs.Common.{ℕ, List, sym, subst, take}
use Rattle.chain_disk.specs.Runs.{started}
use Rattle.journal.specs.File.{framed}
use Rattle.record_fields.specs.declared.versions.Version.TheVariants.{Two}
use Rattle.shop_core.specs.File.Files.{bodies_of}
use Rattle.recovery.specs.Moving.{IsHeldShut, IsWriting}
use Rattle.journal.proofs.Shut.{writing_now}
use Rattle.recovery.proofs.Entries.{next_bodies}
use Rattle.recovery.proofs.rewriting.write_at_index.Goals as goal

pub returns-in_err-entry-clause-any_moment : goal.returns-in_err-entry-clause-any_moment
returns-in_err-entry-clause-any_moment g c = λ tells.
    started (g.M.Disk.on_disk c.args.disk.now) (IsHeldShut c.args.state.now.issuer)
    (writing_now Two c.args.state.now.issuer _ c.args.at (g.M.Disk.on_disk c.args.disk.now) (c.requires.within tells))

pub returns-clause-ok : goal.returns-clause-ok
returns-clause-ok g c = λ tells.
    let es = c.args.state.now.entries in
    let i = c.args.index in
    subst (λ (bodies : List (List ℕ)). IsWriting c.args.state.now.issuer (framed bodies) c.in_ok-next.next
    (g.M.Disk.on_disk c.write_framed.new.disk)) (sym (next_bodies es i c.in_ok-entry.entry c.in_ok-entry.ensures.found))
    (c.in_ok-next.ensures.ok tells c.args.state.now.issuer (bodies_of Two (take i es)) (c.requires.within tells))
