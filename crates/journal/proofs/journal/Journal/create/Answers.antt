use Rattle.std.proofs.Common.{[], inl, refl}
use Rattle.journal.specs.File.{IsFile}
use Rattle.chain_disk.specs.Runs.{leaves_now}
use Rattle.journal.proofs.journal.Journal.create.Goals as goal

pub returns-in-Ok-clause-every_crash : goal.returns-in-Ok-clause-every_crash
returns-in-Ok-clause-every_crash g c = λ tells.
    let now = c.in-Ok.ensures.ok tells in
    leaves_now (g.D.Disk.on_disk c.set_up.new.disk) (IsFile c.args.version c.args.issuer.now []) now.nothing_pending now.file

pub returns-in-Err-clause-content_err : goal.returns-in-Err-clause-content_err
returns-in-Err-clause-content_err g c = λ tells.
    let now = c.set_up.ensures.any_moment tells in
    now.each _ (g.D.Disk.on_disk c.set_up.new.disk).content now.later
    (inl (refl, g.met.D.Disk.reads_an_image c.set_up.new.disk tells))

pub invariant_of-result : goal.invariant_of-result
invariant_of-result g c = record { ready = λ going tells. ∣ (c.args.version, c.args.issuer.now, [], c.in-Ok.ensures.ok tells) ∣₁ }
