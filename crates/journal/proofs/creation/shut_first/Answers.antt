use Rattle.std.proofs.Common.{◌≤◌, length, arith}
use Rattle.std.proofs.Common.{subst, sym, ap, [], ◌∷◌}
use Rattle.chain_disk.specs.OnDisk.{OnDisk, moment}
use Rattle.journal.specs.Commit.{IsShut}
use Rattle.chain_disk.specs.Runs.{on_write_failed, on_sync_failed}
use Rattle.journal.proofs.Creations.{at_start, after_write, after_sync, shut_now, shut_already, first_image, first_moments}
use Rattle.journal.proofs.creation.shut_first.Goals as goal

pub returns-in_err-len-clause-any_moment : goal.returns-in_err-len-clause-any_moment
returns-in_err-len-clause-any_moment g c = λ tells.
    let now = c.requires tells in
    (at_start (g.D.Disk.on_disk c.args.disk.now) now.0 now.1 _ c.len.ensures.same).so_far

pub returns-then-branch-gt1-clause-ok : goal.returns-then-branch-gt1-clause-ok
returns-then-branch-gt1-clause-ok g c = λ tells.
    let now = c.requires tells in
    subst IsShut (sym c.len.ensures.same) (shut_already (g.D.Disk.on_disk c.args.disk.now) now.0
    (omega (arith, c.in_ok-len.ensures.length tells)) now.1)

pub returns-then-branch-gt1-clause-writes : goal.returns-then-branch-gt1-clause-writes
returns-then-branch-gt1-clause-writes g c = λ tells short.
    absurd (omega (arith, c.in_ok-len.ensures.length tells, short))

pub returns-then-branch-gt1-clause-leaves : goal.returns-then-branch-gt1-clause-leaves
returns-then-branch-gt1-clause-leaves g c = λ tells long. ap (λ (d : OnDisk). moment d) c.len.ensures.same

pub returns-then-branch-gt1-clause-any_moment : goal.returns-then-branch-gt1-clause-any_moment
returns-then-branch-gt1-clause-any_moment g c = λ tells.
    let now = c.requires tells in
    (at_start (g.D.Disk.on_disk c.args.disk.now) now.0 now.1 _ c.len.ensures.same).so_far

pub returns-in_err-write_at-clause-any_moment : goal.returns-in_err-write_at-clause-any_moment
returns-in_err-write_at-clause-any_moment g c = λ tells.
    let now = c.requires tells in
    let t = g.D.Disk.on_disk c.args.disk.now in
    let short : length t.content ≤ 1 = omega (arith, c.in_ok-len.ensures.length tells) in
    on_write_failed (at_start t now.0 now.1 _ c.len.ensures.same) 0 1 (c.in_err-write_at.ensures.err tells)
    (λ f image. first_image t.content f short image)

pub returns-in_err-sync-clause-any_moment : goal.returns-in_err-sync-clause-any_moment
returns-in_err-sync-clause-any_moment g c = λ tells.
    let now = c.requires tells in
    let t = g.D.Disk.on_disk c.args.disk.now in
    let short : length t.content ≤ 1 = omega (arith, c.in_ok-len.ensures.length tells) in
    on_sync_failed (after_write t now.0 now.1 short _ _ c.len.ensures.same (c.in_ok-write_at.ensures.ok tells))
    (c.in_err-sync.ensures.err tells) (λ f image. first_image t.content f short image)

pub returns-clause-ok : goal.returns-clause-ok
returns-clause-ok g c = λ tells.
    let now = c.requires tells in
    let t = g.D.Disk.on_disk c.args.disk.now in
    let short : length t.content ≤ 1 = omega (arith, c.in_ok-len.ensures.length tells) in
    shut_now t now.0 now.1 short _ (after_sync t now.0 now.1 short _ _ _ c.len.ensures.same (c.in_ok-write_at.ensures.ok tells)
    (c.in_ok-sync.ensures.ok tells))

pub returns-clause-writes : goal.returns-clause-writes
returns-clause-writes g c = λ tells short. first_moments (g.D.Disk.on_disk c.args.disk.now) _ _ _ 0 (0 ∷ []) c.len.ensures.same
    (c.in_ok-write_at.ensures.ok tells) (c.in_ok-sync.ensures.ok tells)

pub returns-clause-leaves : goal.returns-clause-leaves
returns-clause-leaves g c = λ tells long.
    absurd (omega (arith, c.in_ok-len.ensures.length tells, long))

pub returns-clause-any_moment : goal.returns-clause-any_moment
returns-clause-any_moment g c = λ tells.
    let now = c.requires tells in
    let t = g.D.Disk.on_disk c.args.disk.now in
    let short : length t.content ≤ 1 = omega (arith, c.in_ok-len.ensures.length tells) in
    (after_sync t now.0 now.1 short _ _ _ c.len.ensures.same (c.in_ok-write_at.ensures.ok tells)
    (c.in_ok-sync.ensures.ok tells)).so_far
