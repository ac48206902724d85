use Rattle.chain_disk.specs.Runs.{on_write_failed, on_sync_failed}
use Rattle.journal.proofs.Wholes.{opening_start, opening_pending, opening_synced, opening_image, opening_written}
use Rattle.journal.proofs.Wholes.{opening_done, opening_whole, opening_not_synced, opening_not_written, opening_not_sure, opening_loses_none}
use Rattle.journal.proofs.whole.open_first.Goals as goal

pub returns-in_err-sync-clause-any_moment : goal.returns-in_err-sync-clause-any_moment
returns-in_err-sync-clause-any_moment g c = λ tells version issuer bodies at sizes is.
    let t = g.D.Disk.on_disk c.args.disk.now in
    on_sync_failed (opening_start version issuer bodies at sizes t is) (c.in_err-sync.ensures.err tells)
    (λ f image. opening_pending version issuer bodies at sizes t is f image)

pub returns-in_err-write_at-clause-any_moment : goal.returns-in_err-write_at-clause-any_moment
returns-in_err-write_at-clause-any_moment g c = λ tells version issuer bodies at sizes is.
    let t = g.D.Disk.on_disk c.args.disk.now in
    on_write_failed (opening_synced version issuer bodies at sizes t is _ (c.in_ok-sync.ensures.ok tells)) 0 1
    (c.in_err-write_at.ensures.err tells) (λ f image. opening_image version issuer bodies at sizes t is f image)

pub returns-in_err-sync-2-clause-any_moment : goal.returns-in_err-sync-2-clause-any_moment
returns-in_err-sync-2-clause-any_moment g c = λ tells version issuer bodies at sizes is.
    let t = g.D.Disk.on_disk c.args.disk.now in
    on_sync_failed (opening_written version issuer bodies at sizes t is _ _ (c.in_ok-sync.ensures.ok tells)
    (c.in_ok-write_at.ensures.ok tells)) (c.in_err-sync-2.ensures.err tells)
    (λ f image. opening_image version issuer bodies at sizes t is f image)

pub returns-clause-ok : goal.returns-clause-ok
returns-clause-ok g c = λ tells version issuer bodies at sizes is.
    let t = g.D.Disk.on_disk c.args.disk.now in
    opening_whole version issuer bodies at sizes t is _ (opening_done version issuer bodies at sizes t is _ _ _
    (c.in_ok-sync.ensures.ok tells) (c.in_ok-write_at.ensures.ok tells) (c.in_ok-sync-2.ensures.ok tells))

pub returns-clause-any_moment : goal.returns-clause-any_moment
returns-clause-any_moment g c = λ tells version issuer bodies at sizes is.
    let t = g.D.Disk.on_disk c.args.disk.now in
    (opening_done version issuer bodies at sizes t is _ _ _
    (c.in_ok-sync.ensures.ok tells) (c.in_ok-write_at.ensures.ok tells) (c.in_ok-sync-2.ensures.ok tells)).so_far

pub returns-in_err-sync-clause-never_loses : goal.returns-in_err-sync-clause-never_loses
returns-in_err-sync-clause-never_loses g c = λ tells version issuer bodies at sizes is.
    let t = g.D.Disk.on_disk c.args.disk.now in
    let err = c.in_err-sync.ensures.err tells in
    opening_not_synced version issuer bodies at sizes t is _ err
    (on_sync_failed (opening_start version issuer bodies at sizes t is) err
    (λ f image. opening_pending version issuer bodies at sizes t is f image))

pub returns-in_err-write_at-clause-never_loses : goal.returns-in_err-write_at-clause-never_loses
returns-in_err-write_at-clause-never_loses g c = λ tells version issuer bodies at sizes is.
    let t = g.D.Disk.on_disk c.args.disk.now in
    let ok = c.in_ok-sync.ensures.ok tells in
    let err = c.in_err-write_at.ensures.err tells in
    opening_not_written version issuer bodies at sizes t is _ _ ok err
    (on_write_failed (opening_synced version issuer bodies at sizes t is _ ok) 0 1 err
    (λ f image. opening_image version issuer bodies at sizes t is f image))

pub returns-in_err-sync-2-clause-never_loses : goal.returns-in_err-sync-2-clause-never_loses
returns-in_err-sync-2-clause-never_loses g c = λ tells version issuer bodies at sizes is.
    let t = g.D.Disk.on_disk c.args.disk.now in
    let ok = c.in_ok-sync.ensures.ok tells in
    let ok1 = c.in_ok-write_at.ensures.ok tells in
    let err = c.in_err-sync-2.ensures.err tells in
    opening_not_sure version issuer bodies at sizes t is _ _ _ ok ok1 err
    (on_sync_failed (opening_written version issuer bodies at sizes t is _ _ ok ok1) err
    (λ f image. opening_image version issuer bodies at sizes t is f image))

pub returns-clause-never_loses : goal.returns-clause-never_loses
returns-clause-never_loses g c = λ tells version issuer bodies at sizes is.
    let t = g.D.Disk.on_disk c.args.disk.now in
    let ok = c.in_ok-sync.ensures.ok tells in
    let ok1 = c.in_ok-write_at.ensures.ok tells in
    let ok2 = c.in_ok-sync-2.ensures.ok tells in
    let done = opening_done version issuer bodies at sizes t is _ _ _ ok ok1 ok2 in
    opening_loses_none version issuer bodies at sizes t is _ _ _ ok ok1 ok2 done.so_far
