use Rattle.std.proofs.Common.{length, ◌+◌, arith}
use Rattle.chain_disk.specs.Runs.{on_write_failed, on_sync_failed}
use Rattle.journal.proofs.Images.{behind_image, gate_image}
use Rattle.journal.proofs.Commits.{at_start, after_write, after_sync, after_gate, after_all, committed, not_shorter, four_moments, both_written}
use Rattle.journal.proofs.Commits.{seen_write_lost, seen_sync_lost, seen_gate_lost, seen_last_lost, seen_all}
use Rattle.journal.proofs.commit.commit.Goals as goal

pub returns-clause-moments : goal.returns-clause-moments
returns-clause-moments g c = λ tells. four_moments (g.D.Disk.on_disk c.args.disk.now) _ _ _ _ _ _ _ _
    (c.in_ok-write_at.ensures.ok tells) (c.in_ok-sync.ensures.ok tells) (c.in_ok-write_at-2.ensures.ok tells)
    (c.in_ok-sync-2.ensures.ok tells)

pub returns-in_err-write_at-clause-any_moment : goal.returns-in_err-write_at-clause-any_moment
returns-in_err-write_at-clause-any_moment g c = λ tells quiet.
    let t = g.D.Disk.on_disk c.args.disk.now in
    let within = c.requires.within tells in
    on_write_failed (at_start t c.args.gate c.args.bytes.now within quiet) (c.args.gate + 1) (length c.args.bytes.now)
    (c.in_err-write_at.ensures.err tells) (λ f image. behind_image t.content f c.args.bytes.now c.args.gate within image)

pub returns-in_err-sync-clause-any_moment : goal.returns-in_err-sync-clause-any_moment
returns-in_err-sync-clause-any_moment g c = λ tells quiet.
    let t = g.D.Disk.on_disk c.args.disk.now in
    let within = c.requires.within tells in
    on_sync_failed (after_write t c.args.gate c.args.bytes.now within quiet _ (c.in_ok-write_at.ensures.ok tells))
    (c.in_err-sync.ensures.err tells) (λ f image. behind_image t.content f c.args.bytes.now c.args.gate within image)

pub write_at-requires-2 : goal.write_at-requires-2
write_at-requires-2 g c = λ tells. omega (
  arith,
  c.requires.within tells,
  not_shorter _ _ _ _ _ (c.in_ok-write_at.ensures.ok tells)
      (c.in_ok-sync.ensures.ok tells),
)

pub returns-in_err-write_at-2-clause-any_moment : goal.returns-in_err-write_at-2-clause-any_moment
returns-in_err-write_at-2-clause-any_moment g c = λ tells quiet.
    let t = g.D.Disk.on_disk c.args.disk.now in
    let within = c.requires.within tells in
    on_write_failed (after_sync t c.args.gate c.args.bytes.now within quiet _ _ (c.in_ok-write_at.ensures.ok tells)
    (c.in_ok-sync.ensures.ok tells)) c.args.gate 1 (c.in_err-write_at-2.ensures.err tells) (λ f image. gate_image t.content
    c.args.bytes.now c.args.gate within f image)

pub returns-in_err-sync-2-clause-any_moment : goal.returns-in_err-sync-2-clause-any_moment
returns-in_err-sync-2-clause-any_moment g c = λ tells quiet.
    let t = g.D.Disk.on_disk c.args.disk.now in
    let within = c.requires.within tells in
    on_sync_failed (after_gate t c.args.gate c.args.bytes.now within quiet _ _ _ (c.in_ok-write_at.ensures.ok tells)
    (c.in_ok-sync.ensures.ok tells) (c.in_ok-write_at-2.ensures.ok tells)) (c.in_err-sync-2.ensures.err tells)
    (λ f image. gate_image t.content c.args.bytes.now c.args.gate within f image)

pub returns-clause-ok : goal.returns-clause-ok
returns-clause-ok g c = λ tells quiet.
    let t = g.D.Disk.on_disk c.args.disk.now in
    let within = c.requires.within tells in
    committed t c.args.gate c.args.bytes.now within quiet _ (after_all t c.args.gate c.args.bytes.now within quiet _ _ _ _
    (c.in_ok-write_at.ensures.ok tells) (c.in_ok-sync.ensures.ok tells) (c.in_ok-write_at-2.ensures.ok tells)
    (c.in_ok-sync-2.ensures.ok tells))

pub returns-clause-content : goal.returns-clause-content
returns-clause-content g c = λ tells. both_written (g.D.Disk.on_disk c.args.disk.now) _ _ _ _ c.args.gate c.args.bytes.now
    (c.requires.within tells) (c.in_ok-write_at.ensures.ok tells) (c.in_ok-sync.ensures.ok tells)
    (c.in_ok-write_at-2.ensures.ok tells) (c.in_ok-sync-2.ensures.ok tells)

pub returns-clause-any_moment : goal.returns-clause-any_moment
returns-clause-any_moment g c = λ tells quiet.
    let t = g.D.Disk.on_disk c.args.disk.now in
    let within = c.requires.within tells in
    let all = after_all t c.args.gate c.args.bytes.now within quiet _ _ _ _ (c.in_ok-write_at.ensures.ok tells)
    (c.in_ok-sync.ensures.ok tells) (c.in_ok-write_at-2.ensures.ok tells) (c.in_ok-sync-2.ensures.ok tells) in
    all.so_far

pub returns-in_err-write_at-clause-before_the_last : goal.returns-in_err-write_at-clause-before_the_last
returns-in_err-write_at-clause-before_the_last g c = λ tells quiet.
    seen_write_lost (g.D.Disk.on_disk c.args.disk.now) c.args.gate c.args.bytes.now (c.requires.within tells) quiet _
    (c.in_err-write_at.ensures.err tells)

pub returns-in_err-sync-clause-before_the_last : goal.returns-in_err-sync-clause-before_the_last
returns-in_err-sync-clause-before_the_last g c = λ tells quiet.
    seen_sync_lost (g.D.Disk.on_disk c.args.disk.now) c.args.gate c.args.bytes.now (c.requires.within tells) quiet _ _
    (c.in_ok-write_at.ensures.ok tells) (c.in_err-sync.ensures.err tells)

pub returns-in_err-write_at-2-clause-before_the_last : goal.returns-in_err-write_at-2-clause-before_the_last
returns-in_err-write_at-2-clause-before_the_last g c = λ tells quiet.
    seen_gate_lost (g.D.Disk.on_disk c.args.disk.now) c.args.gate c.args.bytes.now (c.requires.within tells) quiet _ _ _
    (c.in_ok-write_at.ensures.ok tells) (c.in_ok-sync.ensures.ok tells) (c.in_err-write_at-2.ensures.err tells)

pub returns-in_err-sync-2-clause-before_the_last : goal.returns-in_err-sync-2-clause-before_the_last
returns-in_err-sync-2-clause-before_the_last g c = λ tells quiet.
    seen_last_lost (g.D.Disk.on_disk c.args.disk.now) c.args.gate c.args.bytes.now (c.requires.within tells) quiet _ _ _ _
    (c.in_ok-write_at.ensures.ok tells) (c.in_ok-sync.ensures.ok tells) (c.in_ok-write_at-2.ensures.ok tells)
    (c.in_err-sync-2.ensures.err tells)

pub returns-clause-before_the_last : goal.returns-clause-before_the_last
returns-clause-before_the_last g c = λ tells quiet.
    seen_all (g.D.Disk.on_disk c.args.disk.now) c.args.gate c.args.bytes.now (c.requires.within tells) quiet _ _ _ _
    (c.in_ok-write_at.ensures.ok tells) (c.in_ok-sync.ensures.ok tells) (c.in_ok-write_at-2.ensures.ok tells)
    (c.in_ok-sync-2.ensures.ok tells)
