use Rattle.std.proofs.Common.{◌+◌, length, ap, sym, subst, arith}
use Rattle.chain_disk.specs.OnDisk.{OnDisk}
use Rattle.journal.specs.Tails.{WritesFrom}
use Rattle.journal.proofs.Behind.{appends_from, begins, by_answer, on_sync, on_sync_failed, on_write, on_write_failed, reaches}
use Rattle.journal.proofs.tails.lengthen.Goals as goal

pub returns-in_err-at-clause-behind : goal.returns-in_err-at-clause-behind
returns-in_err-at-clause-behind g c = λ tells.
    let t = g.D.Disk.on_disk c.args.disk.now in
    let gate = c.requires tells in
    appends_from (c.args.gate + 1) t _ (subst (λ (u : OnDisk). WritesFrom (c.args.gate + 1) t u) (sym c.len.ensures.same)
    (begins (c.args.gate + 1) t (omega (arith, gate.within)) gate.nothing_pending))

pub loop-at-init : goal.loop-at-init
loop-at-init g c = record {
  behind = λ tells. omega (arith, (c.requires tells).within, c.in_ok-at.ensures.length tells);
  reach = λ tells. omega (arith, c.in_ok-at.ensures.length tells, ap (λ (u : OnDisk). length u.content) c.len.ensures.same);
  writes = λ tells.
      let t = g.D.Disk.on_disk c.args.disk.now in
      let gate = c.requires tells in
      subst (λ (u : OnDisk). WritesFrom (c.args.gate + 1) t u) (sym c.len.ensures.same)
      (begins (c.args.gate + 1) t (omega (arith, gate.within)) gate.nothing_pending);
  later = c.len.ensures.cause.later;
}

pub returns-in_err-write_zeros-clause-behind : goal.returns-in_err-write_zeros-clause-behind
returns-in_err-write_zeros-clause-behind g c = λ tells.
    appends_from (c.args.gate + 1) (g.D.Disk.on_disk c.args.disk.now) _ (on_write_failed (c.args.gate + 1) c.loop-at.at _
    (g.D.Disk.on_disk c.args.disk.now) _ _ (c.loop-at.invariant.behind tells) (c.loop-at.invariant.writes tells)
    (c.in_err-write_zeros.ensures.err tells))

pub loop-at-preserved : goal.loop-at-preserved
loop-at-preserved g c = record {
  behind = λ tells. omega (arith, c.loop-at.invariant.behind tells);
  reach = λ tells.
      let piece = c.in_ok-write_zeros.ensures.ok tells in
      omega (arith, piece.count, reaches c.loop-at.at piece.bytes _ _ (c.loop-at.invariant.reach tells) piece.writes);
  writes = λ tells.
      let piece = c.in_ok-write_zeros.ensures.ok tells in
      on_write (c.args.gate + 1) c.loop-at.at piece.bytes (g.D.Disk.on_disk c.args.disk.now) _ _
      (c.loop-at.invariant.behind tells) (c.loop-at.invariant.reach tells) (c.loop-at.invariant.writes tells) piece.writes;
  later = omega (arith, c.loop-at.invariant.later, c.write_zeros.ensures.cause.later);
}

pub returns-clause-behind : goal.returns-clause-behind
returns-clause-behind g c = λ tells.
    let t = g.D.Disk.on_disk c.args.disk.now in
    let w = c.loop-at.invariant.writes tells in
    appends_from (c.args.gate + 1) t _ (by_answer c.sync.result c.sync.ensures.ok c.sync.ensures.err
    (λ ok. on_sync (c.args.gate + 1) t _ _ w (ok tells)) (λ err. on_sync_failed (c.args.gate + 1) t _ _ w (err tells)))
