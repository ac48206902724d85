use Rattle.std.proofs.Common.{◌≡◌, ◌≤◌, ◌+◌, ℕ, List, length, take, drop, ap, arith, ◌∙◌}
use Rattle.chain_disk.specs.OnDisk.{OnDisk, pasted}
use Rattle.journal.specs.Written.{KeepsFront}
use Rattle.journal.proofs.Behind.{appends_from, begins, copied_more, length-pasted, on_sync, on_sync_failed, on_write, on_write_failed, reaches}
use Rattle.journal.proofs.tails.copy_tail.Goals as goal

pub returns-in_default-clause-behind : goal.returns-in_default-clause-behind
returns-in_default-clause-behind g c = λ tells.
    let gate = c.requires.second tells in
    appends_from (c.args.gate + 1) _ _ (begins (c.args.gate + 1) (g.M.Disk.on_disk c.args.second.now) (omega (arith, gate.within))
    gate.nothing_pending)

pub loop-at-init : goal.loop-at-init
loop-at-init g c = record {
  behind = omega arith;
  within = λ tells. omega (arith, c.requires.first tells, c.in-Ok.ensures.length tells);
  same = c.len.ensures.same;
  reach = λ tells. omega (arith, (c.requires.second tells).within);
  writes = λ tells.
      let gate = c.requires.second tells in
      begins (c.args.gate + 1) (g.M.Disk.on_disk c.args.second.now) (omega (arith, gate.within)) gate.nothing_pending;
  copied = λ tells others front. front;
  no_longer = λ tells others no_longer. no_longer;
  first_later = c.len.ensures.cause.later;
  second_later = omega arith;
}

pub returns-in_err-copy_piece-clause-behind : goal.returns-in_err-copy_piece-clause-behind
returns-in_err-copy_piece-clause-behind g c = λ tells.
    appends_from (c.args.gate + 1) (g.M.Disk.on_disk c.args.second.now) _ (on_write_failed (c.args.gate + 1) c.loop-at.at _
    (g.M.Disk.on_disk c.args.second.now) _ _ c.loop-at.invariant.behind (c.loop-at.invariant.writes tells)
    (c.in_err-copy_piece.ensures.err tells))

pub loop-at-preserved : goal.loop-at-preserved
loop-at-preserved g c =
    let i = c.loop-at.invariant in
    record {
      behind = omega (arith, i.behind);
      within = λ tells. omega (arith, c.piece_size-size.ensures.within);
      same = c.copy_piece.ensures.same ∙ i.same;
      reach = λ tells.
          let piece = c.in_ok-copy_piece.ensures.ok tells in
          omega (arith, piece.count, reaches c.loop-at.at piece.bytes _ _ (i.reach tells) piece.writes);
      writes = λ tells.
          let piece = c.in_ok-copy_piece.ensures.ok tells in
          on_write (c.args.gate + 1) c.loop-at.at piece.bytes (g.M.Disk.on_disk c.args.second.now) _ _ i.behind (i.reach tells)
          (i.writes tells) piece.writes;
      copied = λ tells others front.
          let piece = c.in_ok-copy_piece.ensures.ok others in
          let from = (g.D.Disk.on_disk c.args.first.now).content in
          let held : c.loop-at.at + c.piece_size-size.result ≤ length from =
          omega (arith, c.piece_size-size.ensures.within, c.in-Ok.ensures.length tells) in
          let are : piece.bytes ≡ take c.piece_size-size.result (drop c.loop-at.at from) = piece.copies tells
          ∙ ap (λ (u : OnDisk). take c.piece_size-size.result (drop c.loop-at.at u.content)) i.same in
          let to : List ℕ = (g.M.Disk.on_disk c.loop-at.second).content in
          let all : KeepsFront (c.loop-at.at + c.piece_size-size.result) from (pasted c.loop-at.at piece.bytes to) =
          copied_more c.loop-at.at c.piece_size-size.result piece.bytes from to (i.reach others) held piece.count are
          (i.copied tells others front) in
          ap (λ (u : OnDisk). take (c.loop-at.at + c.piece_size-size.result) u.content) piece.writes ∙ all;
      no_longer = λ tells others no_longer.
          let piece = c.in_ok-copy_piece.ensures.ok others in
          omega (
            arith,
            i.no_longer tells others no_longer,
            piece.count,
            c.piece_size-size.ensures.within,
            c.in-Ok.ensures.length tells,
            length-pasted c.loop-at.at piece.bytes (g.M.Disk.on_disk c.loop-at.second).content (i.reach others),
            ap (λ (u : OnDisk). length u.content) piece.writes,
          );
      first_later = omega (arith, i.first_later, c.copy_piece.ensures.cause.first_later);
      second_later = omega (arith, i.second_later, c.copy_piece.ensures.cause.second_later);
    }

pub returns-in-Ok-sync-clause-behind : goal.returns-in-Ok-sync-clause-behind
returns-in-Ok-sync-clause-behind g c = λ tells.
    appends_from (c.args.gate + 1) (g.M.Disk.on_disk c.args.second.now) _ (on_sync (c.args.gate + 1)
    (g.M.Disk.on_disk c.args.second.now) _ _ (c.loop-at.invariant.writes tells) (c.in-Ok-sync.ensures.ok tells))

pub returns-in-Err-clause-behind : goal.returns-in-Err-clause-behind
returns-in-Err-clause-behind g c = λ tells.
    appends_from (c.args.gate + 1) (g.M.Disk.on_disk c.args.second.now) _ (on_sync_failed (c.args.gate + 1)
    (g.M.Disk.on_disk c.args.second.now) _ _ (c.loop-at.invariant.writes tells) (c.in-Err.ensures.err tells))
