use Rattle.std.proofs.Common.{inl, inr, le_refl, refl}
use Rattle.chain_store.specs.Losing.{none_lost}
use Rattle.recovery.proofs.Moves.{kept_unless_free, moves, not_moved}
use Rattle.recovery.proofs.moving.migrate_counted.Goals as goal

pub returns-in-Err-clause-not_moved : goal.returns-in-Err-clause-not_moved
returns-in-Err-clause-not_moved g c =
    let start = g.M.Disk.on_disk c.args.new in
    record {
      any_moment = λ _ _. not_moved (g.D.Disk.on_disk c.args.old.now).content start;
      never_loses = λ _ _. none_lost start;
      kept = λ _ _ _. inr (inl refl);
      later = le_refl (g.M.Disk.faults c.args.new);
    }

pub returns-in-Ok-move_state-clause-moved : goal.returns-in-Ok-move_state-clause-moved
returns-in-Ok-move_state-clause-moved g c =
    let file = (g.D.Disk.on_disk c.args.old.now).content in
    let start = g.M.Disk.on_disk c.args.new in
    let end = g.M.Disk.on_disk c.move_state.new.disk in
    let issuer = c.in-Ok.state.issuer in
    let entries = c.in-Ok.state.entries in
    record {
      free = λ tells new_tells. (issuer, entries, c.in-Ok.ensures.stands tells, c.in-Ok-move_state.ensures.free new_tells);
      any_moment = λ tells new_tells.
          let stands = c.in-Ok.ensures.stands tells in
          moves issuer entries file start end stands (c.move_state.ensures.any_moment new_tells file stands);
      never_loses = λ tells new_tells. c.move_state.ensures.never_loses new_tells file (c.in-Ok.ensures.stands tells);
      every_crash = λ tells new_tells.
          let stands = c.in-Ok.ensures.stands tells in
          λ f left. (issuer, entries, stands, c.in-Ok-move_state.ensures.ok new_tells file stands f left);
      reads = λ tells new_tells.
          let stands = c.in-Ok.ensures.stands tells in (
            issuer,
            entries,
            stands,
            c.in-Ok-move_state.ensures.ok new_tells file stands end.content
                (inl (refl, g.met.M.Disk.reads_an_image c.move_state.new.disk new_tells)),
          );
      later = c.move_state.ensures.later;
    }

pub returns-in-Ok-move_state-clause-counts : goal.returns-in-Ok-move_state-clause-counts
returns-in-Ok-move_state-clause-counts g c = λ tells.
    (c.in-Ok.state.issuer, c.in-Ok.state.entries, c.in-Ok.ensures.stands tells, c.records.ensures.count, c.noted.ensures.count)

pub returns-clause-not_moved : goal.returns-clause-not_moved
returns-clause-not_moved g c =
    let file = (g.D.Disk.on_disk c.args.old.now).content in
    let start = g.M.Disk.on_disk c.args.new in
    let end = g.M.Disk.on_disk c.move_state.new.disk in
    let issuer = c.in-Ok.state.issuer in
    let entries = c.in-Ok.state.entries in
    record {
      any_moment = λ tells new_tells.
          let stands = c.in-Ok.ensures.stands tells in
          moves issuer entries file start end stands (c.move_state.ensures.any_moment new_tells file stands);
      never_loses = λ tells new_tells. c.move_state.ensures.never_loses new_tells file (c.in-Ok.ensures.stands tells);
      kept = λ tells new_tells.
          kept_unless_free issuer entries file start end (c.in-Ok.ensures.stands tells) (c.move_state.ensures.kept new_tells);
      later = c.move_state.ensures.later;
    }
