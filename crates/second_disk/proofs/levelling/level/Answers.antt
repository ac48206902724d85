use Rattle.std.proofs.Common.{sym, subst₂}
use Rattle.second_disk.specs.Level.{IsNotLevel}
use Rattle.second_disk.proofs.Levelled.{levelled, stopped, unmirrored}
use Rattle.second_disk.proofs.Ups.{if_err, if_ok}
use Rattle.second_disk.proofs.levelling.level.Goals as goal

pub returns-in-Ok-clause-level : goal.returns-in-Ok-clause-level
returns-in-Ok-clause-level g c = if_ok c.mirror_of.result c.mirror_of.ensures.mirrored (λ mirror is tells others.
    let ok = c.in-Ok.ensures.ok in
    let both = c.in_ok-first.field-0 in
    levelled g.D.Disk.tells g.D.Disk.on_disk g.M.Disk.tells g.M.Disk.on_disk tells others c.args.created c.args.issuer.now
    (g.D.Disk.on_disk c.args.first) (g.M.Disk.on_disk c.args.second) (g.D.Disk.on_disk mirror.first)
    (g.M.Disk.on_disk mirror.second) both.first c.bring_up.new.first both.second c.bring_up.new.second ok.0
    c.in_ok-first.ensures.together (c.in_ok-first.ensures.found tells others) ok.1 ok.2 (is tells others))

pub returns-in-Ok-clause-left : goal.returns-in-Ok-clause-left
returns-in-Ok-clause-left g c = if_err c.mirror_of.result c.mirror_of.ensures.left (λ fault is tells others.
    let ok = c.in-Ok.ensures.ok in
    let both = c.in_ok-first.field-0 in
    unmirrored g.D.Disk.tells g.D.Disk.on_disk g.M.Disk.tells g.M.Disk.on_disk tells others c.args.created c.args.issuer.now fault.cause
    (g.D.Disk.on_disk c.args.first) (g.M.Disk.on_disk c.args.second) (g.D.Disk.on_disk fault.first)
    (g.M.Disk.on_disk fault.second) both.first c.bring_up.new.first both.second c.bring_up.new.second ok.0
    c.in_ok-first.ensures.together (c.in_ok-first.ensures.found tells others) ok.1 ok.2 (is tells others))

pub returns-in-Err-clause-left : goal.returns-in-Err-clause-left
returns-in-Err-clause-left g c = λ tells others.
    let both = c.in_ok-first.field-0 in
    let first = g.D.Disk.on_disk c.args.first in
    let second = g.M.Disk.on_disk c.args.second in
    subst₂ (λ (d : g.row.D.Denot) (m : g.row.M.Denot).
    IsNotLevel c.args.issuer.now c.in-Err.cause first second (g.D.Disk.on_disk d) (g.M.Disk.on_disk m))
    (sym c.into_disk.ensures.disk) (sym c.into_disk-in-Err.ensures.disk)
    (stopped g.D.Disk.tells g.D.Disk.on_disk g.M.Disk.tells g.M.Disk.on_disk tells others c.args.created c.args.issuer.now c.in-Err.cause first second
    both.first c.bring_up.new.first both.second c.bring_up.new.second c.in_ok-first.ensures.together
    (c.in_ok-first.ensures.found tells others) c.in-Err.ensures.stops)
