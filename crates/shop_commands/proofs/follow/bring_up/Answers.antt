use Rattle.std.proofs.Common.{◌∙◌, Err, inl, refl, sym, subst}
use Rattle.report.specs.declared.status.Detail.{Detail}
use Rattle.shop_core.specs.History.{History}
use Rattle.shop_core.specs.Prefix.{IsPrefix}
use Rattle.standby.specs.Catching.{IsFirstApart}
use Rattle.shop_commands.specs.Follow.{BringsUp}
use Rattle.shop_commands.proofs.Follows.{brings_err, brings_ok, followed_since}
use Rattle.shop_commands.proofs.follow.bring_up.Goals as goal

pub returns-in-Ok-Some-clause-brings : goal.returns-in-Ok-Some-clause-brings
returns-in-Ok-Some-clause-brings g c =
    let apart = subst (λ (h : History). IsFirstApart c.args.state.now.entries h.entries c.in-Ok-Some.index) c.state.ensures
    (rw c.in-Ok-Some.field-0-is at c.in-Ok-Some.ensures.some) in
    inl (c.in-Ok-Some.index, apart, refl, c.into_disk-in-Ok-Some.ensures.disk)

pub returns-in-Ok-clause-brings : goal.returns-in-Ok-clause-brings
returns-in-Ok-clause-brings g c =
    let s = c.args.state.now in
    let within = subst (λ (h : History). IsPrefix h.entries s.entries) c.state.ensures
    (rw c.in-Ok-None.field-0-is at c.in-Ok-None.ensures.none) in
    brings_ok g.D.Disk.tells g.D.Disk.on_disk g.D.Disk.faults s.version s.issuer s.entries c.args.standby c.catch_up.new.standby
    c.into_disk-in-Ok.result c.in-Ok.kept within (c.in-Ok.ensures.goes.version ∙ c.requires.version)
    (c.in-Ok.ensures.goes.issuer ∙ c.requires.issuer) c.in-Ok.ensures.caught c.into_disk-in-Ok.ensures.every_crash

pub returns-in-Err-catch_up-clause-brings : goal.returns-in-Err-catch_up-clause-brings
returns-in-Err-catch_up-clause-brings g c =
    let s = c.args.state.now in
    subst (λ (e : Detail). BringsUp g.D.Disk.tells g.D.Disk.on_disk g.D.Disk.faults s.version s.issuer s.entries c.args.standby
    c.into_disk-in-Err-catch_up.result (Err e)) (sym c.store_end.ensures)
    (brings_err g.D.Disk.tells g.D.Disk.on_disk g.D.Disk.faults s.version s.issuer s.entries c.args.standby c.catch_up.new.standby
    c.into_disk-in-Err-catch_up.result c.in-Err-catch_up.fault c.into_disk-in-Err-catch_up.ensures.disk
    c.in-Err-catch_up.ensures.caught)

pub returns-in-Err-clause-images : goal.returns-in-Err-clause-images
returns-in-Err-clause-images g c = inl c.into_disk.ensures.disk

pub returns-in-Ok-Some-clause-images : goal.returns-in-Ok-Some-clause-images
returns-in-Ok-Some-clause-images g c = inl c.into_disk-in-Ok-Some.ensures.disk

pub returns-in-Ok-clause-images : goal.returns-in-Ok-clause-images
returns-in-Ok-clause-images g c =
    let within = subst (λ (h : History). IsPrefix h.entries c.args.state.now.entries) c.state.ensures
    (rw c.in-Ok-None.field-0-is at c.in-Ok-None.ensures.none) in
    followed_since g.D.Disk.tells g.D.Disk.on_disk c.args.state.now.entries c.args.standby c.catch_up.new.standby
    c.into_disk-in-Ok.result within c.into_disk-in-Ok.ensures.disk c.in-Ok.ensures.follows

pub returns-in-Err-catch_up-clause-images : goal.returns-in-Err-catch_up-clause-images
returns-in-Err-catch_up-clause-images g c =
    let within = subst (λ (h : History). IsPrefix h.entries c.args.state.now.entries) c.state.ensures
    (rw c.in-Ok-None.field-0-is at c.in-Ok-None.ensures.none) in
    followed_since g.D.Disk.tells g.D.Disk.on_disk c.args.state.now.entries c.args.standby c.catch_up.new.standby
    c.into_disk-in-Err-catch_up.result within c.into_disk-in-Err-catch_up.ensures.disk c.in-Err-catch_up.ensures.follows
