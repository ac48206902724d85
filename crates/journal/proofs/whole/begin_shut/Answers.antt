use Rattle.std.proofs.Common.{inr, subst}
use Rattle.parties.specs.Nif.{IsNif}
use Rattle.journal.specs.Looking.{IsHeldAs}
use Rattle.journal.specs.declared.whole.Held.{Held}
use Rattle.journal.proofs.Shut.{unfinished_writing, same_started}
use Rattle.journal.proofs.Losing.{header_loses_none, same_loses_none}
use Rattle.journal.proofs.whole.begin_shut.Goals as goal

pub returns-in_err-held-clause-any_moment : goal.returns-in_err-held-clause-any_moment
returns-in_err-held-clause-any_moment g c = λ tells. same_started c.args.version c.args.issuer.now _ _ c.look.ensures.same (c.requires tells)

pub returns-in-Other-clause-any_moment : goal.returns-in-Other-clause-any_moment
returns-in-Other-clause-any_moment g c = λ tells. same_started c.args.version c.args.issuer.now _ _ c.look.ensures.same (c.requires tells)

pub returns-in-Unfinished-clause-ok : goal.returns-in-Unfinished-clause-ok
returns-in-Unfinished-clause-ok g c = λ tells.
    let issuer = c.args.issuer.now in
    let t = g.D.Disk.on_disk c.args.disk.now in
    let nif = subst IsNif c.bytes-nine.ensures.value c.bytes-nine.ensures.is in
    let held = subst (λ (h : Held). IsHeldAs c.args.version issuer t.content h) c.in-Unfinished.is (c.in_ok-held.ensures.held tells) in
    unfinished_writing c.args.version issuer t _ c.look.ensures.same nif held (c.requires tells)

pub returns-in-Unfinished-clause-any_moment : goal.returns-in-Unfinished-clause-any_moment
returns-in-Unfinished-clause-any_moment g c = λ tells. same_started c.args.version c.args.issuer.now _ _ c.look.ensures.same (c.requires tells)

pub returns-in-Unfinished-clause-free : goal.returns-in-Unfinished-clause-free
returns-in-Unfinished-clause-free g c = λ tells.
    let t = g.D.Disk.on_disk c.args.disk.now in
    inr (subst (λ (h : Held). IsHeldAs c.args.version c.args.issuer.now t.content h) c.in-Unfinished.is (c.in_ok-held.ensures.held tells))

pub returns-in_err-held-clause-never_loses : goal.returns-in_err-held-clause-never_loses
returns-in_err-held-clause-never_loses g c = λ tells. same_loses_none (g.D.Disk.on_disk c.args.disk.now) _ c.look.ensures.same

pub returns-in-Other-clause-never_loses : goal.returns-in-Other-clause-never_loses
returns-in-Other-clause-never_loses g c = λ tells. same_loses_none (g.D.Disk.on_disk c.args.disk.now) _ c.look.ensures.same

pub returns-in-Unfinished-clause-never_loses : goal.returns-in-Unfinished-clause-never_loses
returns-in-Unfinished-clause-never_loses g c = λ tells. same_loses_none (g.D.Disk.on_disk c.args.disk.now) _ c.look.ensures.same

pub returns-in_err-begin_header-in-NotBegun-clause-never_loses : goal.returns-in_err-begin_header-in-NotBegun-clause-never_loses
returns-in_err-begin_header-in-NotBegun-clause-never_loses g c = λ tells.
    header_loses_none (g.D.Disk.on_disk c.args.disk.now) (g.D.Disk.on_disk c.look.new.disk) _ c.look.ensures.same
    (c.begin_header.ensures.any_moment tells)

pub returns-in_ok-begin_header-in-NotBegun-clause-never_loses : goal.returns-in_ok-begin_header-in-NotBegun-clause-never_loses
returns-in_ok-begin_header-in-NotBegun-clause-never_loses g c = λ tells.
    header_loses_none (g.D.Disk.on_disk c.args.disk.now) (g.D.Disk.on_disk c.look.new.disk) _ c.look.ensures.same
    (c.begin_header.ensures.any_moment tells)
