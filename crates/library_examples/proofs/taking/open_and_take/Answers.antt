use Rattle.std.proofs.Common.{subst, IsTrue}
use Rattle.chain_disk.specs.OnDisk.{LeavesNow}
use Rattle.chain_store.specs.Store.{state_of}
use Rattle.journal.specs.Journal.{disk_of}
use Rattle.shop_core.specs.File.Files.{StandsFor}
use Rattle.shop_core.specs.History.{History}
use Rattle.library_examples.specs.Taking.{IsTicketAt}
use Rattle.library_examples.proofs.UnderSerial.{answers, if_told, ticket_of_ask, told_stands}
use Rattle.library_examples.proofs.taking.open_and_take.Goals as goal

pub returns-clause-answers : goal.returns-clause-answers
returns-clause-answers g c =
    let old = c.in-Ok.store in
    let new = c.take.new.self in
    answers g.D.Disk.tells c.args.issuer.now (g.D.Disk.on_disk c.args.disk).content (state_of old) (state_of new) c.args.sale.now
    (g.C.Clock.coming c.args.clock) (g.C.Clock.coming new.clock) (g.D.Disk.on_disk (disk_of old.journal))
    (g.D.Disk.on_disk (disk_of new.journal)) c.take.result c.in_ok-receipt.receipt c.in_ok-receipt.ensures
    (rw c.in-Ok.ensures.clock at (c.take.ensures.takes c.in-Ok.ensures.going_on)) c.in-Ok.ensures.issuer
    c.in-Ok.ensures.found

pub returns-clause-kept : goal.returns-clause-kept
returns-clause-kept g c =
    let new = c.take.new.self in
    if_told c.take.result c.in_ok-receipt.receipt (IsTrue g.D.Disk.tells →
    LeavesNow (g.D.Disk.on_disk (disk_of new.journal)) (StandsFor (state_of new).version (state_of new).issuer (state_of new).entries))
    c.in_ok-receipt.ensures c.take.ensures.acknowledged

pub returns-clause-ticket : goal.returns-clause-ticket
returns-clause-ticket g c =
    let old = c.in-Ok.store in
    let new = c.take.new.self in
    let place = c.in_ok-receipt.receipt.place in
    ticket_of_ask (state_of new).entries c.args.sale.now place c.in_ok-ticket.ticket
    (told_stands (state_of old) (state_of new) c.args.sale.now (g.C.Clock.coming old.clock) (g.C.Clock.coming new.clock)
    g.D.Disk.tells (g.D.Disk.on_disk (disk_of old.journal)) (g.D.Disk.on_disk (disk_of new.journal)) c.take.result
    c.in_ok-receipt.receipt c.in_ok-receipt.ensures (c.take.ensures.takes c.in-Ok.ensures.going_on))
    (subst (λ (h : History). IsTicketAt h.entries place c.in_ok-ticket.ticket) c.state.ensures c.in_ok-ticket.ensures)
