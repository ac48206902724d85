use Rattle.std.proofs.Common.{◌∙◌, sym}
use Rattle.agency_port.proofs.Logs.{last_here, last_before}
use Rattle.agency_port.proofs.fates.last_reply.Goals as goal

pub returns-in-Some-2 : goal.returns-in-Some-2
returns-in-Some-2 c =
    last_here c.loop-last.rest.now c.in-Some.before.now c.in-Some.last.now c.in-Some-2.reply c.in-Some.ensures.cases.0
    (sym c.in-Some-2.is ∙ c.in_ok-reply.ensures)
    ∙ c.loop-last.invariant

pub loop-last-preserved : goal.loop-last-preserved
loop-last-preserved c =
    last_before c.loop-last.rest.now c.in-Some.before.now c.in-Some.last.now c.in-Some.ensures.cases.0 (sym c.in-None.is ∙
    c.in_ok-reply.ensures)
    ∙ c.loop-last.invariant
