use Rattle.std.proofs.Common.{◌∙◌, ap, sym}
use Rattle.report.specs.Status.{status_of}
use Rattle.many_issuers.specs.declared.working.Done.{Done}
use Rattle.many_issuers.proofs.Dones.{first_at}
use Rattle.many_issuers.proofs.printing.first_bad.Goals as goal

pub returns-then-status-ne0 : goal.returns-then-status-ne0
returns-then-status-ne0 g c =
    first_at (λ (d : Done g.row.D.Denot g.row.C.Denot g.row.Z.Denot g.row.G.Denot). d.end) c.args.dones.now c.loop-index.index
    c.index-dones-index.result c.status_of-status.result c.loop-index-test.true c.index-dones-index.is c.loop-index.invariant
    (c.status_of-status.ensures ∙ ap (λ (d : Done g.row.D.Denot g.row.C.Denot g.row.Z.Denot g.row.G.Denot). status_of d.end)
    (sym c.index-dones-index.is)) c.if-status-ne0.true
