use Rattle.export.specs.Objects.{huella_value}
use Rattle.agency_pipe.proofs.ListedValues.{one_value_more}
use Rattle.agency_pipe.proofs.messages.huellas_value.Goals as goal

pub loop-huella-preserved : goal.loop-huella-preserved
loop-huella-preserved c = one_value_more huella_value c.args.huellas.now c.loop-huella.huella-index _ c.loop-huella.items.items c.push.new.self.items
    c.in_ok-huella_value.field-0 c.loop-huella.invariant c.loop-huella-test.true c.in_ok-push.ensures.items c.in_ok-huella_value.ensures
