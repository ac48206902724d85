use Rattle.std.proofs.Common.{◌∙◌, ap}
use Rattle.agency_pipe.specs.Messages.{id_object}
use Rattle.agency_pipe.proofs.ListedValues.{one_value_more}
use Rattle.agency_pipe.proofs.messages.ids_value.Goals as goal

pub loop-id-preserved : goal.loop-id-preserved
loop-id-preserved c = one_value_more id_object c.args.ids.now c.loop-id.id-index c.id-item.result c.loop-id.items.items
    c.push.new.self.items c.in_ok-id_value.field-0 c.loop-id.invariant c.loop-id-test.true c.in_ok-push.ensures.items
    (c.in_ok-id_value.ensures ∙ ap id_object c.id-item.is)
