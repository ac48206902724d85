use Rattle.std.proofs.Common.{◌∙◌, ap}
use Rattle.agency_pipe.specs.Messages.{record_object}
use Rattle.agency_pipe.proofs.ListedValues.{one_value_more}
use Rattle.agency_pipe.proofs.messages.records_value.Goals as goal

pub loop-sealed-preserved : goal.loop-sealed-preserved
loop-sealed-preserved c = one_value_more (record_object c.args.host) c.args.records.now c.loop-sealed.sealed-index c.sealed-item.result
    c.loop-sealed.items.items c.push.new.self.items c.in_ok-record_value.field-0 c.loop-sealed.invariant c.loop-sealed-test.true
    c.in_ok-push.ensures.items (c.in_ok-record_value.ensures ∙ ap (record_object c.args.host) c.sealed-item.is)
