use Rattle.std.proofs.Common.{◌∙◌, ap, List, take, length}
use Rattle.record_fields.specs.declared.lines.Line.{Line}
use Rattle.record_fields.specs.declared.records.Sealed.{Sealed}
use Rattle.agency_rules.specs.Pairs.{delivered_record}
use Rattle.agency_rules.proofs.Deliveries.{delivered_more, front_with, front_came}
use Rattle.agency_rules.proofs.pairs.Pairs.deliver.Goals as goal

pub loop-i-preserved : goal.loop-i-preserved
loop-i-preserved c = record {
  so_far = delivered_more c.args.verdicts.now c.args.self.now c.loop-i.self c.deliver_record.new.self c.args.batch.now c.loop-i.i
      c.index-batch-i.result
      c.loop-i-test.true c.index-batch-i.is c.loop-i.invariant.so_far c.in_ok-deliver_record.ensures.ok;
  front = ap (λ (ps : List (Sealed × Line)). take (length c.args.self.now) ps) c.in_ok-deliver_record.ensures.ok
      ∙ front_with c.args.self.now c.loop-i.self c.index-batch-i.result (delivered_record c.args.verdicts.now c.loop-i.self
      c.index-batch-i.result) c.loop-i.invariant.front;
}

pub returns-in_err-deliver_record-clause-err : goal.returns-in_err-deliver_record-clause-err
returns-in_err-deliver_record-clause-err c = front_came c.from_residual.result c.args.verdicts.now c.args.self.now c.loop-i.self
    c.deliver_record.new.self c.args.batch.now c.loop-i.i
    c.in_err-deliver_record.ensures.err c.loop-i.invariant.so_far
