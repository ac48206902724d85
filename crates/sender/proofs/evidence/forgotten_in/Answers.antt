use Rattle.std.proofs.Common.{◌∙◌, sym}
use Rattle.agency_port.specs.declared.answers.Seen.TheVariants.{NotSeen}
use Rattle.sender.proofs.Saids.{forgotten_more, forgotten_past}
use Rattle.sender.proofs.evidence.forgotten_in.Goals.{in-NotSeen+in_default-said_of, in_default}
use Rattle.sender.proofs.evidence.forgotten_in.Goals as goal

pub loop-i-preserved : goal.loop-i-preserved
loop-i-preserved c = elim c.match-answers-i.branch [
  | in-NotSeen+in_default-said_of w ↦ forgotten_more c.args.reply.now c.args.first c.args.records.now c.args.answers.now
      c.loop-i.i w.index-records-i.result NotSeen c.loop-i-test.true c.requires.answered w.in-NotSeen.is
      (sym w.said_of.ensures ∙ w.in_default-said_of.is) c.loop-i.invariant
  | in_default w ↦ forgotten_past c.args.reply.now c.args.first c.args.records.now c.args.answers.now c.loop-i.i
      w.in_default.field-0 c.loop-i-test.true c.requires.answered w.in_default.is c.loop-i.invariant
]
