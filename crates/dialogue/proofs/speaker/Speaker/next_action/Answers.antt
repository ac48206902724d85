use Rattle.line_reader.specs.Lists.{with_lf}
use Rattle.dialogue.proofs.Dialogues.{all_talk}
use Rattle.dialogue.proofs.speaker.Speaker.next_action.Goals as goal

pub returns-clause-continues : goal.returns-clause-continues
returns-clause-continues c = all_talk c.args.self.now c.action_of_line.new.self (with_lf c.args.line.now) c.action_of_line.result c.action_of_line.ensures
