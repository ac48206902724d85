use Rattle.dialogue.proofs.Dialogues.{all_talk_past}
use Rattle.dialogue.proofs.speaker.Speaker.long_line_action.Goals as goal

pub returns-clause-continues : goal.returns-clause-continues
returns-clause-continues c = λ line past. all_talk_past c.args.self.now c.pass_too_long.new.self line c.pass_too_long.result past c.pass_too_long.ensures
