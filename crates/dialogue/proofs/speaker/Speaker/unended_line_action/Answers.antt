use Rattle.dialogue.proofs.Dialogues.{all_talk_unended}
use Rattle.dialogue.proofs.speaker.Speaker.unended_line_action.Goals as goal

pub returns-clause-continues : goal.returns-clause-continues
returns-clause-continues c = λ text within. all_talk_unended c.args.self.now c.pass_unended.new.self text c.pass_unended.result within c.pass_unended.ensures
