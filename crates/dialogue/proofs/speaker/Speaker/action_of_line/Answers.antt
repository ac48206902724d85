use Rattle.std.proofs.Common.{◌≡◌, ◌∙◌, List, ℕ, ap, sym, None}
use Rattle.questions.specs.Reading.{question_of}
use Rattle.dialogue.proofs.Dialogues.{all_of_script}
use Rattle.dialogue.proofs.speaker.Speaker.action_of_line.Goals as goal

pub returns-in-None : goal.returns-in-None
returns-in-None c =
    let cut = ap (λ (text : List ℕ). question_of text) c.without_return.ensures in
    let none : question_of c.without_return.result.now ≡ None = sym c.question_of.ensures ∙ c.in-None.is in
    all_of_script c.args.self.now c.go_on-number.new.self c.action_of_script_line.new.self c.args.line.now c.go_on-number.result
    c.action_of_script_line.result c.requires c.go_on-number.ensures.number c.go_on-number.ensures.next
    c.action_of_script_line.ensures.number (sym cut ∙ none) c.action_of_script_line.ensures.ahead c.action_of_script_line.ensures.heard
