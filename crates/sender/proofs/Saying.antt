-- What is said in turns: submissions and consultations alone.
use Rattle.std.proofs.Common.{inl, inr, List, [], ◌∷◌, sym, ◌∙◌, append-nil, Result}
use Rattle.std.specs.List.{AllByRecursion}
use Rattle.agency_port.specs.declared.messages.Message.{Message}
use Rattle.agency_port.specs.declared.messages.Message.TheVariants.{Begun, Submitted, Consulted}
use Rattle.agency_port.specs.declared.turns.Told.{Told}
use Rattle.sender.specs.declared.answers.Turn.{Turn}
use Rattle.sender.specs.declared.answers.SendFault.{SendFault}
use Rattle.sender.specs.declared.answers.DrainFault.{DrainFault}
use Rattle.sender.specs.Lines.{IsLineOf, TellsOf, LinesOf, no_line, quiet_line, line_of, DrainTells, IsCall, SaysCalls}
use Rattle.sender.proofs.Lists.{all_both}

line_call : (message : Message) (line : Told) → IsLineOf message line → IsCall message
line_call (Begun plan pairs) printed h = absurd h
line_call (Submitted batch answer) printed h = tt
line_call (Consulted asked answer) printed h = tt

pub turn_says : (old new : List Message) (answer : Result Turn SendFault) → TellsOf old new answer → SaysCalls old new
turn_says old new answer (inl q) = record { session = []; is = q.0 ∙ sym (append-nil old); calls = tt }
turn_says old new answer (inr s) = record {
  session = s.message ∷ [];
  is = s.said;
  calls = (line_call s.message s.line s.of_it, tt);
}

lines_calls : (messages : List Message) (lines : List Told) → LinesOf messages lines → AllByRecursion IsCall messages
lines_calls messages lines no_line = tt
lines_calls messages lines (quiet_line ms ls line more quiet) = lines_calls ms ls more
lines_calls messages lines (line_of ms ls message line more of_it) = all_both IsCall ms (message ∷ []) (lines_calls ms ls more)
    (line_call message line of_it, tt)

pub drain_says : (old new : List Message) (told_old told_new : List Told) (result : Result (Unit {0}) DrainFault) →
    DrainTells old new told_old told_new result → SaysCalls old new
drain_says old new told_old told_new result d = record {
  session = d.messages;
  is = d.said;
  calls = lines_calls d.messages d.lines
      d.of_them;
}
