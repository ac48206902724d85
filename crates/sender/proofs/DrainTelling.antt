-- What a drain tells are the lines of its messages.
use Rattle.std.proofs.Common.{◌≡◌, inl, inr, ℕ, List, [], ◌∷◌, ◌++◌, sym, ◌∙◌, ap, subst, append_assoc, append-nil, filter_map}
use Rattle.std.proofs.Common.{Option, Result, Bool, IsTrue}
use Rattle.agency_port.specs.declared.messages.Message.{Message}
use Rattle.agency_port.specs.declared.turns.Told.{Told}
use Rattle.sender.specs.declared.answers.Turn.{Turn}
use Rattle.sender.specs.declared.answers.SendFault.{SendFault}
use Rattle.sender.specs.declared.answers.DrainFault.{DrainFault}
use Rattle.sender.specs.Turning.{AgencyKind}
use Rattle.sender.specs.Draining.{Scene, Turns, none, more, Drained, told_in, list_of, told_list}
use Rattle.sender.specs.Lines.{TellsOf, LinesOf, no_line, quiet_line, line_of, DrainTells}
use Rattle.sender.proofs.Telling.{turn_tells}
use Rattle.sender.proofs.Drains.{told_split}

-- the messages so far, and that the turns are their lines
record SaidSoFar (old new : List Message) (lines : List Told) : Type 0 where
  messages : List Message
  said : new ≡ old ++ messages
  of_them : LinesOf messages lines

one_more : (old mid new : List Message) (lines : List Told) (answer : Result Turn SendFault) → SaidSoFar old mid lines →
    TellsOf mid new answer → SaidSoFar old new (lines ++ told_list answer)
one_more old mid new lines answer s (inl q) = record {
  messages = s.messages;
  said = q.0 ∙ s.said;
  of_them = quiet_line s.messages lines (told_in answer) s.of_them q.1;
}
one_more old mid new lines answer s (inr p) = record {
  messages = s.messages ++ p.message ∷ [];
  said = p.said ∙ ap (λ (ms : List Message). ms ++ p.message ∷ []) s.said ∙ append_assoc old s.messages (p.message ∷ []);
  of_them = subst (λ (o : Option Told). LinesOf (s.messages ++ p.message ∷ []) (lines ++ list_of o)) (sym p.told)
      (line_of s.messages lines p.message p.line s.of_them p.of_it);
}

turns_tell : (kind : AgencyKind) (exact : Bool) (begin : Scene) (answers : List (Result Turn SendFault)) (links : ℕ) (scene : Scene) →
    IsTrue kind.tells → Turns kind exact begin answers links scene →
    SaidSoFar begin.agency_state.ledger.messages scene.agency_state.ledger.messages (filter_map told_in answers)
turns_tell kind exact begin answers links scene tells none = record {
  messages = [];
  said = sym (append-nil begin.agency_state.ledger.messages);
  of_them = no_line;
}
turns_tell kind exact begin answers links scene tells (more before_answers before_links mid answer then t turn on below) =
    subst (λ (ts : List Told). SaidSoFar begin.agency_state.ledger.messages then.agency_state.ledger.messages ts)
    (sym (told_split before_answers answer))
    (one_more begin.agency_state.ledger.messages mid.agency_state.ledger.messages then.agency_state.ledger.messages (filter_map told_in before_answers)
    answer (turns_tell kind exact begin before_answers before_links mid tells t)
    (turn_tells kind mid.agency_state then.agency_state mid.sight then.sight mid.sending then.sending turn.now answer turn.turned tells))

pub drained_tells : (kind : AgencyKind) (exact : Bool) (begin then : Scene) (old new : List Told)
    (result : Result (Unit {0}) DrainFault) → Drained kind exact begin then old new result → IsTrue kind.tells →
    DrainTells begin.agency_state.ledger.messages then.agency_state.ledger.messages old new result
drained_tells kind exact begin then old new result d tells =
    let s = one_more begin.agency_state.ledger.messages d.scene.agency_state.ledger.messages then.agency_state.ledger.messages
    (filter_map told_in d.answers) d.answer (turns_tell kind exact begin d.answers d.links d.scene tells d.made)
    (turn_tells kind d.scene.agency_state then.agency_state d.scene.sight then.sight d.scene.sending then.sending d.turn.now d.answer
    d.turn.turned tells) in
    record {
      messages = s.messages;
      said = s.said;
      lines = filter_map told_in d.answers ++ told_list d.answer;
      of_them = s.of_them;
      told = elim d.ends [
        | inl p ↦ inl (p.0 ∙ ap (λ (ts : List Told). old ++ ts) (told_split d.answers d.answer))
        | inr p ↦ inr (
          p.0,
          (
            told_list d.answer,
            ap (λ (ts : List Told). ts ++ told_list d.answer) p.1 ∙ append_assoc old
                (filter_map told_in d.answers) (told_list d.answer),
          ),
        )
      ];
    }
