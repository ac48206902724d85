-- The lines that are noted, and those that messages say.
use Rattle.std.proofs.Common.{◌≡◌, inl, inr, List, [], ◌∷◌, ◌++◌, append-nil, append_assoc, refl, sym, ◌∙◌, ap, Result, Ok, Err}
use Rattle.record_fields.specs.declared.lines.Line.{Line}
use Rattle.record_codec.specs.declared.entry.Entry.{Entry}
use Rattle.agency_port.specs.declared.messages.Message.{Message}
use Rattle.shop_core.specs.Prefix.{IsPrefix}
use Rattle.sender.specs.declared.answers.DrainFault.{DrainFault}
use Rattle.sender.specs.declared.answers.DrainFault.TheVariants as drain
use Rattle.shop_core.specs.History.{lines_in, noted}
use Rattle.sender_session.specs.Noting.{AreNoted, MissesLast, all_said, lines_said}

pub noted_both : (xs ys : List Entry) → noted (xs ++ ys) ≡ noted xs ++ noted ys
noted_both [] ys = refl
noted_both (e ∷ xs) ys = ap (λ (l : List Line). lines_in e ++ l) (noted_both xs ys)
    ∙ sym (append_assoc (lines_in e) (noted xs) (noted ys))

pub said_both : (xs ys : List Message) → all_said (xs ++ ys) ≡ all_said xs ++ all_said ys
said_both [] ys = refl
said_both (m ∷ xs) ys = ap (λ (l : List Line). lines_said m ++ l) (said_both xs ys)
    ∙ sym (append_assoc (lines_said m) (all_said xs) (all_said ys))

all_noted : (before after : List Line) (messages : List Message) → after ≡ before ++ all_said messages →
    IsPrefix after (before ++ all_said messages)
all_noted before after messages e = record { rest = []; is = sym e ∙ sym (append-nil after) }

last_missing : (before after : List Line) (messages : List Message) → MissesLast before after messages →
    IsPrefix after (before ++ all_said messages)
last_missing before after messages h = record {
  rest = all_said (h.last ∷ []);
  is = ap (λ (ms : List Message). before ++ all_said ms) h.is
      ∙ ap (λ (l : List Line). before ++ l) (said_both h.front (h.last ∷ []))
      ∙ sym (append_assoc before (all_said h.front) (all_said (h.last ∷ [])))
      ∙ ap (λ (l : List Line). l ++ all_said (h.last ∷ [])) (sym h.noted);
}

-- however the sending ended, the lines that were noted are the first of those that were said
pub first_said : (before after : List Line) (messages : List Message) (answer : Result (Unit {0}) DrainFault) →
    AreNoted before after messages answer → IsPrefix after (before ++ all_said messages)
first_said before after messages (Ok done) h = all_noted before after messages h
first_said before after messages (Err (drain.Undelivered n r)) h = all_noted before after messages h
first_said before after messages (Err (drain.Contradiction evidence)) h = last_missing before after messages h
first_said before after messages (Err (drain.Store fault)) h = last_missing before after messages h
first_said before after messages (Err drain.NoMemory) (inl h) = all_noted before after messages h
first_said before after messages (Err drain.NoMemory) (inr h) = last_missing before after messages h
