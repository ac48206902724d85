-- What is told of a turn is the line of its message.
use Rattle.std.proofs.Common.{◌≡◌, inl, inr, ℕ, List, length, refl, sym, ◌∙◌, ap, subst, Option, Some, Result, Ok, Err, Bool}
use Rattle.std.proofs.Common.{IsTrue}
use Rattle.journal.specs.declared.faults.StoreFault.TheVariants as store
use Rattle.shop_core.specs.declared.waiting.Waiting.{Waiting}
use Rattle.batches.specs.Batches.{huellas_of, named_of}
use Rattle.agency_port.specs.Reply.{Replied}
use Rattle.agency_port.specs.Ledger.{Ledger}
use Rattle.agency_port.specs.declared.answers.Seen.{Seen}
use Rattle.agency_port.specs.declared.answers.AgencyFault.TheVariants as agency
use Rattle.agency_port.specs.declared.messages.Message.TheVariants.{Submitted, Consulted}
use Rattle.agency_port.specs.declared.turns.Told.{Told}
use Rattle.agency_port.specs.declared.turns.Told.TheVariants as told
use Rattle.once_world.specs.Outbox.{Sight}
use Rattle.sender.specs.declared.answers.Turn.{Turn}
use Rattle.sender.specs.declared.answers.Turn.TheVariants.{Idle, WaitUntil, Noted, Cleared, Doubt}
use Rattle.sender.specs.declared.answers.SendFault.{SendFault}
use Rattle.sender.specs.declared.answers.SendFault.TheVariants.{Contradiction, Store, NoMemory}
use Rattle.sender.specs.Sending.{Sending}
use Rattle.sender.specs.Turning.{Deed, Nothing, Asked, Handed, AgencyKind, AgencyState, Dealt, RestEnds, SeenEnds, ReplyEnds, Ends, Turned, turn_call}
use Rattle.sender.specs.Turning.{first_place}
use Rattle.sender.specs.Draining.{told_in}
use Rattle.sender.specs.Lines.{ReplyLineOf, SeenLineOf, IsQuiet, TellsOf}
use Rattle.sender.proofs.Ending.{as_many}

rest_quiet : (old : Sending) (now : ℕ) (shown : Waiting) (result : Result Turn SendFault) → RestEnds old now shown result →
    IsQuiet (told_in result)
rest_quiet old now shown (Ok (Idle records)) ends = tt
rest_quiet old now shown (Ok (WaitUntil at)) ends = tt
rest_quiet old now shown (Err NoMemory) ends = tt
rest_quiet old now shown _ ends = absurd ends

-- the line of an answered consultation
pub record LineFor (P : Told → Type 0) (result : Result Turn SendFault) : Type 0 where
  pub line : Told
  pub told : told_in result ≡ Some line
  pub is : P line

seen_line : (said : Option Replied) (shown : Waiting) (seen : List Seen) (look after : Sight) (result : Result Turn SendFault)
    (doubt : Bool) → SeenEnds said shown seen look after result doubt → LineFor (SeenLineOf (huellas_of shown.list) seen) result
seen_line said shown seen look after (Ok (Noted n)) doubt ends = record {
  line = told.Noted n;
  told = refl;
  is = (ends.0.lines, ends.0.are.0, ends.0.count_is);
}
seen_line said shown seen look after (Ok Cleared) doubt ends = record { line = told.Cleared; told = refl; is = ends.0.0 }
seen_line said shown seen look after (Err (Contradiction evidence)) doubt ends =
    record {
      line = told.Contradiction;
      told = refl;
      is = (said, first_place shown, evidence, ends.0);
    }
seen_line said shown seen look after (Err (Store store.DiskFault)) doubt ends = record {
  line = told.Disk;
  told = refl;
  is = (ends.0.1.lines, ends.0.1.are.0);
}
seen_line said shown seen look after (Err (Store (store.Stopped faults))) doubt ends = record {
  line = told.Stopped faults;
  told = refl;
  is = (ends.0.1.lines, ends.0.1.are.0);
}
seen_line said shown seen look after (Err (Store store.NoMemory)) doubt ends = record { line = told.Memory; told = refl; is = tt }
seen_line said shown seen look after (Err NoMemory) doubt ends = record { line = told.Memory; told = refl; is = tt }
seen_line said shown seen look after _ doubt ends = absurd ends

reply_line : (shown : Waiting) (reply : Replied) (look after : Sight) (result : Result Turn SendFault) (doubt : Bool) →
    reply.huellas ≡ huellas_of shown.list → length reply.lines ≡ length reply.huellas → ReplyEnds shown reply look after result
    doubt →
    LineFor (ReplyLineOf shown.list reply) result
reply_line shown reply look after (Ok (Noted n)) doubt names matched ends =
    record {
      line = told.Noted n;
      told = refl;
      is = (
        (names, (ends.0.lines, ends.0.are)),
        ends.0.count_is ∙ as_many reply shown.list ends.0.lines names matched ends.0.are,
      );
    }
reply_line shown reply look after (Ok (Doubt place)) doubt names matched ends = record {
  line = told.Doubt place;
  told = refl;
  is = (names, (ends.0.index, ends.0.again));
}
reply_line shown reply look after (Err (Store store.DiskFault)) doubt names matched ends = record {
  line = told.Disk;
  told = refl;
  is = (names, (ends.0.1.lines, ends.0.1.are));
}
reply_line shown reply look after (Err (Store (store.Stopped faults))) doubt names matched ends =
    record {
      line = told.Stopped faults;
      told = refl;
      is = (names, (ends.0.1.lines, ends.0.1.are));
    }
reply_line shown reply look after (Err (Store store.NoMemory)) doubt names matched ends = record {
  line = told.Memory;
  told = refl;
  is = tt;
}
reply_line shown reply look after (Err NoMemory) doubt names matched ends = record { line = told.Memory; told = refl; is = tt }
reply_line shown reply look after _ doubt names matched ends = absurd ends

deed_tells : (kind : AgencyKind) (agency_state agency_state_then : AgencyState) (look after : Sight) (shown : Waiting) (old new : Sending) (now : ℕ)
    (result : Result Turn SendFault) (deed : Deed) → IsTrue kind.tells → Dealt kind agency_state agency_state_then shown deed →
    Ends old now shown look after deed result new →
    TellsOf agency_state.ledger.messages agency_state_then.ledger.messages result
deed_tells kind agency_state agency_state_then look after shown old new now result Nothing tells dealt ends =
    inl (ap (λ (d : AgencyState). d.ledger.messages) dealt, rest_quiet old now shown result ends.0)
deed_tells kind agency_state agency_state_then look after shown old new now result (Asked (Ok seen)) tells dealt ends =
    let l = seen_line old.said shown seen look after result new.doubt ends.2.3 in
    inr (record {
      message = Consulted (named_of shown.list) (Ok seen);
      line = l.line;
      said = (dealt.1 tells).messages;
      told = l.told;
      of_it = l.is;
    })
deed_tells kind agency_state agency_state_then look after shown old new now result (Asked (Err agency.Failed)) tells dealt ends =
    inr (record {
      message = Consulted (named_of shown.list) (Err agency.Failed);
      line = told.Link;
      said = (dealt.1 tells).messages;
      told = ap told_in ends.2.0;
      of_it = refl;
    })
deed_tells kind agency_state agency_state_then look after shown old new now result (Asked (Err agency.NoMemory)) tells dealt ends =
    inl (ap (λ (l : Ledger). l.messages) (dealt.1 tells), subst (λ (o : Option Told). IsQuiet o) (sym (ap told_in ends.2.0)) tt)
deed_tells kind agency_state agency_state_then look after shown old new now result (Handed (Ok reply)) tells dealt ends = elim ends.3 [
  | inl r ↦ (let l = reply_line shown reply look after result new.doubt r.names r.matched r.ends in
      inr (record {
        message = Submitted shown.list (Ok reply);
        line = l.line;
        said = (dealt.2 tells).messages;
        told = l.told;
        of_it = l.is;
      }))
  | inr r ↦ inr (record {
    message = Submitted shown.list (Ok reply);
    line = told.Link;
    said = (dealt.2 tells).messages;
    told = ap told_in r.result_is;
    of_it = r.names_not;
  })
]
deed_tells kind agency_state agency_state_then look after shown old new now result (Handed (Err agency.Failed)) tells dealt ends =
    inr (record {
      message = Submitted shown.list (Err agency.Failed);
      line = told.Link;
      said = (dealt.2 tells).messages;
      told = ap told_in ends.3.0;
      of_it = refl;
    })
deed_tells kind agency_state agency_state_then look after shown old new now result (Handed (Err agency.NoMemory)) tells dealt ends =
    elim (dealt.2 tells) [
      | inl s ↦ inl (s.messages, subst (λ (o : Option Told). IsQuiet o) (sym (ap told_in ends.3.0)) tt)
      | inr s ↦ inr (record {
        message = Submitted shown.list (Err agency.NoMemory);
        line = told.Memory;
        said = s.messages;
        told = ap told_in ends.3.0;
        of_it = refl;
      })
    ]

pub turn_tells : (kind : AgencyKind) (agency_state agency_state_then : AgencyState) (before after : Sight) (old new : Sending) (now : ℕ)
    (result : Result Turn SendFault) → Turned (turn_call kind agency_state agency_state_then before after old new now result) → IsTrue kind.tells →
    TellsOf agency_state.ledger.messages agency_state_then.ledger.messages result
turn_tells kind agency_state agency_state_then before after old new now result t tells = deed_tells kind agency_state agency_state_then t.look after t.shown old
    new now result t.deals.deed tells t.deals.dealt t.deals.ends
