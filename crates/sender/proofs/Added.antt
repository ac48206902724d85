-- What a turn adds after its look.
use Rattle.std.proofs.Common.{◌≡◌, inl, inr, ℕ, List, [], refl, sym, ◌∙◌, ap, append-nil, map, Bool, Result, Ok, Err, Option}
use Rattle.record_fields.specs.declared.lines.Line.{Line}
use Rattle.journal.specs.declared.faults.StoreFault.{StoreFault}
use Rattle.journal.specs.declared.faults.StoreFault.TheVariants as store
use Rattle.shop_core.specs.declared.items.Item.{Item}
use Rattle.shop_core.specs.declared.items.Item.TheVariants as recorded
use Rattle.shop_core.specs.declared.waiting.Waiting.{Waiting}
use Rattle.batches.specs.Batches.{huellas_of}
use Rattle.agency_port.specs.Reply.{Replied}
use Rattle.agency_port.specs.declared.answers.Seen.{Seen}
use Rattle.agency_port.specs.declared.answers.ReplyLine.TheVariants.{First}
use Rattle.shop_core.specs.Prefix.{IsPrefix}
use Rattle.once_world.specs.Outbox.{Sight, Grows, AddsOwn, StopsHere, NotedBy, notes_behind}
use Rattle.sender.specs.declared.answers.Turn.{Turn}
use Rattle.sender.specs.declared.answers.Turn.TheVariants.{Noted, Cleared, Doubt}
use Rattle.sender.specs.declared.answers.SendFault.{SendFault}
use Rattle.sender.specs.declared.answers.SendFault.TheVariants.{Contradiction, Store, NoMemory}
use Rattle.sender.specs.Sending.{Sending}
use Rattle.sender.specs.Evidence.{Shows}
use Rattle.sender.specs.Turning.{Deed, Nothing, Asked, Handed, NotesEnd, SeenEnds, ReplyEnds, Ends, first_place}

-- the shop is the same
abbrev pub IsSameShop : Sight → Sight → Type 0
IsSameShop before after = (after.issuer ≡ before.issuer) × (after.version ≡ before.version)

-- nothing, notes, or the stop over them
pub data Added (look after : Sight) (result : Result Turn SendFault) : Type 0 where
  quiet : IsSameShop look after → IsPrefix look.items after.items → after.own ≡ look.own → Added look after result
  notes : IsSameShop look after → (lines : List Line) → AddsOwn look after (λ (items : List Item). recorded.Entry
      (notes_behind items lines)) → Added look after result
  stops : IsSameShop look after → (lines : List Line) → StopsHere look after lines → result ≡ Err (Store store.DiskFault) →
      Added look after result

same_added : (look after : Sight) (result : Result Turn SendFault) → after ≡ look → Added look after result
same_added look after result e = quiet (ap (λ (s : Sight). s.issuer) e, ap (λ (s : Sight). s.version) e) (record {
  rest = [];
  is = ap (λ (s : Sight). s.items) e ∙
      sym (append-nil look.items);
}) (ap (λ (s : Sight). s.own) e)

fault_added : (look after : Sight) (lines : List Line) (fault : StoreFault) → Grows look after →
    NotedBy look after lines (Err fault) → Added look after (Err (Store fault))
fault_added look after lines store.DiskFault g a = stops (g.issuer, g.version) lines a refl
fault_added look after lines (store.Stopped faults) g a = quiet (g.issuer, g.version) g.items a.own
fault_added look after lines store.NoMemory g a = quiet (g.issuer, g.version) g.items a

notes_added : (P : List Line → Type 0) (look after : Sight) (result : Result Turn SendFault) (doubt : Bool) →
    NotesEnd P look after result doubt → Added look after result
notes_added P look after (Ok (Noted n)) doubt ends = notes (ends.0.grows.issuer, ends.0.grows.version) ends.0.lines ends.0.noted
notes_added P look after (Err (Store fault)) doubt ends =
    fault_added look after ends.0.1.lines fault ends.0.1.grows ends.0.1.noted
notes_added P look after (Err NoMemory) doubt ends = same_added look after (Err NoMemory) ends.0
notes_added P look after _ doubt ends = absurd ends

seen_added : (said : Option Replied) (shown : Waiting) (seen : List Seen) (look after : Sight) (result : Result Turn SendFault)
    (doubt : Bool) → SeenEnds said shown seen look after result doubt → Added look after result
seen_added said shown seen look after (Ok Cleared) doubt ends = same_added look after (Ok Cleared) ends.1
seen_added said shown seen look after (Err (Contradiction evidence)) doubt ends = same_added look after _ ends.1
seen_added said shown seen look after result doubt ends =
    notes_added (λ (lines : List Line). Shows said (first_place shown) (huellas_of shown.list) seen (Ok lines)) look after result
    doubt ends

reply_added : (shown : Waiting) (reply : Replied) (look after : Sight) (result : Result Turn SendFault) (doubt : Bool) →
    ReplyEnds shown reply look after result doubt → Added look after result
reply_added shown reply look after (Ok (Doubt place)) doubt ends = same_added look after (Ok (Doubt place)) ends.1
reply_added shown reply look after result doubt ends =
    notes_added (λ (lines : List Line). reply.lines ≡ map First lines) look after result doubt ends

pub ends_added : (old : Sending) (now : ℕ) (shown : Waiting) (look after : Sight) (deed : Deed) (result : Result Turn SendFault)
    (new : Sending) → Ends old now shown look after deed result new → Added look after result
ends_added old now shown look after Nothing result new ends = same_added look after result ends.2
ends_added old now shown look after (Asked (Ok seen)) result new ends = seen_added old.said shown seen look after result new.doubt
    ends.2.3
ends_added old now shown look after (Asked (Err why)) result new ends = same_added look after result ends.2.2
ends_added old now shown look after (Handed (Ok reply)) result new ends = elim ends.3 [
  | inl r ↦ reply_added shown reply look after result new.doubt r.ends
  | inr r ↦ same_added look after result r.after_is
]
ends_added old now shown look after (Handed (Err why)) result new ends = same_added look after result ends.3.2
