-- What a sale makes of a chain, and what its ticket shows.
use Rattle.std.specs.Prelude.{◌≡◌, ◌++◌, ℕ, List, Bool, IsTrue, Option, Some}
use Rattle.record_fields.specs.declared.versions.Version.{Version}
use Rattle.huella.specs.Texts.{huella_text}
use Rattle.ports.specs.Readings.{IsTold}
use Rattle.record_codec.specs.declared.entry.Entry.{Entry}
use Rattle.record_fields.specs.declared.records.Alta.{Alta}
use Rattle.record_fields.specs.declared.records.Record.TheVariants as body
use Rattle.record_fields.specs.declared.records.Sealed.{Sealed}
use Rattle.recovery.specs.Opening.{IsFound}
use Rattle.shop_core.specs.Answer.Plans.{answer, kept_row}
use Rattle.shop_core.specs.Answer.Requests.{Asked}
use Rattle.shop_core.specs.History.{Row, sealed_at}
use Rattle.shop_core.specs.Answer.Replies.{Tells}
use Rattle.shop_core.specs.declared.answer.Reply.{Reply}
use Rattle.library_examples.specs.declared.taking.Ticket.{Ticket}
use Rattle.verify_link.specs.Parts.{link_text, parts_of}
use Rattle.verify_link.specs.declared.parts.Host.TheVariants.{Real}

-- The ask was answered at what the file stands for and at the clock's next reading, and the chain is that history with what the
-- answer adds: the record that was made, or nothing.
pub record Answers (tells : Bool) (issuer file : List ℕ) (coming : ℕ → Option ℕ) (ask : Asked) (chain : List Entry) : Type 0 where
  pub version : Version
  pub history : List Entry
  pub found : IsTrue tells → IsFound version issuer history file
  pub seconds : ℕ
  pub reading : IsTold (coming 0) seconds
  pub reply : Reply
  pub gained : List Entry
  pub told : Tells history (answer version issuer history ask seconds) reply gained
  pub chain_is : chain ≡ history ++ gained

-- the Huella and the link of this record, an alta
pub record Shows (sealed : Sealed) (ticket : Ticket) : Type 0 where
  pub alta : Alta
  pub body_is : sealed.body ≡ body.Alta alta
  pub huella : ticket.huella ≡ huella_text sealed.huella
  pub link : ticket.link ≡ link_text (parts_of alta Real)

-- those of the record at this place
pub record IsTicketAt (entries : List Entry) (place : ℕ) (ticket : Ticket) : Type 0 where
  pub sealed : Sealed
  pub at : sealed_at entries place ≡ Some sealed
  pub shows : Shows sealed ticket

-- those of the record that stands under this ask's till and serial
pub record IsTicketOf (entries : List Entry) (ask : Asked) (ticket : Ticket) : Type 0 where
  pub place : ℕ
  pub row : Row
  pub stands : kept_row entries ask.till ask.serial ≡ Some (place, row)
  pub shows : Shows row.sealed ticket
