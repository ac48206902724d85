-- What a question is answered at a history. The texts are this project's own.
use Rattle.std.specs.Prelude.{◌≡◌, ℕ, ℤ, List, length, Option, Some, None, option_and_then}
use Rattle.record_codec.specs.declared.entry.Entry.{Entry}
use Rattle.record_fields.specs.declared.lines.Line.{Line}
use Rattle.record_fields.specs.declared.records.Alta.{Alta}
use Rattle.record_fields.specs.declared.records.Record.{Record}
use Rattle.record_fields.specs.declared.records.Record.TheVariants as body
use Rattle.record_fields.specs.declared.records.Sealed.{Sealed}
use Rattle.report.specs.Listing.{record_line}
use Rattle.report.specs.Pieces.{chain_line}
use Rattle.report.specs.Questions.{last_text, no_record_text, no_serial_text, no_ticket_text, ticket_text, total_lines_text}
use Rattle.shop_core.specs.Answer.Plans.{kept}
use Rattle.shop_core.specs.declared.answer.receipts.Receipt.{Receipt}
use Rattle.shop_core.specs.History.{last_serial, line_at, noted, recs, sealed_at}
use Rattle.shop_core.specs.Standing.{last_alta}
use Rattle.tax_lines.specs.Keys.{Key}
use Rattle.tax_lines.specs.TotalLines.{AreLinesOf}
use Rattle.tax_lines.specs.declared.total_lines.TotalLines.{TotalLines}
use Rattle.verify_link.specs.Parts.{link_text, parts_of}
use Rattle.verify_link.specs.declared.parts.Host.{Host}
use Rattle.questions.specs.declared.questions.TillQuestion.{TillQuestion}
use Rattle.questions.specs.declared.questions.TillQuestion.TheVariants as question

-- what a ticket is printed of: an alta, its place and its Huella, and the agency's line for it
pub record Ticket : Type 0 where
  pub place : ℕ
  pub alta : Alta
  pub huella : List ℕ
  pub line : Option Line

-- that of a record at its place, where it is an alta
abbrev pub ticket_in : List Entry → ℕ → List ℕ → Record → Option Ticket
ticket_in entries place huella (body.Alta alta) =
    Some (record { place = place; alta = alta; huella = huella; line = line_at entries place })
ticket_in entries place huella (body.Anulacion anulacion) = None

-- the ticket of an invoice is that of its last alta
abbrev pub ticket_of : List Entry → List ℕ → Option Ticket
ticket_of entries num =
    option_and_then (λ (p : ℕ × Sealed). ticket_in entries p.0 p.1.huella p.1.body) (last_alta entries num)

abbrev pub ticket_answer : List ℕ → Host → Option Ticket → List ℕ
ticket_answer num host None = no_ticket_text num
ticket_answer num host (Some t) = ticket_text t.place t.alta t.huella (link_text (parts_of t.alta host)) t.line

-- the listing's line of the record at a place
abbrev pub record_of : List Entry → ℕ → Option Sealed → List ℕ
record_of entries place None = no_record_text place
record_of entries place (Some sealed) = record_line place sealed (line_at entries place)

abbrev pub record_answer : List Entry → ℕ → List ℕ
record_answer entries place = record_of entries place (sealed_at entries place)

-- that of the record whose receipt is kept for a till and serial
abbrev pub kept_answer : List Entry → ℕ → ℕ → Option Receipt → List ℕ
kept_answer entries till serial None = no_serial_text till serial
kept_answer entries till serial (Some receipt) = record_answer entries receipt.place

abbrev pub serial_answer : List Entry → ℕ → ℕ → List ℕ
serial_answer entries till serial = kept_answer entries till serial (kept entries till serial)

-- the lines of a key that have a total
abbrev pub AreLinesAnswer : Key → ℤ → List ℕ → Type 0
AreLinesAnswer key total text = (found : Option TotalLines) × AreLinesOf key total found × (text ≡ total_lines_text found)

-- the text answers the question at a history
abbrev pub IsAnswer : TillQuestion → List Entry → List ℕ → Type 0
IsAnswer (question.Ticket num host) entries text = text ≡ ticket_answer num host (ticket_of entries num)
IsAnswer (question.Record place) entries text = text ≡ record_answer entries place
IsAnswer (question.Serial till serial) entries text = text ≡ serial_answer entries till serial
IsAnswer (question.Last till) entries text = text ≡ last_text till (last_serial entries till)
IsAnswer (question.Lines key total) entries text = AreLinesAnswer key total text
IsAnswer question.Chain entries text = text ≡ chain_line (length (recs entries)) (length (noted entries))
