-- What a scanned link is answered. How an invoice stands is told by the definitions of shop_core.
use Rattle.std.specs.Prelude.{◌≡◌, ◌≢◌, ℕ, ℤ, List, [], ◌∷◌, Option, Some, option_map, Bool, false, not, ◌&&◌}
use Rattle.std.specs.Prelude.{if◌then◌else◌, bytes_eq, IsUtf8, Ok, Err}
use Rattle.std.specs.Ordering.{int_eq}
use Rattle.tax_lines.specs.Totals.{total}
use Rattle.record_fields.specs.Picks.{first_of, when}
use Rattle.record_fields.specs.Records.{is_alta}
use Rattle.record_fields.specs.declared.records.Record.{Record}
use Rattle.record_fields.specs.declared.records.Record.TheVariants as record_of
use Rattle.record_fields.specs.declared.records.Sealed.{Sealed}
use Rattle.record_codec.specs.declared.entry.Entry.{Entry}
use Rattle.shop_core.specs.Standing.{last_where, has_num, is_refused, is_known_on, is_held, cancelled_at}
use Rattle.verify_link.specs.Reading.{IsLinkReading}
use Rattle.verify_link.specs.declared.parts.LinkParts.{LinkParts}
use Rattle.verify_link.specs.declared.parts.LinkFault.{LinkFault}
use Rattle.verify_link.specs.declared.parts.LinkFault.TheVariants.{NoMemory}
use Rattle.link_check.specs.declared.checked.Checked.{Checked}
use Rattle.link_check.specs.declared.checked.Checked.TheVariants.{Found, Differs, Cancelled, Refused, Unknown, OtherIssuer}
use Rattle.link_check.specs.declared.checked.Checked.TheVariants.{BadLink, NotText}

-- the chain that a link is held against: an issuer's history, or none where the file isn't begun
pub data Chain : Type 0 where
  not_begun : Chain
  begun : (issuer : List ℕ) (entries : List Entry) → Chain

-- the last accepted alta of an invoice, with its place
abbrev pub last_accepted_alta : List Entry → List ℕ → Option (ℕ × Sealed)
last_accepted_alta entries num =
    last_where (λ place s. has_num num s && not (is_refused entries place) && is_alta s.body) entries

-- an alta of this total
abbrev pub has_total : ℤ → Record → Bool
has_total cents (record_of.Alta a) = int_eq (total a.draft.lines) cents
has_total cents (record_of.Anulacion a) = false

-- the link's total compared with that of the invoice's alta
abbrev pub compared : ℤ → ℕ × Sealed → Checked
compared cents p = if has_total cents p.1.body then Found p.0 else Differs p.0

-- what the link of these parts is answered: the first that there is. The host plays no part in it.
abbrev pub answer_to : Chain → LinkParts → Option Checked
answer_to not_begun p = Some Unknown
answer_to (begun issuer entries) p = first_of (
    when (not (bytes_eq p.nif issuer)) OtherIssuer
    ∷ when (not (is_known_on entries p.num p.day)) Unknown
    ∷ option_map Cancelled (cancelled_at entries p.num)
    ∷ when (not (is_held entries p.num)) Refused
    ∷ option_map (compared p.total) (last_accepted_alta entries p.num)
    ∷ [])

-- what a line is answered
pub data IsChecked (chain : Chain) (line : List ℕ) : Checked → Type 0 where
  no_text : ¬ (IsUtf8 line) → IsChecked chain line NotText
  no_link : (fault : LinkFault) → IsUtf8 line → IsLinkReading line (Err fault) → fault ≢ NoMemory →
      IsChecked chain line (BadLink fault)
  link : (parts : LinkParts) (answer : Checked) → IsUtf8 line → IsLinkReading line (Ok parts) →
      answer_to chain parts ≡ Some answer → IsChecked chain line answer

-- the answers are those of the lines, one each, in their order
abbrev pub AreChecked : Chain → List (List ℕ) → List Checked → Type 0
AreChecked chain [] [] = Unit {0}
AreChecked chain (line ∷ lines) (answer ∷ answers) = IsChecked chain line answer × AreChecked chain lines answers
AreChecked chain lines answers = ⊥

-- lines have one list of answers
abbrev pub AnswersAreOne : Type 0
AnswersAreOne = (chain : Chain) (lines : List (List ℕ)) (one other : List Checked) → AreChecked chain lines one →
    AreChecked chain lines other → one ≡ other
