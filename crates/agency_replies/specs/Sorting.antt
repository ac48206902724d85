-- What a reply is to its batch.
use Rattle.std.specs.Prelude.{◌≡◌, ℕ, List, ◌∷◌, ◌++◌, length, map}
use Rattle.record_fields.specs.declared.records.Sealed.{Sealed}
use Rattle.record_fields.specs.declared.lines.Line.{Line}
use Rattle.agency_port.specs.Reply.{Replied}
use Rattle.agency_port.specs.Ledger.{Names}
use Rattle.agency_port.specs.declared.answers.State3.{State3}
use Rattle.agency_port.specs.declared.answers.ReplyLine.{ReplyLine}
use Rattle.agency_port.specs.declared.answers.ReplyLine.TheVariants.{First, Duplicado}
use Rattle.agency_replies.specs.declared.sorting.Sorted.{Sorted}
use Rattle.agency_replies.specs.declared.sorting.Sorted.TheVariants.{Stale, Doubt, All}

-- the first Duplicado stands at this index, from 0
pub record IsFirstAgain (lines : List ReplyLine) (index : ℕ) : Type 0 where
  pub before : List Line
  pub state : State3
  pub after : List ReplyLine
  pub is : lines ≡ map First before ++ Duplicado state ∷ after
  pub place : index ≡ length before

-- the cases exclude each other, so this says exactly where each one comes
abbrev pub SortedAs : List Sealed → Replied → Sorted → Type 0
SortedAs batch reply Stale = Names reply batch → ⊥
SortedAs batch reply (Doubt index) = Names reply batch × IsFirstAgain reply.lines index
SortedAs batch reply (All first) = Names reply batch × (reply.lines ≡ map First first)
