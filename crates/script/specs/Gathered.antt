-- What is gathered of the fields past the kind of an invoice.
use Rattle.std.specs.Prelude.{◌≡◌, List, map, filter_map, [], ◌∷◌, not, Result, Ok, Err}
use Rattle.invoice_kinds.specs.declared.kind.Kind.{Kind}
use Rattle.ports.specs.declared.faults.NoMemory.{NoMemory}
use Rattle.record_fields.specs.Picks.{first_of, when}
use Rattle.record_fields.specs.declared.drafts.Draft.{Draft}
use Rattle.shop_core.specs.declared.words.Word.{Word}
use Rattle.shop_core.specs.declared.words.Word.TheVariants.{Lines}
use Rattle.tax_lines.specs.declared.lines.TaxLine.{TaxLine}
use Rattle.script.specs.Fields.{unless_any}
use Rattle.script.specs.Options.{to_in, rect_in, ref_in, line_in, draft_of}
use Rattle.script.specs.Readings.{is_breakdown}
use Rattle.script.specs.declared.drafts.Gathered.{Gathered}
use Rattle.script.specs.declared.options.Item.{Item}

-- what these items are together
pub record IsGathered (items : List Item) (gathered : Gathered) : Type 0 where
  pub customer : gathered.customer ≡ first_of (map to_in items)
  pub rect : gathered.rect ≡ first_of (map rect_in items)
  pub refs : gathered.refs.items ≡ filter_map ref_in items
  pub lines : gathered.lines.items ≡ filter_map line_in items

-- they are together, unless there was no memory
abbrev pub Gathers : List Item → Gathered → Result (Unit {0}) NoMemory → Type 0
Gathers items gathered (Ok _) = IsGathered items gathered
Gathers items gathered (Err _) = Unit {0}

-- the lines of an invoice
abbrev pub breakdown_said : List TaxLine → Result (List TaxLine) Word
breakdown_said lines = unless_any (when (not (is_breakdown lines)) Lines ∷ []) (Ok lines)

-- the draft of these items
abbrev pub gathered_said : Kind → List Item → Result Draft Word
gathered_said kind items = let draft = draft_of kind items in unless_any (when (not (is_breakdown draft.lines)) Lines ∷ [])
    (Ok draft)
