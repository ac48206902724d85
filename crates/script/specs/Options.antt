-- The fields past the kind of an invoice: its options `to=KEY`, `rect=S` or `rect=I` and `ref=NUM@DD-MM-YYYY`, and then its
-- lines `CLASS:BASE`.
use Rattle.std.specs.Prelude.{ℕ, ℤ, List, [], ◌∷◌, ◌++◌, ◌==◌, map, filter_map, codes, bytes_eq, Bool, not, ◌&&◌, if◌then◌else◌}
use Rattle.std.specs.Prelude.{Option, Some, None, option_map, Result, Ok, Err}
use Rattle.std.specs.List.{list_any, before_first, after_first}
use Rattle.std.specs.Option.{ok_or}
use Rattle.std.specs.Result.{result_ok, result_err}
use Rattle.invoice_kinds.specs.declared.kind.Kind.{Kind}
use Rattle.invoice_kinds.specs.declared.kind.RectKind.{RectKind}
use Rattle.parties.specs.declared.name.Party.{Party}
use Rattle.record_fields.specs.Picks.{first_of, when}
use Rattle.record_fields.specs.declared.drafts.Draft.{Draft}
use Rattle.series.specs.Numbers.{is_num_serie}
use Rattle.series.specs.declared.numbers.InvoiceId.{InvoiceId}
use Rattle.shop_core.specs.declared.words.Word.{Word}
use Rattle.shop_core.specs.declared.words.Word.TheVariants as word
use Rattle.tax_lines.specs.Keys.{Key}
use Rattle.tax_lines.specs.declared.lines.TaxLine.{TaxLine}
use Rattle.script.specs.Cuts.{has, cut_at_first, cut_at_last}
use Rattle.script.specs.Fields.{and_then, unless_any, such}
use Rattle.script.specs.Numbers.{cents_of}
use Rattle.script.specs.Readings.{rect_of, day_of, class_of, is_breakdown}
use Rattle.script.specs.declared.options.Item.{Item}
use Rattle.script.specs.declared.options.Item.TheVariants.{To, Rect, Ref, Line}
use Rattle.script.specs.declared.options.FieldsSeen.{FieldsSeen}

-- a field that holds `=` is an option
abbrev pub is_option : List ℕ → Bool
is_option field = has 61 field

-- an option of this name
abbrev pub is_named : List ℕ → List ℕ → Bool
is_named name field = is_option field && bytes_eq (before_first (λ b. b == 61) field) name

-- what stands among these fields
abbrev pub seen_in : List (List ℕ) → FieldsSeen
seen_in fields = record {
  to = list_any (is_named (codes "to")) fields;
  rect = list_any (is_named (codes "rect")) fields;
  line = list_any (λ field. not (is_option field)) fields;
}

-- KEY of a customer above, once
abbrev pub to_said : (List ℕ → Option Party) → FieldsSeen → List ℕ → Result Item Word
to_said party_of seen value = unless_any (when seen.to word.Option ∷ []) (ok_or (option_map To (party_of value)) word.Customer)

-- S or I, once
abbrev pub rect_said : FieldsSeen → List ℕ → Result Item Word
rect_said seen value = unless_any (when seen.rect word.Option ∷ []) (ok_or (option_map Rect (rect_of value)) word.Option)

-- NUM@DD-MM-YYYY, cut at its last `@`
abbrev pub ref_said : List ℕ → Result Item Word
ref_said value =
    and_then (ok_or (cut_at_last 64 value) word.Option) (λ (cut : List ℕ × List ℕ).
    and_then (ok_or (such is_num_serie cut.0) word.Num) (λ (num : List ℕ).
    and_then (ok_or (day_of cut.1) word.Date) (λ (day : ℕ).
    Ok (Ref (record { num = num; day = day })))))

-- an option of this name and value; none stands after a line
abbrev pub option_said : (List ℕ → Option Party) → FieldsSeen → List ℕ → List ℕ → Result Item Word
option_said party_of seen name value =
    if seen.line then Err word.Option
    else if bytes_eq name (codes "to") then to_said party_of seen value
    else if bytes_eq name (codes "rect") then rect_said seen value
    else if bytes_eq name (codes "ref") then ref_said value
    else Err word.Option

-- CLASS:BASE, cut at its first `:`, the class before the base
abbrev pub tax_line_said : List ℕ → Result Item Word
tax_line_said field =
    and_then (ok_or (cut_at_first 58 field) word.Class) (λ (cut : List ℕ × List ℕ).
    and_then (ok_or (class_of cut.0) word.Class) (λ (key : Key).
    and_then (ok_or (cents_of cut.1) word.Number) (λ (base : ℤ).
    Ok (Line (record { key = key; base = base })))))

-- what a field says after those in which this was seen
abbrev pub item_said : (List ℕ → Option Party) → FieldsSeen → List ℕ → Result Item Word
item_said party_of seen field =
    if is_option field then option_said party_of seen (before_first (λ b. b == 61) field) (after_first (λ b. b == 61) field)
    else tax_line_said field

-- what each field says after those before it
abbrev pub each_said : (List ℕ → Option Party) → List (List ℕ) → List (List ℕ) → List (Result Item Word)
each_said party_of before [] = []
each_said party_of before (field ∷ fields) =
    item_said party_of (seen_in before) field ∷ each_said party_of (before ++ field ∷ []) fields

abbrev pub to_in : Item → Option Party
to_in (To party) = Some party
to_in other = None

abbrev pub rect_in : Item → Option RectKind
rect_in (Rect rect) = Some rect
rect_in other = None

abbrev pub ref_in : Item → Option InvoiceId
ref_in (Ref id) = Some id
ref_in other = None

abbrev pub line_in : Item → Option TaxLine
line_in (Line line) = Some line
line_in other = None

-- the draft of an invoice of this kind
abbrev pub draft_of : Kind → List Item → Draft
draft_of kind items = record {
  kind = kind;
  rect = first_of (map rect_in items);
  customer = first_of (map to_in items);
  refs = filter_map ref_in items;
  lines = filter_map line_in items;
}

-- the draft that the fields make, else the first of their words, and then `Lines`
abbrev pub draft_said : (List ℕ → Option Party) → Kind → List (List ℕ) → Result Draft Word
draft_said party_of kind fields =
    let said = each_said party_of [] fields in
    let draft = draft_of kind (filter_map result_ok said) in
    unless_any (map result_err said ++ when (not (is_breakdown draft.lines)) word.Lines ∷ []) (Ok draft)
