-- What single fields are read as.
use Rattle.std.specs.Prelude.{ℕ, ◌-◌, List, [], ◌∷◌, length, map, Bool, not, ◌&&◌, ◌||◌, nat_le, ◌==◌, slice_index, codes}
use Rattle.std.specs.Prelude.{bytes_eq, is_some, position, Option, filter, flat_map, if◌then◌else◌}
use Rattle.std.specs.Char.{is_ascii_alphanumeric}
use Rattle.std.specs.List.{list_all, range_with_len}
use Rattle.agency_rules.specs.declared.plans.Fate.{Fate}
use Rattle.agency_rules.specs.declared.plans.Fate.TheVariants.{Lost, Taken, Stale, Again}
use Rattle.invoice_kinds.specs.Kinds.{kind_text, kinds}
use Rattle.invoice_kinds.specs.declared.kind.Kind.{Kind}
use Rattle.invoice_kinds.specs.declared.kind.RectKind.{RectKind}
use Rattle.invoice_kinds.specs.declared.kind.RectKind.TheVariants.{S, I}
use Rattle.parties.specs.Nif.{is_person, is_entity, is_controlled}
use Rattle.parties.specs.NameForm.{is_control}
use Rattle.record_fields.specs.Picks.{first_of, when}
use Rattle.stamps.specs.Text.{date_text_of}
use Rattle.tax_lines.specs.Breakdown.{is_past}
use Rattle.tax_lines.specs.Classes.{classes, class_rate, is_free}
use Rattle.tax_lines.specs.Keys.{Key, taxes, has_class, key_text}
use Rattle.tax_lines.specs.declared.breakdown.TheConstants.{MAX_LINES}
use Rattle.tax_lines.specs.declared.classes.Class.{Class}
use Rattle.tax_lines.specs.declared.lines.TaxLine.{TaxLine}
use Rattle.tax_lines.specs.declared.taxes.Tax.{Tax}

-- the first of all whose text this is
abbrev pub named : {A : Type 0} → (A → List ℕ) → List A → List ℕ → Option A
named text_of all text = first_of (map (λ x. when (bytes_eq text (text_of x)) x) all)

-- the kind of an invoice with this code
unfoldable pub kind_of : List ℕ → Option Kind
kind_of text = named kind_text kinds text

-- the rates that a line may name
unfoldable pub free_rates : List ℕ
free_rates = range_with_len 0 2501

-- the rates of a class: its own, or those that a line may name
abbrev pub rates_of : Class → List ℕ
rates_of class = if is_free class then free_rates else class_rate class ∷ []

-- the keys of a class under a tax
abbrev pub keys_of : Tax → Class → List Key
keys_of tax class = map (λ (rate : ℕ). record { tax = tax; class = class; rate = rate }) (rates_of class)

-- all keys that the table permits
unfoldable pub line_keys : List Key
line_keys = flat_map (λ (tax : Tax). flat_map (keys_of tax) (filter (has_class tax) classes)) taxes

-- the key of a line with this word
unfoldable pub class_of : List ℕ → Option Key
class_of text = named key_text line_keys text

abbrev pub rect_text : RectKind → List ℕ
rect_text S = codes "S"
rect_text I = codes "I"

-- how a rectifying invoice rectifies
abbrev pub rect_of : List ℕ → Option RectKind
rect_of text = named rect_text (S ∷ I ∷ []) text

-- the fate of a call that is one word
abbrev pub fate_of : List ℕ → Option Fate
fate_of text = first_of (
    when (bytes_eq text (codes "lost")) Lost ∷ when (bytes_eq text (codes "taken")) Taken
    ∷ when (bytes_eq text (codes "stale")) Stale ∷ when (bytes_eq text (codes "again")) Again ∷ [])

-- the first days from 01-01-1970 on
unfoldable pub first_days : ℕ → List ℕ
first_days n = range_with_len 0 n

-- the day that is written `DD-MM-YYYY`, of the 47,847 from 01-01-1970 to 31-12-2100
unfoldable pub day_of : List ℕ → Option ℕ
day_of text = named date_text_of (first_days 47_847) text

-- the key of a customer: 1 to 20 letters or digits of ASCII
abbrev pub is_key : List ℕ → Bool
is_key text = nat_le 1 (length text) && nat_le (length text) 20 && list_all is_ascii_alphanumeric text

-- a tax number
unfoldable pub is_nif : List ℕ → Bool
is_nif text = (length text == 9) && (is_person text || is_entity text) && is_controlled text

-- the name of a party: 1 to 120 bytes without control characters, and no blank at either end
unfoldable pub is_name : List ℕ → Bool
is_name text =
    nat_le 1 (length text) && nat_le (length text) 120 && not (is_some (position is_control text))
    && not ((slice_index text 0 == 32) || (slice_index text (length text - 1) == 32))

-- the lines of an invoice: one or more and within their limit, and no base past its limit
unfoldable pub is_breakdown : List TaxLine → Bool
is_breakdown lines = nat_le 1 (length lines) && nat_le (length lines) MAX_LINES && not (is_some (position is_past lines))
