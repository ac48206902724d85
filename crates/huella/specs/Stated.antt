-- What a record states in its field text, and when two records state the same: the tax agency's hash specification, parts on
-- alta and on anulación records.
use Rattle.std.specs.Prelude.{◌≡◌, ℕ, List, Option, None, Some}
use Rattle.parties.specs.Nif.{IsNif}
use Rattle.tax_lines.specs.Totals.{cuota, total}
use Rattle.record_fields.specs.Records.{issuer_of, id_of, link_of, moment_of}
use Rattle.record_fields.specs.Valid.{IsHuella, IsId, IsMoment}
use Rattle.record_fields.specs.declared.records.Alta.{Alta}
use Rattle.record_fields.specs.declared.records.Anulacion.{Anulacion}
use Rattle.record_fields.specs.declared.records.Link.{Link}
use Rattle.record_fields.specs.declared.records.Link.TheVariants.{First, After}
use Rattle.record_fields.specs.declared.records.Record.{Record}
use Rattle.record_fields.specs.declared.records.Record.TheVariants as record_of

-- the link holds a Huella, where it holds one at all
abbrev pub HoldsHuella : Link → Type 0
HoldsHuella First = Unit {0}
HoldsHuella (After id huella) = IsHuella huella

-- what every record keeps: its values are of their forms
pub record IsStated (body : Record) : Type 0 where
  pub issuer : IsNif (issuer_of body)
  pub id : IsId (id_of body)
  pub link : HoldsHuella (link_of body)
  pub moment : IsMoment (moment_of body)

-- the Huella of the record before, None in a chain's first record
abbrev pub huella_before : Link → Option (List ℕ)
huella_before First = None
huella_before (After id huella) = Some huella

-- two altas agree in all that their texts state
pub record SameAlta (a b : Alta) : Type 0 where
  pub issuer : a.issuer ≡ b.issuer
  pub num : a.id.num ≡ b.id.num
  pub day : a.id.day ≡ b.id.day
  pub kind : a.draft.kind ≡ b.draft.kind
  pub cuota : cuota a.draft.lines ≡ cuota b.draft.lines
  pub total : total a.draft.lines ≡ total b.draft.lines
  pub before : huella_before a.link ≡ huella_before b.link
  pub moment : a.moment ≡ b.moment

-- and two anulaciones
pub record SameAnulacion (a b : Anulacion) : Type 0 where
  pub issuer : a.issuer ≡ b.issuer
  pub num : a.id.num ≡ b.id.num
  pub day : a.id.day ≡ b.id.day
  pub before : huella_before a.link ≡ huella_before b.link
  pub moment : a.moment ≡ b.moment

-- the records are of one sort, and agree in all that their texts state
abbrev pub SameStated : Record → Record → Type 0
SameStated (record_of.Alta a) (record_of.Alta b) = SameAlta a b
SameStated (record_of.Anulacion a) (record_of.Anulacion b) = SameAnulacion a b
SameStated other another = ⊥
