-- The field text of a record and its Huella: the tax agency's hash specification, parts on alta and on anulación records.
use Rattle.std.specs.Prelude.{ℕ, List, [], ◌++◌, codes, Option, None, Some}
use Rattle.hex.specs.Hex.{encode_upper}
use Rattle.sha2.specs.Sha256.{sha256}
use Rattle.amounts.specs.Text.{amount_text}
use Rattle.tax_lines.specs.Totals.{cuota, total}
use Rattle.invoice_kinds.specs.Kinds.{kind_text}
use Rattle.stamps.specs.Text.{date_text_of}
use Rattle.stamps.specs.Stamp.{moment_text_of}
use Rattle.record_fields.specs.declared.records.Alta.{Alta}
use Rattle.record_fields.specs.declared.records.Anulacion.{Anulacion}
use Rattle.record_fields.specs.declared.records.Record.{Record}
use Rattle.record_fields.specs.declared.records.Record.TheVariants as record_of
use Rattle.record_fields.specs.declared.records.Sealed.{Sealed}
use Rattle.record_fields.specs.declared.records.Link.{Link}
use Rattle.record_fields.specs.declared.records.Link.TheVariants.{First, After}

-- 64 capital hexadecimal digits
abbrev pub huella_text : List ℕ → List ℕ
huella_text huella = encode_upper huella

-- the Huella of the record before, nothing in the first record
abbrev pub previous_text : Link → List ℕ
previous_text First = []
previous_text (After id huella) = huella_text huella

-- the same where the Huella itself is handed in
abbrev pub previous_digits : Option (List ℕ) → List ℕ
previous_digits None = []
previous_digits (Some huella) = huella_text huella

-- name=value parts joined by &
unfoldable pub joined_fields : (issuer num date kind cuota_total importe previous moment : List ℕ) → List ℕ
joined_fields issuer num date kind cuota_total importe previous moment =
    codes "IDEmisorFactura=" ++ issuer ++ codes "&NumSerieFactura=" ++ num ++ codes "&FechaExpedicionFactura=" ++ date
    ++ codes "&TipoFactura=" ++ kind ++ codes "&CuotaTotal=" ++ cuota_total ++ codes "&ImporteTotal=" ++ importe
    ++ codes "&Huella=" ++ previous ++ codes "&FechaHoraHusoGenRegistro=" ++ moment

-- the same of a cancellation
unfoldable pub joined_cancel : (issuer num date previous moment : List ℕ) → List ℕ
joined_cancel issuer num date previous moment =
    codes "IDEmisorFacturaAnulada=" ++ issuer ++ codes "&NumSerieFacturaAnulada=" ++ num
    ++ codes "&FechaExpedicionFacturaAnulada=" ++ date ++ codes "&Huella=" ++ previous
    ++ codes "&FechaHoraHusoGenRegistro=" ++ moment

-- the text of an alta
abbrev pub alta_text : Alta → List ℕ
alta_text a =
    joined_fields a.issuer a.id.num (date_text_of a.id.day) (kind_text a.draft.kind) (amount_text (cuota a.draft.lines))
    (amount_text (total a.draft.lines)) (previous_text a.link) (moment_text_of a.moment)

-- the text of an anulación
abbrev pub anulacion_text : Anulacion → List ℕ
anulacion_text a = joined_cancel a.issuer a.id.num (date_text_of a.id.day) (previous_text a.link) (moment_text_of a.moment)

-- the text of a record
abbrev pub field_text : Record → List ℕ
field_text (record_of.Alta a) = alta_text a
field_text (record_of.Anulacion a) = anulacion_text a

-- SHA-256 of the text
abbrev pub huella_of : Record → List ℕ
huella_of body = sha256 (field_text body)

-- the record with its Huella
abbrev pub sealed_of : Record → Sealed
sealed_of body = record { body = body; huella = huella_of body }
