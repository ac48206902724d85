-- The listing of a history, and its chain line. The texts are this project's own; amounts, dates and Huellas are written as
-- in the field text.
use Rattle.std.specs.Prelude.{ℕ, List, ◌++◌, length, codes, decimal, flat_map, Bool, true, false, Option, Some, None}
use Rattle.std.specs.List.{enumerate_from}
use Rattle.amounts.specs.Text.{amount_text}
use Rattle.tax_lines.specs.Totals.{cuota, total}
use Rattle.invoice_kinds.specs.Kinds.{kind_text}
use Rattle.stamps.specs.Text.{date_text_of}
use Rattle.record_fields.specs.declared.lines.Cause.{Cause}
use Rattle.record_fields.specs.declared.lines.Cause.TheVariants.{Vet, Held, NotHeld, Gone}
use Rattle.record_fields.specs.declared.lines.Line.{Line}
use Rattle.record_fields.specs.declared.lines.Line.TheVariants.{Correcto, ConErrores, Incorrecto}
use Rattle.record_fields.specs.declared.records.Alta.{Alta}
use Rattle.record_fields.specs.declared.records.Anulacion.{Anulacion}
use Rattle.record_fields.specs.declared.records.Previo.{Previo}
use Rattle.record_fields.specs.declared.records.Previo.TheVariants.{N, S, X}
use Rattle.record_fields.specs.declared.records.Record.{Record}
use Rattle.record_fields.specs.declared.records.Record.TheVariants as record_of
use Rattle.record_fields.specs.declared.records.Sealed.{Sealed}
use Rattle.huella.specs.Texts.{huella_text}
use Rattle.record_codec.specs.declared.entry.Entry.{Entry}
use Rattle.shop_core.specs.History.{recs, noted, line_at}
use Rattle.report.specs.Pieces.{chain_line}

abbrev pub flag_text : Bool → List ℕ
flag_text true = codes "S"
flag_text false = codes "N"

abbrev pub previo_text : Previo → List ℕ
previo_text N = codes "N"
previo_text S = codes "S"
previo_text X = codes "X"

-- NUM DATE
abbrev pub id_text : List ℕ → ℕ → List ℕ
id_text num day = num ++ codes " " ++ date_text_of day

-- CUOTA TOTAL, each with a blank after it
abbrev pub amounts_text : Alta → List ℕ
amounts_text a = amount_text (cuota a.draft.lines) ++ codes " " ++ amount_text (total a.draft.lines) ++ codes " "

-- alta NUM DATE KIND CUOTA TOTAL SUBSANACION RECHAZO
abbrev pub alta_line : Alta → List ℕ
alta_line a =
    codes "alta " ++ id_text a.id.num a.id.day ++ codes " " ++ kind_text a.draft.kind ++ codes " "
    ++ amounts_text a ++ flag_text a.subsanacion ++ codes " " ++ previo_text a.rechazo

-- anulacion NUM DATE SINREGISTRO RECHAZO
abbrev pub anulacion_line : Anulacion → List ℕ
anulacion_line a =
    codes "anulacion " ++ id_text a.id.num a.id.day ++ codes " " ++ flag_text a.sin_registro ++ codes " " ++ flag_text a.rechazo

abbrev pub body_text : Record → List ℕ
body_text (record_of.Alta a) = alta_line a
body_text (record_of.Anulacion a) = anulacion_line a

abbrev pub cause_text : Cause → List ℕ
cause_text (Vet code) = codes "vet " ++ decimal code
cause_text Held = codes "held"
cause_text NotHeld = codes "not-held"
cause_text Gone = codes "gone"

-- what the agency says of a record
abbrev pub line_text : Option Line → List ℕ
line_text None = codes "pending"
line_text (Some Correcto) = codes "correcto"
line_text (Some (ConErrores code)) = codes "con-errores " ++ decimal code
line_text (Some (Incorrecto why)) = cause_text why

-- PLACE BODY HUELLA LINE
abbrev pub record_line : ℕ → Sealed → Option Line → List ℕ
record_line place s line =
    decimal place ++ codes " " ++ body_text s.body ++ codes " " ++ huella_text s.huella ++ codes " " ++ line_text line ++ codes
    "\n"

-- a line for each record, in order of their places
abbrev pub listing : List Entry → List ℕ
listing entries = flat_map (λ (p : ℕ × Sealed). record_line p.0 p.1 (line_at entries p.0)) (enumerate_from 1 (recs entries))

-- the listing and the chain line
abbrev pub listing_text : List Entry → List ℕ
listing_text entries = listing entries ++ chain_line (length (recs entries)) (length (noted entries))
