-- The lines that answer questions of tills. The texts are this project's own; amounts, dates, moments and Huellas are written as in
-- the field text.
use Rattle.std.specs.Prelude.{ℕ, List, ◌++◌, codes, decimal, flat_map, Option, Some, None}
use Rattle.std.specs.Fmt.{signed_decimal}
use Rattle.invoice_kinds.specs.Kinds.{kind_text}
use Rattle.huella.specs.Texts.{huella_text}
use Rattle.record_fields.specs.declared.lines.Line.{Line}
use Rattle.record_fields.specs.declared.records.Alta.{Alta}
use Rattle.stamps.specs.Stamp.{moment_text_of}
use Rattle.tax_lines.specs.Keys.{key_text}
use Rattle.tax_lines.specs.TotalLines.{lines_in}
use Rattle.tax_lines.specs.declared.lines.TaxLine.{TaxLine}
use Rattle.tax_lines.specs.declared.total_lines.TotalLines.{TotalLines}
use Rattle.report.specs.Listing.{amounts_text, id_text, line_text}

-- PLACE NUM DATE KIND CUOTA TOTAL MOMENT HUELLA, of an alta at its place with its Huella
abbrev pub sale_text : ℕ → Alta → List ℕ → List ℕ
sale_text place a huella =
    decimal place ++ codes " " ++ id_text a.id.num a.id.day ++ codes " " ++ kind_text a.draft.kind ++ codes " "
    ++ amounts_text a ++ moment_text_of a.moment ++ codes " " ++ huella_text huella

-- ticket PLACE NUM DATE KIND CUOTA TOTAL MOMENT HUELLA LINK LINE
abbrev pub ticket_text : ℕ → Alta → List ℕ → List ℕ → Option Line → List ℕ
ticket_text place a huella link line =
    codes "ticket " ++ sale_text place a huella ++ codes " " ++ link ++ codes " " ++ line_text line ++ codes "\n"

-- ticket NUM unknown
abbrev pub no_ticket_text : List ℕ → List ℕ
no_ticket_text num = codes "ticket " ++ num ++ codes " unknown\n"

-- record PLACE unknown
abbrev pub no_record_text : ℕ → List ℕ
no_record_text place = codes "record " ++ decimal place ++ codes " unknown\n"

-- serial TILL SERIAL unknown
abbrev pub no_serial_text : ℕ → ℕ → List ℕ
no_serial_text till serial = codes "serial " ++ decimal till ++ codes " " ++ decimal serial ++ codes " unknown\n"

-- last TILL SERIAL
abbrev pub last_text : ℕ → ℕ → List ℕ
last_text till serial = codes "last " ++ decimal till ++ codes " " ++ decimal serial ++ codes "\n"

-- CLASS:BASE, with a blank in front
abbrev pub tax_line_text : TaxLine → List ℕ
tax_line_text line = codes " " ++ key_text line.key ++ codes ":" ++ signed_decimal line.base

-- lines CLASS:BASE, with a second one where there are two, or lines none
abbrev pub total_lines_text : Option TotalLines → List ℕ
total_lines_text None = codes "lines none\n"
total_lines_text (Some found) = codes "lines" ++ flat_map tax_line_text (lines_in found) ++ codes "\n"
