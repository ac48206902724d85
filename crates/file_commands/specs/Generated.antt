-- The commands of the generator, which are this project's own: four tills in turn, nine sales and then the cancellation of
-- the last of them, over and over.
use Rattle.std.specs.Prelude.{◌≡◌, ℕ, ◌+◌, ◌-◌, ◌*◌, ◌/◌, ◌%◌, ◌<◌, ◌==◌, List, [], ◌∷◌, length, codes, pos, None, Some}
use Rattle.std.specs.Prelude.{slice_get, if◌then◌else◌}
use Rattle.invoice_kinds.specs.declared.kind.Kind.TheVariants as kind
use Rattle.record_fields.specs.declared.drafts.Draft.{Draft}
use Rattle.series.specs.Numbers.{number_text}
use Rattle.shop_core.specs.Answer.Requests.{Asked}
use Rattle.shop_core.specs.declared.answer.requests.Request.{Request}
use Rattle.shop_core.specs.declared.answer.requests.Request.TheVariants.{Sale, Cancel}
use Rattle.tax_lines.specs.Keys.{iva_key}
use Rattle.tax_lines.specs.declared.classes.Class.TheVariants.{General}
use Rattle.tax_lines.specs.declared.lines.TaxLine.{TaxLine}

-- the base of the i-th command's line, in cents
abbrev pub base : ℕ → ℕ
base i = (i * 7531) % 100_000 + 1

abbrev pub line : ℕ → TaxLine
line i = record { key = iva_key General; base = pos (base i) }

-- a simplified invoice of one line
abbrev pub draft : ℕ → Draft
draft i = record { kind = kind.F2; rect = None; customer = None; refs = []; lines = line i ∷ [] }

-- the cancelled invoice, where i is a multiple of 10, has the number of the sales before the i-th command
abbrev pub request : ℕ → Request
request i = if i % 10 == 0 then Cancel (number_text (codes "G") (i - i / 10)) else Sale (codes "G") (draft i)

-- the i-th command, from 1
abbrev pub command : ℕ → Asked
command i = record { till = 1 + (i - 1) % 4; serial = 1 + (i - 1) / 4; request = request i }

-- the first n commands, in order
pub record AreCommands (n : ℕ) (asks : List Asked) : Type 0 where
  pub count : length asks ≡ n
  pub each : (i : ℕ) → i < n → slice_get asks i ≡ Some (command (i + 1))
