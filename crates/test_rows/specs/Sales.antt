-- What tests sell.
use Rattle.std.specs.Prelude.{ℤ, [], ◌∷◌, None}
use Rattle.invoice_kinds.specs.declared.kind.Kind.TheVariants.{F2}
use Rattle.record_fields.specs.declared.drafts.Draft.{Draft}
use Rattle.tax_lines.specs.Keys.{iva_key}
use Rattle.tax_lines.specs.declared.classes.Class.TheVariants.{General}

-- a simplified invoice of one line at the general rate, of this many cents
abbrev pub sale_draft : ℤ → Draft
sale_draft cents =
    record { kind = F2; rect = None; customer = None; refs = []; lines = record { key = iva_key General; base = cents } ∷ [] }
