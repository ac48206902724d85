-- The table of invoice kinds, and their codes. The codes are those of `TipoFactura` in the agency's description of the
-- records, the needs are this project's own.
use Rattle.std.specs.Prelude.{ℕ, List, [], ◌∷◌, codes, Bool, true, false}
use Rattle.invoice_kinds.specs.declared.kind.Kind.{Kind}
use Rattle.invoice_kinds.specs.declared.kind.Kind.TheVariants.{F1, F2, F3, R1, R2, R3, R4, R5}
use Rattle.invoice_kinds.specs.declared.need.Need.{Need}
use Rattle.invoice_kinds.specs.declared.need.Need.TheVariants.{Must, May, Never}
use Rattle.invoice_kinds.specs.declared.need.Needs.{Needs}

-- what a kind needs of a customer, a rectification kind and references
abbrev pub needing : Need → Need → Need → Needs
needing customer rect refs = record {
  customer = customer;
  rect = rect;
  refs = refs;
}

abbrev pub needs_of : Kind → Needs
needs_of F1 = needing Must Never Never
needs_of F2 = needing Never Never Never
needs_of F3 = needing Must Never Must
needs_of R1 = needing Must Must May
needs_of R2 = needing Must Must May
needs_of R3 = needing Must Must May
needs_of R4 = needing Must Must May
needs_of R5 = needing Never Must May

-- all kinds, in the order of the agency's table
abbrev pub kinds : List Kind
kinds = F1 ∷ F2 ∷ F3 ∷ R1 ∷ R2 ∷ R3 ∷ R4 ∷ R5 ∷ []

-- the code of a kind
abbrev pub kind_text : Kind → List ℕ
kind_text F1 = codes "F1"
kind_text F2 = codes "F2"
kind_text F3 = codes "F3"
kind_text R1 = codes "R1"
kind_text R2 = codes "R2"
kind_text R3 = codes "R3"
kind_text R4 = codes "R4"
kind_text R5 = codes "R5"

-- a simplified invoice: an F2, or an R5, which rectifies one
abbrev pub is_simplified : Kind → Bool
is_simplified F2 = true
is_simplified R5 = true
is_simplified other = false

abbrev pub is_f2 : Kind → Bool
is_f2 F2 = true
is_f2 other = false

abbrev pub is_f3 : Kind → Bool
is_f3 F3 = true
is_f3 other = false
