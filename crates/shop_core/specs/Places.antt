-- Where the records stand by which an invoice stands as it does, in records with the lines that are noted for the first of them.
use Rattle.std.specs.Prelude.{◌≡◌, ℕ, ◌+◌, List, [], ◌∷◌, ◌++◌, length, Option, Some, None, not, ◌&&◌, Bool, true, false, ◌==◌}
use Rattle.std.specs.Prelude.{if◌then◌else◌}
use Rattle.record_fields.specs.declared.records.Sealed.{Sealed}
use Rattle.record_fields.specs.declared.lines.Line.{Line}
use Rattle.shop_core.specs.History.{at_place}
use Rattle.shop_core.specs.Standing.{has_num, is_incorrecto, is_refused_in}
use Rattle.shop_core.specs.Tables.ByNumber.{place_in, is_any, is_settled}

-- the place of its last record
abbrev pub last_place : List Sealed → List ℕ → Option ℕ
last_place records num = place_in (is_any num) records

-- of its last record that its line accepts
abbrev pub settled_place : List Sealed → List Line → List ℕ → Option ℕ
settled_place records lines num = place_in (is_settled lines num) records

-- of its last accepted record: one that waits for its line counts as accepted
abbrev pub accepted_place : List Sealed → List Line → List ℕ → Option ℕ
accepted_place records lines num = place_in (λ place s. has_num num s && not (is_refused_in lines place)) records

abbrev pub is_place : Option ℕ → ℕ → Bool
is_place None place = false
is_place (Some n) place = n == place

-- one line more, of the record s, settles that record's invoice alone. A line that refuses the invoice's last record brings
-- back the last one that its line accepts
pub record LineSettles (records : List Sealed) (lines : List Line) (line : Line) (s : Sealed) (num : List ℕ) : Type 0 where
  pub settled : settled_place records (lines ++ line ∷ []) num
      ≡ (if has_num num s && not (is_incorrecto line) then Some (1 + length lines) else settled_place records lines num)
  pub accepted : accepted_place records (lines ++ line ∷ []) num
      ≡ (if is_incorrecto line && is_place (last_place records num) (1 + length lines)
      then settled_place records lines num else accepted_place records lines num)
  pub waits : is_place (last_place records num) (1 + length lines) ≡ true →
      accepted_place records lines num ≡ Some (1 + length lines)

abbrev pub LinesSettle : Type 0
LinesSettle = (records : List Sealed) (lines : List Line) (line : Line) (s : Sealed) (num : List ℕ) →
    at_place records (1 + length lines) ≡ Some s → LineSettles records lines line s num
