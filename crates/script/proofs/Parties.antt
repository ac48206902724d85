-- Tax numbers, names and breakdowns, by the tests of the definitions.
use Rattle.std.proofs.Common.{◌≡◌, ◌⊎◌, ℕ, ◌-◌, ◌<◌, List, [], length, get_or, refl, arith, Some, None, is_some, Bool, true}
use Rattle.std.proofs.Common.{false, not, ◌&&◌, ◌||◌, ◌==◌, nat_le, position, Ok, Err}
use Rattle.std.specs.Int.{IsInRange, IsOutOfRange}
use Rattle.std.proofs.lemmas.Bool.Decides.{nat_tests}
use Rattle.parties.specs.Nif.{IsNif, is_person, is_entity, is_controlled}
use Rattle.parties.specs.NifReading.{IsNifReading}
use Rattle.parties.specs.NameForm.{IsName}
use Rattle.parties.specs.Name.{IsNameReading}
use Rattle.parties.specs.declared.nif.NifFault.{NifFault}
use Rattle.parties.specs.declared.nif.NifFault.TheVariants as nif
use Rattle.parties.specs.declared.name.NameFault.{NameFault}
use Rattle.parties.specs.declared.name.NameFault.TheVariants as name
use Rattle.tax_lines.specs.Breakdown.{IsBreakdown, IsBreakdownOf, is_past}
use Rattle.tax_lines.specs.declared.faults.LinesFault.{LinesFault}
use Rattle.tax_lines.specs.declared.faults.LinesFault.TheVariants as lines_fault
use Rattle.tax_lines.specs.declared.lines.TaxLine.{TaxLine}
use Rattle.shop_core.specs.declared.words.Word.TheVariants as word
use Rattle.script.specs.Fields.{behind_third_blank}
use Rattle.script.specs.Lines.{name_said}
use Rattle.script.specs.Readings.{is_nif, is_name, is_breakdown}

and_no : (a b c : Bool) → b ≡ false → (a && b && c) ≡ false
and_no true true c h = absurd cc
and_no true false c h = refl
and_no false b c h = refl

and_last : (a c : Bool) → c ≡ false → (a && c) ≡ false
and_last true c h = h
and_last false c h = refl

other : (a b : ℕ) → (a ≡ b → ⊥) → (a == b) ≡ false
other a b h = grind (arith, nat_tests)

pub nif_yes : (t : List ℕ) → IsNif t → is_nif t ≡ true
unfolding is_nif
nif_yes t n = rw (n.nine, n.shaped, n.controlled) refl

pub nif_no : (t : List ℕ) (fault : NifFault) → IsNifReading t (Err fault) → is_nif t ≡ false
unfolding is_nif
nif_no t nif.Length h = rw (other (length t) 9 h) refl
nif_no t nif.Shape h = and_no (length t == 9) (is_person t || is_entity t) (is_controlled t) h.1
nif_no t (nif.Control wanted) h = and_last ((length t == 9) && (is_person t || is_entity t)) (is_controlled t) h.2

in_range : (n high : ℕ) → IsInRange 1 high n → (nat_le 1 n && nat_le n high) ≡ true
in_range n high h = grind (arith, nat_tests)

out_of_range : (n : ℕ) → IsOutOfRange 1 120 n → (nat_le 1 n && nat_le n 120) ≡ false
out_of_range n h = grind (arith, nat_tests)

pub name_yes : (t : List ℕ) → IsName t → is_name t ≡ true
unfolding is_name
name_yes t n =
    rw (in_range (length t) 120 n.long, n.plain, other (get_or t 0 0) 32 n.first, other (get_or t (length t - 1) 0) 32 n.last)
    refl

edge : (a b : ℕ) → (a ≡ 32) ⊎ (b ≡ 32) → ((a == 32) || (b == 32)) ≡ true
edge a b h = grind (arith, nat_tests)

pub name_no : (t : List ℕ) (fault : NameFault) → (fault ≡ name.NoMemory → ⊥) → IsNameReading t (Err fault) → is_name t ≡ false
unfolding is_name
name_no t (name.Length n) other h = let out : IsOutOfRange 1 120 (length t) = rw (← h.0) h.1 in
    rw (out_of_range (length t) out) refl
name_no t (name.Char at) other h = rw (in_range (length t) 120 h.0, h.1) refl
name_no t name.Edge other h = rw (in_range (length t) 120 h.0, h.1, edge (get_or t 0 0) (get_or t (length t - 1) 0) h.2) refl
name_no t name.NoMemory other h = absurd (other refl)

pub lines_yes : (lines : List TaxLine) → IsBreakdown lines → is_breakdown lines ≡ true
unfolding is_breakdown
lines_yes lines b = rw (in_range (length lines) 12 b.few, b.near) refl

pub no_lines : (lines : List TaxLine) → lines ≡ [] → is_breakdown lines ≡ false
unfolding is_breakdown
no_lines lines e = rw e refl

too_many : (n : ℕ) → 12 < n → nat_le n 12 ≡ false
too_many n h = grind (arith, nat_tests)

pub many_lines : (lines : List TaxLine) → 12 < length lines → is_breakdown lines ≡ false
unfolding is_breakdown
many_lines lines h =
    let n : nat_le (length lines) 12 ≡ false = too_many (length lines) h in
    and_no (nat_le 1 (length lines)) (nat_le (length lines) 12) (not (is_some (position is_past lines))) n

pub past_line : (lines : List TaxLine) (i : ℕ) → position is_past lines ≡ Some i → is_breakdown lines ≡ false
unfolding is_breakdown
past_line lines i e = and_last (nat_le 1 (length lines) && nat_le (length lines) 12) (not (is_some (position is_past lines)))
    (rw e refl)

pub unnamed : (line : List ℕ) → None ≡ behind_third_blank line → name_said line ≡ Err word.Fields
unfolding name_said
unnamed line none = rw (← none) refl

pub named_ok : (line text own : List ℕ) → Some text ≡ behind_third_blank line → IsName text → own ≡ text → name_said line ≡ Ok own
unfolding name_said
named_ok line text own there is e = rw (← there, name_yes text is, e) refl

pub named_not : (line text : List ℕ) (fault : NameFault) → Some text ≡ behind_third_blank line
    → (fault ≡ name.NoMemory → ⊥) → IsNameReading text (Err fault) → name_said line ≡ Err word.Name
unfolding name_said
named_not line text fault there other h = rw (← there, name_no text fault other h) refl

pub lines_no : (lines : List TaxLine) (fault : LinesFault) → (fault ≡ lines_fault.NoMemory → ⊥) → IsBreakdownOf lines (Err fault)
    → is_breakdown lines ≡ false
lines_no lines lines_fault.NoLines other h = no_lines lines h
lines_no lines (lines_fault.TooMany n) other h = let more = h.1 in many_lines lines (omega (arith, h.0))
lines_no lines (lines_fault.Range i) other h = past_line lines i h.1
lines_no lines lines_fault.NoMemory other h = absurd (other refl)
