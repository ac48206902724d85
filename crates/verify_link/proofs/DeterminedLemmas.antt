-- A text has one reading, lack of memory aside.
use Rattle.std.proofs.Common.{◌≡◌, ◌≢◌, ℕ, zero, suc, ◌+◌, ◌<◌, List, length, drop, refl, sym, ap, ◌∙◌, subst, arith, inl, inr}
use Rattle.std.proofs.Common.{Result, Ok, Err}
use Rattle.std.proofs.lemmas.Bool.{both_ways, cases_order}
use Rattle.verify_link.specs.declared.parts.Host.{Host}
use Rattle.verify_link.specs.declared.parts.LinkParts.{LinkParts}
use Rattle.verify_link.specs.declared.parts.LinkFault.{LinkFault}
use Rattle.verify_link.specs.declared.parts.LinkFault.TheVariants.{Prefix, Field, Escape, NoMemory}
use Rattle.verify_link.specs.Writing.{encoded, AgreeButInCase, IsFirstBadEscape}
use Rattle.verify_link.specs.Parts.{beginning, link_text, IsLinkParts}
use Rattle.verify_link.specs.Reading.{Begins, name_of, value_of, IsFieldValue, IsField, HasPlace, after_beginning, after_field}
use Rattle.verify_link.specs.Reading.{IsWrongField, unnamed, no_value, HasBadEscape, IsFieldFault, IsFirstFault, IsLinkReading}
use Rattle.verify_link.proofs.CapitalLemmas.{capitals_from}
use Rattle.verify_link.proofs.DecodingLemmas.{none_bad}
use Rattle.verify_link.proofs.LinkLemmas.{same_host, read_back, DaysDiffer, AmountsDiffer}

-- ---- places

record FromBeginning (text : List ℕ) (at : ℕ) : Type 0 where
  host : Host
  begins : Begins (beginning host) text
  place : at ≡ length (beginning host)

record FromField (text : List ℕ) (i at : ℕ) : Type 0 where
  before : ℕ
  said : List ℕ
  placed : HasPlace text i before
  valid : IsFieldValue i said
  right : IsField i (drop before text) said
  place : at ≡ before + length (name_of i) + length (value_of i (drop before text))

from_any : (text : List ℕ) (i at : ℕ) → HasPlace text i at → i ≡ 0 → FromBeginning text at
from_any text i at (after_beginning host begins) none = record { host = host; begins = begins; place = refl }
from_any text i at (after_field j before said placed valid right) none = absurd (omega arith)

first_place : (text : List ℕ) (at : ℕ) → HasPlace text 0 at → FromBeginning text at
first_place text at placed = from_any text 0 at placed refl

next_place : (text : List ℕ) (i k at : ℕ) → HasPlace text k at → k ≡ suc i → FromField text i at
next_place text i k at (after_beginning host begins) is = absurd (omega arith)
next_place text i k at (after_field j before said placed valid right) is =
    let same : j ≡ i = omega arith in
    subst (λ (n : ℕ). FromField text n (before + length (name_of j) + length (value_of j (drop before text)))) same
    (record { before = before; said = said; placed = placed; valid = valid; right = right; place = refl })

-- a field has one place
one_place : (text : List ℕ) (i at other : ℕ) → HasPlace text i at → HasPlace text i other → at ≡ other
one_place text zero at other here there =
    let a = first_place text at here in
    let b = first_place text other there in
    let same : a.host ≡ b.host = same_host a.host b.host (drop (length (beginning a.host)) text) (drop (length (beginning b.host))
    text) (sym a.begins ∙ b.begins) in
    a.place ∙ ap (λ h. length (beginning h)) same ∙ sym b.place
one_place text (suc i) at other here there =
    let a = next_place text i (suc i) at here refl in
    let b = next_place text i (suc i) other there refl in
    let same = one_place text i a.before b.before a.placed b.placed in
    a.place ∙ ap (λ n. n + length (name_of i) + length (value_of i (drop n text))) same ∙ sym b.place

-- a field before one that has a place is right
earlier : (text : List ℕ) (i k at : ℕ) → HasPlace text k at → i < k → (end : ℕ) × FromField text i end
earlier text i zero at placed before = absurd (omega arith)
earlier text i (suc k) at placed before =
    let it = next_place text k (suc k) at placed refl in
    elim (cases_order i k) [
      | inl same ↦ subst (λ (n : ℕ). (end : ℕ) × FromField text n end) (sym same) (at, it)
      | inr (inl less) ↦ earlier text i k it.before it.placed less
      | inr (inr more) ↦ absurd (omega arith)
    ]

-- ---- faults

right_or_wrong : (text : List ℕ) (i place : ℕ) (said : List ℕ) → IsFieldValue i said → IsField i (drop place text) said →
    ¬ (IsWrongField i (drop place text))
right_or_wrong text i place said valid right (unnamed none) = none right.named
right_or_wrong text i place said valid right (no_value named whole none) = none said valid right.value

-- a right field has none, lack of memory aside
no_fault : (text : List ℕ) (i place : ℕ) (said : List ℕ) (fault : LinkFault) → IsFieldValue i said → IsField i (drop place text)
    said
    → IsFieldFault i place text fault → fault ≡ NoMemory
no_fault text i place said Prefix valid right is = absurd is
no_fault text i place said (Field j) valid right is = absurd (right_or_wrong text i place said valid right is.1)
no_fault text i place said (Escape at) valid right is =
    let bad = is.2 in absurd (both_ways _ (none_bad said (value_of i (drop place text)) bad.in_value
    (capitals_from (value_of i (drop place text)) (encoded said) right.value)) bad.first.bad)
no_fault text i place said NoMemory valid right is = refl

one_bad : (text : List ℕ) (k j : ℕ) → IsFirstBadEscape text k → IsFirstBadEscape text j → k ≡ j
one_bad text k j a b =
    elim (cases_order k j) [
      | inl same ↦ same
      | inr (inl less) ↦ absurd (both_ways _ (b.first k less) a.bad)
      | inr (inr more) ↦ absurd (both_ways _ (a.first j more) b.bad)
    ]

wrong_or_bad : (i after : ℕ) (rest : List ℕ) → IsWrongField i rest → ¬ (HasBadEscape i rest after)
wrong_or_bad i after rest (unnamed none) bad = none bad.named
wrong_or_bad i after rest (no_value named whole none) bad = both_ways _ (whole bad.in_value) bad.first.bad

-- one field has one fault
one_fault : (text : List ℕ) (i place : ℕ) (a b : LinkFault) → IsFieldFault i place text a → IsFieldFault i place text b
    → a ≢ NoMemory → b ≢ NoMemory → a ≡ b
one_fault text i place Prefix b is other some more = absurd is
one_fault text i place (Field j) Prefix is other some more = absurd other
one_fault text i place (Field j) (Field k) is other some more = ap Field (is.0 ∙ sym other.0)
one_fault text i place (Field j) (Escape at) is other some more = absurd (wrong_or_bad i other.0 (drop place text) is.1 other.2)
one_fault text i place (Field j) NoMemory is other some more = absurd (more refl)
one_fault text i place (Escape at) Prefix is other some more = absurd other
one_fault text i place (Escape at) (Field k) is other some more = absurd (wrong_or_bad i is.0 (drop place text) other.1 is.2)
one_fault text i place (Escape at) (Escape to) is other some more =
    let one = is.2 in
    let two = other.2 in
    let same = one_bad (value_of i (drop place text)) one.in_value two.in_value one.first two.first in
    ap Escape (is.1 ∙ ap (λ n. place + n) (one.sum ∙ ap (λ n. length (name_of i) + n) same ∙ sym two.sum) ∙ sym other.1)
one_fault text i place (Escape at) NoMemory is other some more = absurd (more refl)
one_fault text i place NoMemory b is other some more = absurd (some refl)

-- a text has one first fault
one_first : (text : List ℕ) (a b : LinkFault) → IsFirstFault text a → IsFirstFault text b → a ≢ NoMemory → b ≢ NoMemory → a ≡ b
one_first text a b one two some more =
    elim (cases_order one.i two.i) [
      | inl same ↦ (
          let moved = subst (λ (n : ℕ). HasPlace text n one.place) same one.placed in
          let place = one_place text two.i one.place two.place moved two.placed in
          let fault = subst (λ (n : ℕ). IsFieldFault two.i n text a) place (subst (λ (n : ℕ). IsFieldFault n one.place text a)
          same one.fault_of) in
          one_fault text two.i two.place a b fault two.fault_of some more)
      | inr (inl less) ↦ (
          let before = (earlier text one.i two.i two.place two.placed less).1 in
          let place = one_place text one.i before.before one.place before.placed one.placed in
          let right = subst (λ (n : ℕ). IsField one.i (drop n text) before.said) place before.right in
          absurd (some (no_fault text one.i one.place before.said a before.valid right one.fault_of)))
      | inr (inr greater) ↦ (
          let before = (earlier text two.i one.i one.place one.placed greater).1 in
          let place = one_place text two.i before.before two.place before.placed two.placed in
          let right = subst (λ (n : ℕ). IsField two.i (drop n text) before.said) place before.right in
          absurd (more (no_fault text two.i two.place before.said b before.valid right two.fault_of)))
    ]

-- a field that has a place comes after a beginning
begun : (text : List ℕ) (i at : ℕ) → HasPlace text i at → (host : Host) × Begins (beginning host) text
begun text i at (after_beginning host begins) = (host, begins)
begun text i at (after_field j before said placed valid right) = begun text j before placed

-- ---- readings

other_than : (text : List ℕ) (a b : LinkFault) → IsLinkReading text (Err a) → IsLinkReading text (Err b) → a ≢ NoMemory →
    b ≢ NoMemory → a ≡ b
other_than text Prefix Prefix is other some more = refl
other_than text Prefix (Field k) is other some more = let it = begun text other.i other.place other.placed in
    absurd (is it.0 it.1)
other_than text Prefix (Escape to) is other some more = let it = begun text other.i other.place other.placed in
    absurd (is it.0 it.1)
other_than text Prefix NoMemory is other some more = absurd (more refl)
other_than text (Field j) Prefix is other some more = let it = begun text is.i is.place is.placed in absurd (other it.0 it.1)
other_than text (Field j) (Field k) is other some more = one_first text (Field j) (Field k) is other some more
other_than text (Field j) (Escape to) is other some more = one_first text (Field j) (Escape to) is other some more
other_than text (Field j) NoMemory is other some more = absurd (more refl)
other_than text (Escape at) Prefix is other some more = let it = begun text is.i is.place is.placed in absurd (other it.0 it.1)
other_than text (Escape at) (Field k) is other some more = one_first text (Escape at) (Field k) is other some more
other_than text (Escape at) (Escape to) is other some more = one_first text (Escape at) (Escape to) is other some more
other_than text (Escape at) NoMemory is other some more = absurd (more refl)
other_than text NoMemory b is other some more = absurd (some refl)

abbrev failed : LinkFault → Result LinkParts LinkFault
failed fault = Err fault

abbrev read : LinkParts → Result LinkParts LinkFault
read parts = Ok parts

err_differs : (a b : LinkFault) → a ≡ b → failed a ≡ failed b
err_differs a b same = ap failed same

of_link : DaysDiffer → AmountsDiffer → (text : List ℕ) (p : LinkParts) → IsLinkParts p × AgreeButInCase text (link_text p)
    → (r : Result LinkParts LinkFault) → IsLinkReading text r → r ≢ Err NoMemory → r ≡ Ok p
of_link days amounts text p link (Ok q) is some = ap read (read_back days amounts text p link.0 (capitals_from text (link_text p)
    link.1) (Ok q) is)
of_link days amounts text p link (Err fault) is some = absurd
    (some (err_differs fault NoMemory (read_back days amounts text p link.0 (capitals_from text (link_text p) link.1) (Err fault)
    is)))

pub one_reading : DaysDiffer → AmountsDiffer → (text : List ℕ) (r s : Result LinkParts LinkFault) → IsLinkReading text r →
    IsLinkReading text s
    → r ≢ Err NoMemory → s ≢ Err NoMemory → r ≡ s
one_reading days amounts text r (Ok p) is other some more = of_link days amounts text p other r is some
one_reading days amounts text (Ok q) (Err b) is other some more = sym (of_link days amounts text q is (Err b) other more)
one_reading days amounts text (Err a) (Err b) is other some more =
    err_differs a b (other_than text a b is other (λ e. some (err_differs a NoMemory e)) (λ e. more (err_differs b NoMemory e)))
