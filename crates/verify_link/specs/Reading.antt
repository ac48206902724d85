-- What the reading of a link gives. A link has four fields, counted from 0: nif, numserie, fecha and importe.
use Rattle.std.specs.Prelude.{◌≡◌, ⊤, ℕ, zero, suc, ◌+◌, ◌<◌, ◌≤◌, List, ◌++◌, length, drop, codes, Bool, false, ◌==◌}
use Rattle.std.specs.Prelude.{if◌then◌else◌, IsTrue, ℤ, Result, Ok, Err}
use Rattle.std.specs.List.{before_first}
use Rattle.amounts.specs.Cents.{IsCents}
use Rattle.amounts.specs.Text.{amount_text}
use Rattle.parties.specs.Nif.{IsNif}
use Rattle.percent_encoding.specs.Percent.{percent_decode}
use Rattle.series.specs.Numbers.{is_num_serie}
use Rattle.stamps.specs.Day.{last_day}
use Rattle.stamps.specs.Text.{date_text_of}
use Rattle.verify_link.specs.declared.parts.Host.{Host}
use Rattle.verify_link.specs.declared.parts.LinkParts.{LinkParts}
use Rattle.verify_link.specs.declared.parts.LinkFault.{LinkFault}
use Rattle.verify_link.specs.declared.parts.LinkFault.TheVariants.{Prefix, Field, Escape, NoMemory}
use Rattle.verify_link.specs.Writing.{encoded, AgreeButInCase, is_bad_escape, IsFirstBadEscape}
use Rattle.verify_link.specs.Parts.{beginning, link_text, IsLinkParts}

-- the front stands at the text's front
abbrev pub Begins : List ℕ → List ℕ → Type 0
Begins front text = text ≡ front ++ drop (length front) text

-- what stands before a field's value
abbrev pub name_of : ℕ → List ℕ
name_of zero = codes "nif="
name_of (suc zero) = codes "&numserie="
name_of (suc (suc zero)) = codes "&fecha="
name_of (suc (suc (suc _))) = codes "&importe="

-- what a field may say
abbrev pub IsFieldValue : ℕ → List ℕ → Type 0
IsFieldValue zero said = IsNif said
IsFieldValue (suc zero) said = IsTrue (is_num_serie said)
IsFieldValue (suc (suc zero)) said = (n : ℕ) × (n ≤ last_day) × (said ≡ date_text_of n)
IsFieldValue (suc (suc (suc _))) said = (v : ℤ) × IsCents v × (said ≡ amount_text v)

abbrev pub is_ampersand : ℕ → Bool
is_ampersand b = b == 38

-- the value in what follows a field's name: up to the next `&`, the last one up to the end
abbrev pub value_in : ℕ → List ℕ → List ℕ
value_in i after = if i == 3 then after else before_first is_ampersand after

-- the value in what begins with a field's name
abbrev pub value_of : ℕ → List ℕ → List ℕ
value_of i rest = value_in i (drop (length (name_of i)) rest)

-- the field stands there, and its value is the encoding of what it says, the case of escape digits aside
pub record IsField (i : ℕ) (rest said : List ℕ) : Type 0 where
  pub named : Begins (name_of i) rest
  pub value : AgreeButInCase (value_of i rest) (encoded said)

-- field i has its place at this byte of the text: the fields before it are right
pub data HasPlace (text : List ℕ) : ℕ → ℕ → Type 0 where
  after_beginning : (host : Host) → Begins (beginning host) text → HasPlace text 0 (length (beginning host))
  after_field : (i at : ℕ) (said : List ℕ) → HasPlace text i at → IsFieldValue i said → IsField i (drop at text) said
      → HasPlace text (suc i) (at + length (name_of i) + length (value_of i (drop at text)))

-- the field isn't there, or has a value of whole escapes that is the encoding of nothing that it may say
pub data IsWrongField (i : ℕ) (rest : List ℕ) : Type 0 where
  unnamed : ¬ (Begins (name_of i) rest) → IsWrongField i rest
  no_value : Begins (name_of i) rest → ((k : ℕ) → is_bad_escape (value_of i rest) k ≡ false)
      → ((said : List ℕ) → IsFieldValue i said → ¬ (AgreeButInCase (value_of i rest) (encoded said)))
      → IsWrongField i rest

-- the field is there, and the first bad escape of its value stands that many bytes after the field's place
pub record HasBadEscape (i : ℕ) (rest : List ℕ) (after : ℕ) : Type 0 where
  pub named : Begins (name_of i) rest
  pub in_value : ℕ
  pub first : IsFirstBadEscape (value_of i rest) in_value
  pub sum : after ≡ length (name_of i) + in_value

-- the fault is that of field i, which has its place at that byte
abbrev pub IsFieldFault : ℕ → ℕ → List ℕ → LinkFault → Type 0
IsFieldFault i place text Prefix = ⊥
IsFieldFault i place text (Field j) = (j ≡ i) × IsWrongField i (drop place text)
IsFieldFault i place text (Escape at) = (after : ℕ) × (at ≡ place + after) × HasBadEscape i (drop place text) after
IsFieldFault i place text NoMemory = ⊤

-- the fault is that of the first field that is not right
pub record IsFirstFault (text : List ℕ) (fault : LinkFault) : Type 0 where
  pub i : ℕ
  pub within : i < 4
  pub place : ℕ
  pub placed : HasPlace text i place
  pub fault_of : IsFieldFault i place text fault

-- Ok exactly where the text is the link of valid parts, the case of escape digits aside
abbrev pub IsLinkReading : List ℕ → Result LinkParts LinkFault → Type 0
IsLinkReading text (Ok parts) = IsLinkParts parts × AgreeButInCase text (link_text parts)
IsLinkReading text (Err Prefix) = (host : Host) → ¬ (Begins (beginning host) text)
IsLinkReading text (Err (Field i)) = IsFirstFault text (Field i)
IsLinkReading text (Err (Escape at)) = IsFirstFault text (Escape at)
IsLinkReading text (Err NoMemory) = ⊤

-- what the functions below `read_link` find: field i has its place at `at`, has no bad escape, and ends at `end`
pub record IsWholeField (i : ℕ) (text : List ℕ) (at : ℕ) (said : List ℕ) (end : ℕ) : Type 0 where
  pub field : IsField i (drop at text) said
  pub decoded : said ≡ percent_decode (value_of i (drop at text))
  pub whole : (k : ℕ) → is_bad_escape (value_of i (drop at text)) k ≡ false
  pub ends : end ≡ at + length (name_of i) + length (value_of i (drop at text))
  pub within : end ≤ length text

-- the same of a field that says what it may
pub record IsFieldAt (i : ℕ) (text : List ℕ) (at : ℕ) (said : List ℕ) (end : ℕ) : Type 0 where
  pub valid : IsFieldValue i said
  pub field : IsField i (drop at text) said
  pub ends : end ≡ at + length (name_of i) + length (value_of i (drop at text))
  pub within : end ≤ length text
