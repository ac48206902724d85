-- What a line of JSON says, as serde_json reads it.
use Rattle.std.specs.Prelude.{◌≡◌, ◌≢◌, ℕ, ◌==◌, not, Bool, List, Option, None, Some, Result, Ok, Err, if◌then◌else◌}
use Rattle.std.specs.List.{list_all}
use Rattle.std.specs.Str.{is_utf8}
use Rattle.serde_json.specs.Data.{Data}
use Rattle.serde_json.specs.Read.{read}
use Rattle.record_codec.specs.declared.entry.Entry.{Entry}
use Rattle.record_codec.specs.Validity.{AreFields, HasIssuer}
use Rattle.record_fields.specs.declared.versions.Version.{Version}
use Rattle.parties.specs.Nif.{IsNif}
use Rattle.export.specs.declared.faults.LineFault.{LineFault}
use Rattle.export.specs.declared.faults.LineFault.TheVariants.{Json, Shape, NoMemory}
use Rattle.export.specs.declared.heads.Head.{Head}
use Rattle.export.specs.Objects.{head_object, object_of}

-- the value that serde_json reads of a line: none where it is no UTF-8 or no JSON
abbrev pub value_read : List ℕ → Option Data
value_read line = if is_utf8 line then read line else None

-- no byte is a line feed
abbrev pub is_no_feed : ℕ → Bool
is_no_feed b = not (b == 10)

abbrev pub is_one_line : List ℕ → Bool
is_one_line text = list_all is_no_feed text

-- why no value is read of a line
abbrev pub IsRefusal : List ℕ → LineFault → Type 0
IsRefusal line Json = value_read line ≡ None
IsRefusal line Shape = ⊥
IsRefusal line NoMemory = Unit {0}

-- the line reads as the object of the entry, whose fields are of their forms, in their ranges and such as the version has; a
-- record is this issuer's
pub record IsLineOf (version : Version) (nif : List ℕ) (entry : Entry) (line : List ℕ) : Type 0 where
  pub fields : AreFields version entry
  pub issuer : HasIssuer nif entry
  pub value : value_read line ≡ Some (object_of entry)

-- the entry of the line; `Json` exactly where serde_json reads no value, `Shape` exactly where the value is the object of no such
-- entry, lack of memory aside
abbrev pub IsLineReading : Version → List ℕ → List ℕ → Result Entry LineFault → Type 0
IsLineReading version issuer line (Ok entry) = IsLineOf version issuer entry line
IsLineReading version issuer line (Err Json) = value_read line ≡ None
IsLineReading version issuer line (Err Shape) = (value_read line ≢ None) × ((entry : Entry) → ¬ (IsLineOf version issuer entry line))
IsLineReading version issuer line (Err NoMemory) = Unit {0}

-- the line reads as the object of an issuer and a version
pub record IsHeadOf (head : Head) (line : List ℕ) : Type 0 where
  pub issuer : IsNif head.issuer
  pub value : value_read line ≡ Some (head_object head.issuer head.version)

-- the same of the first line
abbrev pub IsHeadReading : List ℕ → Result Head LineFault → Type 0
IsHeadReading line (Ok head) = IsHeadOf head line
IsHeadReading line (Err Json) = value_read line ≡ None
IsHeadReading line (Err Shape) = (value_read line ≢ None) × ((head : Head) → ¬ (IsHeadOf head line))
IsHeadReading line (Err NoMemory) = Unit {0}
