-- What the readers of fields answer, where a value is that of a field.
use Rattle.std.specs.Prelude.{◌≡◌, ℕ, Bool, true, false, codes, Some, Result, Ok, Err}
use Rattle.serde_json.specs.Data.{Data, boolean, number}
use Rattle.serde_json.specs.Find.{get, of_integer}
use Rattle.invoice_kinds.specs.Kinds.{kind_text}
use Rattle.parties.specs.declared.name.Party.{Party}
use Rattle.stamps.specs.Stamp.{Moment}
use Rattle.series.specs.declared.numbers.InvoiceId.{InvoiceId}
use Rattle.record_fields.specs.declared.drafts.Draft.{Draft}
use Rattle.record_fields.specs.declared.records.Alta.{Alta}
use Rattle.record_fields.specs.declared.records.Anulacion.{Anulacion}
use Rattle.record_fields.specs.declared.records.Record.{Record}
use Rattle.record_fields.specs.declared.records.Record.TheVariants as record_of
use Rattle.record_fields.specs.declared.records.Sealed.{Sealed}
use Rattle.export.specs.declared.faults.LineFault.{LineFault}
use Rattle.export.specs.declared.faults.LineFault.TheVariants as line
use Rattle.export.specs.declared.faults.Unread.{Unread}
use Rattle.export.specs.declared.faults.Unread.TheVariants as unread
use Rattle.export.specs.declared.heads.Head.{Head}
use Rattle.record_fields.specs.Versions as versions
use Rattle.export.specs.Objects.{array_from, number_of, word, day_value, huella_value, customer_value, id_value, tax_line_value, rect_value, previo_value, link_value}

abbrev pub fault_of : Unread → LineFault
fault_of unread.Shape = line.Shape
fault_of unread.NoMemory = line.NoMemory

-- it was memory that was missing
abbrev pub IsMemory : Unread → Type 0
IsMemory unread.Shape = ⊥
IsMemory unread.NoMemory = Unit {0}

-- the call gives this, seen by view, lack of memory aside
abbrev pub GivesBy : {X Y : Type 0} → (X → Y) → Y → Result X Unread → Type 0
GivesBy view wanted (Ok given) = view given ≡ wanted
GivesBy view wanted (Err fault) = IsMemory fault

abbrev pub Gives : {X : Type 0} → X → Result X Unread → Type 0
Gives wanted (Ok given) = given ≡ wanted
Gives wanted (Err fault) = IsMemory fault

-- ---- where an object has the fields of a part of a record

pub record HasId (id : InvoiceId) (d : Data) : Type 0 where
  pub num : get (codes "num") d ≡ Some (word id.num)
  pub day : get (codes "day") d ≡ Some (day_value id.day)

pub record HasParty (party : Party) (d : Data) : Type 0 where
  pub name : get (codes "name") d ≡ Some (word party.name)
  pub nif : get (codes "nif") d ≡ Some (word party.nif)

pub record HasHead (head : Head) (d : Data) : Type 0 where
  pub issuer : get (codes "issuer") d ≡ Some (word head.issuer)
  pub number : get (codes "version") d ≡ Some (number_of (versions.number_of head.version))

pub record HasMoment (moment : Moment) (d : Data) : Type 0 where
  pub seconds : get (codes "seconds") d ≡ Some (number_of moment.seconds)
  pub offset : get (codes "offset") d ≡ Some (number (of_integer moment.offset_minutes))

pub record HasDraft (draft : Draft) (d : Data) : Type 0 where
  pub kind : get (codes "kind") d ≡ Some (word (kind_text draft.kind))
  pub rect : get (codes "rect") d ≡ Some (rect_value draft.rect)
  pub customer : get (codes "customer") d ≡ Some (customer_value draft.customer)
  pub refs : get (codes "refs") d ≡ Some (array_from id_value draft.refs)
  pub lines : get (codes "lines") d ≡ Some (array_from tax_line_value draft.lines)

pub record HasAlta (alta : Alta) (d : Data) : Type 0 where
  pub id : HasId alta.id d
  pub draft : HasDraft alta.draft d
  pub fix : get (codes "fix") d ≡ Some (boolean alta.subsanacion)
  pub rechazo : get (codes "rechazo") d ≡ Some (previo_value alta.rechazo)
  pub link : get (codes "link") d ≡ Some (link_value alta.link)
  pub moment : HasMoment alta.moment d

pub record HasAnulacion (anulacion : Anulacion) (d : Data) : Type 0 where
  pub id : HasId anulacion.id d
  pub sin_registro : get (codes "sin_registro") d ≡ Some (boolean anulacion.sin_registro)
  pub rechazo : get (codes "rechazo") d ≡ Some (boolean anulacion.rechazo)
  pub link : get (codes "link") d ≡ Some (link_value anulacion.link)
  pub moment : HasMoment anulacion.moment d

-- an alta's fields where it is to be one, else an anulación's
abbrev pub HasBody : Record → Bool → Data → Type 0
HasBody (record_of.Alta alta) true d = HasAlta alta d
HasBody (record_of.Alta alta) false d = ⊥
HasBody (record_of.Anulacion anulacion) true d = ⊥
HasBody (record_of.Anulacion anulacion) false d = HasAnulacion anulacion d

pub record HasRecord (t s : ℕ) (sealed : Sealed) (is_alta : Bool) (d : Data) : Type 0 where
  pub till : get (codes "till") d ≡ Some (number_of t)
  pub serial : get (codes "serial") d ≡ Some (number_of s)
  pub body : HasBody sealed.body is_alta d
  pub huella : get (codes "huella") d ≡ Some (huella_value sealed.huella)
