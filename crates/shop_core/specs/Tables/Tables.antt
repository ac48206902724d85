-- What the tables say of the records of a history.
use Rattle.std.specs.Prelude.{◌≡◌, ℕ, List, map, true, IsTrue, None, bytes_eq}
use Rattle.std.specs.List.{position_from}
use Rattle.record_fields.specs.Records.{num_of, is_sale}
use Rattle.record_fields.specs.declared.lines.Line.{Line}
use Rattle.record_fields.specs.declared.records.Sealed.{Sealed}
use Rattle.series.specs.Numbers.{is_series, series_of}
use Rattle.shop_core.specs.History.{Row}
use Rattle.shop_core.specs.Tables.ByHuella as huella
use Rattle.shop_core.specs.Tables.BySerial as serial
use Rattle.shop_core.specs.Tables.ByTill as till
use Rattle.shop_core.specs.Tables.BySeries as series
use Rattle.shop_core.specs.Tables.ByNumber as number
use Rattle.shop_core.specs.declared.tables.by_serial.Slot.{Slot}
use Rattle.shop_core.specs.declared.tables.Tables.{Tables}

abbrev pub records_of : List Row → List Sealed
records_of rows = map (λ (r : Row). r.sealed) rows

-- each table, without its keys of empty value, is what these rows and lines say
pub record AreTables (rows : List Row) (lines : List Line) (t : Tables) : Type 0 where
  pub serials : serial.IsBySerial rows t.by_serial
  pub tills : till.IsByTill rows t.by_till
  pub huellas : huella.IsByHuella (records_of rows) t.by_huella
  pub series : series.IsBySeries (records_of rows) t.by_series
  pub numbers : number.IsByNumber (records_of rows) lines t.by_number

-- the keys of a record have been entered
pub record HasKeys (t : Tables) (r : Row) : Type 0 where
  pub slot : serial.has t.by_serial (record { till = r.till; serial = r.serial }) ≡ true
  pub till : till.has t.by_till r.till ≡ true
  pub huella : huella.has t.by_huella r.sealed.huella ≡ true
  pub number : number.has t.by_number (num_of r.sealed.body) ≡ true
  pub series : is_sale r.sealed.body ≡ true → IsTrue (is_series (series_of (num_of r.sealed.body))) →
      series.has t.by_series (series_of (num_of r.sealed.body)) ≡ true

-- no value has changed
pub record SameTables (a b : Tables) : Type 0 where
  pub serials : (s : Slot) → serial.place_at b.by_serial s ≡ serial.place_at a.by_serial s
  pub tills : (t : ℕ) → till.last_at b.by_till t ≡ till.last_at a.by_till t
  pub huellas : (h : List ℕ) → huella.place_at b.by_huella h ≡ huella.place_at a.by_huella h
  pub series : (n : List ℕ) → series.count_at b.by_series n ≡ series.count_at a.by_series n
  pub numbers : (n : List ℕ) → number.standing_at b.by_number n ≡ number.standing_at a.by_number n

-- neither the till and serial nor the Huella of a row stand among these
pub record IsNewAmong (rows : List Row) (r : Row) : Type 0 where
  pub slot : position_from (serial.is_of (record { till = r.till; serial = r.serial })) 1 rows ≡ None
  pub huella : position_from (λ (s : Sealed). bytes_eq s.huella r.sealed.huella) 1 (records_of rows) ≡ None
