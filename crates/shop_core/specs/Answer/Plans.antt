-- The answer to an ask at a history and a reading of the clock.
use Rattle.std.specs.Prelude.{◌≡◌, ℕ, List, Option, option_map, find, ◌==◌, ◌&&◌}
use Rattle.std.specs.Prelude.{true}
use Rattle.std.specs.Option.{option_map_or}
use Rattle.std.specs.List.{enumerate_from}
use Rattle.record_fields.specs.declared.versions.Version.{Version}
use Rattle.record_codec.specs.declared.entry.Entry.{Entry}
use Rattle.record_codec.specs.declared.entry.Entry.TheVariants.{Rec}
use Rattle.shop_core.specs.Answer.Requests.{Asked}
use Rattle.shop_core.specs.History.{Row, rows, is_record, receipt}
use Rattle.shop_core.specs.Answer.Making.{made_sealed}
use Rattle.shop_core.specs.declared.answer.receipts.Receipt.{Receipt}
use Rattle.shop_core.specs.declared.answer.Planned.{Planned}
use Rattle.shop_core.specs.declared.answer.Planned.TheVariants.{Again, Refused, Made}
use Rattle.shop_core.specs.Answer.Refusals.{refusal}

-- the first numbered row of this till and serial
abbrev pub kept_row : List Entry → ℕ → ℕ → Option (ℕ × Row)
kept_row entries till serial =
    find (λ (p : ℕ × Row). (p.1.till == till) && (p.1.serial == serial)) (enumerate_from 1 (rows entries))

-- the receipt that is kept for this till and serial
abbrev pub kept : List Entry → ℕ → ℕ → Option Receipt
kept entries till serial = option_map (λ (p : ℕ × Row). receipt p.0 p.1.sealed) (kept_row entries till serial)

-- the kept receipt, else the first refusal, else the entry that is made
abbrev pub answer : Version → List ℕ → List Entry → Asked → ℕ → Planned
answer version issuer entries ask seconds =
    let made = Made (Rec ask.till ask.serial (made_sealed issuer entries ask.request seconds)) in
    option_map_or Again (kept entries ask.till ask.serial)
    (option_map_or Refused (refusal version issuer entries ask seconds) made)

-- what is made is a record
abbrev pub MakesRecords : Type 0
MakesRecords = (version : Version) (issuer : List ℕ) (entries : List Entry) (ask : Asked) (seconds : ℕ) (entry : Entry) →
    answer version issuer entries ask seconds ≡ Made entry → is_record entry ≡ true
