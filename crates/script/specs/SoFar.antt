-- What readers answer, and what is kept of the lines above.
use Rattle.std.specs.Prelude.{◌≡◌, ◌≤◌, ◌<◌, ℕ, List, length, filter_map, unwrap_or, Option, None, Result, Ok, Err}
use Rattle.std.specs.BTreeMap.{btree_map_len, get_by_text}
use Rattle.pacing.specs.declared.pace.TheConstants.{FIRST_WAIT}
use Rattle.ports.specs.declared.faults.NoMemory.{NoMemory as NoRoom}
use Rattle.parties.specs.declared.name.Party.{Party}
use Rattle.shop_core.specs.declared.words.Word.{Word}
use Rattle.script.specs.Lines.{Above, above_of, ask_in}
use Rattle.script.specs.declared.customers.Customers.{Customers}
use Rattle.script.specs.declared.faults.Fault.{Fault}
use Rattle.script.specs.declared.faults.Fault.TheVariants.{Bad, NoMemory}
use Rattle.script.specs.declared.limits.TheConstants.{MAX_COMMANDS}
use Rattle.script.specs.declared.lines.Meaning.{Meaning}
use Rattle.script.specs.declared.lines.Meaning.TheVariants as line
use Rattle.script.specs.declared.scripts.Script.{Script}
use Rattle.script.specs.declared.scripts.SoFar.{SoFar}

-- a reader answers what the definition says; lack of memory is free
abbrev pub IsSaid : {A : Type 0} → Result A Word → Result A Fault → Type 0
IsSaid said (Ok x) = said ≡ Ok x
IsSaid said (Err (Bad word)) = said ≡ Err word
IsSaid said (Err NoMemory) = Unit {0}

-- the customer with a key
abbrev pub party_of : Customers → List ℕ → Option Party
party_of customers key = get_by_text customers.by_key key

-- what is known of the lines above
abbrev pub known : SoFar → Above
known read = record {
  clock = read.clock;
  commands = length read.asks.items;
  customers = btree_map_len read.customers.by_key;
  party = party_of read.customers;
  verdicts = read.verdicts;
  wait = read.wait;
  fates = read.fates;
}

-- the script that was kept
abbrev pub script_kept : SoFar → Script
script_kept read = record {
  clock = read.clock;
  asks = read.asks.items;
  plan = record { verdicts = read.verdicts; wait = unwrap_or read.wait FIRST_WAIT; fates = read.fates };
}

-- these meanings were read
pub record IsSoFar (meanings : List Meaning) (read : SoFar) : Type 0 where
  pub above : known read ≡ above_of meanings
  pub asks : read.asks.items ≡ filter_map ask_in meanings
  pub few : length read.asks.items ≤ MAX_COMMANDS

-- they were read, unless there was no memory
abbrev pub Reads : List Meaning → SoFar → Result (Unit {0}) NoRoom → Type 0
Reads meanings read (Ok _) = IsSoFar meanings read
Reads meanings read (Err _) = Unit {0}

-- a clock, the key of a customer and a pause stand nowhere above, and there is room for a command
abbrev pub IsNew : Above → Meaning → Type 0
IsNew above (line.Clock start step) = above.clock ≡ None
IsNew above (line.Customer key party) = above.party key ≡ None
IsNew above (line.Command ask) = above.commands < MAX_COMMANDS
IsNew above (line.Wait seconds) = above.wait ≡ None
IsNew above other = Unit {0}
