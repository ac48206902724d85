-- The devices of one call, before it and after it.
use Rattle.std.specs.Prelude.{◌≡◌, ℕ, Bool, List, ◌-◌, true, Option, Some, None}
use Rattle.ports.specs.Sinks.{Sinks, WroteNothing}
use Rattle.ports.specs.Sources.{Sources}
use Rattle.ports.specs.declared.Clock as clock
use Rattle.ports.specs.declared.sleeper.Sleeper as sleeper
use Rattle.chain_disk.specs.Disks.{Disks, LeftDisk, OnlyRead, this_disk}
use Rattle.chain_disk.specs.declared.disk.Disk as disk
use Rattle.chain_store.specs.Clocks.{Clocks, LeftClock, this_clock}
use Rattle.record_fields.specs.declared.records.Sealed.{Sealed}
use Rattle.record_fields.specs.declared.lines.Line.{Line}
use Rattle.agency_port.specs.declared.agency.Agency as agency
use Rattle.sender.specs.Turning.{AgencyState, AgencyKind}
use Rattle.shop_drain.specs.declared.posts.Post.{Post}
use Rattle.sender_session.specs.Kinds.{agency_kind, agency_state_of}

-- a sleeper and the moment that its kind gives it
pub record Sleepers (Z : Type 0) : Type 0 where
  pub tells : Bool
  pub moment : Z → ℕ
  pub sleeper : Z
  pub sleeper_after : Z

abbrev pub LeftSleeper : {Z : Type 0} → Sleepers Z → Type 0
LeftSleeper s = s.sleeper_after ≡ s.sleeper

-- an agency: what its kind tells, how that begins a session by what it had and by the noted pairs, and its state before and after
pub record Agencies (G : Type 0) : Type 0 where
  pub kind : AgencyKind
  pub begun : List (Sealed × Line) → List (Sealed × Line) → List (Sealed × Line)
  pub agency : G
  pub agency_after : G
  pub before : AgencyState
  pub after : AgencyState

abbrev pub LeftAgency : {G : Type 0} → Agencies G → Type 0
LeftAgency a = a.agency_after ≡ a.agency

pub record Devices (D C : Type 0) : Type 0 where
  pub source : Sources
  pub sink : Sinks
  pub disk : Disks D
  pub clock : Clocks C

-- nothing was printed, and neither the file nor the clock was touched
pub record Untouched {D C : Type 0} (d : Devices D C) : Type 0 where
  pub wrote : WroteNothing d.sink
  pub disk : LeftDisk d.disk
  pub clock : LeftClock d.clock

-- the source wasn't read
pub record ReadNothing (s : Sources) : Type 0 where
  pub left : s.left_after ≡ s.left
  pub faults : s.faults_after ≡ s.faults

-- a call that reads nothing and touches neither file nor clock
pub record OnlyPrints {D C : Type 0} (d : Devices D C) : Type 0 where
  pub read : ReadNothing d.source
  pub disk : LeftDisk d.disk
  pub clock : LeftClock d.clock

-- a call that reads its file alone, and nothing else but the sink
pub record OnlyReadsFile {D C : Type 0} (d : Devices D C) : Type 0 where
  pub read : ReadNothing d.source
  pub disk : OnlyRead d.disk
  pub clock : LeftClock d.clock

-- a call that reads its source and its file alone, and touches nothing else but the sink
pub record OnlyReads {D C : Type 0} (d : Devices D C) : Type 0 where
  pub disk : OnlyRead d.disk
  pub clock : LeftClock d.clock

-- all that one call of the program is given
pub record AllDevices (D C Z G : Type 0) : Type 0 where
  pub devices : Devices D C
  pub sleeper : Sleepers Z
  pub agency : Agencies G

-- what a command is given besides its source
pub record Around (D C Z G : Type 0) : Type 0 where
  pub sink : Sinks
  pub disk : Disks D
  pub clock : Clocks C
  pub sleeper : Sleepers Z
  pub agency : Agencies G

-- nothing was printed, and nothing else was touched
pub record LeftAll {D C Z G : Type 0} (c : Around D C Z G) : Type 0 where
  pub wrote : WroteNothing c.sink
  pub disk : LeftDisk c.disk
  pub clock : LeftClock c.clock
  pub sleeper : LeftSleeper c.sleeper
  pub agency : LeftAgency c.agency

abbrev pub around : {D C Z G : Type 0} → AllDevices D C Z G → Around D C Z G
around a = record {
  sink = a.devices.sink;
  disk = a.devices.disk;
  clock = a.devices.clock;
  sleeper = a.sleeper;
  agency = a.agency;
}

-- the parts of a post in a call, before it and after it, by what their kinds tell
module _ {D C Z G : Type 0} where
  abbrev pub disk_in : disk.Ghosts D → Post D C Z G → Post D C Z G → Disks D
  disk_in kind old new = this_disk kind.tells kind.on_disk kind.faults old.disk new.disk

  abbrev pub clock_in : clock.Ghosts C → Post D C Z G → Post D C Z G → Clocks C
  clock_in kind old new = this_clock kind.coming old.clock new.clock

  abbrev pub sleeper_in : sleeper.Ghosts Z → Post D C Z G → Post D C Z G → Sleepers Z
  sleeper_in kind old new = record {
    tells = kind.tells;
    moment = kind.moment;
    sleeper = old.sleeper;
    sleeper_after = new.sleeper;
  }

  abbrev pub agency_in : agency.Ghosts G → Post D C Z G → Post D C Z G → Agencies G
  agency_in kind old new = record {
    kind = agency_kind kind;
    begun = kind.begun;
    agency = old.agency;
    agency_after = new.agency;
    before = agency_state_of kind old.agency;
    after = agency_state_of kind new.agency;
  }

  -- all of them, with the sink
  abbrev pub around_in : Sinks → disk.Ghosts D → clock.Ghosts C → sleeper.Ghosts Z → agency.Ghosts G → Post D C Z G →
      Post D C Z G → Around D C Z G
  around_in sink d c z g old new = record {
    sink = sink;
    disk = disk_in d old new;
    clock = clock_in c old new;
    sleeper = sleeper_in z old new;
    agency = agency_in g old new;
  }

  -- and with the source
  abbrev pub this_call : Sources → Sinks → disk.Ghosts D → clock.Ghosts C → sleeper.Ghosts Z → agency.Ghosts G → Post D C Z G →
      Post D C Z G → AllDevices D C Z G
  this_call source sink d c z g old new = record {
    devices = record { source = source; sink = sink; disk = disk_in d old new; clock = clock_in c old new };
    sleeper = sleeper_in z old new;
    agency = agency_in g old new;
  }

-- neither the sleeper nor the agency was touched
pub record NobodyCalled {D C Z G : Type 0} (a : AllDevices D C Z G) : Type 0 where
  pub sleeper : LeftSleeper a.sleeper
  pub agency : LeftAgency a.agency

-- the sleeper by a script's clock line START STEP, which replaces it by one that leaps from START: whether it tells its
-- moment, and that at the start
abbrev pub tells_moment : {Z : Type 0} → Option (ℕ × ℕ) → Sleepers Z → Bool
tells_moment None z = z.tells
tells_moment (Some line) z = true

abbrev pub first_moment : {Z : Type 0} → Option (ℕ × ℕ) → Sleepers Z → ℕ
first_moment None z = z.moment z.sleeper
first_moment (Some line) z = line.0
