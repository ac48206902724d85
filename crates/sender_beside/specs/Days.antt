-- The record of a day.
use Rattle.std.specs.Prelude.{ℕ, Bool, List, [], ◌∷◌, flat_map, Option, Some, None, Result}
use Rattle.record_fields.specs.declared.versions.Version.{Version}
use Rattle.record_codec.specs.declared.entry.Entry.{Entry}
use Rattle.sender.specs.Turning.{AgencyState, AgencyKind}
use Rattle.sender.specs.declared.answers.DrainFault.{DrainFault}
use Rattle.shop_core.specs.Answer.Requests.{Asked}
use Rattle.till_calls.specs.Root.{Parts, Root}
use Rattle.chain_store.specs.Replies.{Replies}

-- what a till was told, and how many items of the shop's list it saw at its end
pub record TillReplies : Type 0 where
  pub till : ℕ
  pub replies : Replies
  pub saw : ℕ

-- all that the tills were told
abbrev pub all_replies : List TillReplies → Replies
all_replies tills = flat_map (λ (t : TillReplies). t.replies) tills

-- a shop's stop: the disk's count of faults by which it is told, and the entry whose append failed
pub record Stop : Type 0 where
  pub count : ℕ
  pub torn : Entry

-- A day of a shop: whose it is, the version of its history, what was asked, and the coming answers of the clock; the history at
-- its start and at its end, and the stop after that; what each till was told; what the agency's kind tells, and its state once the
-- session was open and at the end; whether a drain followed the tills' end: always, but after a dialogue that ended at a fault of
-- the disk; and how the sending ended.
pub record Day : Type 0 where
  pub issuer : List ℕ
  pub version : Version
  pub asks : List Asked
  pub coming : ℕ → Option ℕ
  pub start : List Entry
  pub end : List Entry
  pub stop : Option Stop
  pub tills : List TillReplies
  pub kind : AgencyKind
  pub opened : AgencyState
  pub after : AgencyState
  pub drains : Bool
  pub answer : Result (Unit {0}) DrainFault

-- the entry of the stop, where there is one
abbrev pub torn_of : Option Stop → List Entry
torn_of None = []
torn_of (Some stop) = stop.torn ∷ []

-- the stop of a store
abbrev pub stop_of : Option ℕ → Option Entry → Option Stop
stop_of (Some count) (Some torn) = Some (record { count = count; torn = torn })
stop_of (Some count) None = None
stop_of None torn = None

-- the day of a shop that was this at its start, and left these parts of its store
abbrev pub shop_day : {D C : Type 0} → (C → ℕ → Option ℕ) → List Asked → Root C → Parts D C → List TillReplies → AgencyKind → AgencyState →
    AgencyState → Bool → Result (Unit {0}) DrainFault → Day
shop_day coming asks root new tills kind opened after drains answer = record {
  issuer = root.issuer;
  version = root.version;
  asks = asks;
  coming = coming root.clock;
  start = root.history;
  end = new.state.entries;
  stop = stop_of new.stopped new.torn;
  tills = tills;
  kind = kind;
  opened = opened;
  after = after;
  drains = drains;
  answer = answer;
}
