-- What a drain over a store and its standby leaves of both, and of the agency.
use Rattle.std.specs.Prelude.{◌≡◌, ◌⊎◌, ◌≤◌, ◌++◌, [], ℕ, List, IsTrue, Option, Some, None, Result, Err}
use Rattle.agency_port.specs.declared.turns.Told.{Told as TurnLine}
use Rattle.agency_rules.specs.declared.plans.Plan.{Plan}
use Rattle.chain_disk.specs.OnDisk.{LeavesNow}
use Rattle.chain_store.specs.Crashes.{SurvivesCrashes}
use Rattle.huella.specs.Linked.{Linked}
use Rattle.journal.specs.declared.faults.StoreFault.TheVariants as store
use Rattle.ports.specs.Causes.{Rose}
use Rattle.record_codec.specs.declared.entry.Entry.{Entry}
use Rattle.record_fields.specs.declared.versions.Version.{Version}
use Rattle.sender.specs.declared.answers.DrainFault.{DrainFault}
use Rattle.sender.specs.declared.answers.DrainFault.TheVariants as drain
use Rattle.shop_core.specs.History.{recs}
use Rattle.shop_core.specs.Legal.{Legal}
use Rattle.standby.specs.Chains.{ChainOnDisk}
use Rattle.standby.specs.Pairs.{Both, stop_of}
use Rattle.shop_drain.specs.Draining.{AddsNotesAlone, AgreesInFile, Beginning, DiskSpan, IsSession, IsUnopened, Outcome, Span}
use Rattle.shop_drain.specs.Draining.{StillAgrees, torn_in}
use Rattle.sender_session.specs.Session.{IsDiskAnswer}
use Rattle.sender_session.specs.Noting.{NotesSaid, NotesWhatIsSaid}

-- the torn entry of the one that has stopped
abbrev pub first_torn : Option ℕ → Option Entry → Option Entry → Option Entry
first_torn (Some faults) shop standby = shop
first_torn None shop standby = standby

-- what such a drain ends with: the history is what both hold, and the torn notes are those of the one that has stopped
abbrev pub outcome_by : {D C M : Type 0} → Both D C M → List TurnLine → Result (Unit {0}) DrainFault → Outcome
outcome_by both turns answer = record {
  end = both.standby.history.entries;
  torn = torn_in (stop_of both) (first_torn both.shop.stopped both.shop.torn both.standby.torn);
  turns = turns;
  answer = answer;
}

-- notes are torn only after the lines of all messages but the last
abbrev pub MissesTorn : Span → Type 0
MissesTorn d = (d.torn ≡ [])
    ⊎ NotesSaid d.start d.end d.old.ledger.messages d.new.ledger.messages (Err (drain.Store store.DiskFault))

-- what one of the two has at the end: its history, and the entry after it whose append failed
pub record Held : Type 0 where
  pub entries : List Entry
  pub torn : List Entry

abbrev pub held_by : {D : Type 0} → ChainOnDisk D → Held
held_by chain = record { entries = chain.history.entries; torn = torn_in chain.stopped chain.torn }

-- How a file and its copy stand to what both hold. The copy has that. The file has it too, and what is torn is its own; or the
-- copy's disk failed at notes that the file has.
pub record AreHeld (end torn : List Entry) (file copy : Held) : Type 0 where
  pub copy_is : copy.entries ≡ end
  --= A guarded file has what its copy has, and what is torn is its own; or the copy's disk failed, and the file has
  --= the lines that were torn there.
  --= No body: it is of `standby/IsPair.beside`
  pub file_is : ((file.entries ≡ end) × (file.torn ≡ torn) × (copy.torn ≡ []))
      ⊎ ((file.entries ≡ end ++ torn) × (file.torn ≡ []) × (copy.torn ≡ torn))

-- What a drain leaves of one of the two. Each crash since some moment leaves what P says of the histories and the torn notes.
pub record ChainDrained (P : List Entry → List Entry → List Entry → List ℕ → Type 0) (version : Version) (issuer : List ℕ)
    (start : List Entry) (h : Held) (k : DiskSpan) (d : Span) : Type 0 where
  pub notes : AddsNotesAlone start h.entries
  --= The lines in a guarded file and in its copy are the first of those that the messages say.
  --= No body: it is of `turn` and of `Pair::note`
  pub said : IsTrue d.kind.tells → NotesWhatIsSaid start h.entries d.old.ledger.messages d.new.ledger.messages
  pub legal : Legal version issuer h.entries
  pub linked : Linked issuer (recs h.entries)
  --= Each crash while `guard` drains leaves of file and copy a front of what each has at the end, with what is
  --= torn, and now the whole.
  --= No body: it is of `Pair::note`
  pub kept : IsTrue k.tells → SurvivesCrashes (P start h.entries h.torn) version issuer h.entries h.torn k.since k.now
  -- where the agency agrees it does with the history of each file that a crash now leaves
  pub images : IsTrue k.tells → StillAgrees d → LeavesNow k.now (AgreesInFile version issuer d.new)
  --= Lines are torn in a guarded file or in its copy only where its own disk's count rose.
  --= No body: it is of `Pair::note`
  pub torn_risen : (h.torn ≡ []) ⊎ Rose k.faults k.faults_after
  pub later : k.faults ≤ k.faults_after

-- The drain of an opened store and of a standby with the same history. What was said, noted and agreed is said of what both hold
-- at the end.
pub record GuardDrains (P Q : List Entry → List Entry → List Entry → List ℕ → Type 0) (begun : Beginning) (plan : Plan)
    (version : Version) (issuer : List ℕ) (k l : DiskSpan) (d : Span) (file copy : Held) : Type 0 where
  --= All that is said of a drain's session holds of what a guarded file and its copy both hold.
  --= No body: it is of `Sender::drain`, over the pair as its outbox
  pub session : IsUnopened d ⊎ IsSession begun plan d
  pub shop : ChainDrained P version issuer d.start file k d
  pub standby : ChainDrained Q version issuer d.start copy l d
  pub ahead : AreHeld d.end d.torn file copy
  --= `guard` answers a fault of the disk only where the count of one of the two disks rose.
  --= No body: it is of `Pair::note`
  pub risen : IsDiskAnswer d.answer → Rose k.faults k.faults_after ⊎ Rose l.faults l.faults_after
