-- What each event makes of a shop, the agency, and the batches between them. What the shop is while it is up, in doubt or
-- has learnt lines is this project's own.
use Rattle.std.specs.Prelude.{ℕ, List, [], ◌∷◌, ◌++◌, length, take, Option, Some, None, Bool, true, false, not, ◌&&◌, nat_le}
use Rattle.std.specs.Prelude.{slice_get, is_none, if◌then◌else◌}
use Rattle.record_fields.specs.declared.versions.Version.TheVariants.{Two}
use Rattle.record_fields.specs.declared.records.Sealed.{Sealed}
use Rattle.record_fields.specs.declared.lines.Line.{Line}
use Rattle.pacing.specs.declared.pace.TheConstants.{MAX_BATCH}
use Rattle.agency_port.specs.declared.agency.TheConstants.{MAX_CONSULTED}
use Rattle.record_codec.specs.declared.entry.Entry.{Entry}
use Rattle.record_codec.specs.declared.entry.Entry.TheVariants.{Notes}
use Rattle.shop_core.specs.Answer.Plans.{answer}
use Rattle.shop_core.specs.History.{noted, waiting}
use Rattle.shop_core.specs.declared.answer.Planned.{Planned}
use Rattle.shop_core.specs.declared.answer.Planned.TheVariants.{Again, Refused, Made}
use Rattle.agency_rules.specs.Pairs.{delivered}
use Rattle.agency_rules.specs.declared.plans.Plan.{Plan}
use Rattle.once_world.specs.Looks.{answers_for, lines_in_front}
use Rattle.once_world.specs.declared.events.Event.{Event}
use Rattle.once_world.specs.declared.events.Event.TheVariants as event
use Rattle.once_world.specs.declared.world.World.{World}

-- up and in doubt, and nothing else
abbrev pub empty : List ℕ → World
empty issuer = record {
  state = record { issuer = issuer; version = Two; entries = []; room = None };
  processed = [];
  sent = [];
  up = true;
  doubt = true;
  learnt = None;
}

abbrev pub with_entry : World → Entry → World
with_entry w entry = record
    w { state = record { issuer = w.state.issuer; version = w.state.version; entries = w.state.entries ++ entry ∷ []; room = None } }

-- the entry that was made is added
abbrev pub appended : World → Planned → World
appended w (Made entry) = with_entry w entry
appended w (Again receipt) = w
appended w (Refused why) = w

-- the shop stops while the entry that was made is added, so that it stands in the history or not
abbrev pub torn : World → Bool → Planned → World
torn w kept (Made entry) = record (if kept then with_entry w entry else w) { up = false }
torn w kept (Again receipt) = w
torn w kept (Refused why) = w

abbrev pub may_send : World → ℕ → Bool
may_send w count = w.up && not w.doubt && is_none w.learnt && nat_le 1 count && nat_le count MAX_BATCH
    && nat_le count (length (waiting w.state.entries))

-- the first waiting records go out, and whether they came is in doubt
abbrev pub after_send : World → ℕ → World
after_send w count = record w { sent = w.sent ++ take count (waiting w.state.entries) ∷ []; doubt = true }

-- a batch that was ever sent comes, for the first time or again
abbrev pub after_delivery : Plan → World → Option (List Sealed) → World
after_delivery plan w None = w
after_delivery plan w (Some batch) = record w { processed = delivered plan.verdicts w.processed batch }

-- nothing is learnt where no line is
abbrev pub learnt_lines : List Line → Option (List Line)
learnt_lines [] = None
learnt_lines (line ∷ lines) = Some (line ∷ lines)

-- the agency is asked for the first MAX_CONSULTED waiting records
abbrev pub after_look : World → World
after_look w = record w {
  learnt = learnt_lines
      (lines_in_front (answers_for w.processed (take MAX_CONSULTED (waiting w.state.entries))));
  doubt = false;
}

-- the lines that were learnt are noted
abbrev pub after_note : World → Option (List Line) → World
after_note w None = w
after_note w (Some lines) = record (with_entry w (Notes (length (noted w.state.entries)) lines)) { learnt = None }

-- the shop stops while they are
abbrev pub torn_note : World → Bool → Option (List Line) → World
torn_note w kept None = w
torn_note w kept (Some lines) = record (if kept then after_note w (Some lines) else w) { up = false; learnt = None }

abbrev pub reopened : World → World
reopened w = record w { up = true; doubt = true; learnt = None }

-- what an event makes of the world; one whose condition fails changes nothing
abbrev pub happens : Plan → World → Event → World
happens plan w (event.Append ask seconds) = if w.up then appended w (answer w.state.version w.state.issuer w.state.entries ask
    seconds) else w
happens plan w (event.Send count) = if may_send w count then after_send w count else w
happens plan w (event.Deliver index) = after_delivery plan w (slice_get w.sent index)
happens plan w event.Look = if w.up && w.doubt then after_look w else w
happens plan w event.Note = if w.up then after_note w w.learnt else w
happens plan w (event.Tear ask seconds kept) = if w.up then torn w kept (answer w.state.version w.state.issuer w.state.entries ask
    seconds) else w
happens plan w (event.TearNote kept) = if w.up then torn_note w kept w.learnt else w
happens plan w event.Reopen = if w.up then w else reopened w

abbrev pub happen : Plan → World → List Event → World
happen plan w [] = w
happen plan w (e ∷ events) = happen plan (happens plan w e) events

-- the world after these events
abbrev pub world : List ℕ → Plan → List Event → World
world issuer plan events = happen plan (empty issuer) events
