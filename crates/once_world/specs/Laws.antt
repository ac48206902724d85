-- What holds of a shop's legal history and an agency that agree.
use Rattle.std.specs.Prelude.{◌≡◌, ℕ, ◌≤◌, List, [], ◌∷◌, ◌++◌, length, map, take, zip, Some, true, IsSome, ⊤}
use Rattle.std.specs.List.{AllByRecursion, Contains}
use Rattle.record_fields.specs.declared.versions.Version.{Version}
use Rattle.record_fields.specs.declared.versions.Version.TheVariants.{Two}
use Rattle.record_fields.specs.declared.records.Sealed.{Sealed}
use Rattle.record_fields.specs.declared.lines.Line.{Line}
use Rattle.pacing.specs.declared.pace.TheConstants.{MAX_BATCH}
use Rattle.record_codec.specs.declared.entry.Entry.{Entry}
use Rattle.record_codec.specs.declared.entry.Entry.TheVariants.{Notes}
use Rattle.shop_core.specs.History.{recs, noted, is_record, waiting}
use Rattle.shop_core.specs.Answer.Requests.{IsAsked}
use Rattle.shop_core.specs.Items.{entries_of}
use Rattle.shop_core.specs.declared.items.Item.{Item}
use Rattle.shop_core.specs.Legal.{Legal}
use Rattle.agency_rules.specs.Pairs.{delivered, delivered_all, line_of}
use Rattle.agency_rules.specs.declared.plans.Plan.{Plan}
use Rattle.agency_rules.specs.declared.plans.PlannedVerdict.{PlannedVerdict}
use Rattle.agency_port.specs.Answers.{answers}
use Rattle.agency_port.specs.Rules.{AreAmong}
use Rattle.agency_port.specs.declared.answers.ReplyLine.TheVariants.{First}
use Rattle.shop_core.specs.Prefix.{IsPrefix}
use Rattle.once_world.specs.Agreement.{Agree, AreNextLines, IsLearnt, AddsNoRefusedSale, HasNoRefusedSale, AreOnce}
use Rattle.once_world.specs.Agreement.{lines_of}
use Rattle.once_world.specs.Looks.{answers_for, lines_in_front, HasNoHole}
use Rattle.once_world.specs.Outbox.{Sight, Grows, AddsOwn, GainsOwnNotes}
use Rattle.once_world.specs.World.{world}
use Rattle.once_world.specs.declared.events.Event.{Event}
use Rattle.once_world.specs.declared.events.Event.TheVariants as event
use Rattle.once_world.specs.declared.world.World.{World}

abbrev pub AreRecords : List Entry → Type 0
AreRecords more = AllByRecursion (λ (entry : Entry). is_record entry ≡ true) more

-- each record stands once among the processed ones
abbrev pub StandOnce : Type 0
StandOnce = (version : Version) (issuer : List ℕ) (entries : List Entry) (processed : List (Sealed × Line))
    (sent : List (List Sealed)) →
    Legal version issuer entries → Agree entries processed sent → AreOnce processed

-- whatever batches that were sent come, in whatever order, agreement stays
abbrev pub DeliveriesKeepAgreement : Type 0
DeliveriesKeepAgreement = (version : Version) (issuer : List ℕ) (verdicts : List PlannedVerdict) (entries : List Entry)
    (processed : List (Sealed × Line)) (sent batches : List (List Sealed)) →
    Legal version issuer entries → Agree entries processed sent → AreAmong sent batches →
    Agree entries (delivered_all verdicts processed batches) sent

-- with more records, one batch of waiting records sent, or the next lines noted, agreement stays
abbrev pub RecordsKeepAgreement : Type 0
RecordsKeepAgreement = (entries more : List Entry) (processed : List (Sealed × Line)) (sent : List (List Sealed)) →
    Agree entries processed sent → AreRecords more → Agree (entries ++ more) processed sent

abbrev pub SendingKeepsAgreement : Type 0
SendingKeepsAgreement = (entries : List Entry) (processed : List (Sealed × Line)) (sent : List (List Sealed)) (count : ℕ) →
    Agree entries processed sent → count ≤ MAX_BATCH → Agree entries processed (sent ++ take count (waiting entries) ∷ [])

abbrev pub NotingKeepsAgreement : Type 0
NotingKeepsAgreement = (entries : List Entry) (processed : List (Sealed × Line)) (sent : List (List Sealed)) (lines : List Line) →
    Agree entries processed sent → AreNextLines entries processed lines →
    Agree (entries ++ Notes (length (noted entries)) lines ∷ []) processed sent

-- the next lines are the next ones also after more records
abbrev pub RecordsKeepNextLines : Type 0
RecordsKeepNextLines = (entries more : List Entry) (processed : List (Sealed × Line)) (lines : List Line) →
    AreNextLines entries processed lines → AreRecords more → AreNextLines (entries ++ more) processed lines

-- an agency that takes the noted pairs, and to which nothing was sent, agrees
abbrev pub NotedPairsAgree : Type 0
NotedPairsAgree = (version : Version) (issuer : List ℕ) (entries : List Entry) → Legal version issuer entries →
    Agree entries (zip (recs entries) (noted entries)) []

-- a batch that was sent adds no refused sale
abbrev pub DeliveriesRefuseNoSale : Type 0
DeliveriesRefuseNoSale = (version : Version) (issuer : List ℕ) (verdicts : List PlannedVerdict) (entries : List Entry)
    (processed : List (Sealed × Line)) (sent : List (List Sealed)) (batch : List Sealed) →
    Legal version issuer entries → Agree entries processed sent → Contains sent batch →
    AddsNoRefusedSale processed (delivered verdicts processed batch)

-- where the first waiting records are all answered as new, their lines are the next ones
abbrev pub FirstLinesAreNext : Type 0
FirstLinesAreNext = (version : Version) (issuer : List ℕ) (verdicts : List PlannedVerdict) (entries : List Entry)
    (processed : List (Sealed × Line)) (sent : List (List Sealed)) (count : ℕ) (lines : List Line) →
    Legal version issuer entries → Agree entries processed sent → answers verdicts processed (take count (waiting entries))
    ≡ map First lines →
    IsPrefix (noted entries ++ lines) (lines_of (delivered verdicts processed (take count (waiting entries))))

-- a consultation of the first waiting records has no hole
abbrev pub WaitingHaveNoHole : Type 0
WaitingHaveNoHole = (version : Version) (issuer : List ℕ) (entries : List Entry) (processed : List (Sealed × Line))
    (sent : List (List Sealed))
    (count : ℕ) →
    Legal version issuer entries → Agree entries processed sent → HasNoHole (answers_for processed (take count (waiting entries)))

-- the lines in front of it are the next ones
abbrev pub LookedLinesAreNext : Type 0
LookedLinesAreNext = (version : Version) (issuer : List ℕ) (entries : List Entry) (processed : List (Sealed × Line))
    (sent : List (List Sealed))
    (count : ℕ) →
    Legal version issuer entries → Agree entries processed sent →
    IsPrefix (noted entries ++ lines_in_front (answers_for processed (take count (waiting entries)))) (lines_of processed)

-- whatever batches come, the list only grows
abbrev pub DeliveriesOnlyAdd : Type 0
DeliveriesOnlyAdd = (verdicts : List PlannedVerdict) (processed : List (Sealed × Line)) (batches : List (List Sealed)) →
    IsPrefix processed (delivered_all verdicts processed batches)

-- each record of a batch that came is seen
abbrev pub DeliveredAreSeen : Type 0
DeliveredAreSeen = (verdicts : List PlannedVerdict) (processed : List (Sealed × Line)) (batch : List Sealed) →
    AllByRecursion (λ (s : Sealed). IsSome (line_of (delivered verdicts processed batch) s.huella)) batch

-- what is seen stays so
abbrev pub SeenStays : Type 0
SeenStays = (verdicts : List PlannedVerdict) (processed : List (Sealed × Line)) (batches : List (List Sealed))
    (huella : List ℕ) (line : Line) →
    line_of processed huella ≡ Some line → line_of (delivered_all verdicts processed batches) huella ≡ Some line

-- the ask of an event, where it has one, is in its ranges
abbrev pub IsEvent : Event → Type 0
IsEvent (event.Append ask seconds) = IsAsked ask
IsEvent (event.Send count) = ⊤
IsEvent (event.Deliver index) = ⊤
IsEvent event.Look = ⊤
IsEvent event.Note = ⊤
IsEvent (event.Tear ask seconds kept) = IsAsked ask
IsEvent (event.TearNote kept) = ⊤
IsEvent event.Reopen = ⊤

-- The history is legal and agrees with the agency, and what was learnt are the agency's next lines. So each record stands once
-- among the processed ones, and no sale is refused because the register says otherwise.
pub record IsSound (issuer : List ℕ) (w : World) : Type 0 where
  pub legal : Legal Two issuer w.state.entries
  pub agree : Agree w.state.entries w.processed w.sent
  pub learnt : IsLearnt w.state.entries w.processed w.learnt
  pub once : AreOnce w.processed
  pub sales : HasNoRefusedSale w.processed

-- whatever the issuer, the plan and the events
abbrev pub EveryWorldIsSound : Type 0
EveryWorldIsSound = (issuer : List ℕ) (plan : Plan) (events : List Event) → AllByRecursion IsEvent events →
    IsSound issuer (world issuer plan events)

-- Where a shop gained no notes but its outbox's own, and nothing was its own, records alone came: before the look, and from
-- there on.
abbrev pub CameQuietly : Type 0
CameQuietly = (before look after : Sight) (came : Grows before look) → look.own ≡ before.own → (then : Grows look after) →
    after.own ≡ look.own → GainsOwnNotes before after →
    AreRecords (entries_of came.items.rest) × AreRecords (entries_of then.items.rest)

-- the same, where one item of its own came last
abbrev pub CameBesideOwn : Type 0
CameBesideOwn = (before look after : Sight) (item : List Item → Item) (came : Grows before look) → look.own ≡ before.own →
    (adds : AddsOwn look after item) → GainsOwnNotes before after →
    AreRecords (entries_of came.items.rest) × AreRecords (entries_of adds.others)
