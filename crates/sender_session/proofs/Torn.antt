-- What a turn tears are the lines that its message says.
use Rattle.std.proofs.Common.{◌≡◌, inl, inr, ℕ, List, [], ◌∷◌, ◌++◌, length, drop, sym, ◌∙◌, ap, subst, arith, append_assoc}
use Rattle.std.proofs.Common.{append-nil, Bool, IsTrue, Some, Result, Ok, Err, slice_get}
use Rattle.std.specs.Prelude.{Contains}
use Rattle.std.proofs.Math.Seq.{drop-append_seam}
use Rattle.std.proofs.lemmas.List.Elements.{Contains-append_cases}
use Rattle.record_fields.specs.declared.lines.Line.{Line}
use Rattle.record_codec.specs.declared.entry.Entry.{Entry}
use Rattle.record_codec.specs.declared.entry.Entry.TheVariants.{Notes as notes_of}
use Rattle.journal.specs.declared.faults.StoreFault.TheVariants as store
use Rattle.batches.specs.Batches.{named_of}
use Rattle.shop_core.specs.History.{noted}
use Rattle.shop_core.specs.Items.{entries_of}
use Rattle.shop_core.specs.declared.items.Item.{Item}
use Rattle.shop_core.specs.declared.items.Item.TheVariants as item
use Rattle.shop_core.specs.declared.waiting.Waiting.{Waiting}
use Rattle.agency_port.specs.declared.answers.AgencyFault.TheVariants as agency
use Rattle.agency_port.specs.declared.messages.Message.{Message}
use Rattle.agency_port.specs.declared.messages.Message.TheVariants.{Submitted, Consulted}
use Rattle.agency_port.specs.declared.turns.Told.{Told}
use Rattle.once_world.specs.Outbox.{Sight, StopsHere, history_of, notes_behind}
use Rattle.sender.specs.declared.answers.Turn.{Turn}
use Rattle.sender.specs.declared.answers.SendFault.{SendFault}
use Rattle.sender.specs.declared.answers.SendFault.TheVariants as send
use Rattle.sender.specs.declared.answers.DrainFault.{DrainFault}
use Rattle.sender.specs.Agreeing.{Adds, AreNotes, HasAt}
use Rattle.sender.specs.Draining.{Drained, Scene}
use Rattle.sender.specs.Sending.{Sending}
use Rattle.sender.specs.Turning.{Deed, Nothing, Asked, Handed, AgencyKind, AgencyState, Dealt, Ends, Turned, turn_call}
use Rattle.sender.proofs.Added.{Added, ends_added, quiet as added_none, notes as added_notes, stops as added_stop}
use Rattle.sender.proofs.Adding.{has_front, turns_notes}
use Rattle.sender.proofs.Growing.{Growth, all_contained}
use Rattle.sender.proofs.Sessions.{is_turn_growth}
use Rattle.sender_session.specs.Session.{TearsSaid}
use Rattle.sender_session.specs.Noting.{TornSaid, lines_said}
use Rattle.sender_session.proofs.Entries.{entries_both}
use Rattle.sender_session.proofs.Contrary.{same_ends}
use Rattle.sender_session.proofs.Noting.{front_said, reply_said}
use Rattle.sender_session.proofs.Stops.{get_seam}

none_there : (n : ℕ) → Contains [] n → ⊥
none_there n c = let lt = c.1 in omega arith

nothing_more : (own : List ℕ) → drop (length own) own ≡ []
nothing_more own = ap (λ (xs : List ℕ). drop (length own) xs) (sym (append-nil own)) ∙ drop-append_seam own []

-- nothing of its own was added
pub tears_none : (before after : Sight) (messages : List Message) → after.own ≡ before.own → TearsSaid before after messages
tears_none before after messages same items faults torn is own =
    let none : drop (length before.own) after.own ≡ [] = ap (λ (o : List ℕ). drop (length before.own) o) same ∙
    nothing_more before.own in
    absurd (none_there (length items) (subst (λ (ps : List ℕ). Contains ps (length items)) none own))

-- a stop over these lines, which the last message says
record DiskFailed (look after : Sight) (old new : List Message) : Type 0 where
  message : Message
  said : new ≡ old ++ message ∷ []
  stop : StopsHere look after (lines_said message)

of_lines : (look after : Sight) (old new : List Message) (m : Message) (lines : List Line) → new ≡ old ++ m ∷ [] →
    lines_said m ≡ lines → StopsHere look after lines → DiskFailed look after old new
of_lines look after old new m lines said are stop = record {
  message = m;
  said = said;
  stop = subst (λ (ls : List Line). StopsHere look after ls) (sym are) stop;
}

disk_deed : (kind : AgencyKind) (agency_state agency_state_then : AgencyState) (look after : Sight) (shown : Waiting) (old new : Sending) (now : ℕ)
    (deed : Deed) → IsTrue kind.tells → Dealt kind agency_state agency_state_then shown deed →
    Ends old now shown look after deed (Err (send.Store store.DiskFault)) new →
    DiskFailed look after agency_state.ledger.messages agency_state_then.ledger.messages
disk_deed kind agency_state agency_state_then look after shown old new now Nothing tells dealt ends = absurd ends.0
disk_deed kind agency_state agency_state_then look after shown old new now (Asked (Ok seen)) tells dealt ends =
    let n = ends.2.3.0.1 in
    of_lines look after agency_state.ledger.messages agency_state_then.ledger.messages (Consulted (named_of shown.list) (Ok seen)) n.lines
    (dealt.1 tells).messages (front_said (named_of shown.list) seen n.lines n.are.0) n.noted
disk_deed kind agency_state agency_state_then look after shown old new now (Asked (Err agency.Failed)) tells dealt ends =
    absurd (let e = ends.2.0 in cc)
disk_deed kind agency_state agency_state_then look after shown old new now (Asked (Err agency.NoMemory)) tells dealt ends =
    absurd (let e = ends.2.0 in cc)
disk_deed kind agency_state agency_state_then look after shown old new now (Handed (Ok reply)) tells dealt ends = elim ends.3 [
  | inl r ↦ (let n = r.ends.0.1 in
      of_lines look after agency_state.ledger.messages agency_state_then.ledger.messages (Submitted shown.list (Ok reply)) n.lines
      (dealt.2 tells).messages (reply_said shown.list reply n.lines r.names n.are) n.noted)
  | inr r ↦ absurd (let e = r.result_is in cc)
]
disk_deed kind agency_state agency_state_then look after shown old new now (Handed (Err agency.Failed)) tells dealt ends =
    absurd (let e = ends.3.0 in cc)
disk_deed kind agency_state agency_state_then look after shown old new now (Handed (Err agency.NoMemory)) tells dealt ends =
    absurd (let e = ends.3.0 in cc)

stop_said : (look after : Sight) (old new : List Message) → DiskFailed look after old new → (items : List Item) (faults : ℕ)
    (torn : Entry) → after.items ≡ items ++ item.Stop faults torn ∷ [] → TornSaid (history_of after) new torn
stop_said look after old new d items faults torn is =
    let a = d.stop.adds in
    let lines = lines_said d.message in
    let there = look.items ++ a.others in
    let both = same_ends there items (item.Stop d.stop.faults (notes_behind there lines)) (item.Stop faults torn) (sym a.items ∙
    is) in
    let same : notes_behind there lines ≡ torn = (let e = both.1 in cc) in
    let history : history_of after ≡ entries_of there = ap entries_of a.items ∙
    entries_both there (item.Stop d.stop.faults (notes_behind there lines) ∷ []) ∙ append-nil (entries_of there) in
    record {
      front = old;
      last = d.message;
      is = d.said;
      torn_is = sym same ∙ ap (λ (es : List Entry). notes_of (length (noted es)) lines) (sym history);
    }

by_added : (before look after : Sight) (old new : List Message) (result : Result Turn SendFault) → look.own ≡ before.own →
    (result ≡ Err (send.Store store.DiskFault) → DiskFailed look after old new) → Added look after result →
    TearsSaid before after new
by_added before look after old new result own f (added_none issuer items same) = tears_none before after new (same ∙ own)
by_added before look after old new result own f (added_notes issuer lines a) = λ items faults torn is there.
    let both = same_ends (look.items ++ a.others) items (item.Entry (notes_behind (look.items ++ a.others) lines)) (item.Stop
    faults torn) (sym a.items ∙ is) in
    absurd (let e = both.1 in cc)
by_added before look after old new result own f (added_stop issuer lines a e) = λ items faults torn is there.
    stop_said look after old new (f e) items faults torn is

pub turn_tears : (kind : AgencyKind) (agency_state agency_state_then : AgencyState) (before after : Sight) (old new : Sending) (now : ℕ)
    (result : Result Turn SendFault) → Turned (turn_call kind agency_state agency_state_then before after old new now result) → IsTrue kind.tells →
    TearsSaid before after agency_state_then.ledger.messages
turn_tears kind agency_state agency_state_then before after old new now result t tells =
    by_added before t.look after agency_state.ledger.messages agency_state_then.ledger.messages result t.own
    (λ e. disk_deed kind agency_state agency_state_then t.look after t.shown old new now t.deals.deed tells t.deals.dealt
    (subst (λ (r : Result Turn SendFault). Ends old now t.shown t.look after t.deals.deed r new) e t.deals.ends))
    (ends_added old now t.shown t.look after t.deals.deed result new t.deals.ends)

-- after turns that added notes alone
pub tears_then : (a b c : Sight) (messages : List Message) → Adds AreNotes a b → Growth b c → TearsSaid b c messages →
    TearsSaid a c messages
tears_then a b c messages notes g h items faults torn is own =
    let whole : c.own ≡ a.own ++ (notes.own ++ g.own) = g.own_is ∙ ap (λ (ps : List ℕ). ps ++ g.own) notes.own_is ∙
    append_assoc a.own notes.own g.own in
    let gained : drop (length a.own) c.own ≡ notes.own ++ g.own = ap (λ (ps : List ℕ). drop (length a.own) ps) whole ∙
    drop-append_seam a.own (notes.own ++ g.own) in
    let later : drop (length b.own) c.own ≡ g.own = ap (λ (ps : List ℕ). drop (length b.own) ps) g.own_is ∙
    drop-append_seam b.own g.own in
    elim (Contains-append_cases notes.own g.own (length items) (subst (λ (ps : List ℕ). Contains ps (length items)) gained own)) [
      | inl early ↦ absurd (not_early early)
      | inr late ↦ h items faults torn is (subst (λ (ps : List ℕ). Contains ps (length items)) (sym later) late)
    ]
  where
    not_early : Contains notes.own (length items) → ⊥
    not_early early =
        let x = has_front AreNotes b.items g.items (length items) (all_contained (HasAt AreNotes b.items) notes.own
        (length items) notes.are early) in
        let e : Some x.0 ≡ Some (item.Stop faults torn) = sym (subst (λ (xs : List Item). slice_get xs (length items) ≡ Some x.0)
        (sym g.items_is) x.1) ∙ ap (λ (xs : List Item). slice_get xs (length items)) is ∙ get_seam items (item.Stop faults torn)
        in
        let f : x.0 ≡ item.Stop faults torn = (let k = e in cc) in
        subst AreNotes f x.2

pub drained_tears : (kind : AgencyKind) (exact : Bool) (start then : Scene) (old new : List Told) (result : Result (Unit {0})
    DrainFault) → Drained kind exact start then old new result → IsTrue kind.tells →
    TearsSaid start.sight then.sight then.agency_state.ledger.messages
drained_tears kind exact start then old new result d tells =
    tears_then start.sight d.scene.sight then.sight then.agency_state.ledger.messages
    (turns_notes kind exact start d.answers d.links d.scene d.made) (is_turn_growth kind exact d.scene then d.answer d.turn)
    (turn_tears kind d.scene.agency_state then.agency_state d.scene.sight then.sight d.scene.sending then.sending d.turn.now d.answer
    d.turn.turned tells)
