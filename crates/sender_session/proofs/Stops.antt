-- Whether a shop has stopped, by the answer to a sender's turn and to its drain.
use Rattle.std.proofs.Common.{◌≡◌, ◌⊎◌, inl, inr, ℕ, List, [], ◌∷◌, ◌++◌, length, Option, Some, slice_get, refl, sym, ◌∙◌}
use Rattle.std.proofs.Common.{subst, Bool, Result, Ok, Err}
use Rattle.record_fields.specs.declared.lines.Line.{Line}
use Rattle.journal.specs.declared.faults.StoreFault.{StoreFault}
use Rattle.journal.specs.declared.faults.StoreFault.TheVariants as store
use Rattle.shop_core.specs.declared.items.Item.{Item}
use Rattle.shop_core.specs.declared.waiting.Waiting.{Waiting}
use Rattle.agency_port.specs.Reply.{Replied}
use Rattle.agency_port.specs.declared.answers.Seen.{Seen}
use Rattle.agency_port.specs.declared.answers.AgencyFault.TheVariants as agency
use Rattle.agency_port.specs.declared.turns.Told.{Told}
use Rattle.once_world.specs.Outbox.{Sight, NotedBy}
use Rattle.sender.specs.declared.answers.Turn.{Turn}
use Rattle.sender.specs.declared.answers.SendFault.{SendFault}
use Rattle.sender.specs.declared.answers.SendFault.TheVariants as send
use Rattle.sender.specs.declared.answers.DrainFault.{DrainFault}
use Rattle.sender.specs.declared.answers.DrainFault.TheVariants as drain
use Rattle.sender.specs.Agreeing.{Adds, AreNotes}
use Rattle.sender.specs.Draining.{Scene, Drained, EndsWith}
use Rattle.sender.specs.Sending.{Sending}
use Rattle.sender.specs.Turning.{Deed, Nothing, Asked, Handed, AgencyKind, Ends, SeenEnds, ReplyEnds}
use Rattle.sender.proofs.Adding.{adds_then, turn_notes, turns_notes}
use Rattle.sender_session.specs.Session.{EndsStopped, IsDiskAnswer}

-- a drain whose last turn's note was no fault of the disk added notes alone
pub adds_without_fault : (kind : AgencyKind) (exact : Bool) (start then : Scene) (old new : List Told) (result : Result (Unit {0}) DrainFault)
    → (d : Drained kind exact start then old new result) → (d.answer ≡ Err (send.Store store.DiskFault) → ⊥) →
    Adds AreNotes start.sight then.sight
adds_without_fault kind exact start then old new result d never =
    adds_then AreNotes start.sight d.scene.sight then.sight (turns_notes kind exact start d.answers d.links d.scene d.made)
    (turn_notes kind d.scene.agency_state then.agency_state d.scene.sight then.sight d.scene.sending then.sending d.turn.now d.answer
    d.turn.turned never)

-- whether a turn's note was a fault of the disk
pub is_disk_fault : (answer : Result Turn SendFault) → (answer ≡ Err (send.Store store.DiskFault)) ⊎
    (answer ≡ Err (send.Store store.DiskFault) → ⊥)
is_disk_fault (Ok turn) = inr (λ is. absurd cc)
is_disk_fault (Err send.LinkFault) = inr (λ is. absurd cc)
is_disk_fault (Err (send.Contradiction evidence)) = inr (λ is. absurd cc)
is_disk_fault (Err (send.Store store.DiskFault)) = inl refl
is_disk_fault (Err (send.Store (store.Stopped faults))) = inr (λ is. absurd cc)
is_disk_fault (Err (send.Store store.NoMemory)) = inr (λ is. absurd cc)
is_disk_fault (Err send.NoMemory) = inr (λ is. absurd cc)

-- a drain whose last turn's note was a fault of the disk answers it
pub answers_fault : (links : ℕ) (after : Sight) (last : Result Turn SendFault) (result : Result (Unit {0}) DrainFault) →
    EndsWith links after last result → last ≡ Err (send.Store store.DiskFault) → result ≡ Err (drain.Store store.DiskFault)
answers_fault links after last (Ok done) e is = let g = sym e.1 ∙ is in absurd cc
answers_fault links after last (Err (drain.Undelivered noted_count records_count)) e is = let g = sym e.0 ∙ is in absurd cc
answers_fault links after last (Err (drain.Contradiction evidence)) e is = let g = sym e ∙ is in absurd cc
answers_fault links after last (Err (drain.Store fault)) e is = let g = sym e ∙ is in cc
answers_fault links after last (Err drain.NoMemory) e is = let g = sym e ∙ is in absurd cc

pub get_seam : (xs : List Item) (x : Item) → slice_get (xs ++ x ∷ []) (length xs) ≡ Some x
get_seam [] x = refl
get_seam (y ∷ xs) x = get_seam xs x

-- a fault of the disk, in this call or in an earlier one
abbrev pub IsDisk : StoreFault → Type 0
IsDisk store.DiskFault = Unit {0}
IsDisk (store.Stopped faults) = Unit {0}
IsDisk store.NoMemory = ⊥

noted_stopped : (look after : Sight) (lines : List Line) (fault : StoreFault) → IsDisk fault →
    NotedBy look after lines (Err fault) → EndsStopped after.items
noted_stopped look after lines store.DiskFault d a = record { front = _; faults = _; torn = _; is = a.adds.items }
noted_stopped look after lines (store.Stopped faults) d a = record { front = _; faults = _; torn = _; is = a.items }
noted_stopped look after lines store.NoMemory d a = absurd d

seen_stopped : (said : Option Replied) (shown : Waiting) (seen : List Seen) (look after : Sight) (doubt : Bool)
    (fault : StoreFault) → IsDisk fault → SeenEnds said shown seen look after (Err (send.Store fault)) doubt →
    EndsStopped after.items
seen_stopped said shown seen look after doubt fault d ends = noted_stopped look after ends.0.1.lines fault d ends.0.1.noted

reply_stopped : (shown : Waiting) (reply : Replied) (look after : Sight) (doubt : Bool) (fault : StoreFault) → IsDisk fault →
    ReplyEnds shown reply look after (Err (send.Store fault)) doubt → EndsStopped after.items
reply_stopped shown reply look after doubt fault d ends = noted_stopped look after ends.0.1.lines fault d ends.0.1.noted

pub ends_stopped : (old : Sending) (now : ℕ) (shown : Waiting) (look after : Sight) (deed : Deed) (fault : StoreFault)
    (new : Sending) → IsDisk fault → Ends old now shown look after deed (Err (send.Store fault)) new → EndsStopped after.items
ends_stopped old now shown look after Nothing fault new d ends = absurd ends.0
ends_stopped old now shown look after (Asked (Ok seen)) fault new d ends = seen_stopped old.said shown seen look after new.doubt
    fault d ends.2.3
ends_stopped old now shown look after (Asked (Err agency.Failed)) fault new d ends = let e = ends.2.0 in absurd cc
ends_stopped old now shown look after (Asked (Err agency.NoMemory)) fault new d ends = let e = ends.2.0 in absurd cc
ends_stopped old now shown look after (Handed (Ok reply)) fault new d ends = elim ends.3 [
  | inl r ↦ reply_stopped shown reply look after new.doubt fault d r.ends
  | inr r ↦ (let e = r.result_is in absurd cc)
]
ends_stopped old now shown look after (Handed (Err agency.Failed)) fault new d ends = let e = ends.3.0 in absurd cc
ends_stopped old now shown look after (Handed (Err agency.NoMemory)) fault new d ends = let e = ends.3.0 in absurd cc

-- a drain that answers a fault of the disk leaves a stop
pub drained_stopped : (kind : AgencyKind) (exact : Bool) (start then : Scene) (old new : List Told)
    (result : Result (Unit {0}) DrainFault) → Drained kind exact start then old new result → IsDiskAnswer result →
    EndsStopped then.sight.items
drained_stopped kind exact start then old new result d disk = elim d.ends [
  | inl p ↦ by_result result p.1 disk
  | inr p ↦ absurd (subst (λ (r : Result (Unit {0}) DrainFault). IsDiskAnswer r) p.0 disk)
]
  where
    by_fault : (fault : StoreFault) → IsDisk fault → d.answer ≡ Err (send.Store fault) → EndsStopped then.sight.items
    by_fault fault is e =
        let t = d.turn.turned in
        ends_stopped d.scene.sending d.turn.now t.shown t.look then.sight t.deals.deed fault then.sending is
        (subst (λ (r : Result Turn SendFault). Ends d.scene.sending d.turn.now t.shown t.look then.sight t.deals.deed r
        then.sending) e t.deals.ends)

    by_result : (r : Result (Unit {0}) DrainFault) → EndsWith d.links then.sight d.answer r → IsDiskAnswer r →
        EndsStopped then.sight.items
    by_result (Ok done) e is = absurd is
    by_result (Err (drain.Undelivered noted_count records_count)) e is = absurd is
    by_result (Err (drain.Contradiction evidence)) e is = absurd is
    by_result (Err (drain.Store store.DiskFault)) e is = by_fault store.DiskFault tt e
    by_result (Err (drain.Store (store.Stopped faults))) e is = by_fault (store.Stopped faults) tt e
    by_result (Err (drain.Store store.NoMemory)) e is = absurd is
    by_result (Err drain.NoMemory) e is = absurd is
