-- What follows from what is said of a day's stop.
use Rattle.std.proofs.Common.{◌≡◌, ◌⊎◌, inl, inr, ◌≤◌, true, [], ◌∷◌, Option, Some}
use Rattle.std.proofs.Common.{None, Result, Ok, Err, refl, arith, cond}
use Rattle.std.specs.List.{AllByRecursion, count_by, list_any}
use Rattle.std.proofs.lemmas.List.Sums.{sum_by-cons}
use Rattle.journal.specs.declared.faults.StoreFault.{StoreFault}
use Rattle.journal.specs.declared.faults.StoreFault.TheVariants.{DiskFault, Stopped, NoMemory}
use Rattle.record_codec.specs.declared.entry.Entry.{Entry}
use Rattle.shop_core.specs.declared.answer.Reply.{Reply}
use Rattle.sender_beside.specs.Days.{Stop, TillReplies, all_replies, torn_of}
use Rattle.sender_session.specs.Session.{AreNotesEntry}
use Rattle.chain_store.specs.Replies.{AllGoOn, Replies, is_disk_fault}
use Rattle.verifactu.specs.Stopping.{FaultsOnce, IsOfTill, TearsAtMostOne, TearsByAFault, TearsForTillOrSender, TearsWhereItRose}
use Rattle.verifactu.specs.Stopping.{TellsOfItsStop}
use Rattle.sender_beside.specs.Tills.{RecordedBy, SenderFails, StopIs, is_own_fault, own_faults}
use Rattle.sender_beside.specs.Tills.RecordedBy.{sender, till as by_till}
use Rattle.verifactu.proofs.Promised.{one_torn, torn_risen}

-- where no reply is a fault of the disk none is one of its own record
none_faults : (replies : Replies) → AllGoOn replies → count_by is_own_fault replies ≡ 0
none_faults [] all = refl
none_faults (Ok reply ∷ replies) all =
    let more = none_faults replies all.1 in
    let sum = sum_by-cons (λ (r : Result Reply StoreFault). cond (is_own_fault r) 1 0) (Ok reply) replies in
    omega (arith, more, sum)
none_faults (Err NoMemory ∷ replies) all =
    let more = none_faults replies all.1 in
    let sum = sum_by-cons (λ (r : Result Reply StoreFault). cond (is_own_fault r) 1 0) (Err NoMemory) replies in
    omega (arith, more, sum)
none_faults (Err DiskFault ∷ replies) all = absurd all.0
none_faults (Err (Stopped count) ∷ replies) all = absurd all.0

-- where one is, one is a fault of the disk
some_told : (replies : Replies) → count_by is_own_fault replies ≡ 1 → list_any is_disk_fault replies ≡ true
some_told [] one = absurd (omega (arith, one))
some_told (Ok reply ∷ replies) one =
    let sum = sum_by-cons (λ (r : Result Reply StoreFault). cond (is_own_fault r) 1 0) (Ok reply) replies in
    some_told replies (omega (arith, one, sum))
some_told (Err NoMemory ∷ replies) one =
    let sum = sum_by-cons (λ (r : Result Reply StoreFault). cond (is_own_fault r) 1 0) (Err NoMemory) replies in
    some_told replies (omega (arith, one, sum))
some_told (Err DiskFault ∷ replies) one = refl
some_told (Err (Stopped count) ∷ replies) one = refl

pub one_entry : TearsAtMostOne
one_entry d faults faults_after is = one_torn d.stop

pub by_a_fault : TearsByAFault
by_a_fault d faults faults_after is all never = by_stop d.stop is
  where
    by_stop : (stop : Option Stop) → StopIs d faults faults_after stop → torn_of stop ≡ []
    by_stop None h = refl
    by_stop (Some stop) h = absurd (by_whom stop.torn h.by)
      where
        by_whom : (e : Entry) → RecordedBy d e → ⊥
        by_whom e (by_till t among cut once) = let none = none_faults (all_replies d.tills) all in omega (arith, once, none)
        by_whom e (sender notes fails none) = never fails

pub where_it_rose : TearsWhereItRose
where_it_rose d faults faults_after is = torn_risen d faults faults_after d.stop is

pub till_or_sender : TearsForTillOrSender
till_or_sender d faults faults_after is = by_stop d.stop is
  where
    by_whom : (e : Entry) → RecordedBy d e → ((t : TillReplies) × IsOfTill d e t) ⊎ AreNotesEntry e
    by_whom e (by_till t among cut once) = inl (t, (among, cut))
    by_whom e (sender notes fails none) = inr notes

    by_stop : (stop : Option Stop) → StopIs d faults faults_after stop →
        AllByRecursion (λ (e : Entry). ((t : TillReplies) × IsOfTill d e t) ⊎ AreNotesEntry e) (torn_of stop)
    by_stop None h = tt
    by_stop (Some stop) h = (by_whom stop.torn h.by, tt)

pub told_of_it : TellsOfItsStop
told_of_it d faults faults_after is = by_stop d.stop is
  where
    by_whom : (e : Entry) → RecordedBy d e → (list_any is_disk_fault (all_replies d.tills) ≡ true) ⊎ SenderFails d
    by_whom e (by_till t among cut once) = inl (some_told (all_replies d.tills) once)
    by_whom e (sender notes fails none) = inr fails

    by_stop : (stop : Option Stop) → StopIs d faults faults_after stop →
        (stop ≡ None) ⊎ ((list_any is_disk_fault (all_replies d.tills) ≡ true) ⊎ SenderFails d)
    by_stop None h = inl refl
    by_stop (Some stop) h = inr (by_whom stop.torn h.by)

pub once : FaultsOnce
once d faults faults_after is = by_stop d.stop is
  where
    by_whom : (e : Entry) → RecordedBy d e → own_faults d ≤ 1
    by_whom e (by_till t among cut one) = omega (arith, one)
    by_whom e (sender notes fails none) = omega (arith, none)

    by_stop : (stop : Option Stop) → StopIs d faults faults_after stop → own_faults d ≤ 1
    by_stop None h = let none = none_faults (all_replies d.tills) h.0 in omega (arith, none)
    by_stop (Some stop) h = by_whom stop.torn h.by
