-- The lines of a till.
use Rattle.std.proofs.Common.{◌≡◌, ◌⊎◌, inr, ℕ, ◌<◌, Bool, false, List, [], ◌∷◌, length, map, Result, Err, refl, sym, subst, ap}
use Rattle.std.proofs.Common.{◌∙◌, arith}
use Rattle.std.specs.Prelude.{◌||◌}
use Rattle.std.specs.List.{flat_map, list_any}
use Rattle.std.proofs.lemmas.List.Folds.{flat_map-map, list_any-append}
use Rattle.ports.specs.Sinks.{FailedIn, Sinks, Wrote}
use Rattle.journal.specs.declared.faults.StoreFault.{StoreFault}
use Rattle.journal.specs.declared.faults.StoreFault.TheVariants as store
use Rattle.sender.specs.declared.answers.DrainFault.{DrainFault}
use Rattle.sender.specs.declared.answers.DrainFault.TheVariants as drain
use Rattle.shop_core.specs.Answer.Requests.{Asked}
use Rattle.shop_core.specs.declared.answer.Reply.{Reply}
use Rattle.shop_commands.specs.SenderEnds.{DayRunEnds, sender_end}
use Rattle.command_ends.specs.DrainEnds.{sender_lacks_memory}
use Rattle.shop_commands.specs.SenderEnds.DayRunEnds.{undelivered, contradiction, disk_fault, no_memory}
use Rattle.sender_session.specs.Session.{IsDiskAnswer}
use Rattle.command_ends.specs.Printed.{answers}
use Rattle.chain_store.specs.Replies.{AllReplied, is_no_memory}
use Rattle.sender_beside.specs.Days.{TillReplies, all_replies}
use Rattle.shop_day.specs.TillJobs.{told_in}
use Rattle.shop_day.specs.declared.tills.TillDay.{TillDay}
use Rattle.command_ends.proofs.DrainAnswers.{either_part}

-- without replies there are no answers
pub no_answers : (asks : List Asked) (replies : List (Result Reply StoreFault)) → length replies < 1 → answers asks replies ≡ []
no_answers [] [] e = refl
no_answers (ask ∷ asks) [] e = refl
no_answers asks (reply ∷ replies) e = absurd (omega (arith, e))

-- a test of the pieces is one of the whole
list_any_pieces : {X Y : Type 0} (p : Y → Bool) (f : X → List Y) (xs : List X) → list_any p (flat_map f xs) ≡ list_any
    (λ (x : X). list_any p (f x)) xs
list_any_pieces p f [] = refl
list_any_pieces p f (x ∷ xs) = list_any-append p (f x) (flat_map f xs) ∙ ap (λ (b : Bool). list_any p (f x) || b)
    (list_any_pieces p f xs)

-- whether some reply of a day passes a test
pub any_reply : (p : Result Reply StoreFault → Bool) (days : List TillDay) → list_any p (all_replies (map told_in days)) ≡
    list_any (λ (d : TillDay). list_any p d.answers.items) days
any_reply p days = ap (λ (l : List (Result Reply StoreFault)). list_any p l) (flat_map-map (λ (t : TillReplies). t.replies)
    told_in days) ∙ list_any_pieces p (λ (d : TillDay). d.answers.items) days

-- the end of a day whose sender failed so
pub sender_ends : (replies : List (Result Reply StoreFault)) (answer : Result (Unit {0}) DrainFault) (fault : DrainFault)
    (n r : ℕ) (text : List ℕ) (s : Sinks) → answer ≡ Err fault → AllReplied replies → list_any is_no_memory replies ≡ false →
    sender_lacks_memory answer ≡ false → Wrote s text ⊎ FailedIn s text →
    DayRunEnds replies answer n r text s (sender_end n r fault)
sender_ends replies answer (drain.Undelivered x y) n r text s is all memory sender w = undelivered x y all is w
sender_ends replies answer (drain.Contradiction evidence) n r text s is all memory sender w = contradiction evidence all is w
sender_ends replies answer (drain.Store store.DiskFault) n r text s is all memory sender w = disk_fault memory sender
    (inr (subst (λ (a : Result (Unit {0}) DrainFault). IsDiskAnswer a) (sym is) tt)) w
sender_ends replies answer (drain.Store (store.Stopped faults)) n r text s is all memory sender w = disk_fault memory sender
    (inr (subst (λ (a : Result (Unit {0}) DrainFault). IsDiskAnswer a) (sym is) tt)) w
sender_ends replies answer (drain.Store store.NoMemory) n r text s is all memory sender w = no_memory (either_part s text w)
sender_ends replies answer drain.NoMemory n r text s is all memory sender w = no_memory (either_part s text w)
