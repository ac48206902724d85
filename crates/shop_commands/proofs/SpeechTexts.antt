-- What was written of a dialogue, and the end that it comes to.
use Rattle.std.proofs.Common.{◌≡◌, ◌∙◌, ◌⊎◌, inl, inr, ℕ, ◌≤◌, true, false, List, [], ◌∷◌, ◌++◌, refl, ap, sym, subst, arith}
use Rattle.std.proofs.Common.{Bool, ◌||◌, Option, Some, Result, Ok, Err, OnOk, append-nil, take}
use Rattle.std.specs.Io.KnownBytes.{Appends}
use Rattle.std.specs.List.{list_any}
use Rattle.std.proofs.KnownBytes.{Appends-trans}
use Rattle.std.proofs.lemmas.List.Folds.{list_any-append}
use Rattle.chain_store.specs.Replies.{AllGoOn, AllReplied, Replies, is_disk_fault, is_no_memory}
use Rattle.dialogue_loop.specs.Speech.{AreRepliesOf, FailedAtLast, IsAnswered, IsWritten, StopsAtLast, TookToLast}
use Rattle.dialogue_loop.specs.declared.speaking.SpeechEnd.{SpeechEnd}
use Rattle.dialogue_loop.specs.declared.speaking.SpeechEnd.TheVariants as speech
use Rattle.dialogue.specs.Protocol.{written_for}
use Rattle.dialogue.proofs.Views.{written_more}
use Rattle.journal.specs.declared.faults.StoreFault.TheVariants as store
use Rattle.ports.specs.Sinks.{Sinks, Wrote}
use Rattle.ports.specs.Sources.{SourceRose, Sources}
use Rattle.report.specs.declared.status.Detail.{Detail}
use Rattle.sender.specs.declared.answers.DrainFault.{DrainFault}
use Rattle.sender.specs.declared.answers.DrainFault.TheVariants as drain
use Rattle.shop_core.specs.Answer.Requests.{Asked}
use Rattle.shop_commands.specs.SenderEnds.{sender_end}
use Rattle.command_ends.specs.DrainEnds.{sender_lacks_memory}
use Rattle.sender_session.specs.Session.{IsDiskAnswer}
use Rattle.shop_dialogue.specs.Dialogues.{drains_after}
use Rattle.shop_commands.specs.Serve.{Closes, SpeechEnds, end_of, sink_to}
use Rattle.shop_commands.specs.Serve.SpeechEnds.{done, read_fault, write_fault, undelivered, contradiction, disk_fault}
use Rattle.shop_commands.specs.Serve.SpeechEnds.{no_memory}
use Rattle.command_ends.proofs.RunEnding.{all_replied, went_on}

either_took : (k : Sinks) (texts : List (List ℕ)) → Wrote k (written_for texts) ⊎ FailedAtLast k texts →
    Wrote k (written_for texts) ⊎ TookToLast k texts
either_took k texts (inl w) = inl w
either_took k texts (inr f) = inr f.part

-- all texts were written but perhaps the last, however it ended
pub some_written : (how : SpeechEnd) (k : Sinks) (texts : List (List ℕ)) → IsWritten how k texts →
    Wrote k (written_for texts) ⊎ TookToLast k texts
some_written speech.Ended k texts w = inl w
some_written speech.ReadFault k texts w = inl w
some_written speech.WriteFault k texts w = inr w.part
some_written speech.NoMemory k texts w = w
some_written speech.Stopped k texts w = either_took k texts w

-- the list of replies that ends in a fault has one
some_fault : (asks : List Asked) (replies : Replies) (answers : List (List ℕ)) → StopsAtLast asks replies answers →
    list_any is_disk_fault replies ≡ true
some_fault asks replies answers h = ap (λ (l : Replies). list_any is_disk_fault l) h.replies_are
    ∙ list_any-append is_disk_fault h.replies_before (h.told ∷ [])
    ∙ ap (λ (b : Bool). list_any is_disk_fault h.replies_before || (b || false)) h.fault
    ∙ or_true (list_any is_disk_fault h.replies_before)
  where
    or_true : (b : Bool) → (b || true) ≡ true
    or_true true = refl
    or_true false = refl

closed_ended : (began : SpeechEnd) → Closes began speech.Ended → began ≡ speech.Ended
closed_ended speech.Ended c = refl
closed_ended speech.ReadFault c = absurd (let x = c in cc)
closed_ended speech.WriteFault c = absurd (let x = c in cc)
closed_ended speech.NoMemory c = absurd (let x = c in cc)
closed_ended speech.Stopped c = absurd (let x = c in cc)

closed_read : (began : SpeechEnd) → Closes began speech.ReadFault → began ≡ speech.ReadFault
closed_read speech.Ended c = absurd c
closed_read speech.ReadFault c = refl
closed_read speech.WriteFault c = absurd (let x = c in cc)
closed_read speech.NoMemory c = absurd (let x = c in cc)
closed_read speech.Stopped c = absurd (let x = c in cc)

closed_stopped : (began : SpeechEnd) → Closes began speech.Stopped → began ≡ speech.Stopped
closed_stopped speech.Ended c = absurd c
closed_stopped speech.ReadFault c = absurd (let x = c in cc)
closed_stopped speech.WriteFault c = absurd (let x = c in cc)
closed_stopped speech.NoMemory c = absurd (let x = c in cc)
closed_stopped speech.Stopped c = refl

closed_write : (began : SpeechEnd) (asks : List Asked) (replies : Replies) (answers : List (List ℕ)) →
    Closes began speech.WriteFault → AreRepliesOf began asks replies answers → AllGoOn replies
closed_write speech.Ended asks replies answers c h = h
closed_write speech.WriteFault asks replies answers c h = h
closed_write speech.ReadFault asks replies answers c h = absurd (let x = c in cc)
closed_write speech.NoMemory asks replies answers c h = absurd (let x = c in cc)
closed_write speech.Stopped asks replies answers c h = absurd (let x = c in cc)

-- a drain followed where it ends so, the chain line written or not
pub closed_drains : (began closed : SpeechEnd) → Closes began closed → drains_after closed ≡ true → drains_after began ≡ true
closed_drains speech.Ended closed c is = refl
closed_drains speech.ReadFault closed c is = refl
closed_drains speech.WriteFault closed c is = refl
closed_drains speech.NoMemory closed c is = refl
closed_drains speech.Stopped closed c is = absurd (let no : false ≡ true = sym (ap drains_after c) ∙ is in cc)

-- a dialogue that began to end so, with these replies, after which memory never ran out
module _ (began : SpeechEnd) (asks : List Asked) (replies : Replies) (answers : List (List ℕ)) (answer : Result (Unit {0}) DrainFault)
    (n r : ℕ) (texts : List (List ℕ)) (s : Sources) (k : Sinks) (memory : list_any is_no_memory replies ≡ false) (sender : sender_lacks_memory answer ≡ false) where
  abbrev Ends : Detail → Type 0
  Ends end = SpeechEnds began replies answer n r texts s k end

  sender_ended : (fault : DrainFault) → answer ≡ Err fault → AllReplied replies →
      Wrote k (written_for texts) ⊎ FailedAtLast k texts →
      Ends (sender_end n r fault)
  sender_ended (drain.Undelivered x y) is all w = undelivered x y all is w
  sender_ended (drain.Contradiction evidence) is all w = contradiction evidence all is w
  sender_ended (drain.Store store.DiskFault) is all w = disk_fault memory sender
      (inr (subst (λ (a : Result (Unit {0}) DrainFault). IsDiskAnswer a) (sym is) tt)) w
  sender_ended (drain.Store (store.Stopped faults)) is all w = disk_fault memory sender
      (inr (subst (λ (a : Result (Unit {0}) DrainFault). IsDiskAnswer a) (sym is) tt)) w
  sender_ended (drain.Store store.NoMemory) is all w = no_memory (either_took k texts w)
  sender_ended drain.NoMemory is all w = no_memory (either_took k texts w)

  answered : AllGoOn replies → AllReplied replies
  answered go = all_replied replies memory (went_on replies go)

  by_answer : (how : SpeechEnd) (a : Result (Unit {0}) DrainFault) → answer ≡ a → (drains_after how ≡ true → OnOk a (n ≡ r)) → Closes began how →
      AreRepliesOf began asks replies answers → (began ≡ speech.ReadFault → SourceRose s) → IsWritten how k texts → Ends (end_of how n r a)
  by_answer speech.NoMemory a is same c h rose w = no_memory w
  by_answer speech.Stopped a is same c h rose w = disk_fault memory sender
      (inl (some_fault asks replies answers (subst (λ (b : SpeechEnd). AreRepliesOf b asks replies answers) (closed_stopped began c) h))) w
  by_answer speech.Ended (Ok u) is same c h rose w = done (closed_ended began c)
      (answered (subst (λ (b : SpeechEnd). AreRepliesOf b asks replies answers) (closed_ended began c) h)) is (same refl) w
  by_answer speech.Ended (Err fault) is same c h rose w = sender_ended fault is
      (answered (subst (λ (b : SpeechEnd). AreRepliesOf b asks replies answers) (closed_ended began c) h)) (inl w)
  by_answer speech.ReadFault (Ok u) is same c h rose w = read_fault (closed_read began c) (rose (closed_read began c))
      (answered (subst (λ (b : SpeechEnd). AreRepliesOf b asks replies answers) (closed_read began c) h)) is (same refl) w
  by_answer speech.ReadFault (Err fault) is same c h rose w = sender_ended fault is
      (answered (subst (λ (b : SpeechEnd). AreRepliesOf b asks replies answers) (closed_read began c) h)) (inl w)
  by_answer speech.WriteFault (Ok u) is same c h rose w = write_fault (answered (closed_write began asks replies answers c h)) is
      (same refl) w
  by_answer speech.WriteFault (Err fault) is same c h rose w = sender_ended fault is (answered (closed_write began asks replies answers c h)) (inr w)

  -- the end that it comes to
  pub ended_so : (how : SpeechEnd) → (drains_after how ≡ true → OnOk answer (n ≡ r)) → Closes began how → AreRepliesOf began asks replies answers →
      (began ≡ speech.ReadFault → SourceRose s) → IsWritten how k texts → Ends (end_of how n r answer)
  ended_so how same c h rose w = by_answer how answer refl same c h rose w

-- the chain line after answers that were written, by what became of it
module _ (taken now after : Option (List ℕ)) (first faults faults_after : ℕ) (answers : List (List ℕ)) (chain : List ℕ)
    (wrote : Wrote (sink_to taken first now faults) (written_for answers)) (later : first ≤ faults) where
  pub line_unmade : TookToLast (sink_to taken first now faults) (answers ++ chain ∷ [])
  line_unmade = record {
    before = answers;
    last = chain;
    texts_are = refl;
    count = 0;
    took = subst (λ (t : List ℕ). Appends taken now t) (sym (append-nil (written_for answers))) wrote;
  }

  pub line_written : Wrote (sink_to now faults after faults_after) chain →
      Wrote (sink_to taken first after faults_after) (written_for (answers ++ chain ∷ []))
  line_written w = rw (written_more answers chain) (Appends-trans taken now after (written_for answers) chain wrote w)

  pub line_failed : (end : SpeechEnd) → IsAnswered (sink_to now faults after faults_after) chain (Some end) →
      (end ≡ speech.WriteFault) × FailedAtLast (sink_to taken first after faults_after) (answers ++ chain ∷ [])
  line_failed speech.WriteFault f = (
    refl,
    record {
      risen = λ below. let x = f.risen below in omega (arith, x, later);
      part = record {
        before = answers;
        last = chain;
        texts_are = refl;
        count = f.part.0;
        took = Appends-trans taken now after (written_for answers) (take f.part.0 chain) wrote f.part.1;
      };
    },
  )
  line_failed speech.Ended f = absurd f
  line_failed speech.ReadFault f = absurd f
  line_failed speech.NoMemory f = absurd f
  line_failed speech.Stopped f = absurd f
