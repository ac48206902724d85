-- How a dialogue with the tills of a shop ends, and what the clause of `serve` says of the whole call.
use Rattle.std.proofs.Common.{◌≡◌, ◌⊎◌, inl, inr, ℕ, ◌+◌, ◌-◌, ◌^◌, ◌<◌, ◌≤◌, List, [], length, map, sym, ◌∙◌, ap, subst, refl}
use Rattle.std.proofs.Common.{arith, Bool, true, false, IsTrue, Option, Some, None, Result, Ok, Err}
use Rattle.std.specs.Prelude.{IsErrOf, drop, take}
use Rattle.std.specs.Io.KnownBytes.{Consumes}
use Rattle.std.specs.List.{list_any, range_with_len}
use Rattle.agency_port.specs.declared.turns.Evidence.{Evidence}
use Rattle.agency_rules.specs.Plans.{plain}
use Rattle.chain_disk.specs.Disks.{DiskRose, this_disk}
use Rattle.chain_disk.specs.OnDisk.{IsImage, LeavesNow, LeavesOnly, synced}
use Rattle.chain_store.specs.Clocks.{Clocks, LeftClock, this_clock}
use Rattle.chain_store.specs.Losing.{NeverLoses}
use Rattle.chain_store.specs.Readings.{readings, readings_of}
use Rattle.chain_store.specs.Replies.{Replies, is_disk_fault, is_no_memory}
use Rattle.dialogue_loop.specs.Speech.{AreRepliesOf, ComesFirst, ComesOnce, EndsOnce, IsRead, IsWritten, Moment}
use Rattle.dialogue_loop.specs.declared.listener.Listener.{Listener}
use Rattle.dialogue_loop.specs.declared.speaking.SpeechEnd.{SpeechEnd}
use Rattle.dialogue_loop.specs.declared.speaking.SpeechEnd.TheVariants as speech
use Rattle.dialogue.specs.declared.speaker.Action.{Action}
use Rattle.huella.specs.Linked.{Linked}
use Rattle.journal.specs.declared.faults.StoreFault.TheVariants as store
use Rattle.ports.specs.Readings.{IsTold}
use Rattle.ports.specs.Sinks.{Sinks, WroteNothing}
use Rattle.ports.specs.Sources.{SourceRose, Sources}
use Rattle.record_codec.specs.declared.entry.Entry.{Entry}
use Rattle.record_codec.specs.declared.entry.TheConstants.{LAST_TILL}
use Rattle.report.specs.Pieces.{chain_line}
use Rattle.report.specs.declared.status.Detail.{Detail}
use Rattle.report.specs.declared.status.Detail.TheVariants as detail
use Rattle.sender.specs.Turning.{AgencyState}
use Rattle.sender.specs.declared.answers.DrainFault.{DrainFault}
use Rattle.sender.specs.declared.answers.DrainFault.TheVariants as drain
use Rattle.sender.specs.declared.draining.TheConstants.{MAX_LINK_FAULTS}
use Rattle.recovery.specs.Opening.{IsFound}
use Rattle.shop_drain.specs.Crashes.{IsFoundSince}
use Rattle.shop_core.specs.Answer.Requests.{Asked}
use Rattle.shop_core.specs.File.Files.{StandsFor}
use Rattle.shop_core.specs.History.{History, recs, noted}
use Rattle.shop_core.specs.Rising.{SerialsRise}
use Rattle.chain_disk.specs.declared.disk.Disk as disk
use Rattle.chain_store.specs.Store.{clock_of, journal_of, state_of, torn_of}
use Rattle.chain_store.specs.declared.store.Store.{Store}
use Rattle.journal.specs.Journal.{disk_of, end_of as gate_of, stopped_of}
use Rattle.journal.specs.declared.journal.Journal.{Journal}
use Rattle.till_calls.specs.Root.{Parts, Root, parts_of, root_of}
use Rattle.till_calls.specs.Sound.{IsLater}
use Rattle.shop_drain.specs.Opening.{IsUnbegun, IsOpened}
use Rattle.sender_session.specs.Contradictions.{ShowsLast}
use Rattle.shop_commands.specs.Day.{Outcome}
use Rattle.sender_session.specs.Sessions.{SessionSteps}
use Rattle.sender_beside.specs.Behind.{DrainsBehind}
use Rattle.sender_beside.specs.Days.{Day, TillReplies, all_replies, shop_day}
use Rattle.shop_drain.specs.Devices.{Agencies, AllDevices, Around, LeftSleeper, Sleepers, around}
use Rattle.sender_session.specs.Kinds.{StoreKind}
use Rattle.shop_drain.specs.Draining.{AgreesAtStart, OpensSession}
use Rattle.shop_commands.specs.Drain.{LeavesTime, NothingRose}
use Rattle.sender_session.specs.Session.{IsDiskAnswer}
use Rattle.shop_commands.specs.Serve.{Closes, EndsAtFault, FileServe, IsReadEnd, ServeEnds, ServeWays, SpeechEnds, SpeechServed, day_said, printed}
use Rattle.shop_commands.specs.Serve.{end_of, source_since}
use Rattle.shop_dialogue.specs.Dialogues.{DialogueRun, IsSpeech, Speech, drains_after}
use Rattle.shop_commands.specs.Serve.SpeechEnds.{done, read_fault, write_fault, undelivered, contradiction, disk_fault}
use Rattle.shop_commands.specs.Serve.SpeechEnds.{no_memory}
use Rattle.sender_beside.specs.Tills.{DayRun, has_asks, own_of}
use Rattle.command_ends.proofs.RunEnding.{rose_opening}
use Rattle.shop_commands.proofs.ShopDays.{IsDayOf, ShopDid, agency_by, crashes_by, day_facts, here, history_by, not_asked, rose_day}
use Rattle.shop_commands.proofs.ShopDays.{sender_by, session_by, tills_by}
use Rattle.shop_commands.proofs.Speeches.{quiet, told_some}

-- a dialogue on an opened file, and how it ended
module _ {D C Z G : Type 0} (issuer : List ℕ) (clock : Option (ℕ × ℕ)) (s : Sources) (c : Around D C Z G) (x : Speech) (o : Outcome)
    (f : IsDayOf issuer x.said.asks plain (drains_after x.how) c o) (spoken : IsSpeech clock (day_said issuer x None c o) s x)
    (are : map (λ (t : TillReplies). t.till) o.tills ≡ range_with_len 1 LAST_TILL) where
  abbrev day : Day
  day = day_said issuer x None c o

  abbrev Failing : ℕ → ℕ → Type 0
  Failing n m = (n < m) × (c.agency.after.faults < 2 ^ 64 - 1 → c.agency.before.faults + MAX_LINK_FAULTS ≤ c.agency.after.faults)

  abbrev Ends : Detail → Type 0
  Ends how = SpeechEnds x.how x.said.replies o.answer (length (noted o.end)) (length (recs o.end))
      (printed x.how x.said.answers (chain_line (length (recs o.end)) (length (noted o.end)))) s c.sink how

  failed : (how : Detail) → Ends how → (n m : ℕ) → how ≡ detail.Undelivered n m → Failing n m
  failed how (undelivered a b all e w) n m is =
      let lines : ℕ = length (noted o.end) in
      let one : lines ≡ n = cc in
      let two : length (recs o.end) ≡ m = cc in
      subst (λ (i : ℕ). Failing i m) one (subst (λ (j : ℕ). Failing lines j) two (f.gives_up a b e))
  failed how _ n m is = absurd cc

  disk_rose : (list_any is_disk_fault x.said.replies ≡ true) ⊎ IsDiskAnswer o.answer → DiskRose c.disk
  disk_rose some = rose_day day (c.disk.faults c.disk.disk) (c.disk.faults c.disk.disk_after) o.stop f.crashes.stop (by_till some)
    where
      by_till : (list_any is_disk_fault x.said.replies ≡ true) ⊎ IsDiskAnswer o.answer →
          (list_any is_disk_fault (all_replies o.tills) ≡ true) ⊎ IsDiskAnswer o.answer
      by_till (inl some) = inl (told_some is_disk_fault x.said.asks x.said.replies o.tills spoken.pairs spoken.of_tills are spoken.told some)
      by_till (inr disk) = inr disk

  completed : (how : Detail) → Ends how → (SourceRose s → ⊥) → NothingRose c.sink c.disk c.agency →
      IsTrue c.agency.kind.keeps_rules → AgreesAtStart c.agency o.start → (how ≡ detail.Done) ⊎ (how ≡ detail.NoMemory)
  completed how (done is all e same w) read none keeps agree = inl refl
  completed how (no_memory w) read none keeps agree = inr refl
  completed how (read_fault h rose all e same w) read none keeps agree = absurd (read rose)
  completed how (write_fault all e same w) read none keeps agree = absurd (none.sink w.risen)
  completed how (undelivered n m all e w) read none keeps agree =
      let u = f.gives_up n m e in
      absurd (none.agency (λ below. let more = u.1 below in omega (arith, more)))
  completed how (contradiction evidence all e w) read none keeps agree =
      absurd ((f.agency.agreement keeps agree).no_contradiction evidence e)
  completed how (disk_fault memory kept some w) read none keeps agree = absurd (none.disk (disk_rose some))

  abbrev Shown : Evidence → Type 0
  Shown evidence = ShowsLast o.end o.opened.ledger.messages c.agency.after.ledger.messages evidence

  only_shown : (how : Detail) → Ends how → IsTrue c.agency.kind.tells → (evidence : Evidence) →
      how ≡ detail.Contradiction evidence → Shown evidence
  only_shown how (contradiction found all e w) says evidence is =
      let same : found ≡ evidence = cc in
      f.agency.sends.contrary says evidence (e ∙ ap (λ (v : Evidence). Err (drain.Contradiction v)) same)
  only_shown how _ says evidence is = absurd cc

  each_shown : (how : Detail) → Ends how → IsTrue c.agency.kind.tells → (evidence : Evidence) → Shown evidence →
      (how ≡ detail.Contradiction evidence) ⊎ (how ≡ detail.NoMemory) ⊎ (how ≡ detail.DiskFault)
  each_shown how ends says evidence shows = by_answer how ends (f.agency.sends.shown says evidence shows)
    where
      by_answer : (how : Detail) → Ends how → IsErrOf o.answer (drain.Contradiction evidence) ⊎ (o.answer ≡ Err drain.NoMemory) →
          (how ≡ detail.Contradiction evidence) ⊎ (how ≡ detail.NoMemory) ⊎ (how ≡ detail.DiskFault)
      by_answer how (done i all e same w) (inl is) = absurd (let v = sym e ∙ is in cc)
      by_answer how (done i all e same w) (inr none) = absurd (let v = sym e ∙ none in cc)
      by_answer how (read_fault h i all e same w) (inl is) = absurd (let v = sym e ∙ is in cc)
      by_answer how (read_fault h i all e same w) (inr none) = absurd (let v = sym e ∙ none in cc)
      by_answer how (write_fault all e same w) (inl is) = absurd (let v = sym e ∙ is in cc)
      by_answer how (write_fault all e same w) (inr none) = absurd (let v = sym e ∙ none in cc)
      by_answer how (undelivered n m all e w) (inl is) = absurd (let v = sym e ∙ is in cc)
      by_answer how (undelivered n m all e w) (inr none) = absurd (let v = sym e ∙ none in cc)
      by_answer how (contradiction found all e w) (inl is) = let v = sym e ∙ is in let same : found ≡ evidence = cc in
          inl (ap (λ (v : Evidence). detail.Contradiction v) same)
      by_answer how (contradiction found all e w) (inr none) = absurd (let v = sym e ∙ none in cc)
      by_answer how (disk_fault memory kept some w) shown = inr (inr refl)
      by_answer how (no_memory w) shown = inr (inl refl)

  none_gained : (till : ℕ) → has_asks x.said.asks till ≡ false → own_of till (drop (length o.start) o.end) ≡ []
  none_gained till none = elim (quiet day x.said.asks x.said.replies till o.tills none spoken.told f.served) [
    | inl is ↦ is
    | inr other ↦ f.others till other
  ]

  pub speech_done : (end : Detail) → Ends end → SpeechServed issuer None clock s c end
  speech_done end ends = record {
    speech = x;
    outcome = o;
    spoken = spoken;
    history = f.history;
    tills = record { are = are; served = f.served; others = none_gained };
    crashes = f.crashes;
    agency = f.agency;
    session = f.session;
    ends = record {
      cause = ends;
      sender = record { undelivered = failed end ends; contrary = only_shown end ends; shown = each_shown end ends };
      complete = completed end ends;
    };
    time = f.time;
  }

-- how far the source was read up to the first line that is answered
pub came_read : (left now : Option (List ℕ)) (l : Listener) (first : Result Action SpeechEnd) → ComesFirst left now l first →
    (taken : List ℕ) × Consumes left now taken
came_read left now l (Ok action) h = (h.line_read.read.taken, h.line_read.read.consumed)
came_read left now l (Err end) h = by_end end h.read
  where
    by_end : (how : SpeechEnd) → IsRead how left now h.lines → (taken : List ℕ) × Consumes left now taken
    by_end speech.Ended r = (r.taken, r.consumed)
    by_end speech.ReadFault r = (r.taken, r.consumed)
    by_end speech.WriteFault r = (r.taken, r.consumed)
    by_end speech.NoMemory r = (r.read.taken, r.read.consumed)
    by_end speech.Stopped r = (r.taken, r.consumed)

-- an opened file, before its dialogue and after it
module _ {D C Z G : Type 0} (h : StoreKind D C) (coming : C → ℕ → Option ℕ) (issuer : List ℕ) (disk : D) (old new : Parts D C)
    (z : Sleepers Z) (a : Agencies G)
    (s : Sources) (k : Sinks) (clock : Option (ℕ × ℕ)) (is_opened : IsOpened issuer h disk old.clock old)
    (reads : (d : D) → IsTrue h.tells → IsImage (h.on_disk d).now (h.on_disk d).content)
    (rules_tell : IsTrue a.kind.keeps_rules → IsTrue a.kind.tells) where
  abbrev pub opened_call : Around D C Z G
  opened_call = record {
    sink = k;
    disk = this_disk h.tells h.on_disk h.faults disk new.disk;
    clock = this_clock coming old.clock new.clock;
    sleeper = z;
    agency = a;
  }

  abbrev first : List Entry
  first = old.state.entries

  -- there was no memory for its shop
  pub not_begun : new ≡ old → IsUnbegun a.kind a.before a.after ⊎ OpensSession a.kind a.begun plain first a.before a.after →
      WroteNothing k → LeftSleeper z → (taken : List ℕ) × Consumes s.left s.left_after taken →
      FileServe issuer None clock s opened_call detail.NoMemory
  not_begun same begun wrote left read = inl (record {
    shop = not_asked h coming issuer [] plain disk new.disk old.clock new.clock z a old k is_opened reads rules_tell detail.NoMemory (record {
      ends = refl;
      wrote = wrote;
      disk = ap (λ (p : Parts D C). p.disk) same;
      clock = ap (λ (p : Parts D C). p.clock) same;
      rest = left;
    }) begun;
    taken = read.0;
    read = read.1;
  })

  module _ (agency_state : AgencyState) (opens : OpensSession a.kind a.begun plain first a.before agency_state) (answer : Result (Unit {0}) DrainFault)
      (lacked : Bool) (how : SpeechEnd) (from now : Moment)
      (later : IsLater coming old.clock new.clock) (run : DialogueRun h (coming old.clock) (root_of h.on_disk h.faults old) new clock from now a.kind agency_state a.after answer lacked how)
      (behind : DrainsBehind a.kind (drains_after how) agency_state a.after answer)
      (session : SessionSteps a.kind.tells z.tells (drains_after how) (z.moment z.sleeper) first new.state.entries agency_state a.after answer)
      (linked : Linked old.state.issuer (recs new.state.entries)) (rising : (till : ℕ) → SerialsRise new.state.entries till) where
    abbrev lines : ℕ
    lines = length (noted new.state.entries)

    abbrev records : ℕ
    records = length (recs new.state.entries)

    -- its lines were answered
    pub talked : (closed : SpeechEnd) (end : Detail) → s ≡ source_since from.left from.source_faults now.left now.source_faults →
        Closes how closed → IsWritten closed k (printed how run.speech.said.answers (chain_line records lines)) →
        ((began : SpeechEnd) (asks : List Asked) (replies : Replies) (answers texts : List (List ℕ)) (s : Sources) (k : Sinks) →
        Closes began closed → AreRepliesOf began asks replies answers → lacked ≡ list_any is_no_memory replies →
        (began ≡ speech.ReadFault → SourceRose s) → IsWritten closed k texts →
        SpeechEnds began replies answer lines records texts s k end) →
        SpeechServed issuer None clock s opened_call end
    talked closed end same closes written ends =
        let x = run.speech in
        let root : Root C = root_of h.on_disk h.faults old in
        let served : DayRun h root new (shop_day coming x.said.asks root new run.tills a.kind agency_state a.after
        (drains_after x.how) answer) =
        subst (λ (b : SpeechEnd). DayRun h root new (shop_day coming x.said.asks root new run.tills a.kind agency_state a.after
        (drains_after b) answer)) (sym run.how_is) run.run in
        let sent : DrainsBehind a.kind (drains_after x.how) agency_state a.after answer =
        subst (λ (b : SpeechEnd). DrainsBehind a.kind (drains_after b) agency_state a.after answer) (sym run.how_is) behind in
        let did : ShopDid h coming x.said.asks a.kind agency_state a.after (drains_after x.how) z.tells (z.moment z.sleeper) old new.disk
        new.clock = record {
          new = new;
          tills = run.tills;
          answer = answer;
          disk = refl;
          clock = refl;
          time = later;
          run = served;
          behind = sent;
          session = subst (λ (b : SpeechEnd). SessionSteps a.kind.tells z.tells (drains_after b) (z.moment z.sleeper) first
              new.state.entries agency_state a.after answer) (sym run.how_is) session;
          linked = linked;
          rising = rising;
        } in
        let facts = day_facts h coming issuer x.said.asks plain disk new.disk old.clock new.clock z a old k is_opened reads rules_tell agency_state opens
        (drains_after x.how) did in
        let spoken : IsSpeech clock (shop_day coming x.said.asks root new run.tills a.kind agency_state a.after (drains_after x.how)
        answer) s x =
        subst (λ (v : Sources). IsSpeech clock (shop_day coming x.said.asks root new run.tills a.kind agency_state a.after
        (drains_after x.how) answer) v x) (sym same)
        (subst (λ (b : SpeechEnd). IsSpeech clock (shop_day coming x.said.asks root new run.tills a.kind agency_state a.after
        (drains_after b) answer) (source_since from.left from.source_faults now.left now.source_faults) x) (sym run.how_is) run.spoken) in
        let said = here h coming issuer x.said.asks plain disk new.disk old.clock new.clock z a old k is_opened reads rules_tell agency_state opens
        (drains_after x.how) did (λ (d : Day). IsSpeech clock d s x) spoken in
        let closes' : Closes x.how closed = subst (λ (b : SpeechEnd). Closes b closed) (sym run.how_is) closes in
        let written' : IsWritten closed k (printed x.how x.said.answers (chain_line records lines)) =
        subst (λ (b : SpeechEnd). IsWritten closed k (printed b x.said.answers (chain_line records lines))) (sym run.how_is) written in
        speech_done issuer clock s opened_call x _ facts said run.are end
        (ends x.how x.said.asks x.said.replies x.said.answers (printed x.how x.said.answers (chain_line records lines)) s k closes' spoken.replies_are run.lacked_is
        spoken.read_fault written')

-- a dialogue by a clock that tells the same
spoken_by : (d : Day) (new : ℕ → Option ℕ) (same : (k : ℕ) → d.coming k ≡ new k) (clock : Option (ℕ × ℕ)) (s : Sources) (x : Speech) →
    IsSpeech clock d s x → IsSpeech clock (record d { coming = new }) s x
spoken_by d new same clock s x h = record {
  dialogue = h.dialogue;
  pairs = h.pairs;
  clock_is = h.clock_is;
  of_tills = h.of_tills;
  told = h.told;
  run = record {
    all = h.run.all;
    each = λ n ask reply asked told.
        let a = h.run.each n ask reply asked told in
        record {
          history = a.history;
          after = a.after;
          gained = a.gained;
          next = a.next;
          seconds = a.seconds;
          reading = subst (λ (o : Option ℕ). IsTold o a.seconds) (same (readings (take n x.said.replies))) a.reading;
          tells = a.tells;
        };
    looked = h.run.looked;
  };
  looked = h.looked;
  read = h.read;
  replies_are = h.replies_are;
  read_fault = h.read_fault;
}

-- one failed read ends a dialogue, and what came ahead of it
pub first_once : (first : Result Action SpeechEnd) (faults faults_after : ℕ) (end : Detail) → IsReadEnd end →
    ComesOnce faults faults_after first → EndsAtFault faults faults_after end
first_once (Ok action) faults faults_after end e c = inl c
first_once (Err speech.Ended) faults faults_after end e c = inl c
first_once (Err speech.ReadFault) faults faults_after end e c = inr (c, e)
first_once (Err speech.WriteFault) faults faults_after end e c = inl c
first_once (Err speech.NoMemory) faults faults_after end e c = inl c
first_once (Err speech.Stopped) faults faults_after end e c = inl c

pub talked_once : (how closed : SpeechEnd) (faults faults_after : ℕ) (end : Detail) → Closes how closed →
    (closed ≡ speech.ReadFault → IsReadEnd end) → EndsOnce faults faults_after how → EndsAtFault faults faults_after end
talked_once speech.Ended closed faults faults_after end closes e c = inl c
talked_once speech.ReadFault closed faults faults_after end closes e c = inr (c, e closes)
talked_once speech.WriteFault closed faults faults_after end closes e c = inl c
talked_once speech.NoMemory closed faults faults_after end closes e c = inl c
talked_once speech.Stopped closed faults faults_after end closes e c = inl c

pub read_end : (how : SpeechEnd) (n r : ℕ) (answer : Result (Unit {0}) DrainFault) → how ≡ speech.ReadFault →
    IsReadEnd (end_of how n r answer)
read_end how n r answer is = subst (λ (h : SpeechEnd). IsReadEnd (end_of h n r answer)) (sym is) (by_answer answer)
  where
    by_answer : (a : Result (Unit {0}) DrainFault) → IsReadEnd (end_of speech.ReadFault n r a)
    by_answer (Ok u) = tt
    by_answer (Err (drain.Undelivered x y)) = tt
    by_answer (Err (drain.Contradiction evidence)) = tt
    by_answer (Err (drain.Store store.DiskFault)) = tt
    by_answer (Err (drain.Store (store.Stopped faults))) = tt
    by_answer (Err (drain.Store store.NoMemory)) = tt
    by_answer (Err drain.NoMemory) = tt

-- what an opening left, said of the same store with another clock
pub opened_with : {D C O : Type 0} (h : StoreKind D C) (coming : O → ℕ → Option ℕ) (issuer : List ℕ) (disk : D) (old : Parts D C)
    (new : Parts D O) → new.state ≡ old.state → new.disk ≡ old.disk → IsOpened issuer h disk old.clock old →
    IsOpened issuer (record { tells = h.tells; on_disk = h.on_disk; faults = h.faults; coming = coming }) disk new.clock new
opened_with {D} {C} {O} h coming issuer disk old new same_state same_disk o = record {
  issuer_is = ap (λ (v : History). v.issuer) same_state ∙ o.issuer_is;
  clock_is = refl;
  found = λ says. subst (λ (v : History). IsFound v.version issuer v.entries (h.on_disk disk).content) (sym same_state) (o.found says);
  any_moment = λ says.
      subst (λ (d : D). LeavesOnly (synced (h.on_disk disk)) (h.on_disk d) (IsFoundSince (h.on_disk disk).content new.state.version
      issuer new.state.entries)) (sym same_disk)
      (subst (λ (v : History). LeavesOnly (synced (h.on_disk disk)) (h.on_disk old.disk) (IsFoundSince (h.on_disk disk).content
      v.version issuer v.entries)) (sym same_state)
      (o.any_moment says));
  never_loses = λ says. subst (λ (d : D). NeverLoses (synced (h.on_disk disk)) (h.on_disk d)) (sym same_disk) (o.never_loses says);
  every_crash = λ says.
      subst (λ (d : D). LeavesNow (h.on_disk d) (StandsFor new.state.version issuer new.state.entries)) (sym same_disk)
      (subst (λ (v : History). LeavesNow (h.on_disk old.disk) (StandsFor v.version issuer v.entries)) (sym same_state) (o.every_crash says));
  later = subst (λ (d : D). h.faults disk ≤ h.faults d) (sym same_disk) o.later;
}

-- the same end, said of a call whose clock line replaced clock and sleeper by these
module _ {D C Z O P G : Type 0} (issuer : List ℕ) (said : Option (ℕ × ℕ)) (s : Sources) (line : ℕ × ℕ) (c : Around D C Z G)
    (by : Clocks O) (with : Sleepers P) (exact : with.tells ≡ true) (at : with.moment with.sleeper ≡ line.0)
    (same : (k : ℕ) → by.coming by.clock k ≡ readings_of (Some line) (c.clock.coming c.clock.clock) k) (clock : LeftClock c.clock)
    (sleeper : LeftSleeper c.sleeper) (end : Detail) where
  abbrev pub own : Around D O P G
  own = record { sink = c.sink; disk = c.disk; clock = by; sleeper = with; agency = c.agency }

  pub serve_by_line : FileServe issuer None said s own end → FileServe issuer (Some line) said s c end
  serve_by_line (inl h) = inl (record {
    shop = record {
      ends = h.shop.ends;
      version = h.shop.version;
      start = h.shop.start;
      found = h.shop.found;
      kept = h.shop.kept;
      begun = h.shop.begun;
      wrote = h.shop.wrote;
      clock = clock;
      sleeper = sleeper;
    };
    taken = h.taken;
    read = h.read;
  })
  serve_by_line (inr h) =
      let d : Day = day_said issuer h.speech None own h.outcome in
      let new : ℕ → Option ℕ = readings_of (Some line) (c.clock.coming c.clock.clock) in
      inr (record {
        speech = h.speech;
        outcome = h.outcome;
        spoken = spoken_by d new same said s h.speech h.spoken;
        history = history_by d new same h.history;
        tills = tills_by d new same (range_with_len 1 LAST_TILL) h.tills;
        crashes = crashes_by d new same c.disk h.crashes;
        agency = agency_by d new same plain c.agency c.disk h.agency;
        session = session_by d line c.sleeper with exact at h.session;
        ends = record {
          cause = h.ends.cause;
          sender = sender_by d new same c.agency.before end h.ends.sender;
          complete = h.ends.complete;
        };
        time = (clock, sleeper);
      })

-- the parts of a store that had no clock for a while, and of which nothing else changed
same_parts : {D C : Type 0} (p q : Parts D C) → p.state ≡ q.state → p.disk ≡ q.disk → p.gate ≡ q.gate → p.stopped ≡ q.stopped →
    p.torn ≡ q.torn → p.clock ≡ q.clock → p ≡ q
same_parts {D} {C} p q a b c d e f =
    ap (λ (x : History). record p { state = x }) a ∙
    ap (λ (x : D). record p { state = q.state; disk = x }) b ∙
    ap (λ (x : ℕ). record p { state = q.state; disk = q.disk; gate = x }) c ∙
    ap (λ (x : Option ℕ). record p { state = q.state; disk = q.disk; gate = q.gate; stopped = x }) d ∙
    ap (λ (x : Option Entry). record q { torn = x; clock = p.clock }) e ∙
    ap (λ (x : C). record q { clock = x }) f

pub parts_back : {D C O : Type 0} {g : disk.Ghosts D} (old back : Store D C g) (own then : Store D O g) →
    (state_of own ≡ state_of old) × (journal_of own ≡ journal_of old) × (torn_of own ≡ torn_of old) → parts_of then ≡ parts_of own →
    (state_of back ≡ state_of then) × (journal_of back ≡ journal_of then) × (torn_of back ≡ torn_of then) →
    clock_of back ≡ clock_of old → parts_of back ≡ parts_of old
parts_back {D} {C} {O} {g} old back own then a same b clock =
    same_parts (parts_of back) (parts_of old)
    (b.0 ∙ ap (λ (p : Parts D O). p.state) same ∙ a.0)
    (ap (λ (j : Journal D g). disk_of j) b.1 ∙ ap (λ (p : Parts D O). p.disk) same ∙ ap (λ (j : Journal D g). disk_of j) a.1)
    (ap (λ (j : Journal D g). gate_of j) b.1 ∙ ap (λ (p : Parts D O). p.gate) same ∙ ap (λ (j : Journal D g). gate_of j) a.1)
    (ap (λ (j : Journal D g). stopped_of j) b.1 ∙ ap (λ (p : Parts D O). p.stopped) same ∙ ap (λ (j : Journal D g). stopped_of j) a.1)
    (b.2 ∙ ap (λ (p : Parts D O). p.torn) same ∙ a.2)
    clock

-- the same dialogue, said of a call whose clock tells the same and was read while the shop had none
pub served_by_clock : {D C Z O G : Type 0} (issuer : List ℕ) (said : Option (ℕ × ℕ)) (s : Sources) (c : Around D C Z G) (by : Clocks O)
    (end : Detail) → ((k : ℕ) → by.coming by.clock k ≡ c.clock.coming c.clock.clock k) → LeavesTime None c.clock c.sleeper →
    SpeechServed issuer None said s (record { sink = c.sink; disk = c.disk; clock = by; sleeper = c.sleeper; agency = c.agency }) end →
    SpeechServed issuer None said s c end
served_by_clock {D} {C} {Z} {O} {G} issuer said s c by end same time h =
    let own : Around D O Z G = record { sink = c.sink; disk = c.disk; clock = by; sleeper = c.sleeper; agency = c.agency } in
    let d : Day = day_said issuer h.speech None own h.outcome in
    let new : ℕ → Option ℕ = c.clock.coming c.clock.clock in
    record {
      speech = h.speech;
      outcome = h.outcome;
      spoken = spoken_by d new same said s h.speech h.spoken;
      history = history_by d new same h.history;
      tills = tills_by d new same (range_with_len 1 LAST_TILL) h.tills;
      crashes = crashes_by d new same c.disk h.crashes;
      agency = agency_by d new same plain c.agency c.disk h.agency;
      session = h.session;
      ends = record {
        cause = h.ends.cause;
        sender = sender_by d new same c.agency.before end h.ends.sender;
        complete = h.ends.complete;
      };
      time = time;
    }

module _ {D C Z G : Type 0} (issuer : List ℕ) (line said : Option (ℕ × ℕ)) (s : Sources) (c : Around D C Z G) where
  rose_served : (end : Detail) → SpeechServed issuer line said s c end → end ≡ detail.DiskFault → DiskRose c.disk
  rose_served end h is = by_end end h.ends.cause is
    where
      x : Speech
      x = h.speech

      o : Outcome
      o = h.outcome

      rose : (list_any is_disk_fault x.said.replies ≡ true) ⊎ IsDiskAnswer o.answer → DiskRose c.disk
      rose (inl some) = rose_day (day_said issuer x line c o) (c.disk.faults c.disk.disk) (c.disk.faults c.disk.disk_after)
          o.stop h.crashes.stop (inl (told_some is_disk_fault x.said.asks x.said.replies o.tills h.spoken.pairs h.spoken.of_tills h.tills.are
          h.spoken.told some))
      rose (inr disk) = rose_day (day_said issuer x line c o) (c.disk.faults c.disk.disk) (c.disk.faults c.disk.disk_after)
          o.stop h.crashes.stop (inr disk)

      by_end : (how : Detail) → SpeechEnds x.how x.said.replies o.answer (length (noted o.end)) (length (recs o.end))
          (printed x.how x.said.answers (chain_line (length (recs o.end)) (length (noted o.end)))) s c.sink how →
          how ≡ detail.DiskFault → DiskRose c.disk
      by_end how (disk_fault memory kept some w) is = rose some
      by_end how _ is = absurd cc

  rose_file : (end : Detail) → FileServe issuer line said s c end → end ≡ detail.DiskFault → DiskRose c.disk
  rose_file end (inl h) is = let none = sym h.shop.ends ∙ is in absurd cc
  rose_file end (inr h) is = rose_served end h is

-- the end of `serve`, in each of its ways
pub serve_ends : {D C Z G : Type 0} (issuer : List ℕ) (a : AllDevices D C Z G) (end : Detail) → ServeWays issuer a end →
    ServeEnds issuer a end
serve_ends {D} {C} {Z} {G} issuer a end h = record { ends = h; risen = rises h }
  where
    rises : ServeWays issuer a end → end ≡ detail.DiskFault → DiskRose a.devices.disk
    rises (inl h) is = let none = sym h.0 ∙ is in absurd cc
    rises (inr (inl h)) is = rose_opening h.1.why a.devices.disk h.1.risen (sym h.1.ends ∙ is)
    rises (inr (inr h)) is = rose_file issuer h.0 h.0 a.devices.source (around a) end h.1 is
