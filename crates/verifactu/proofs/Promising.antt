-- The promise of each command, from the way it ended.
use Rattle.std.proofs.Common.{◌≡◌, ◌⊎◌, inl, inr, ◌≤◌, ℕ, List, [], length, refl, ap, subst, arith}
use Rattle.std.proofs.Common.{Bool, true, IsTrue, Option, Some, None}
use Rattle.agency_rules.specs.declared.plans.Plan.{Plan}
use Rattle.ports.specs.declared.Clock as clock
use Rattle.ports.specs.declared.sleeper.Sleeper as sleeper
use Rattle.chain_disk.specs.declared.disk.Disk as disk
use Rattle.agency_port.specs.declared.agency.Agency as agency
use Rattle.chain_disk.specs.Disks.{LeftDisk}
use Rattle.chain_disk.specs.OnDisk.{IsImage}
use Rattle.record_fields.specs.declared.versions.Version.TheVariants.{Two}
use Rattle.shop_core.specs.Prefix.{IsPrefix}
use Rattle.record_codec.specs.declared.entry.Entry.{Entry}
use Rattle.record_fields.specs.declared.versions.Version.{Version as AnyVersion}
use Rattle.report.specs.declared.status.Detail.{Detail}
use Rattle.script.specs.declared.forms.Form.TheVariants.{Full}
use Rattle.script.specs.declared.scripts.Script.{Script}
use Rattle.sender.specs.Turning.{AgencyState}
use Rattle.shop_core.specs.File.Laws.{NotBegunIsNeither, OneHistory}
use Rattle.shop_commands.specs.Chain.{ChainEnds, ScriptEnds}
use Rattle.shop_commands.specs.Day.{DayEnds, EachCrash, FileDay, HistoryGoesOn, ItsAgency, NotServed, Outcome, day_of, day_with}
use Rattle.shop_commands.specs.Serve.{ServeWays, day_said}
use Rattle.agency_rules.specs.Plans.{plain}
use Rattle.shop_core.specs.Answer.Requests.{Asked}
use Rattle.sender_beside.specs.Days.{torn_of}
use Rattle.shop_drain.specs.Devices.{AllDevices, LeftAgency, NobodyCalled, around}
use Rattle.shop_commands.specs.Further.{Further, LeftFurther}
use Rattle.shop_commands.specs.Drain.{AllLeft, DrainEnds, FileDrained}
use Rattle.shop_drain.specs.Devices.{first_moment, tells_moment}
use Rattle.shop_drain.specs.Draining.{IsSession, IsUnopened, spanning}
use Rattle.shop_commands.specs.Migrate.{disk_of_post}
use Rattle.shop_drain.specs.Opening.{NotOpened}
use Rattle.verifactu.specs.AgencyPromise.{AgencyKept, BatchesKept}
use Rattle.verifactu.specs.FilePromise.{FileKept, Grows, writes_for}
use Rattle.verifactu.specs.FurtherPromise.{FurtherKept, OthersKept}
use Rattle.verifactu.specs.Promise.{Promise}
use Rattle.verifactu.specs.TillPromise.{TillsGain}
use Rattle.chain_store.specs.Replies.{Replies}
use Rattle.chain_store.specs.Readings.{IsComing, LeavesClock, readings_of}
use Rattle.verifactu.specs.Running.{CommandEnds, ManyRan, OwnEnds}
use Rattle.command_ends.specs.Scripts.{IsGoodScript}
use Rattle.command_ends.specs.Scripts.ScriptedEnds.{ran, bad_line, read_fault, too_big, no_memory}
use Rattle.verifactu.specs.CommandLine.{AsksFor, IsAskedFor}
use Rattle.verifactu.specs.declared.command_line.Command.{Command}
use Rattle.verifactu.specs.declared.command_line.Command.TheVariants.{Chain, Day, Drain, Serve, Audit, Link, Check, Migrate, Follow, Guard, Many}
use Rattle.verifactu.specs.declared.command_line.Command.TheVariants.{Listing, Statement, Export, Matches, Generate, Help, HelpOn, Version}
use Rattle.verifactu.proofs.Sessions.{batches_not_served, batches_of_day, batches_of_drain, batches_silent, left_agency, not_served, of_day, of_drain}
use Rattle.verifactu.proofs.Gaining.{gains_all, gains_day, gains_notes, gains_nothing, gains_run}
use Rattle.many_issuers.proofs.NoNotes.{notes_nothing}
use Rattle.verifactu.proofs.GuardPromised.{guard_left, only_guarded}
use Rattle.verifactu.proofs.Promised.{AreLinked, Grown, Left, by_kept, goes_on, left_disk, legal_found, not_opened, others_of}
use Rattle.verifactu.proofs.Promised.{own_of as own_grown, one_torn, sound_of, stands_still, torn_risen, whole}
use Rattle.verifactu.proofs.Promised.Left.{grown}

-- an agency that wasn't called has the state that it had
module _ {D C Z G : Type 0} (chained : AreLinked) (a : AllDevices D C Z G)
    (agency_stays : LeftAgency a.agency → a.agency.after ≡ a.agency.before)
    (image : (d : D) → IsTrue a.devices.disk.tells → IsImage (a.devices.disk.on_disk d).now (a.devices.disk.on_disk d).content) where
  -- the disk at the start reads as a crash may leave it
  first_image : IsTrue a.devices.disk.tells →
      IsImage (a.devices.disk.on_disk a.devices.disk.disk).now (a.devices.disk.on_disk a.devices.disk.disk).content
  first_image says = image a.devices.disk.disk says

  -- what is said besides the file: of each till, and of the agency
  abbrev pub Rest : List Entry → List Entry → List Entry → Type 0
  Rest start end torn =
      TillsGain a.devices.source start end × AgencyKept start end torn a.agency × BatchesKept start end a.agency

  abbrev pub LeftBy : List ℕ → Type 0
  LeftBy issuer = Left issuer a.devices.disk Rest

  pub nothing : LeftAgency a.agency → (start : List Entry) → Rest start start []
  nothing left start = (
    gains_nothing a.devices.source start,
    left_agency a.agency (agency_stays left) start start [] refl,
    batches_silent a.agency start start (whole start) (λ tells. ap (λ (agency_state : AgencyState). agency_state.ledger) (agency_stays left)),
  )

  module _ (says : IsTrue a.devices.disk.tells) (issuer : List ℕ) where
    -- neither the disk nor the agency was called
    pub uncalled : LeftDisk a.devices.disk → LeftAgency a.agency → LeftBy issuer
    uncalled disk agency = left_disk chained issuer a.devices.disk (first_image says) Rest disk (nothing agency)

    chain_script : (script : Script) (coming : ℕ → Option ℕ) (Leaves : Replies → Type 0) (end : Detail) →
        IsGoodScript Full a.devices.source script → NobodyCalled a →
        ScriptEnds issuer script.asks coming Leaves a.devices.sink a.devices.disk end → LeftBy issuer
    chain_script script coming Leaves end good nobody (inl h) =
        uncalled h.disk nobody.agency
    chain_script script coming Leaves end good nobody (inr (inl h)) =
        not_opened chained issuer a.devices.disk (first_image says) Rest says h (nothing nobody.agency)
    chain_script script coming Leaves end good nobody (inr (inr h)) =
        let p = h.0 in
        let kept = p.kept says in
        grown p.version p.start p.end kept.torn (p.found says)
        (by_kept chained issuer a.devices.disk (first_image says) _ p.version p.start p.end p.replies (p.found says) p.begins p.legal p.stops kept) (
          gains_run a.devices.source p.version issuer (IsComing coming) p.start script.asks p.replies p.end (inr (inl (script, good, refl)))
              p.run,
          left_agency a.agency (agency_stays nobody.agency) p.start p.end kept.torn (notes_nothing p.version issuer (IsComing coming) p.start p.run),
          batches_silent a.agency p.start p.end p.begins
              (λ tells. ap (λ (agency_state : AgencyState). agency_state.ledger) (agency_stays nobody.agency)),
        )

    chain_left : (end : Detail) → ChainEnds issuer a.devices end → NobodyCalled a → LeftBy issuer
    chain_left end (ran script how good h) nobody =
        chain_script script (readings_of script.clock (a.devices.clock.coming a.devices.clock.clock))
        (LeavesClock a.devices.clock script.clock) how good nobody h.ends
    chain_left end (bad_line line fault bad left) nobody = uncalled left.disk nobody.agency
    chain_left end (read_fault failed left) nobody = uncalled left.disk nobody.agency
    chain_left end (too_big past left) nobody = uncalled left.disk nobody.agency
    chain_left end (no_memory left) nobody = uncalled left.disk nobody.agency

    -- a file was opened, and there was no memory for its day
    no_day : (rules : IsTrue a.agency.kind.keeps_rules → IsTrue a.agency.kind.tells) (plan : Plan) (end : Detail) →
        NotServed issuer plan (around a) end → LeftBy issuer
    no_day rules plan end h =
        let kept = h.kept says in
        let legal = legal_found h.version issuer h.start (a.devices.disk.on_disk a.devices.disk.disk).content (h.found says) in
        grown h.version h.start h.start [] (h.found says)
        (goes_on chained issuer a.devices.disk (first_image says) h.version h.start h.start [] (h.found says) (whole h.start) legal (omega arith) (inl refl)
        kept.each_moment kept.never_loses kept.every_crash kept.reads) (
          gains_nothing a.devices.source h.start,
          not_served a.agency plan h.start rules h.begun,
          batches_not_served a.agency plan h.start h.begun,
        )

    -- it had a day
    a_day : (asks : List Asked) (plan : Plan) (line : Option (ℕ × ℕ)) (drains : Bool) (o : Outcome) →
        TillsGain a.devices.source o.start o.end → HistoryGoesOn (day_with issuer asks line drains (around a) o) →
        EachCrash (day_with issuer asks line drains (around a) o) a.devices.disk →
        ItsAgency (day_with issuer asks line drains (around a) o) plan a.agency a.devices.disk → LeftBy issuer
    a_day asks plan line drains o gains history crashes agency =
        let d = day_with issuer asks line drains (around a) o in
        let kept = crashes.kept says in
        grown o.version o.start o.end (torn_of o.stop) (crashes.found says)
        (goes_on chained issuer a.devices.disk (first_image says) o.version o.start o.end (torn_of o.stop) (crashes.found says) history.begins
        history.legal (one_torn o.stop) (torn_risen d (a.devices.disk.faults a.devices.disk.disk)
        (a.devices.disk.faults a.devices.disk.disk_after) o.stop crashes.stop) kept.each_moment kept.never_loses kept.every_crash kept.reads) (
          gains,
          of_day issuer asks plan line drains (around a) o agency,
          batches_of_day issuer asks plan line drains (around a) o agency,
        )

    day_file : (rules : IsTrue a.agency.kind.keeps_rules → IsTrue a.agency.kind.tells) (script : Script) (end : Detail) →
        IsGoodScript Full a.devices.source script → FileDay issuer script script.clock (around a) end → LeftBy issuer
    day_file rules script end good (inl h) =
        uncalled h.1.disk h.1.agency
    day_file rules script end good (inr (inl h)) =
        not_opened chained issuer a.devices.disk (first_image says) Rest says h (nothing h.rest.agency)
    day_file rules script end good (inr (inr (inl h))) = no_day rules script.plan end h
    day_file rules script end good (inr (inr (inr h))) =
        a_day script.asks script.plan script.clock true h.outcome
        (gains_day a.devices.source (day_of issuer script script.clock (around a) h.outcome) (inr (inl (script, good, refl)))
        h.history.begins h.tills) h.history h.crashes h.agency

    serve_left : (rules : IsTrue a.agency.kind.keeps_rules → IsTrue a.agency.kind.tells) (end : Detail) → ServeWays issuer a end →
        LeftBy issuer
    serve_left rules end (inl h) = uncalled h.2.disk h.2.agency
    serve_left rules end (inr (inl h)) = not_opened chained issuer a.devices.disk (first_image says) Rest says h.1 (nothing h.1.rest.agency)
    serve_left rules end (inr (inr (line, inl h))) = no_day rules plain end h.shop
    serve_left rules end (inr (inr (line, inr h))) =
        let x = h.speech in
        let d = day_said issuer x line (around a) h.outcome in
        a_day x.said.asks plain line d.drains h.outcome
        (gains_all a.devices.source d (inr (inr (inl (record {
          said = x.said;
          how = x.how;
          dialogue = h.spoken.dialogue;
          asks_are = refl;
          read = h.spoken.read;
        })))) h.history.begins h.tills) h.history h.crashes h.agency

    day_left : (rules : IsTrue a.agency.kind.keeps_rules → IsTrue a.agency.kind.tells) (end : Detail) → DayEnds issuer a end →
        LeftBy issuer
    day_left rules end (ran script how good h) = day_file rules script how good h.ends
    day_left rules end (bad_line line fault bad left) = uncalled left.disk left.agency
    day_left rules end (read_fault failed left) = uncalled left.disk left.agency
    day_left rules end (too_big past left) = uncalled left.disk left.agency
    day_left rules end (no_memory left) = uncalled left.disk left.agency

    drained : (plan : Plan) (exact : Bool) (moment : ℕ) (end : Detail) →
        FileDrained issuer plan exact moment a.devices.sink a.devices.disk a.agency end → LeftBy issuer
    drained plan exact moment end h =
        let d = h.drains in
        let o = h.outcome in
        let kept = d.kept says in
        let begins : IsPrefix h.start o.end = record { rest = d.notes.more; is = d.notes.is } in
        grown h.version h.start o.end o.torn (h.found says)
        (goes_on chained issuer a.devices.disk (first_image says) h.version h.start o.end o.torn (h.found says) begins d.legal (one_at_most d.session)
        d.torn_risen kept.each_moment kept.never_loses kept.every_crash kept.reads) (
          gains_notes a.devices.source h.start o.end d.notes,
          of_drain a.agency plan h.start exact moment o d.session,
          batches_of_drain a.agency plan h.start exact moment o begins d.session,
        )
      where
        one_at_most : IsUnopened (spanning h.start a.agency.kind a.agency.before a.agency.after exact moment
            h.outcome) ⊎ IsSession a.agency.begun plan (spanning h.start a.agency.kind a.agency.before a.agency.after
            exact moment h.outcome) → length h.outcome.torn ≤ 1
        one_at_most (inl none) = let e = ap (λ (es : List Entry). length es) none.torn in omega (arith, e)
        one_at_most (inr in_it) = in_it.sends.at_most_one

    drain_file : (plan : Plan) (exact : Bool) (moment : ℕ) (end : Detail) →
        NotOpened issuer (AllLeft a.devices.clock a.sleeper a.agency) a.devices.sink a.devices.disk end
        ⊎ FileDrained issuer plan exact moment a.devices.sink a.devices.disk a.agency end → LeftBy issuer
    drain_file plan exact moment end (inl n) =
        not_opened chained issuer a.devices.disk (first_image says) Rest says n (nothing n.rest.agency)
    drain_file plan exact moment end (inr f) = drained plan exact moment end f

    drain_left : (end : Detail) → DrainEnds issuer a end → LeftBy issuer
    drain_left end (ran script how good h) =
        drain_file script.plan (tells_moment script.clock a.sleeper) (first_moment script.clock a.sleeper) how h.ends
    drain_left end (bad_line line fault bad left) = uncalled left.disk left.agency
    drain_left end (read_fault failed left) = uncalled left.disk left.agency
    drain_left end (too_big past left) = uncalled left.disk left.agency
    drain_left end (no_memory left) = uncalled left.disk left.agency

  grows : (version : AnyVersion) (issuer : List ℕ) (start : List Entry) → Grown version issuer a.devices.disk Rest start →
      Grows version issuer start a
  grows version issuer start g =
      record { end = g.end; torn = g.torn; chain = g.chain; tills = g.rest.0; agency = g.rest.1; batches = g.rest.2 }

  -- a run that only reads
  by_reading : a.devices.disk.on_disk a.devices.disk.disk_after ≡ a.devices.disk.on_disk a.devices.disk.disk → NobodyCalled a →
      FileKept None a
  by_reading same nobody = record {
    sound = λ says version issuer start stands. grows version issuer start (stands_still chained a.devices.disk (first_image says) Rest version issuer start
        (inl (inl same)) (nothing nobody.agency) stands);
    fresh = λ says issuer writes none. absurd (let x = writes in cc);
    others = λ says other. inl (inl same);
    reads = λ none. (same, nobody);
  }

  -- a run that writes for an issuer
  pub by_writing : OneHistory → NotBegunIsNeither → (issuer : List ℕ) → (IsTrue a.devices.disk.tells → LeftBy issuer) →
      FileKept (Some issuer) a
  by_writing one neither issuer left = record {
    sound = λ says version other start stands. grows version other start (sound_of chained a.devices.disk (first_image says) Rest one neither issuer version other start
        (left says) stands);
    fresh = λ says other named none.
        let same : issuer ≡ other = (let x = named in cc) in
        subst (λ (i : List ℕ). Grows Two i [] a) same
        (grows Two issuer [] (own_grown chained issuer a.devices.disk (first_image says) one neither Rest (left says) Two [] (inl (none, refl, refl))));
    others = λ says other. others_of chained issuer a.devices.disk (first_image says) Rest (left says) other;
    reads = λ none. absurd (let x = none in cc);
  }

  own_kept : OneHistory → NotBegunIsNeither → (IsTrue a.agency.kind.keeps_rules → IsTrue a.agency.kind.tells) →
      (command : Command) (end : Detail) → OwnEnds command a end → FileKept (writes_for (Some command)) a
  own_kept one neither rules (Chain issuer) end h = by_writing one neither issuer (λ says. chain_left says issuer end h.0 h.1)
  own_kept one neither rules (Day issuer) end h = by_writing one neither issuer (λ says. day_left says issuer rules end h)
  own_kept one neither rules (Drain issuer) end h = by_writing one neither issuer (λ says. drain_left says issuer end h)
  own_kept one neither rules (Serve issuer) end h = by_writing one neither issuer (λ says. serve_left says issuer rules end h.ends)
  own_kept one neither rules Audit end h = by_reading h.1.disk h.2
  own_kept one neither rules (Link num host) end h = by_reading h.1.disk h.2
  own_kept one neither rules (Listing choice) end h = by_reading h.1.disk h.2
  own_kept one neither rules (Check workers) end h = by_reading h.1.disk h.2
  own_kept one neither rules Migrate end h = absurd h
  own_kept one neither rules Follow end h = absurd h
  own_kept one neither rules (Guard issuer) end h = absurd h
  own_kept one neither rules (Many issuers) end h = absurd h
  own_kept one neither rules (Statement period) end h = by_reading h.1.disk h.2
  own_kept one neither rules Export end h = by_reading h.1.disk h.2
  own_kept one neither rules Matches end h = by_reading h.1.disk h.2
  own_kept one neither rules (Generate n) end h = by_reading (ap a.devices.disk.on_disk h.1.disk) h.2
  own_kept one neither rules Help end h = by_reading (ap a.devices.disk.on_disk h.1.disk) h.2
  own_kept one neither rules (HelpOn topic) end h = by_reading (ap a.devices.disk.on_disk h.1.disk) h.2
  own_kept one neither rules Version end h = by_reading (ap a.devices.disk.on_disk h.1.disk) h.2

  -- by what the kinds of the devices tell
  module _ (d : disk.Ghosts D) (c : clock.Ghosts C) (z : sleeper.Ghosts Z) (g : agency.Ghosts G) where
    -- a command of one file, which left the further ones alone
    pub own_ends : (f : Further D C Z G) (command : Command) (end : Detail) → OwnEnds command a end → LeftFurther f →
        CommandEnds d c z g command a f end
    own_ends f Migrate end h left = absurd h
    own_ends f Follow end h left = absurd h
    own_ends f (Guard issuer) end h left = absurd h
    own_ends f (Many issuers) end h left = absurd h
    own_ends f command end h left = (h, left)

    others : OneHistory → NotBegunIsNeither → (IsTrue a.agency.kind.keeps_rules → IsTrue a.agency.kind.tells) →
        (words : List (List ℕ)) (f : Further D C Z G) (command : Command) (end : Detail) → AsksFor words command →
        OwnEnds command a end → FurtherKept d c z g (Some command) a f → Promise d c z g words a f
    others one neither rules words f command end asked h more =
        record { command = Some command; asked = asked; file = own_kept one neither rules command end h; more = more }

    -- what is kept of several issuers
    abbrev pub ManyKeeps : Further D C Z G → Type 0
    ManyKeeps f = (issuers : List (List ℕ)) (end : Detail) → ManyRan d c z g issuers a f end →
        FileKept (writes_for (Some (Many issuers))) a × OthersKept d c z g issuers a f

    pub promised : OneHistory → NotBegunIsNeither → (IsTrue a.agency.kind.keeps_rules → IsTrue a.agency.kind.tells) →
        (words : List (List ℕ)) (f : Further D C Z G) (command : Command) (end : Detail) → ManyKeeps f → AsksFor words command →
        CommandEnds d c z g command a f end → Promise d c z g words a f
    promised one neither rules words f Migrate end many asked h =
        record { command = Some Migrate; asked = asked; file = by_reading h.reads.disk h.nobody; more = h.moves.only }
    promised one neither rules words f Follow end many asked h =
        record { command = Some Follow; asked = asked; file = by_reading h.reads.disk h.nobody; more = h.follows.only }
    promised one neither rules words f (Guard issuer) end many asked h =
        let l = disk_of_post a.devices.disk h.post h.after in
        record {
          command = Some (Guard issuer);
          asked = asked;
          file = by_writing one neither issuer (λ says. guard_left chained a agency_stays l (image h.post.disk) first_image one neither issuer says end
              h.ends);
          more = record {
            post = h.post;
            after = h.after;
            posts = h.posts;
            guards = only_guarded chained a agency_stays l (image h.post.disk) first_image one neither issuer end h.ends;
          };
        }
    promised one neither rules words f (Many issuers) end many asked h =
        let kept = many issuers end h in
        record { command = Some (Many issuers); asked = asked; file = kept.0; more = kept.1 }
    promised one neither rules words f command end many asked h = others one neither rules words f command end asked h.0 h.1

    pub promised_nothing : (words : List (List ℕ)) (f : Further D C Z G) → IsAskedFor words None →
        a.devices.disk.on_disk a.devices.disk.disk_after ≡ a.devices.disk.on_disk a.devices.disk.disk → NobodyCalled a →
        LeftFurther f → Promise d c z g words a f
    promised_nothing words f asked same nobody left =
        record { command = None; asked = asked; file = by_reading same nobody; more = left }
