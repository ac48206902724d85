use Rattle.std.proofs.Common.{rules, ◌≡◌, ℕ, ◌∷◌, [], ◌++◌, List, refl, sym, ◌∙◌, ap, subst, None, Err, IsTrue}
use Rattle.record_fields.specs.declared.versions.Version.{Version}
use Rattle.record_codec.specs.Validity.{AreFields}
use Rattle.journal.specs.declared.journal.JournalFault.{JournalFault}
use Rattle.frames.specs.Frames.{IsBody}
use Rattle.journal.specs.Journal.{disk_of, end_of, stopped_of}
use Rattle.journal.specs.Written.{with_frame}
use Rattle.shop_core.specs.History.{History}
use Rattle.shop_core.specs.Legal.{Legal}
use Rattle.chain_store.specs.Ready.{IsReady}
use Rattle.chain_store.proofs.Stores.{adding, appended, gate_more, holds_more, leaves_its_history}
use Rattle.chain_store.proofs.Losing.{append_loses_none}
use Rattle.chain_store.proofs.keeping.keep.Goals as goal

pub unreachable-requires : goal.unreachable-requires
unreachable-requires g c =
    let faults = c.in-Err-Stopped.field-0-0 in
    let stopped = (c.append.ensures.stopped faults).0 (c.in-Err-Stopped.is ∙ ap (λ (e : JournalFault). Err e)
    c.in-Err-Stopped.field-0-is) in
    let going_on = c.requires.going_on in
    absurd cc

pub returns-in-Ok : goal.returns-in-Ok
returns-in-Ok g c =
    let s = c.args.state.now in
    let entry = c.args.entry in
    let is = c.requires.encoding in
    let new : c.apply_encoded.new.self
    ≡ record { issuer = s.issuer; version = s.version; entries = s.entries ++ entry ∷ []; room = None } =
    c.apply_encoded.ensures in
    let fields = subst (λ (v : Version). AreFields v entry) c.version.ensures c.fields_are_valid.ensures in
    let body : IsBody c.args.bytes.now = subst (λ (b : List ℕ). IsBody b) (sym is)
    (c.an_encoding_is_a_body.ensures s.version entry fields) in
    let around = λ (tells : IsTrue g.D.Disk.tells). adding s (end_of c.args.journal.now)
    (g.D.Disk.on_disk (disk_of c.args.journal.now)) entry c.what_continues_fits_its_bytes.ensures
    c.a_legal_history_goes_on.ensures (c.requires.ready.holds refl tells) c.is_legal.ensures c.requires.continues
    fields in
    let ready = subst (λ (h : History). IsReady g.D.Disk.tells h (stopped_of c.append.new.self) (end_of c.append.new.self)
    (g.D.Disk.on_disk (disk_of c.append.new.self))) (sym new)
    (record {
      place = gate_more s.entries entry (end_of c.args.journal.now) (end_of c.append.new.self) c.args.bytes.now
          c.requires.ready.place c.in-Ok.ensures.place body;
      holds = λ none tells. holds_more (around tells) is
          (c.in-Ok.ensures.acknowledged tells s.version s.issuer _ (c.requires.ready.holds refl tells).file);
    }) in
    let legal : Legal c.apply_encoded.new.self.version c.apply_encoded.new.self.issuer c.apply_encoded.new.self.entries =
    subst (λ (h : History). Legal h.version h.issuer h.entries) (sym new)
    (c.a_legal_history_goes_on.ensures s.version s.issuer s.entries entry c.is_legal.ensures c.requires.continues) in
    record {
      ready = ready;
      issuer = search rules;
      version = search rules;
      added = search rules;
      same = search rules;
      any_moment = λ tells. appended (around tells) is
          (c.append.ensures.any_moment c.requires.going_on tells s.version s.issuer _ (c.requires.ready.holds refl tells).file);
      never_loses = λ tells.
          let holds = c.requires.ready.holds refl tells in
          append_loses_none c.encodings_are_apart.ensures c.a_file_stands_for_one_chain.ensures s.version s.issuer s.entries entry
          (g.D.Disk.on_disk (disk_of c.args.journal.now)) (g.D.Disk.on_disk (disk_of c.append.new.self))
          (appended (around tells) is (c.append.ensures.any_moment c.requires.going_on tells s.version s.issuer _ holds.file))
          (c.append.ensures.never_loses c.requires.going_on tells s.version s.issuer _ holds.file);
      appended = c.append.ensures.appended c.requires.going_on;
      content = λ tells. c.in-Ok.ensures.content tells ∙
          ap (λ (b : List ℕ). with_frame (g.D.Disk.on_disk (disk_of c.args.journal.now)).content (end_of c.args.journal.now) b) is;
      acknowledged = λ tells. leaves_its_history c.apply_encoded.new.self (end_of c.append.new.self)
          (g.D.Disk.on_disk (disk_of c.append.new.self)) (ready.holds c.in-Ok.ensures.going_on.1 tells) legal;
      fault = search rules;
      later = search rules;
    }

pub returns-in-Err-DiskFault : goal.returns-in-Err-DiskFault
returns-in-Err-DiskFault g c =
    let s = c.args.state.now in
    record {
      ready = search rules;
      issuer = search rules;
      version = search rules;
      added = search rules;
      same = search rules;
      any_moment = λ tells.
          let holds = c.requires.ready.holds refl tells in
          let a =
          adding s (end_of c.args.journal.now) (g.D.Disk.on_disk (disk_of c.args.journal.now)) c.args.entry
          c.what_continues_fits_its_bytes.ensures c.a_legal_history_goes_on.ensures holds
          c.is_legal.ensures c.requires.continues
          (subst (λ (v : Version). AreFields v c.args.entry) c.version.ensures c.fields_are_valid.ensures) in
          appended a c.requires.encoding
          (c.append.ensures.any_moment c.requires.going_on tells s.version s.issuer _ holds.file);
      never_loses = λ tells.
          let holds = c.requires.ready.holds refl tells in
          let a =
          adding s (end_of c.args.journal.now) (g.D.Disk.on_disk (disk_of c.args.journal.now)) c.args.entry
          c.what_continues_fits_its_bytes.ensures c.a_legal_history_goes_on.ensures holds
          c.is_legal.ensures c.requires.continues
          (subst (λ (v : Version). AreFields v c.args.entry) c.version.ensures c.fields_are_valid.ensures) in
          append_loses_none c.encodings_are_apart.ensures c.a_file_stands_for_one_chain.ensures s.version s.issuer s.entries
          c.args.entry (g.D.Disk.on_disk (disk_of c.args.journal.now)) (g.D.Disk.on_disk (disk_of c.append.new.self))
          (appended a c.requires.encoding (c.append.ensures.any_moment c.requires.going_on tells s.version s.issuer _ holds.file))
          (c.append.ensures.never_loses c.requires.going_on tells s.version s.issuer _ holds.file);
      appended = c.append.ensures.appended c.requires.going_on;
      content = search rules;
      acknowledged = search rules;
      fault = search rules;
      later = search rules;
    }
