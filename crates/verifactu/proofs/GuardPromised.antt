-- The promise of `guard`, from the way it ended.
use Rattle.std.proofs.Common.{◌≡◌, ◌∙◌, ◌⊎◌, inl, inr, ◌≤◌, ℕ, List, [], ◌++◌, length, refl, sym, ap, subst, arith, append-nil}
use Rattle.std.proofs.Common.{Bool, IsTrue, Some}
use Rattle.agency_rules.specs.declared.plans.Plan.{Plan}
use Rattle.chain_disk.specs.Disks.{Disks, LeftDisk}
use Rattle.chain_disk.specs.OnDisk.{IsImage, LeavesOnly, synced}
use Rattle.chain_store.specs.Losing.{NeverLoses, none_lost}
use Rattle.chain_disk.specs.Runs.{weaker}
use Rattle.record_codec.specs.declared.entry.Entry.{Entry}
use Rattle.record_fields.specs.declared.versions.Version.{Version}
use Rattle.recovery.specs.Opening.{IsFound}
use Rattle.report.specs.declared.status.Detail.{Detail}
use Rattle.sender.specs.Turning.{AgencyState}
use Rattle.shop_core.specs.File.Laws.{NotBegunIsNeither, OneHistory}
use Rattle.shop_core.specs.History.{noted}
use Rattle.shop_core.specs.Prefix.{IsPrefix}
use Rattle.shop_drain.specs.Devices.{AllDevices, LeftAgency}
use Rattle.shop_drain.specs.Devices.{first_moment, tells_moment}
use Rattle.shop_drain.specs.Draining.{Beginning, IsSession, IsUnopened, Span, spanning}
use Rattle.shop_commands.specs.Follow.{IsFollowImage}
use Rattle.shop_commands.specs.Guard.{FileGuarded, GuardEnds, GuardsFile}
use Rattle.shop_drain.specs.Guarding.{AreHeld, Held}
use Rattle.verifactu.specs.AgencyPromise.{AgencyKept, BatchesKept}
use Rattle.verifactu.specs.AgencyPromise.AgencyKept.{silent, in_session}
use Rattle.verifactu.specs.FilePromise.{IsOwn}
use Rattle.verifactu.specs.FurtherPromise.{OnlyGuarded}
use Rattle.verifactu.specs.TillPromise.{TillsGain}
use Rattle.command_ends.specs.Scripts.ScriptedEnds.{ran, bad_line, read_fault, too_big, no_memory}
use Rattle.shop_commands.proofs.Follows.{untouched as untouched_image}
use Rattle.shop_drain.proofs.Finishing.{since_found}
use Rattle.shop_commands.proofs.GuardEnding.{further_image}
use Rattle.verifactu.proofs.Gaining.{gains_notes, gains_nothing}
use Rattle.shop_drain.proofs.Guarded.{file_agrees}
use Rattle.verifactu.proofs.Promised.{AreLinked, Left, goes_on, left_disk, legal_found, not_opened, own_of, same_found, whole}
use Rattle.verifactu.proofs.Promised.Left.{begun_in_part, grown, untouched}
use Rattle.verifactu.proofs.Sessions.{batches_of_drain, batches_silent, left_agency, since_opening, stays_of_chain}

one_of : (d : Span) (begun : Beginning) (plan : Plan) → IsUnopened d ⊎ IsSession begun plan d → length d.torn ≤ 1
one_of d begun plan (inl none) = let e = ap (λ (es : List Entry). length es) none.torn in omega (arith, e)
one_of d begun plan (inr s) = s.sends.at_most_one

-- what the copy has, with what is torn, is a front of what the file has, with what is torn
copy_within : (end torn : List Entry) (file copy : Held) → AreHeld end torn file copy →
    IsPrefix (copy.entries ++ copy.torn) (file.entries ++ file.torn)
copy_within end torn file copy held = elim held.file_is [
  | inl h ↦ record {
    rest = torn;
    is = ap (λ (es : List Entry). es ++ file.torn) h.0 ∙ ap (λ (es : List Entry). end ++ es) h.1 ∙
        ap (λ (es : List Entry). es ++ torn) (sym (ap (λ (es : List Entry). copy.entries ++ es) h.2 ∙
        append-nil copy.entries ∙ held.copy_is));
  }
  | inr h ↦ record {
    rest = [];
    is = ap (λ (es : List Entry). file.entries ++ es) h.1 ∙ append-nil file.entries ∙ h.0 ∙
        sym (append-nil (copy.entries ++ copy.torn) ∙ ap (λ (es : List Entry). es ++ copy.torn) held.copy_is ∙
        ap (λ (es : List Entry). end ++ es) h.2);
  }
]

end_within : (end torn : List Entry) (file copy : Held) → AreHeld end torn file copy → IsPrefix end file.entries
end_within end torn file copy held = elim held.file_is [
  | inl h ↦ record { rest = []; is = h.0 ∙ sym (append-nil end) }
  | inr h ↦ record { rest = torn; is = h.0 }
]

file_torn : (end torn : List Entry) (file copy : Held) → AreHeld end torn file copy → length torn ≤ 1 → length file.torn ≤ 1
file_torn end torn file copy held few = elim held.file_is [
  | inl h ↦ subst (λ (es : List Entry). length es ≤ 1) (sym h.1) few
  | inr h ↦ subst (λ (es : List Entry). length es ≤ 1) (sym h.1) (omega arith)
]

-- nothing was noted, so nothing came
none_noted : (start end torn : List Entry) (file copy : Held) → AreHeld end torn file copy → end ≡ start → torn ≡ [] →
    noted file.entries ≡ noted start
none_noted start end torn file copy held same none = elim held.file_is [
  | inl h ↦ ap (λ (es : List Entry). noted es) (h.0 ∙ same)
  | inr h ↦ ap (λ (es : List Entry). noted es) (h.0 ∙ ap (λ (es : List Entry). end ++ es) none ∙ append-nil end ∙ same)
]

map_left : {D : Type 0} (issuer : List ℕ) (k : Disks D) (T U : List Entry → List Entry → List Entry → Type 0) →
    ((start end torn : List Entry) → T start end torn → U start end torn) → Left issuer k T → Left issuer k U
map_left issuer k T U f (untouched same rest) = untouched same (λ start. f start start [] (rest start))
map_left issuer k T U f (begun_in_part h stay rest) = begun_in_part h stay (λ start. f start start [] (rest start))
map_left issuer k T U f (grown version start end torn found chain rest) =
    grown version start end torn found chain (f start end torn rest)

module _ {D C Z G : Type 0} (chained : AreLinked) (a : AllDevices D C Z G)
    (agency_stays : LeftAgency a.agency → a.agency.after ≡ a.agency.before) (l : Disks D)
    (image : IsTrue l.tells → IsImage (l.on_disk l.disk).now (l.on_disk l.disk).content)
    (file_image : IsTrue a.devices.disk.tells →
    IsImage (a.devices.disk.on_disk a.devices.disk.disk).now (a.devices.disk.on_disk a.devices.disk.disk).content) (one : OneHistory)
    (neither : NotBegunIsNeither) (issuer : List ℕ) where
  abbrev file : Disks D
  file = a.devices.disk

  abbrev IsOf : Version → List Entry → Type 0
  IsOf version start = IsFound version issuer start (file.on_disk file.disk).content

  -- what each crash leaves of the copy, where the file is found as one with this history
  abbrev CopyRest : List Entry → List Entry → List Entry → Type 0
  CopyRest start end torn = (version : Version) → IsOf version start → IsTrue l.tells →
      LeavesOnly (l.on_disk l.disk) (l.on_disk l.disk_after) (IsFollowImage version issuer (end ++ torn) (l.on_disk l.disk))

  abbrev pub FileRest : List Entry → List Entry → List Entry → Type 0
  FileRest start end torn =
      TillsGain a.devices.source start end × AgencyKept start end torn a.agency × BatchesKept start end a.agency

  abbrev CopyStays : Type 0
  CopyStays = IsTrue l.tells → NeverLoses (l.on_disk l.disk) (l.on_disk l.disk_after)

  record Rest (start end torn : List Entry) : Type 0 where
    own : FileRest start end torn
    copy : CopyRest start end torn
    stays : CopyStays

  left_copy : LeftDisk l → (start : List Entry) → CopyRest start start []
  left_copy same start version found tells = subst (λ (d : D). LeavesOnly (l.on_disk l.disk) (l.on_disk d)
      (IsFollowImage version issuer (start ++ []) (l.on_disk l.disk))) (sym same)
      (untouched_image version issuer (start ++ []) (l.on_disk l.disk) (image tells))

  nothing_own : LeftAgency a.agency → (start : List Entry) → FileRest start start []
  nothing_own left start = (
    gains_nothing a.devices.source start,
    left_agency a.agency (agency_stays left) start start [] refl,
    batches_silent a.agency start start (whole start) (λ tells. ap (λ (agency_state : AgencyState). agency_state.ledger) (agency_stays left)),
  )

  nothing : LeftAgency a.agency → LeftDisk l → (start : List Entry) → Rest start start []
  nothing left same start = record {
    own = nothing_own left start;
    copy = left_copy same start;
    stays = λ tells. subst (λ (d : D). NeverLoses (l.on_disk l.disk) (l.on_disk d)) (sym same) (none_lost (l.on_disk l.disk));
  }

  -- for the version with which the file is found
  at_version : (version : Version) (start history : List Entry) → IsOf version start →
      (IsTrue l.tells → LeavesOnly (l.on_disk l.disk) (l.on_disk l.disk_after) (IsFollowImage version issuer history (l.on_disk l.disk))) →
      (another : Version) → IsOf another start → IsTrue l.tells →
      LeavesOnly (l.on_disk l.disk) (l.on_disk l.disk_after) (IsFollowImage another issuer history (l.on_disk l.disk))
  at_version version start history here images another there tells =
      subst (λ (v : Version). LeavesOnly (l.on_disk l.disk) (l.on_disk l.disk_after) (IsFollowImage v issuer history (l.on_disk l.disk)))
      (same_found one neither version another issuer start start (file.on_disk file.disk).content here there).0 (images tells)

  module _ (says : IsTrue file.tells) where
    uncalled : LeftDisk file → LeftAgency a.agency → LeftDisk l → Left issuer file Rest
    uncalled disk agency same = left_disk chained issuer file (file_image says) Rest disk (nothing agency same)

    agency_kept : (plan : Plan) (exact : Bool) (moment : ℕ) (end : Detail)
        (h : FileGuarded issuer plan exact moment a.devices.sink file l a.agency end) →
        IsUnopened (spanning h.start a.agency.kind a.agency.before a.agency.after exact moment h.outcome)
        ⊎ IsSession a.agency.begun plan (spanning h.start a.agency.kind a.agency.before a.agency.after exact moment h.outcome) →
        AgencyKept h.start h.file_held.entries h.file_held.torn a.agency
    agency_kept plan exact moment end h (inl none) = silent none.lists
        (none_noted h.start h.outcome.end h.outcome.torn h.file_held h.copy_held h.drains.ahead none.end none.torn)
    agency_kept plan exact moment end h (inr s) = in_session (record {
      careful = since_opening a.agency plan h.start s.opened s.opens s.sends.careful;
      said = h.drains.shop.said;
      agrees = λ keeps agree.
          let still = s.agreement keeps agree in
          file_agrees h.outcome.end h.outcome.torn h.file_held h.copy_held a.agency.after h.drains.ahead still.whole still.torn;
    })

    guarded : (plan : Plan) (exact : Bool) (moment : ℕ) (end : Detail) →
        FileGuarded issuer plan exact moment a.devices.sink file l a.agency end → Left issuer file Rest
    guarded plan exact moment end h =
        let d = h.drains in
        let o = h.outcome in
        let span : Span = spanning h.start a.agency.kind a.agency.before a.agency.after exact moment o in
        let kept = d.shop.kept says in
        let f = h.file_held in
        let begins : IsPrefix h.start f.entries = record { rest = d.shop.notes.more; is = d.shop.notes.is } in
        let to_end : IsPrefix h.start o.end = subst (λ (es : List Entry). IsPrefix h.start es) d.ahead.copy_is
        (record { rest = d.standby.notes.more; is = d.standby.notes.is }) in
        grown h.version h.start f.entries f.torn (h.found says)
        (goes_on chained issuer file (file_image says) h.version h.start f.entries f.torn (h.found says) begins d.shop.legal
        (file_torn o.end o.torn f h.copy_held d.ahead (one_of span a.agency.begun plan d.session)) d.shop.torn_risen
        kept.each_moment kept.never_loses kept.every_crash kept.reads) (record {
          own = (
            gains_notes a.devices.source h.start f.entries d.shop.notes,
            agency_kept plan exact moment end h d.session,
            λ tells runs. stays_of_chain o.end f.entries a.agency.after.ledger.messages
                (end_within o.end o.torn f h.copy_held d.ahead)
                (batches_of_drain a.agency plan h.start exact moment o to_end d.session tells runs),
          );
          copy = at_version h.version h.start (f.entries ++ f.torn) (h.found says)
              (λ tells. weaker (l.on_disk l.disk) (l.on_disk l.disk_after) _ _ (d.standby.kept tells).each_moment
              (λ c is. further_image h.version issuer (h.copy_held.entries ++ h.copy_held.torn) (f.entries ++ f.torn)
              (l.on_disk l.disk) c (copy_within o.end o.torn f h.copy_held d.ahead) is));
          stays = λ tells. (d.standby.kept tells).never_loses;
        })

    guard_file : (plan : Plan) (exact : Bool) (moment : ℕ) (end : Detail) →
        GuardsFile issuer plan exact moment a.devices.sink file l a.devices.clock a.sleeper a.agency end → Left issuer file Rest
    guard_file plan exact moment end (inl n) =
        not_opened chained issuer file (file_image says) Rest says n (nothing n.rest.0.agency n.rest.1)
    guard_file plan exact moment end (inr (inl h)) =
        let found = h.found says in
        let legal = legal_found h.version issuer h.start (file.on_disk file.disk).content found in
        grown h.version h.start h.start [] found
        (goes_on chained issuer file (file_image says) h.version h.start h.start [] found (whole h.start) legal (omega arith) (inl refl)
        (weaker (synced (file.on_disk file.disk)) (file.on_disk file.disk_after) _ _ (h.any_moment says)
        (λ c is. since_found (file.on_disk file.disk).content h.version issuer h.start h.start [] c (whole h.start) is))
        (h.never_loses says)
        (λ c left. inl (h.every_crash says c left)) (inl (h.reads says))) (record {
          own = nothing_own h.rest.agency h.start;
          copy = at_version h.version h.start (h.start ++ []) found
              (λ tells. weaker (l.on_disk l.disk) (l.on_disk l.disk_after) _ _ (h.copy.images tells)
              (λ c is. further_image h.version issuer h.start (h.start ++ []) (l.on_disk l.disk) c
              (record { rest = []; is = refl }) is));
          stays = h.copy.never_loses;
        })
    guard_file plan exact moment end (inr (inr h)) = guarded plan exact moment end h

    left_by : (end : Detail) → GuardEnds issuer a l end → Left issuer file Rest
    left_by end (ran script how good h) =
        guard_file script.plan (tells_moment script.clock a.sleeper) (first_moment script.clock a.sleeper) how h.ends
    left_by end (bad_line line fault bad left) = uncalled left.0.disk left.0.agency left.1
    left_by end (read_fault failed left) = uncalled left.0.disk left.0.agency left.1
    left_by end (too_big past left) = uncalled left.0.disk left.0.agency left.1
    left_by end (no_memory left) = uncalled left.0.disk left.0.agency left.1

    -- what is left of the file
    pub guard_left : (end : Detail) → GuardEnds issuer a l end → Left issuer file FileRest
    guard_left end h = map_left issuer file Rest FileRest (λ start end torn rest. rest.own) (left_by end h)

  unowned : (plan : Plan) (exact : Bool) (moment : ℕ) (end : Detail) →
      GuardsFile issuer plan exact moment a.devices.sink file l a.devices.clock a.sleeper a.agency end → IsTrue file.tells →
      (IsOwn (Some issuer) (file.on_disk file.disk).content → ⊥) → LeftDisk l
  unowned plan exact moment end (inl n) says other = n.rest.1
  unowned plan exact moment end (inr (inl h)) says other = absurd (other (h.version, h.start, h.found says))
  unowned plan exact moment end (inr (inr h)) says other = absurd (other (h.version, h.start, h.found says))

  unowned_by : (end : Detail) → GuardEnds issuer a l end → IsTrue file.tells →
      (IsOwn (Some issuer) (file.on_disk file.disk).content → ⊥) → LeftDisk l
  unowned_by end (ran script how good h) says other = unowned script.plan (tells_moment script.clock a.sleeper)
      (first_moment script.clock a.sleeper) how h.ends says other
  unowned_by end (bad_line line fault bad left) says other = left.1
  unowned_by end (read_fault failed left) says other = left.1
  unowned_by end (too_big past left) says other = left.1
  unowned_by end (no_memory left) says other = left.1

  -- and of the copy
  pub only_guarded : (end : Detail) → GuardEnds issuer a l end → OnlyGuarded issuer file l
  only_guarded end h = record {
    own = λ says version start found.
        let g = own_of chained issuer file (file_image says) one neither Rest (left_by says end h) version start found in
        record {
          end = g.end;
          torn = g.torn;
          chain = g.chain;
          images = g.rest.copy version found;
          never_loses = g.rest.stays;
        };
    others = λ says other. unowned_by end h says other;
  }
