-- What is left of two files that could not both be opened.
use Rattle.std.proofs.Common.{◌≡◌, inl, inr, ℕ, List, [], refl}
use Rattle.chain_disk.specs.OnDisk.{OnDisk, synced}
use Rattle.chain_store.specs.Opening.{IsLeftUnopened}
use Rattle.chain_store.specs.declared.causes.OpenCause.{OpenCause}
use Rattle.chain_store.specs.declared.causes.OpenCause.TheVariants as opening
use Rattle.journal.specs.File.{IsNotBegun}
use Rattle.record_codec.specs.declared.entry.Entry.{Entry}
use Rattle.record_fields.specs.declared.versions.Version.{Version}
use Rattle.shop_core.specs.File.Laws.{NotBegunIsNeither}
use Rattle.standby.specs.Starting.{IsLeftUnstarted}
use Rattle.standby.specs.declared.causes.StandbyCause.{StandbyCause}
use Rattle.standby.specs.declared.causes.StandbyCause.TheVariants as starting
use Rattle.second_disk.specs.Causes.{opened_cause, started_cause}
use Rattle.second_disk.specs.Level.{GoesUp, IsNotLevel}
use Rattle.second_disk.specs.Level.HalfLeft.{not_called, only_synced, lost, stayed}
use Rattle.second_disk.specs.declared.causes.Half.TheVariants.{First, Second}

-- the first file couldn't be opened, and the second one wasn't called
pub not_opened_first : (created : Version) (issuer : List ℕ) (cause : OpenCause) (first second first_new : OnDisk) →
    IsLeftUnopened created issuer cause first first_new →
    IsNotLevel issuer (opened_cause First cause) first second first_new second
not_opened_first created issuer opening.DiskFault first second first_new left = record {
  first_left = lost created left;
  second_left = not_called refl;
  reason = tt;
  refused = λ none. absurd none;
}
not_opened_first created issuer (opening.Damaged at) first second first_new left = record {
  first_left = only_synced left.1;
  second_left = not_called refl;
  reason = left.0;
  refused = λ is. (inr left.1, inl refl);
}
not_opened_first created issuer (opening.OtherIssuer held) first second first_new left = record {
  first_left = only_synced left.1;
  second_left = not_called refl;
  reason = left.0;
  refused = λ is. (inr left.1, inl refl);
}
not_opened_first created issuer opening.NoMemory first second first_new left = record {
  first_left = only_synced left;
  second_left = not_called refl;
  reason = tt;
  refused = λ none. absurd none;
}

-- the second file couldn't be opened, and the first one wasn't called
pub not_opened_second : (created : Version) (issuer : List ℕ) (cause : OpenCause) (first second second_new : OnDisk) →
    IsLeftUnopened created issuer cause second second_new →
    IsNotLevel issuer (opened_cause Second cause) first second first second_new
not_opened_second created issuer opening.DiskFault first second second_new left = record {
  first_left = not_called refl;
  second_left = lost created left;
  reason = tt;
  refused = λ none. absurd none;
}
not_opened_second created issuer (opening.Damaged at) first second second_new left = record {
  first_left = not_called refl;
  second_left = only_synced left.1;
  reason = left.0;
  refused = λ is. (inl refl, inr left.1);
}
not_opened_second created issuer (opening.OtherIssuer held) first second second_new left = record {
  first_left = not_called refl;
  second_left = only_synced left.1;
  reason = left.0;
  refused = λ is. (inl refl, inr left.1);
}
not_opened_second created issuer opening.NoMemory first second second_new left = record {
  first_left = not_called refl;
  second_left = only_synced left;
  reason = tt;
  refused = λ none. absurd none;
}

-- the second file couldn't be opened in the first one's version, which was opened
pub not_started_second : NotBegunIsNeither → (version : Version) (issuer : List ℕ) (cause : StandbyCause) (entries : List Entry)
    (first first_new second second_new : OnDisk) → IsLeftUnstarted version issuer cause second second_new →
    GoesUp version issuer entries entries first first_new → ((IsNotBegun second.content → ⊥) → first_new ≡ synced first) →
    (IsNotBegun first.content → IsNotBegun second.content) →
    IsNotLevel issuer (started_cause Second cause) first second first_new second_new
not_started_second neither version issuer starting.DiskFault entries first first_new second second_new left goes unwritten alike = record {
  first_left = stayed version entries goes;
  second_left = lost version left;
  reason = tt;
  refused = λ none. absurd none;
}
not_started_second neither version issuer (starting.Damaged at) entries first first_new second second_new left goes unwritten alike = record {
  first_left = stayed version entries goes;
  second_left = only_synced left.1;
  reason = left.0;
  refused = λ is. (inr (unwritten (λ not. (neither version issuer [] second.content at not).1 left.0)), inr left.1);
}
not_started_second neither version issuer (starting.OtherIssuer held) entries first first_new second second_new left goes unwritten alike = record {
  first_left = stayed version entries goes;
  second_left = only_synced left.1;
  reason = left.0;
  refused = λ is. (
    inr (unwritten (λ not. (neither left.0.version held left.0.entries second.content 0 not).0 left.0.stands)),
    inr left.1,
  );
}
not_started_second neither version issuer (starting.OtherVersion held) entries first first_new second second_new left goes unwritten alike = record {
  first_left = stayed version entries goes;
  second_left = only_synced left.1;
  reason = record {
    version = version;
    entries = entries;
    first_is = elim goes.found [
      | inl not ↦ absurd ((neither held issuer left.0.entries second.content 0 (alike not.0)).0 left.0.stands)
      | inr stands ↦ stands
    ];
    second_is = left.0;
  };
  refused = λ is. (
    inr (unwritten (λ not. (neither held issuer left.0.entries second.content 0 not).0 left.0.stands)),
    inr left.1,
  );
}
not_started_second neither version issuer starting.NoMemory entries first first_new second second_new left goes unwritten alike = record {
  first_left = stayed version entries goes;
  second_left = only_synced left;
  reason = tt;
  refused = λ none. absurd none;
}

-- the first file, which isn't begun, couldn't be begun in the second one's version
pub not_started_first : NotBegunIsNeither → (version : Version) (issuer : List ℕ) (cause : StandbyCause)
    (first first_new second second_new : OnDisk) → IsNotBegun first.content → IsLeftUnstarted version issuer cause first first_new →
    second_new ≡ synced second → IsNotLevel issuer (started_cause First cause) first second first_new second_new
not_started_first neither version issuer starting.DiskFault first first_new second second_new not left unwritten = record {
  first_left = lost version left;
  second_left = only_synced unwritten;
  reason = tt;
  refused = λ none. absurd none;
}
not_started_first neither version issuer (starting.Damaged at) first first_new second second_new not left unwritten =
    absurd ((neither version issuer [] first.content at not).1 left.0)
not_started_first neither version issuer (starting.OtherIssuer held) first first_new second second_new not left unwritten =
    absurd ((neither left.0.version held left.0.entries first.content 0 not).0 left.0.stands)
not_started_first neither version issuer (starting.OtherVersion held) first first_new second second_new not left unwritten =
    absurd ((neither held issuer left.0.entries first.content 0 not).0 left.0.stands)
not_started_first neither version issuer starting.NoMemory first first_new second second_new not left unwritten = record {
  first_left = only_synced left;
  second_left = only_synced unwritten;
  reason = tt;
  refused = λ none. absurd none;
}
