-- What was made sure of stays: a history that every file which a crash may leave at one moment begins with.
use Rattle.std.specs.Prelude.{◌≡◌, ◌≤◌, ℕ, List, ◌++◌, take}
use Rattle.std.proofs.Common.{arith, subst, sym}
use Rattle.chain_disk.specs.OnDisk.{OnDisk, IsImage, IsRun, IsSyncFailed, StillLeaves, moment, settled, synced}
use Rattle.chain_disk.specs.Stays.{call_run, no_run, none_still, run_follows, runs_still, sync_failed_run, sync_failed_still, sync_still}
use Rattle.journal.specs.File.{closing_gate}
use Rattle.record_fields.specs.declared.versions.Version.{Version}
use Rattle.record_codec.specs.declared.entry.Entry.{Entry}
use Rattle.shop_core.specs.File.Files.{StandsFor, bodies_of}

-- the file stands for a history that begins with these entries, and its bytes before their closing gate are these
pub record StandsOn (version : Version) (issuer : List ℕ) (entries : List Entry) (bytes file : List ℕ) : Type 0 where
  pub more : List Entry
  pub stands : StandsFor version issuer (entries ++ more) file
  pub front : take (closing_gate (bodies_of version entries)) file ≡ bytes

-- A run of calls loses nothing that was made sure of: where all files that a crash may leave at one moment of it stand so, all that
-- a crash may leave at a later one do too.
pub record NeverLoses (old new : OnDisk) : Type 0 where
  pub run : IsRun old new
  pub stays : (version : Version) (issuer : List ℕ) (entries : List Entry) (bytes : List ℕ) →
      StillLeaves old new (StandsOn version issuer entries bytes)

-- no call loses anything
pub none_lost : (t : OnDisk) → NeverLoses t t
none_lost t = record { run = no_run t; stays = λ v i e b. none_still t (StandsOn v i e b) }

pub none_lost_by : (t u : OnDisk) → u ≡ t → NeverLoses t u
none_lost_by t u same = subst (λ (d : OnDisk). NeverLoses t d) (sym same) (none_lost t)

-- two such runs are one
pub none_lost_in_both : (t u v : OnDisk) → NeverLoses t u → NeverLoses u v → NeverLoses t v
none_lost_in_both t u v first second = record {
  run = run_follows t u v first.run second.run;
  stays = λ version issuer entries bytes. runs_still t u v (StandsOn version issuer entries bytes) first.run second.run
      (first.stays version issuer entries bytes) (second.stays version issuer entries bytes);
}

-- nor does the later part of such a run
pub none_lost_since : (t u v : OnDisk) → NeverLoses t v → moment t ≤ moment u → IsRun u v → NeverLoses u v
none_lost_since t u v all late run = record {
  run = run;
  stays = λ version issuer entries bytes m next since on within leaves. all.stays version issuer entries bytes m next
      (omega (arith, late, since)) on within leaves;
}

-- a sync loses nothing
pub sync_loses_none : (t u : OnDisk) → u ≡ synced t → IsImage t.now t.content → NeverLoses t u
sync_loses_none t u ok reads = subst (λ (d : OnDisk). NeverLoses t d) (sym ok) (record {
  run = call_run t t.content (settled t.content);
  stays = λ v i e b. sync_still t (StandsOn v i e b) reads;
})

pub sync_failed_loses_none : (t u : OnDisk) → IsSyncFailed t u → NeverLoses t u
sync_failed_loses_none t u err = record {
  run = sync_failed_run t u err;
  stays = λ v i e b. sync_failed_still t u (StandsOn v i e b) err;
}
