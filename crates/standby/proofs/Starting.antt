-- A file of another version starts no standby.
use Rattle.std.proofs.Common.{◌≡◌, inl, inr, ℕ, List, Result, Ok, Err}
use Rattle.std.specs.Prelude.{IfOk, IfErr}
use Rattle.chain_disk.specs.OnDisk.{OnDisk, synced}
use Rattle.chain_store.specs.Opening.{IsFound, IsOnlySynced}
use Rattle.journal.specs.Laws.{NoChain}
use Rattle.record_fields.specs.declared.versions.Version.{Version}
use Rattle.record_codec.specs.declared.entry.Entry.{Entry}
use Rattle.shop_core.specs.File.Files.{bodies_of}
use Rattle.standby.specs.Starting.{IsOtherVersion}
use Rattle.standby.specs.declared.causes.StandbyCause.{StandbyCause}
use Rattle.standby.specs.declared.causes.StandbyCause.TheVariants.{DiskFault, OtherVersion}

pub other_version : NoChain → (version held : Version) (issuer : List ℕ) (entries : List Entry) (t u : OnDisk) →
    (held ≡ version → ⊥) → IsFound version held issuer entries t.content → IsOnlySynced t u →
    IsOtherVersion version held issuer t.content × (u ≡ synced t)
other_version no_chain version held issuer entries t u apart (inl not) unwritten = absurd (apart not.2)
other_version no_chain version held issuer entries t u apart (inr stands) unwritten = (
  record { other = apart; entries = entries; stands = stands },
  unwritten (λ none. no_chain held issuer (bodies_of held entries) t.content none stands.frames),
)

pub if_ok : {A E : Type 0} (P Q : A → Type 0) (r : Result A E) → IfOk r P → ((x : A) → P x → Q x) → IfOk r Q
if_ok P Q (Ok x) h f = f x h
if_ok P Q (Err e) h f = tt

pub if_err : {A E : Type 0} (P Q : E → Type 0) (r : Result A E) → IfErr r P → ((x : E) → P x → Q x) → IfErr r Q
if_err P Q (Ok x) h f = tt
if_err P Q (Err e) h f = f e h

pub not_a_fault : (held : Version) → ◌≡◌ {A = StandbyCause} (OtherVersion held) DiskFault → ⊥
not_a_fault held e = cc
