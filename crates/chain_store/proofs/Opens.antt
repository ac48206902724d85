-- A file that was opened.
use Rattle.std.proofs.Common.{◌≡◌, ℕ, List, [], refl, sym, ◌∙◌, subst, inl, inr, Result, Ok, Err, IfErr, IfOk}
use Rattle.record_fields.specs.declared.versions.Version.{Version}
use Rattle.chain_store.specs.Opening.{IsFound}
use Rattle.chain_disk.specs.OnDisk.{OnDisk, IsSettled, LeavesNow, LeavesOnly, synced}
use Rattle.chain_disk.specs.Runs.{leaves_now, started_settled, weaker}
use Rattle.journal.specs.File.{IsAtSome, IsFile, IsNotBegunOrEmpty, closing_gate}
use Rattle.record_codec.specs.declared.entry.Entry.{Entry}
use Rattle.shop_core.specs.Legal.{Legal}
use Rattle.chain_store.specs.Loading.{IsLoaded}
use Rattle.chain_store.specs.declared.loading.Loaded.{Loaded}
use Rattle.shop_core.specs.File.Files.{StandsFor, bodies_of}

-- a file that was begun stands for the empty history
pub begun : (created : Version) (issuer : List ℕ) (t : OnDisk) → Legal created issuer [] →
    LeavesNow t (IsFile created issuer []) → LeavesNow t (StandsFor created issuer [])
begun created issuer t legal only = λ c left. record { frames = only c left; encoded = tt; legal = legal }

pub at_some : (version : Version) (issuer : List ℕ) (entries : List Entry) (end : ℕ) (t : OnDisk) →
    StandsFor version issuer entries t.content → end ≡ closing_gate (bodies_of version entries) → IsSettled t → IsAtSome end t
at_some version issuer entries end t stands place quiet = ∣ (
  version,
  issuer,
  bodies_of version entries,
  record {
    file = stands.frames;
    place = place;
    nothing_pending = quiet;
  },
) ∣₁

pub stays : (version : Version) (issuer : List ℕ) (entries : List Entry) (t : OnDisk) →
    StandsFor version issuer entries t.content → IsSettled t → LeavesNow t (StandsFor version issuer entries)
stays version issuer entries t stands quiet = leaves_now t (StandsFor version issuer entries) quiet stands

found_empty : (created : Version) (issuer c : List ℕ) → Legal created issuer [] → IsNotBegunOrEmpty created issuer c →
    IsFound created created issuer [] c
found_empty created issuer c legal (inl not_begun) = inl (not_begun, refl, refl)
found_empty created issuer c legal (inr file) = inr (record { frames = file; encoded = tt; legal = legal })

-- while a file is begun, each crash leaves the empty history
pub begins : (created : Version) (issuer : List ℕ) (t u : OnDisk) → Legal created issuer [] →
    LeavesOnly t u (IsNotBegunOrEmpty created issuer) → LeavesOnly t u (IsFound created created issuer [])
begins created issuer t u legal only =
    weaker t u (IsNotBegunOrEmpty created issuer) (IsFound created created issuer []) only
    (λ c left. found_empty created issuer c legal left)

pub holds_on : (created version : Version) (issuer : List ℕ) (entries : List Entry) (t : OnDisk) →
    StandsFor version issuer entries t.content → IsSettled t → LeavesOnly t t (IsFound created version issuer entries)
holds_on created version issuer entries t stands quiet =
    started_settled t (IsFound created version issuer entries) quiet (inr stands)

-- what was loaded after a sync, which the loading left
pub loaded_settled : (t u v : OnDisk) (loaded : Loaded) → u ≡ synced t → v ≡ u → IsLoaded u.content loaded →
    IsLoaded v.content loaded × IsSettled v
loaded_settled t u v loaded ok same is = (
  subst (λ (w : OnDisk). IsLoaded w.content loaded) (sym same) is,
  subst IsSettled (sym (same ∙ ok)) refl,
)

-- what follows from what holds of an answer holds of it
pub if_ok : {A E : Type 0} (P Q : A → Type 0) (r : Result A E) → IfOk r P → ((x : A) → P x → Q x) → IfOk r Q
if_ok P Q (Ok x) h f = f x h
if_ok P Q (Err e) h f = tt

pub if_err : {A E : Type 0} (P Q : E → Type 0) (r : Result A E) → IfErr r P → ((x : E) → P x → Q x) → IfErr r Q
if_err P Q (Ok x) h f = tt
if_err P Q (Err e) h f = f e h
