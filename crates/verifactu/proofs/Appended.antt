-- A file that stands for a history begins with the bytes of each file that stands for a front of it, up to that one's closing gate.
use Rattle.std.proofs.Common.{◌≡◌, inl, inr, List, ℕ, ◌∷◌, ◌++◌, take, refl, sym, ◌∙◌, ap, subst, arith}
use Rattle.std.proofs.Common.{append_assoc, length-append}
use Rattle.chain_disk.specs.OnDisk.{IsImage, Pending}
use Rattle.chain_disk.specs.Runs.{settled_image}
use Rattle.chain_store.proofs.Fronts.{front_of_whole}
use Rattle.chain_store.specs.Crashes.{StandsForEnd}
use Rattle.journal.proofs.Fronts.{header_long}
use Rattle.journal.specs.File.{IsNotBegun, closing_gate, framed, header}
use Rattle.record_codec.specs.declared.entry.Entry.{Entry}
use Rattle.record_fields.specs.declared.versions.Version.{Version}
use Rattle.shop_core.specs.File.Files.{StandsFor, bodies_of}
use Rattle.shop_core.specs.File.Laws.{OneHistory}
use Rattle.shop_core.specs.Prefix.{IsPrefix}
use Rattle.shop_drain.specs.Crashes.{StandsSince}
use Rattle.shop_commands.specs.Follow.IsFollowImage.{as_before, not_begun, front}
use Rattle.verifactu.specs.ChainPromise.{IsAppendedTo}
use Rattle.verifactu.specs.FurtherPromise.{CopyAppends}

pub keeps_bytes : (version : Version) (issuer : List ℕ) (start end : List Entry) (held c : List ℕ) → IsPrefix start end →
    StandsFor version issuer end c → IsAppendedTo version issuer start held c
keeps_bytes version issuer start end held c begins to =
    λ from. front_of_whole version issuer start end held c begins from.frames to.frames

-- a file that isn't begun stands for nothing
unbegun_none : (version : Version) (issuer : List ℕ) (start : List Entry) (held : List ℕ) → IsNotBegun held →
    StandsFor version issuer start held → ⊥
unbegun_none version issuer start held none stands =
    apart (subst IsNotBegun stands.frames.parts none)
  where
    behind : List ℕ
    behind = framed (bodies_of version start) ++ (stands.frames.gate ∷ stands.frames.rest)

    apart : IsNotBegun ((1 ∷ header version issuer) ++ behind) → ⊥
    apart (inl e) =
        omega (arith, e, length-append (header version issuer) behind, header_long version issuer stands.frames.nif)
    apart (inr closed) = closed.0 refl

pub unbegun_appended : (version : Version) (issuer : List ℕ) (start : List Entry) (held c : List ℕ) → IsNotBegun held →
    IsAppendedTo version issuer start held c
unbegun_appended version issuer start held c none = λ from. absurd (unbegun_none version issuer start held none from)

pub since_appended : (version : Version) (issuer : List ℕ) (start end torn : List Entry) (held c : List ℕ) →
    StandsSince held version issuer start end torn c → IsAppendedTo version issuer start held c
since_appended version issuer start end torn held c (inl none) = unbegun_appended version issuer start held c none.0
since_appended version issuer start end torn held c (inr b) = keeps_bytes version issuer start b.history held c b.begins b.stands

pub end_appended : (version : Version) (issuer : List ℕ) (start end torn : List Entry) (held c : List ℕ) → IsPrefix start end →
    StandsForEnd version issuer end torn c → IsAppendedTo version issuer start held c
end_appended version issuer start end torn held c begins (inl stands) = keeps_bytes version issuer start end held c begins stands
end_appended version issuer start end torn held c begins (inr stands) = keeps_bytes version issuer start (end ++ torn) held c (record {
  rest = begins.rest ++ torn;
  is = ap (λ (es : List Entry). es ++ torn) begins.is ∙ append_assoc start begins.rest torn;
}) stands

-- what following may leave of a copy on which nothing was pending
pub copy_appended : OneHistory → CopyAppends
copy_appended one version another issuer other copy history start file quiet (as_before image) = λ from.
    ap (λ (l : List ℕ). take (closing_gate (bodies_of version copy)) l)
    (settled_image start.content file (subst (λ (p : Pending). IsImage p file) quiet image))
copy_appended one version another issuer other copy history start file quiet (not_begun none is) =
    unbegun_appended version issuer copy start.content file none
copy_appended one version another issuer other copy history start file quiet (front had (inl none) between) =
    unbegun_appended version issuer copy start.content file none.0
copy_appended one version another issuer other copy history start file quiet (front had (inr stands) between) = λ from.
    let same = one version another issuer other copy had start.content from stands in
    let Begins : Version → List Entry → Type 0 = λ v es. take (closing_gate (bodies_of v es)) file
    ≡ take (closing_gate (bodies_of v es)) start.content in
    subst (λ (v : Version). Begins v copy) (sym same.0)
    (subst (λ (es : List Entry). Begins another es) (sym same.2)
    (keeps_bytes another other had between.history start.content file between.begins between.stands stands))
