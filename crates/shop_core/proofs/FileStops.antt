-- Where a file stops.
use Rattle.std.proofs.Common.{◌≡◌, inl, inr, ℕ, List, [], ◌∷◌, ◌++◌, drop, refl, sym, ◌∙◌, ap, subst}
use Rattle.frames.specs.Frames.{IsCounted, IsClosed}
use Rattle.journal.specs.File.{closing_gate}
use Rattle.journal.specs.Laws.{OneVersion, WalkEnds, WalksAgree}
use Rattle.journal.specs.Walk.{GoOn}
use Rattle.record_codec.specs.Writing.{entry_bytes}
use Rattle.record_codec.specs.Validity.{IsEncoding}
use Rattle.record_fields.specs.declared.versions.Version.{Version}
use Rattle.record_codec.specs.Laws.{EncodingsAreApart}
use Rattle.record_codec.specs.declared.entry.Entry.{Entry}
use Rattle.shop_core.specs.File.Laws.{StopsAt, OneStop, StopsAtItsGate}
use Rattle.shop_core.specs.File.Files.{IsSoundUpTo, AreEncoded, bodies_of}

-- a counted frame's gate is 1
pub not_both : (bytes body : List ℕ) → IsClosed bytes → IsCounted bytes body → ⊥
not_both bytes body closed counted = closed.shut (cc (sym closed.parts ∙ counted.parts))

-- bytes are the encoding of one entry
pub same_entry : EncodingsAreApart → (version : Version) (issuer : List ℕ) (a b : Entry) (x y : List ℕ) →
    IsEncoding version issuer a x → IsEncoding version issuer b y → x ≡ y → a ≡ b
same_entry apart version issuer a b x y is is' same =
    let bytes : entry_bytes version a ≡ entry_bytes version b = sym is.bytes ∙ same ∙ is'.bytes in
    (apart version issuer a b [] [] is.issuer is'.issuer is.fields is'.fields (ap (λ (l : List ℕ). l ++ []) bytes)).0

same_entries : EncodingsAreApart → (version : Version) (issuer : List ℕ) (a b : List Entry) →
    AreEncoded version issuer a → AreEncoded version issuer b → bodies_of version a ≡ bodies_of version b → a ≡ b
same_entries apart version issuer [] [] are are' same = refl
same_entries apart version issuer [] (y ∷ b) are are' same = absurd cc
same_entries apart version issuer (x ∷ a) [] are are' same = absurd cc
same_entries apart version issuer (x ∷ a) (y ∷ b) are are' same =
    let heads : entry_bytes version x ≡ entry_bytes version y = cc same in
    let tails : bodies_of version a ≡ bodies_of version b = cc same in
    let first : x ≡ y = same_entry apart version issuer x y (entry_bytes version x) (entry_bytes version y) are.0 are'.0 heads in
    let rest = same_entries apart version issuer a b are.1 are'.1 tails in cc (first, rest)

-- the others are these entries, one of this body, and more
record Longer (version : Version) (issuer : List ℕ) (entries others : List Entry) (body : List ℕ) : Type 0 where
  entry : Entry
  rest : List Entry
  longer : others ≡ entries ++ entry ∷ rest
  encoding : IsEncoding version issuer entry body

more_entries : EncodingsAreApart → (version : Version) (issuer : List ℕ) (a b : List Entry) (body : List ℕ)
    (more : List (List ℕ)) → AreEncoded version issuer a → AreEncoded version issuer b →
    bodies_of version b ≡ bodies_of version a ++ body ∷ more → Longer version issuer a b body
more_entries apart version issuer [] [] body more are are' same = absurd cc
more_entries apart version issuer [] (y ∷ b) body more are are' same =
    let heads : entry_bytes version y ≡ body = cc same in
    record { entry = y; rest = b; longer = refl; encoding = subst (λ (l : List ℕ). IsEncoding version issuer y l) heads are'.0 }
more_entries apart version issuer (x ∷ a) [] body more are are' same = absurd cc
more_entries apart version issuer (x ∷ a) (y ∷ b) body more are are' same =
    let heads : entry_bytes version x ≡ entry_bytes version y = cc same in
    let tails : bodies_of version b ≡ bodies_of version a ++ body ∷ more = cc same in
    let first : x ≡ y = same_entry apart version issuer x y (entry_bytes version x) (entry_bytes version y) are.0 are'.0 heads in
    let on = more_entries apart version issuer a b body more are.1 are'.1 tails in
    record { entry = on.entry; rest = on.rest; longer = cc (first, on.longer); encoding = on.encoding }

no_more : EncodingsAreApart → (version : Version) (issuer : List ℕ) (a b : List Entry) (at place : ℕ) (file : List ℕ) →
    StopsAt version issuer a at file → IsSoundUpTo version issuer b place file →
    GoOn (drop at file) (bodies_of version a) (bodies_of version b) → ⊥
no_more apart version issuer a b at place file stop sound on =
    let m = more_entries apart version issuer a b on.body on.more stop.sound.encoded sound.encoded on.longer in
    stop.ends m.entry on.body on.counted m.encoding (sound.legal a m.rest m.entry m.longer)

pub one_stop : EncodingsAreApart → OneVersion → WalksAgree → OneStop
one_stop apart one agree version another issuer other a b at place file stop stop' =
    let versions : version ≡ another = one file version another stop.sound.header.versioned stop'.sound.header.versioned in
    let same : issuer ≡ other = sym stop.sound.header.issuer_is ∙ stop'.sound.header.issuer_is in
    let own : StopsAt version issuer b place file = subst (λ (v : Version). StopsAt v issuer b place file) (sym versions)
    (subst (λ (n : List ℕ). StopsAt another n b place file) (sym same) stop') in
    elim (agree file (bodies_of version a) (bodies_of version b) at place stop.sound.frames own.sound.frames) [
      | inl is ↦ (versions, same, same_entries apart version issuer a b stop.sound.encoded own.sound.encoded is.0, is.1)
      | inr on ↦ absurd (elim on [
        | inl past ↦ no_more apart version issuer a b at place file stop own.sound past
        | inr past ↦ no_more apart version issuer b a place at file own stop.sound past
      ])
    ]

pub stops_at_its_gate : WalkEnds → StopsAtItsGate
stops_at_its_gate ends version issuer entries file stands =
    let walk = (ends version issuer (bodies_of version entries) file).0 stands.frames in (
      record {
        sound = record { header = walk.0; frames = walk.1; encoded = stands.encoded; legal = stands.legal };
        ends = λ entry body counted encoding next. not_both
            (drop (closing_gate (bodies_of version entries)) file) body walk.2 counted;
      },
      walk.2,
    )
