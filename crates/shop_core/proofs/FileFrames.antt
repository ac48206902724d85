-- How the frames of a file make a history.
use Rattle.std.proofs.Common.{◌≡◌, ℕ, ◌+◌, List, [], ◌∷◌, ◌++◌, length, drop, sym, ◌∙◌, ap, subst}
use Rattle.std.proofs.lemmas.List.{map-append}
use Rattle.frames.specs.Frames.{IsCounted, IsClosed}
use Rattle.journal.specs.Laws.{WalkBegins, WalkGoesOn, WalkEnds}
use Rattle.journal.specs.Walk.{AreFrames}
use Rattle.record_codec.specs.Writing.{entry_bytes}
use Rattle.record_codec.specs.Validity.{IsEncoding}
use Rattle.record_fields.specs.declared.versions.Version.{Version}
use Rattle.record_codec.specs.declared.entry.Entry.{Entry}
use Rattle.shop_core.specs.Legal.{Legal, GoesOn}
use Rattle.shop_core.specs.File.Laws.{SoundBegins, SoundGoesOn, SoundEnds}
use Rattle.shop_core.specs.File.Files.{IsSoundUpTo, AreEncoded, bodies_of}

pub encoded_more : (version : Version) (issuer : List ℕ) (entries : List Entry) (entry : Entry) →
    AreEncoded version issuer entries → IsEncoding version issuer entry (entry_bytes version entry) →
    AreEncoded version issuer (entries ++ entry ∷ [])
encoded_more version issuer [] entry all is = (is, tt)
encoded_more version issuer (e ∷ entries) entry all is = (all.0, encoded_more version issuer entries entry all.1 is)

pub bodies_more : (version : Version) (entries : List Entry) (entry : Entry) →
    bodies_of version (entries ++ entry ∷ []) ≡ bodies_of version entries ++ entry_bytes version entry ∷ []
bodies_more version entries entry = map-append (entry_bytes version) entries (entry ∷ [])

-- a counted frame of an entry that continues the history is sound too
pub sound_more : WalkGoesOn → (version : Version) (issuer : List ℕ) (entries : List Entry) (at : ℕ) (file body : List ℕ)
    (entry : Entry) → Legal version issuer (entries ++ entry ∷ []) →
    IsSoundUpTo version issuer entries at file → IsCounted (drop at file) body → IsEncoding version issuer entry body →
    IsSoundUpTo version issuer (entries ++ entry ∷ []) (at + 5 + length body) file
sound_more goes_on version issuer entries at file body entry legal sound counted encoding =
    let walk : AreFrames file (bodies_of version entries ++ body ∷ []) (at + 5 + length body) =
    goes_on file (bodies_of version entries) at body sound.frames counted in
    let same : bodies_of version entries ++ body ∷ [] ≡ bodies_of version (entries ++ entry ∷ []) =
    ap (λ (b : List ℕ). bodies_of version entries ++ b ∷ []) encoding.bytes ∙ sym (bodies_more version entries entry) in
    record {
      header = sound.header;
      frames = subst (λ (bs : List (List ℕ)). AreFrames file bs (at + 5 + length body)) same walk;
      encoded = encoded_more version issuer entries entry sound.encoded
          (subst (λ (b : List ℕ). IsEncoding version issuer entry b) encoding.bytes
          encoding);
      legal = legal;
    }

nothing_legal : (version : Version) (issuer : List ℕ) → Legal version issuer []
nothing_legal version issuer [] after entry is = absurd cc
nothing_legal version issuer (x ∷ before) after entry is = absurd cc

pub sound_begins : WalkBegins → SoundBegins
sound_begins begins version issuer file header = record {
  header = header;
  frames = begins file;
  encoded = tt;
  legal = nothing_legal version issuer;
}

pub sound_goes_on : WalkGoesOn → GoesOn → SoundGoesOn
sound_goes_on walk goes_on version issuer entries at file body entry sound counted encoding next =
    sound_more walk version issuer entries at file body entry
    (goes_on version issuer entries entry sound.legal next) sound counted encoding

pub sound_ends : WalkEnds → SoundEnds
sound_ends ends version issuer entries at file sound closed =
    let place = sound.frames.place in
    record {
      frames = (ends version issuer (bodies_of version entries) file).1 (
        sound.header,
        subst (λ (k : ℕ). AreFrames file (bodies_of version entries) k) place sound.frames,
        subst (λ (k : ℕ). IsClosed (drop k file)) place closed,
      );
      encoded = sound.encoded;
      legal = sound.legal;
    }
