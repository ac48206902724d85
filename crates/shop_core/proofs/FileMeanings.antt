-- A file has one meaning.
use Rattle.std.proofs.Common.{◌≡◌, ◌⊎◌, inl, inr, ℕ, List, drop, refl, subst}
use Rattle.frames.specs.Frames.{IsClosed}
use Rattle.frames.specs.Laws.{OneFrame}
use Rattle.journal.specs.File.{IsNotBegun, closing_gate}
use Rattle.journal.specs.Header.{IsHeaderDamaged, IsBegun}
use Rattle.journal.specs.Laws.{OneHeader}
use Rattle.journal.specs.declared.reading.Header.TheVariants.{NotBegun, Begun, Damaged}
use Rattle.record_codec.specs.Validity.{IsEncoding}
use Rattle.record_fields.specs.declared.versions.Version.{Version}
use Rattle.record_fields.specs.Versions.{number_of}
use Rattle.record_codec.specs.Laws.{EncodingsAreApart}
use Rattle.record_codec.specs.declared.entry.Entry.{Entry}
use Rattle.shop_core.specs.Legal.{Continues}
use Rattle.shop_core.specs.File.Laws.{StopsAt, OneStop, StopsAtItsGate, OneHistory, OneDamage, SoundOrDamaged, NotBegunIsNeither}
use Rattle.shop_core.specs.File.Files.{IsDamagedFile, bodies_of}
use Rattle.shop_core.specs.File.Files.IsDamagedFile.{in_header, no_frame, no_entry, not_next}
use Rattle.shop_core.proofs.FileStops.{not_both, same_entry}

-- a damage after the header: the file stops there, and its gate isn't closed
record Behind (file : List ℕ) (at : ℕ) : Type 0 where
  version : Version
  issuer : List ℕ
  entries : List Entry
  stop : StopsAt version issuer entries at file
  open_gate : IsClosed (drop at file) → ⊥

placed : OneFrame → EncodingsAreApart → (file : List ℕ) (at : ℕ) → IsDamagedFile file at → IsHeaderDamaged file at ⊎
    Behind file at
placed frame apart file at (in_header _ damage) = inl damage
placed frame apart file at (no_frame version issuer entries _ sound damaged) = inr (record {
  version = version;
  issuer = issuer;
  entries = entries;
  stop = record { sound = sound; ends = λ entry body counted encoding next. damaged.not_counted body counted };
  open_gate = damaged.not_closed;
})
placed frame apart file at (no_entry version issuer entries _ body sound counted none) = inr (record {
  version = version;
  issuer = issuer;
  entries = entries;
  stop = record {
    sound = sound;
    ends = λ entry other counted' encoding next. none entry (subst (λ (l : List ℕ). IsEncoding version issuer entry l)
        (frame.1 (drop at file) other body counted' counted) encoding);
  };
  open_gate = λ closed. not_both (drop at file) body closed counted;
})
placed frame apart file at (not_next version issuer entries _ body entry sound counted encoding never) = inr (record {
  version = version;
  issuer = issuer;
  entries = entries;
  stop = record {
    sound = sound;
    ends = λ other bytes counted' encoding' next.
        let same : other ≡ entry = same_entry apart version issuer other entry bytes body encoding' encoding
        (frame.1 (drop at file) bytes body counted' counted) in
        never (subst (λ (e : Entry). Continues version issuer entries e) same next);
  };
  open_gate = λ closed. not_both (drop at file) body closed counted;
})

sound_header : OneHeader → (file : List ℕ) (version : Version) (issuer : List ℕ) (at : ℕ) → IsBegun version issuer file →
    IsHeaderDamaged file at → ⊥
sound_header one file version issuer at begun damage =
    let number = number_of version in
    absurd (let same : Begun issuer number ≡ Damaged at = one file (Begun issuer number) (Damaged at) (version, begun, refl)
    damage in cc)

begun_header : OneHeader → (file : List ℕ) (version : Version) (issuer : List ℕ) → IsBegun version issuer file →
    IsNotBegun file → ⊥
begun_header one file version issuer begun none =
    let number = number_of version in
    absurd (let same : Begun issuer number ≡ NotBegun = one file (Begun issuer number) NotBegun (version, begun, refl) none in
    cc)

pub one_damage : OneFrame → EncodingsAreApart → OneHeader → OneStop → OneDamage
one_damage frame apart header stops file at place damage damage' = same (placed frame apart file at damage)
    (placed frame apart file place damage')
  where
    same : IsHeaderDamaged file at ⊎ Behind file at → IsHeaderDamaged file place ⊎ Behind file place → at ≡ place
    same (inl h) (inl h') = let is : Damaged at ≡ Damaged place = header file (Damaged at) (Damaged place) h h' in cc is
    same (inl h) (inr b') = absurd (sound_header header file b'.version b'.issuer at b'.stop.sound.header h)
    same (inr b) (inl h') = absurd (sound_header header file b.version b.issuer place b.stop.sound.header h')
    same (inr b) (inr b') = (stops b.version b'.version b.issuer b'.issuer b.entries b'.entries at place file b.stop b'.stop).3

pub sound_or_damaged : OneFrame → EncodingsAreApart → OneHeader → OneStop → StopsAtItsGate → SoundOrDamaged
sound_or_damaged frame apart header stops gates version issuer entries file at stands damage =
    let gate = closing_gate (bodies_of version entries) in
    let own = gates version issuer entries file stands in
    elim (placed frame apart file at damage) [
      | inl h ↦ sound_header header file version issuer at own.0.sound.header h
      | inr b ↦
          let one = stops version b.version issuer b.issuer entries b.entries gate at file own.0 b.stop in
          b.open_gate (subst (λ (k : ℕ). IsClosed (drop k file)) one.3 own.1)
    ]

pub one_history : OneStop → StopsAtItsGate → OneHistory
one_history stops gates version another issuer other entries others file stands stands' =
    let one = stops version another issuer other entries others (closing_gate (bodies_of version entries))
    (closing_gate (bodies_of another others)) file (gates version issuer entries file stands).0
    (gates another other others file stands').0 in
    (one.0, one.1, one.2)

not_begun_damaged : OneFrame → EncodingsAreApart → OneHeader → (file : List ℕ) (at : ℕ) → IsNotBegun file →
    IsDamagedFile file at → ⊥
not_begun_damaged frame apart header file at none damage =
    elim (placed frame apart file at damage) [
      | inl h ↦ absurd (let same : NotBegun ≡ Damaged at = header file NotBegun (Damaged at) none h in cc)
      | inr b ↦ begun_header header file b.version b.issuer b.stop.sound.header none
    ]

pub not_begun_is_neither : OneFrame → EncodingsAreApart → OneHeader → StopsAtItsGate → NotBegunIsNeither
not_begun_is_neither frame apart header gates version issuer entries file at none = (
  λ stands. begun_header header file version issuer (gates version issuer entries file stands).0.sound.header none,
  λ damage. not_begun_damaged frame apart header file at none damage,
)
