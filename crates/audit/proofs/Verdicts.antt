-- A file has one verdict.
use Rattle.std.proofs.Common.{◌≡◌, ◌⊎◌, inl, inr, ℕ, List, [], ◌++◌, drop, refl, sym, ◌∙◌, ap, subst, Some, None}
use Rattle.frames.specs.Frames.{IsCounted, IsClosed, IsDamaged}
use Rattle.frames.specs.Laws.{OneFrame}
use Rattle.journal.specs.File.{IsNotBegun, closing_gate}
use Rattle.journal.specs.Header.{IsHeaderDamaged, IsBegun}
use Rattle.journal.specs.Laws.{OneHeader}
use Rattle.journal.specs.declared.reading.Header.TheVariants as header
use Rattle.record_codec.specs.Validity.{IsEncoding}
use Rattle.record_codec.specs.Writing.{entry_bytes}
use Rattle.record_fields.specs.Versions.{number_of}
use Rattle.record_fields.specs.declared.versions.Version.{Version}
use Rattle.record_codec.specs.Laws.{EncodingsAreApart}
use Rattle.record_codec.specs.declared.entry.Entry.{Entry}
use Rattle.record_codec.specs.declared.entry.Entry.TheVariants as entry_of
use Rattle.shop_core.specs.Breaks.{IsBreak}
use Rattle.shop_core.specs.Legal.{Continues}
use Rattle.shop_core.specs.declared.file.audits.AuditEnd.{AuditEnd}
use Rattle.shop_core.specs.declared.file.audits.AuditEnd.TheVariants.{Sound, Broken}
use Rattle.shop_core.specs.declared.file.audits.What.TheVariants as what
use Rattle.shop_core.specs.declared.breaks.Break.{Break}
use Rattle.shop_core.specs.declared.breaks.Break.TheVariants.{Notes, Link, Seal, Rule}
use Rattle.shop_core.specs.File.Laws.{StopsAt, OneStop, StopsAtItsGate}
use Rattle.shop_core.specs.File.Files.{bodies_of}
use Rattle.shop_core.specs.File.Reading.{IsRead, next_place, word_of}
use Rattle.shop_core.specs.File.Reading.IsRead.{not_begun, stands, in_header, no_frame, no_entry, not_next}
use Rattle.shop_core.specs.declared.file.reading.FileRead.{FileRead}
use Rattle.audit.specs.Auditing.{sound_end, verdict_of}
use Rattle.audit.specs.Laws.{OneVerdict}

-- the verdict of a stop, by what stands there
data Ends (version : Version) (issuer : List ℕ) (entries : List Entry) (at : ℕ) (file : List ℕ) : AuditEnd → Type 0 where
  at_closed : IsClosed (drop at file) → Ends version issuer entries at file (sound_end entries)
  at_frame : IsDamaged (drop at file) → Ends version issuer entries at file (Broken (next_place entries) at what.Frame)
  at_body : (bytes : List ℕ) → IsCounted (drop at file) bytes → ((entry : Entry) → IsEncoding version issuer entry bytes → ⊥) →
      Ends version issuer entries at file (Broken (next_place entries) at what.Body)
  at_entry : (bytes : List ℕ) (entry : Entry) (why : Break) → IsCounted (drop at file) bytes → IsEncoding version issuer entry bytes →
      IsBreak version issuer entries entry (Some why) →
      Ends version issuer entries at file (Broken (next_place entries) at (word_of why))

record Stop (file : List ℕ) (end : AuditEnd) : Type 0 where
  version : Version
  issuer : List ℕ
  entries : List Entry
  at : ℕ
  stop : StopsAt version issuer entries at file
  ends : Ends version issuer entries at file end

not_both : (bytes body : List ℕ) → IsClosed bytes → IsCounted bytes body → ⊥
not_both bytes body closed counted = closed.shut (cc (sym closed.parts ∙ counted.parts))

same_entry : EncodingsAreApart → (version : Version) (issuer : List ℕ) (a b : Entry) (x y : List ℕ) → IsEncoding version issuer a x →
    IsEncoding version issuer b y →
    x ≡ y → a ≡ b
same_entry apart version issuer a b x y is is' same =
    let bytes : entry_bytes version a ≡ entry_bytes version b = sym is.bytes ∙ same ∙ is'.bytes in
    (apart version issuer a b [] [] is.issuer is'.issuer is.fields is'.fields (ap (λ (l : List ℕ). l ++ []) bytes)).0

-- an entry breaks a history by one word
one_break : (version : Version) (issuer : List ℕ) (entries : List Entry) (entry : Entry) (a b : Break) → IsBreak version issuer entries entry (Some a) →
    IsBreak version issuer entries entry (Some b) → a ≡ b
one_break version issuer entries (entry_of.Rec till serial s) Notes b is is' = absurd is
one_break version issuer entries (entry_of.Rec till serial s) Link Notes is is' = absurd is'
one_break version issuer entries (entry_of.Rec till serial s) Link Link is is' = refl
one_break version issuer entries (entry_of.Rec till serial s) Link Seal is is' = absurd (is is'.0)
one_break version issuer entries (entry_of.Rec till serial s) Link Rule is is' = absurd (is is'.0)
one_break version issuer entries (entry_of.Rec till serial s) Seal Notes is is' = absurd is'
one_break version issuer entries (entry_of.Rec till serial s) Seal Link is is' = absurd (is' is.0)
one_break version issuer entries (entry_of.Rec till serial s) Seal Seal is is' = refl
one_break version issuer entries (entry_of.Rec till serial s) Seal Rule is is' = absurd (is.1 is'.1)
one_break version issuer entries (entry_of.Rec till serial s) Rule Notes is is' = absurd is'
one_break version issuer entries (entry_of.Rec till serial s) Rule Link is is' = absurd (is' is.0)
one_break version issuer entries (entry_of.Rec till serial s) Rule Seal is is' = absurd (is'.1 is.1)
one_break version issuer entries (entry_of.Rec till serial s) Rule Rule is is' = refl
one_break version issuer entries (entry_of.Notes first lines) Notes Notes is is' = refl
one_break version issuer entries (entry_of.Notes first lines) Notes Link is is' = absurd is'
one_break version issuer entries (entry_of.Notes first lines) Notes Seal is is' = absurd is'
one_break version issuer entries (entry_of.Notes first lines) Notes Rule is is' = absurd is'
one_break version issuer entries (entry_of.Notes first lines) Link b is is' = absurd is
one_break version issuer entries (entry_of.Notes first lines) Seal b is is' = absurd is
one_break version issuer entries (entry_of.Notes first lines) Rule b is is' = absurd is

module _ (one_frame : OneFrame) (apart : EncodingsAreApart) (headers : OneHeader) (stops : OneStop) (gates : StopsAtItsGate) where
  -- what follows is one thing
  one_end : (version : Version) (issuer : List ℕ) (entries : List Entry) (at : ℕ) (file : List ℕ) (a b : AuditEnd) → Ends version issuer entries at file a →
      Ends version issuer entries at file b → a ≡ b
  one_end version issuer entries at file a b (at_closed c) (at_closed c') = refl
  one_end version issuer entries at file a b (at_closed c) (at_frame d') = absurd (d'.not_closed c)
  one_end version issuer entries at file a b (at_closed c) (at_body x' n' none') = absurd (not_both (drop at file) x' c n')
  one_end version issuer entries at file a b (at_closed c) (at_entry x' e' why' n' is' br') = absurd (not_both (drop at file) x' c n')
  one_end version issuer entries at file a b (at_frame d) (at_closed c') = absurd (d.not_closed c')
  one_end version issuer entries at file a b (at_frame d) (at_frame d') = refl
  one_end version issuer entries at file a b (at_frame d) (at_body x' n' none') = absurd (d.not_counted x' n')
  one_end version issuer entries at file a b (at_frame d) (at_entry x' e' why' n' is' br') = absurd (d.not_counted x' n')
  one_end version issuer entries at file a b (at_body x n none) (at_closed c') = absurd (not_both (drop at file) x c' n)
  one_end version issuer entries at file a b (at_body x n none) (at_frame d') = absurd (d'.not_counted x n)
  one_end version issuer entries at file a b (at_body x n none) (at_body x' n' none') = refl
  one_end version issuer entries at file a b (at_body x n none) (at_entry x' e' why' n' is' br') =
      absurd (none e' (subst (λ (l : List ℕ). IsEncoding version issuer e' l) (one_frame.1 (drop at file) x' x n' n) is'))
  one_end version issuer entries at file a b (at_entry x e why n is br) (at_closed c') = absurd (not_both (drop at file) x c' n)
  one_end version issuer entries at file a b (at_entry x e why n is br) (at_frame d') = absurd (d'.not_counted x n)
  one_end version issuer entries at file a b (at_entry x e why n is br) (at_body x' n' none') =
      absurd (none' e (subst (λ (l : List ℕ). IsEncoding version issuer e l) (one_frame.1 (drop at file) x x' n n') is))
  one_end version issuer entries at file a b (at_entry x e why n is br) (at_entry x' e' why' n' is' br') =
      let same : e' ≡ e = same_entry apart version issuer e' e x' x is' is (one_frame.1 (drop at file) x' x n' n) in
      let word : why ≡ why' = one_break version issuer entries e why why' br (subst
      (λ (f : Entry). IsBreak version issuer entries f (Some why'))
      same br') in
      ap (λ (w : Break). Broken (next_place entries) at (word_of w)) word

  moved : (file : List ℕ) (end : AuditEnd) (version another : Version) (issuer other : List ℕ) (entries others : List Entry)
      (at place : ℕ) → version ≡ another → issuer ≡ other → entries ≡ others → at ≡ place →
      Ends another other others place file end → Ends version issuer entries at file end
  moved file end version another issuer other entries others at place v i e p ends =
      subst (λ (w : Version). Ends w issuer entries at file end) (sym v) (subst
      (λ (n : List ℕ). Ends another n entries at file end) (sym i) (subst
      (λ (es : List Entry). Ends another other es at file end) (sym e) (subst
      (λ (k : ℕ). Ends another other others k file end) (sym p) ends)))

  same_stop : (file : List ℕ) (a b : AuditEnd) → Stop file a → Stop file b → a ≡ b
  same_stop file a b x y =
      let one = stops x.version y.version x.issuer y.issuer x.entries y.entries x.at y.at file x.stop y.stop in
      one_end x.version x.issuer x.entries x.at file a b x.ends (moved file b x.version y.version x.issuer y.issuer x.entries
      y.entries x.at y.at one.0 one.1 one.2 one.3 y.ends)

  -- a reading speaks of a file that isn't begun, of its header, or of where it stops
  placed : (file : List ℕ) (read : FileRead) → IsRead file read →
      (IsNotBegun file × (verdict_of read ≡ Sound 0 0 None)) ⊎
      (((at : ℕ) × IsHeaderDamaged file at × (verdict_of read ≡ Broken 1 at what.Header)) ⊎ Stop file (verdict_of read))
  placed file read (not_begun none) = inl (none, refl)
  placed file read (stands history _ is place) =
      let gate = gates history.version history.issuer history.entries file is in
      inr (inr (record {
        version = history.version;
        issuer = history.issuer;
        entries = history.entries;
        at = closing_gate (bodies_of history.version history.entries);
        stop = gate.0;
        ends = at_closed gate.1;
      }))
  placed file read (in_header at damage) = inr (inl (at, damage, refl))
  placed file read (no_frame version issuer entries at sound damaged) = inr (inr (record {
    version = version;
    issuer = issuer;
    entries = entries;
    at = at;
    stop = record { sound = sound; ends = λ entry bytes counted encoding cont. damaged.not_counted bytes counted };
    ends = at_frame damaged;
  }))
  placed file read (no_entry version issuer entries at bytes sound counted none) = inr (inr (record {
    version = version;
    issuer = issuer;
    entries = entries;
    at = at;
    stop = record {
      sound = sound;
      ends = λ entry other counted' encoding cont. none entry (subst (λ (l : List ℕ). IsEncoding version issuer entry l)
          (one_frame.1 (drop at file) other bytes counted' counted) encoding);
    };
    ends = at_body bytes counted none;
  }))
  placed file read (not_next version issuer entries at bytes entry why sound counted encoding never broken) = inr (inr (record {
    version = version;
    issuer = issuer;
    entries = entries;
    at = at;
    stop = record {
      sound = sound;
      ends = λ other others counted' encoding' cont.
          let same : other ≡ entry = same_entry apart version issuer other entry others bytes encoding' encoding
          (one_frame.1 (drop at file) others bytes counted' counted) in
          never (subst (λ (e : Entry). Continues version issuer entries e) same cont);
    };
    ends = at_entry bytes entry why counted encoding broken;
  }))

  begun_only : (version : Version) (file issuer : List ℕ) → IsBegun version issuer file → IsNotBegun file → ⊥
  begun_only version file issuer begun none = absurd (let same : header.Begun issuer (number_of version) ≡ header.NotBegun =
      headers file (header.Begun issuer (number_of version)) header.NotBegun (version, begun, refl) none in cc)

  sound_only : (version : Version) (file issuer : List ℕ) (at : ℕ) → IsBegun version issuer file → IsHeaderDamaged file at → ⊥
  sound_only version file issuer at begun damage = absurd (let same : header.Begun issuer (number_of version) ≡ header.Damaged at =
      headers file (header.Begun issuer (number_of version)) (header.Damaged at) (version, begun, refl) damage in cc)

  begun_or_damaged : (file : List ℕ) (at : ℕ) → IsNotBegun file → IsHeaderDamaged file at → ⊥
  begun_or_damaged file at none damage = absurd (let same : header.NotBegun ≡ header.Damaged at = headers file header.NotBegun
      (header.Damaged at) none damage in cc)

  one_damage : (file : List ℕ) (at place : ℕ) → IsHeaderDamaged file at → IsHeaderDamaged file place → at ≡ place
  one_damage file at place d d' = let same : header.Damaged at ≡ header.Damaged place = headers file (header.Damaged at)
      (header.Damaged place) d d' in cc same

  one_place : (file : List ℕ) (a b : AuditEnd) →
      (IsNotBegun file × (a ≡ Sound 0 0 None)) ⊎ (((at : ℕ) × IsHeaderDamaged file at × (a ≡ Broken 1 at what.Header)) ⊎
      Stop file a) →
      (IsNotBegun file × (b ≡ Sound 0 0 None)) ⊎ (((at : ℕ) × IsHeaderDamaged file at × (b ≡ Broken 1 at what.Header)) ⊎
      Stop file b) → a ≡ b
  one_place file a b (inl x) (inl y) = x.1 ∙ sym y.1
  one_place file a b (inl x) (inr (inl y)) = absurd (begun_or_damaged file y.0 x.0 y.1)
  one_place file a b (inl x) (inr (inr y)) = absurd (begun_only y.version file y.issuer y.stop.sound.header x.0)
  one_place file a b (inr (inl x)) (inl y) = absurd (begun_or_damaged file x.0 y.0 x.1)
  one_place file a b (inr (inl x)) (inr (inl y)) = x.2 ∙ ap (λ (k : ℕ). Broken 1 k what.Header) (one_damage file x.0 y.0 x.1 y.1)
      ∙ sym y.2
  one_place file a b (inr (inl x)) (inr (inr y)) = absurd (sound_only y.version file y.issuer x.0 y.stop.sound.header x.1)
  one_place file a b (inr (inr x)) (inl y) = absurd (begun_only x.version file x.issuer x.stop.sound.header y.0)
  one_place file a b (inr (inr x)) (inr (inl y)) = absurd (sound_only x.version file x.issuer y.0 x.stop.sound.header y.1)
  one_place file a b (inr (inr x)) (inr (inr y)) = same_stop file a b x y

  pub one_verdict : OneVerdict
  one_verdict file a b is is' =
      is.verdict_is ∙ one_place file (verdict_of is.read) (verdict_of is'.read) (placed file is.read is.is_read)
      (placed file is'.read is'.is_read) ∙ sym is'.verdict_is
