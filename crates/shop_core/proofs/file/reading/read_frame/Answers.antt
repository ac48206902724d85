use Rattle.std.proofs.Common.{◌≡◌, ℕ, ◌+◌, List, ◌∷◌, [], ◌++◌, length, drop, sym, subst, Some}
use Rattle.record_fields.specs.declared.versions.Version.{Version}
use Rattle.frames.specs.Frames.{IsCounted}
use Rattle.record_codec.specs.Validity.{IsEncoding}
use Rattle.record_codec.specs.declared.entry.Entry.{Entry}
use Rattle.shop_core.specs.Breaks.{IsBreak}
use Rattle.shop_core.specs.Legal.{Continues}
use Rattle.shop_core.specs.declared.file.reading.FileRead.TheVariants.{Broken}
use Rattle.shop_core.specs.declared.file.audits.What.{What}
use Rattle.shop_core.specs.File.Files.{IsSoundUpTo}
use Rattle.shop_core.specs.File.Reading.{IsRead, next_place}
use Rattle.shop_core.specs.File.Reading.IsRead.{no_frame, no_entry, not_next}
use Rattle.shop_core.proofs.FileReadings.{counted_step, damaged_step, next_step, unread}
use Rattle.shop_core.proofs.file.reading.read_frame.Goals as goal

pub returns-in-Ok-Damaged-clause-seen : goal.returns-in-Ok-Damaged-clause-seen
returns-in-Ok-Damaged-clause-seen g c tells =
    let s = c.args.state.now in
    no_frame s.version s.issuer s.entries c.args.at (c.requires.sound tells)
    (damaged_step _ c.scan_ahead.new.body c.in-Ok-Damaged.field-0 c.in-Ok-Damaged.field-0-is (c.in-Ok-Damaged.ensures.step tells))

pub returns-in-Err-At-clause-seen : goal.returns-in-Err-At-clause-seen
returns-in-Err-At-clause-seen g c tells =
    let s = c.args.state.now in
    let body = c.scan_ahead.new.body in
    let counted : IsCounted (drop c.args.at (g.D.Disk.on_disk c.args.disk.now).content) body =
    counted_step _ body c.in-Ok-Counted.field-0 c.in-Ok-Counted.next c.in-Ok-Counted.field-0-is
    (c.in-Ok-Counted.ensures.step tells) in
    let read : c.as_slice.result.now ≡ body = c.as_slice.ensures.value in
    let one : c.version.result ≡ s.version = c.version.ensures in
    let none : (entry : Entry) → IsEncoding s.version s.issuer entry body → ⊥ =
    λ entry encoding. unread c.in-Err-At.field-0 c.in-Err-At.field-0-0 c.in-Err-At.field-0-is (c.in-Err-At.ensures.only entry
    (subst (λ (v : Version). IsEncoding v c.issuer.result.now entry c.as_slice.result.now) (sym one)
    (subst (λ (b : List ℕ). IsEncoding s.version c.issuer.result.now entry b) (sym read)
    (subst (λ (n : List ℕ). IsEncoding s.version n entry body)
    (sym c.issuer.ensures) encoding)))) in
    no_entry s.version s.issuer s.entries c.args.at body (c.requires.sound tells) counted none

pub returns-in-Ok-None-clause-seen : goal.returns-in-Ok-None-clause-seen
returns-in-Ok-None-clause-seen g c tells =
    let s = c.args.state.now in
    let body = c.scan_ahead.new.body in
    let file = (g.D.Disk.on_disk c.args.disk.now).content in
    let counted : IsCounted (drop c.args.at file) body =
    counted_step _ body c.in-Ok-Counted.field-0 c.in-Ok-Counted.next c.in-Ok-Counted.field-0-is
    (c.in-Ok-Counted.ensures.step tells) in
    let next : c.in-Ok-Counted.next ≡ c.args.at + 5 + length body = next_step c.args.at c.in-Ok-Counted.next body
    c.in-Ok-Counted.field-0 c.in-Ok-Counted.field-0-is c.in-Ok-Counted.ensures.place in
    let one : c.version.result ≡ s.version = c.version.ensures in
    let encoding : IsEncoding s.version s.issuer c.in-Ok.entry body =
    subst (λ (v : Version). IsEncoding v s.issuer c.in-Ok.entry body) one
    (subst (λ (n : List ℕ). IsEncoding c.version.result n c.in-Ok.entry body) c.issuer.ensures
    (subst (λ (b : List ℕ). IsEncoding c.version.result c.issuer.result.now c.in-Ok.entry b) c.as_slice.ensures.value
    c.in-Ok.ensures.found)) in
    let new = c.add_entry.new.state in
    let added : Continues s.version s.issuer s.entries c.in-Ok.entry × (new.issuer ≡ s.issuer) × (new.version ≡ s.version) ×
    (new.entries ≡ s.entries ++ c.in-Ok.entry ∷ []) =
    rw c.in-Ok-None.field-0-is at c.in-Ok-None.ensures.added in
    let more = c.a_history_is_read_by_frames.ensures.goes_on s.version s.issuer s.entries c.args.at file body c.in-Ok.entry
    (c.requires.sound tells) counted encoding
    added.0 in
    subst (λ (v : Version). IsSoundUpTo v new.issuer new.entries c.in-Ok-Counted.next file) (sym added.2)
    (subst (λ (n : List ℕ). IsSoundUpTo s.version n new.entries c.in-Ok-Counted.next file) (sym added.1)
    (subst (λ (es : List Entry). IsSoundUpTo s.version s.issuer es c.in-Ok-Counted.next file) (sym added.3)
    (subst (λ (k : ℕ). IsSoundUpTo s.version s.issuer (s.entries ++ c.in-Ok.entry ∷ []) k file) (sym next) more)))

pub returns-in-Ok-Some-clause-seen : goal.returns-in-Ok-Some-clause-seen
returns-in-Ok-Some-clause-seen g c tells =
    let s = c.args.state.now in
    let body = c.scan_ahead.new.body in
    let file = (g.D.Disk.on_disk c.args.disk.now).content in
    let counted : IsCounted (drop c.args.at file) body =
    counted_step _ body c.in-Ok-Counted.field-0 c.in-Ok-Counted.next c.in-Ok-Counted.field-0-is
    (c.in-Ok-Counted.ensures.step tells) in
    let one : c.version.result ≡ s.version = c.version.ensures in
    let encoding : IsEncoding s.version s.issuer c.in-Ok.entry body =
    subst (λ (v : Version). IsEncoding v s.issuer c.in-Ok.entry body) one
    (subst (λ (n : List ℕ). IsEncoding c.version.result n c.in-Ok.entry body) c.issuer.ensures
    (subst (λ (b : List ℕ). IsEncoding c.version.result c.issuer.result.now c.in-Ok.entry b) c.as_slice.ensures.value
    c.in-Ok.ensures.found)) in
    let why : (c.add_entry.new.state ≡ s) × (Continues s.version s.issuer s.entries c.in-Ok.entry → ⊥) ×
    IsBreak s.version s.issuer s.entries c.in-Ok.entry (Some c.in-Ok-Some.why) =
    rw c.in-Ok-Some.field-0-is at c.in-Ok-Some.ensures.broken in
    subst (λ (w : What). IsRead file (Broken (next_place s.entries) c.args.at w)) (sym c.word_of.ensures)
    (not_next s.version s.issuer s.entries c.args.at body c.in-Ok.entry c.in-Ok-Some.why (c.requires.sound tells) counted encoding
    why.1 why.2)
