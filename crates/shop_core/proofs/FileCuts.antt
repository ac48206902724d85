-- A file that is cut.
use Rattle.std.proofs.Common.{◌≡◌, inl, inr, ◌<◌, ◌≤◌, ◌+◌, ℕ, List, [], ◌∷◌, ◌++◌, length, take, drop, refl, sym, ◌∙◌, ap}
use Rattle.std.proofs.Common.{arith, subst, append_assoc, length-append, take-append-drop}
use Rattle.std.proofs.lemmas.Bool.{cases_lt}
use Rattle.std.proofs.lemmas.List.{drop-drop, drop-append-le, drop_all, get_or_append_left, length-drop, length-take-le}
use Rattle.std.proofs.lemmas.List.{take-append-le}
use Rattle.frames.specs.Frames.{length_bytes, IsBody, IsCounted, IsDamaged}
use Rattle.frames.specs.Laws.{OneFrame}
use Rattle.frames.specs.Lengths.{length-length_bytes, same_front}
use Rattle.journal.specs.File.{framed, AreBodies, closing_gate}
use Rattle.journal.specs.Header.{HasMark, HasVersion, IsBegun, IsHeaderDamaged}
use Rattle.journal.specs.Header.IsHeaderDamaged.{cut_in_mark, cut_in_issuer}
use Rattle.journal.specs.Laws.{WalkEnds}
use Rattle.record_codec.specs.Writing.{entry_bytes}
use Rattle.record_fields.specs.declared.versions.Version.{Version}
use Rattle.record_codec.specs.declared.entry.Entry.{Entry}
use Rattle.shop_core.specs.File.Laws.{CutIsDamaged, IsCutAt, SoundBegins, SoundGoesOn}
use Rattle.shop_core.specs.File.Laws.IsCutAt.{in_frame, in_header as in_the_header}
use Rattle.shop_core.specs.File.Files.{AreEncoded, IsDamagedFile, IsSoundUpTo, bodies_of}
use Rattle.shop_core.specs.File.Files.IsDamagedFile.{in_header, no_frame}
use Rattle.shop_core.specs.Legal.{Legal}

-- what the header says stands in each front that holds it
module _ (front rest : List ℕ) where
  marked : 10 ≤ length front → HasMark (front ++ rest) → HasMark front
  marked long has = record {
    long = long;
    first = sym (get_or_append_left front rest 0 0 (omega (arith, long))) ∙ has.first;
    mark = sym (ap (λ (l : List ℕ). take 8 l) (drop-append-le 1 front rest (omega (arith, long))) ∙
        take-append-le 8 (drop 1 front) rest (omega (arith, long, length-drop 1 front))) ∙ has.mark;
  }

  versioned : (version : Version) → 10 ≤ length front → HasVersion version (front ++ rest) → HasVersion version front
  versioned version long has = record {
    marked = marked long has.marked;
    number = sym (get_or_append_left front rest 0 9 (omega (arith, long))) ∙ has.number;
  }

  begun : (version : Version) (issuer : List ℕ) → 19 ≤ length front →
      IsBegun version issuer (front ++ rest) → IsBegun version issuer front
  begun version issuer long is = record {
    versioned = versioned version (omega (arith, long)) is.versioned;
    long = long;
    issuer_is = sym (ap (λ (l : List ℕ). take 9 l) (drop-append-le 10 front rest (omega (arith, long))) ∙
        take-append-le 9 (drop 10 front) rest (omega (arith, long, length-drop 10 front))) ∙ is.issuer_is;
    nif = is.nif;
  }

  cut_header : (version : Version) (issuer : List ℕ) → 2 ≤ length front → length front < 19 →
      IsBegun version issuer (front ++ rest) → IsHeaderDamaged front (length front)
  cut_header version issuer some short is = elim (cases_lt 9 (length front)) [
    | inl marked ↦ cut_in_issuer version (versioned version (omega (arith, marked)) is.versioned) short
    | inr few ↦ cut_in_mark (sym (get_or_append_left front rest 0 0 (omega (arith, some))) ∙ is.versioned.marked.first) some few
  ]

-- a frame, and the frames after it
parts_of : (body : List ℕ) (bodies : List (List ℕ)) (tail : List ℕ) → framed (body ∷ bodies) ++ tail
    ≡ (1 ∷ length_bytes (length body)) ++ (body ++ (framed bodies ++ tail))
parts_of body bodies tail =
    let n = length_bytes (length body) in
    ap (λ (l : List ℕ). 1 ∷ l) (append_assoc n (body ++ framed bodies) tail ∙ ap (λ (l : List ℕ). n ++ l)
    (append_assoc body (framed bodies) tail))

-- a front of frames, in which the first one is whole and a byte follows it
record Whole (r s body : List ℕ) (bodies : List (List ℕ)) (tail : List ℕ) : Type 0 where
  counted : IsCounted r body
  behind : drop (5 + length body) r ++ s ≡ framed bodies ++ tail

whole : (r s body : List ℕ) (bodies : List (List ℕ)) (tail : List ℕ) → IsBody body → r ++ s ≡ framed (body ∷ bodies) ++ tail →
    5 + length body < length r → Whole r s body bodies tail
whole r s body bodies tail size same long =
    let head = 1 ∷ length_bytes (length body) in
    let k = 5 + length body in
    let first : length (head ++ body) ≡ k = omega (arith, length-append head body, length-length_bytes (length body)) in
    let split : take k r ++ (drop k r ++ s) ≡ (head ++ body) ++ (framed bodies ++ tail) =
    sym (append_assoc (take k r) (drop k r) s) ∙ ap (λ (l : List ℕ). l ++ s) (take-append-drop k r) ∙ same ∙
    parts_of body bodies tail ∙ sym (append_assoc head body (framed bodies ++ tail)) in
    let both = same_front (take k r) (head ++ body) (drop k r ++ s) (framed bodies ++ tail)
    (length-take-le k r (omega (arith, long)) ∙ sym first) split in
    record {
      counted = record {
        rest = drop k r;
        size = size;
        followed = omega (arith, long, length-drop k r);
        parts = sym (take-append-drop k r) ∙ ap (λ (l : List ℕ). l ++ drop k r) both.0 ∙ append_assoc head body (drop k r);
      };
      behind = both.1;
    }

counted_more : (r s body : List ℕ) → IsCounted r body → IsCounted (r ++ s) body
counted_more r s body is =
    let head = 1 ∷ length_bytes (length body) in
    record {
      rest = is.rest ++ s;
      size = is.size;
      followed = omega (arith, is.followed, length-append is.rest s);
      parts = ap (λ (l : List ℕ). l ++ s) is.parts ∙ append_assoc head (body ++ is.rest) s ∙ ap (λ (l : List ℕ). head ++ l)
          (append_assoc body is.rest s);
    }

length_counted : (r body : List ℕ) → IsCounted r body → 5 + length body < length r
length_counted r body is =
    let head = 1 ∷ length_bytes (length body) in
    omega (
      arith,
      is.followed,
      ap length is.parts,
      length-append head (body ++ is.rest),
      length-append body is.rest,
      length-length_bytes (length body),
    )

-- one that isn't
cut_frame : OneFrame → (r s body : List ℕ) (bodies : List (List ℕ)) (tail : List ℕ) → IsBody body → 1 ≤ length tail →
    r ++ s ≡ framed (body ∷ bodies) ++ tail → length r ≤ 5 + length body → IsDamaged r
cut_frame one r s body bodies tail size some same short =
    let counted : IsCounted (r ++ s) body = record {
      rest = framed bodies ++ tail;
      size = size;
      followed = omega (arith, some, length-append (framed bodies) tail);
      parts = same ∙ parts_of body bodies tail;
    } in
    record {
      not_counted = λ other is.
          let is_body : other ≡ body = one.1 (r ++ s) other body (counted_more r s other is) counted in
          omega (arith, short, length_counted r other is, ap length is_body);
      not_closed = λ closed. closed.shut (cc (ap (λ (l : List ℕ). l ++ s) (sym closed.parts) ∙ same));
    }

-- where a front is damaged
abbrev Broken : Version → List Entry → List ℕ → Type 0
Broken version entries front = (at : ℕ) × IsCutAt version entries (length front) at × IsDamagedFile front at

walked : OneFrame → SoundGoesOn → (version : Version) (issuer : List ℕ) (entries before after : List Entry) (at : ℕ)
    (front rest tail : List ℕ) → entries ≡ before ++ after → Legal version issuer entries → AreEncoded version issuer after →
    AreBodies (bodies_of version after) → IsSoundUpTo version issuer before at front → at < length front →
    drop at front ++ rest ≡ framed (bodies_of version after) ++ tail → length tail ≡ 1 → 1 ≤ length rest →
    Broken version entries front
walked one goes_on version issuer entries before [] at front rest tail is legal encoded sizes sound inside bytes closes cut =
    absurd (omega (arith, inside, closes, cut, ap length bytes, length-append (drop at front) rest, length-drop at front))
walked one goes_on version issuer entries before (e ∷ after) at front rest tail is legal encoded sizes sound inside bytes
    closes cut =
    let body = entry_bytes version e in
    elim (cases_lt (at + 5 + length body) (length front)) [
      | inl further ↦
          let w = whole (drop at front) rest body (bodies_of version after) tail sizes.0 bytes
          (omega (arith, further, length-drop at front)) in
          let next = goes_on version issuer before at front body e sound w.counted encoded.0 (legal before after e is) in
          let far : at + (5 + length body) ≡ at + 5 + length body = omega arith in
          let place : drop (5 + length body) (drop at front) ≡ drop (at + 5 + length body) front =
          drop-drop (5 + length body) at front ∙ ap (λ (k : ℕ). drop k front) far in
          walked one goes_on version issuer entries (before ++ e ∷ []) after (at + 5 + length body) front rest tail
          (is ∙ sym (append_assoc before (e ∷ []) after)) legal encoded.1 sizes.1 next further
          (ap (λ (l : List ℕ). l ++ rest) (sym place) ∙ w.behind) closes cut
      | inr short ↦ (
        at,
        in_frame before after e at is sound.frames.place inside short,
        no_frame version issuer before at sound (cut_frame one (drop at front) rest body (bodies_of version after) tail sizes.0
            (omega (arith, closes)) bytes (omega (arith, short, length-drop at front))),
      )
    ]

-- no byte is left of the frames
nothing_left : (r : List ℕ) → r ≡ [] → IsDamaged r
nothing_left r none = record {
  not_counted = λ body is. absurd (cc (sym none ∙ is.parts));
  not_closed = λ is. absurd (cc (sym none ∙ is.parts));
}

pub cut_is_damaged : OneFrame → WalkEnds → SoundBegins → SoundGoesOn → CutIsDamaged
cut_is_damaged one ends begins goes_on version issuer entries front rest stands closes some cut =
    let file = front ++ rest in
    let gate = closing_gate (bodies_of version entries) in
    let walk = (ends version issuer (bodies_of version entries) file).0 stands.frames in
    elim (cases_lt (length front) 19) [
      | inl few ↦ (
        length front,
        in_the_header (omega (arith, few)),
        in_header (length front) (cut_header front rest version issuer some few walk.0),
      )
      | inr long ↦
          let sound = begins version issuer front (begun front rest version issuer long walk.0) in
          elim (cases_lt 19 (length front)) [
            | inl more ↦ walked one goes_on version issuer entries [] entries 19 front rest (drop gate file) refl stands.legal
                stands.encoded stands.frames.sizes sound more (sym (drop-append-le 19 front rest long) ∙ walk.1.bytes)
                (omega (arith, closes, length-drop gate file)) cut
            | inr all ↦
                let is : length front ≡ 19 = omega (arith, long, all) in (
                  length front,
                  in_the_header (omega (arith, all)),
                  subst (λ (k : ℕ). IsDamagedFile front k) (sym is) (no_frame version issuer [] 19 sound
                      (nothing_left (drop 19 front) (drop_all 19 front all))),
                )
          ]
    ]
