-- The parts of a frame.
use Rattle.std.proofs.Common.{◌≡◌, ◌<◌, ◌≤◌, ◌+◌, ℕ, List, [], ◌∷◌, ◌++◌, length, get_or, take, drop, refl, sym, ◌∙◌, ap, arith}
use Rattle.std.proofs.Common.{append_assoc, length-append, take-append-drop}
use Rattle.std.proofs.lemmas.List.{length-take-le, length-drop}
use Rattle.std.specs.Int.{w32, from_be_bytes}
use Rattle.frames.specs.declared.TheConstants.{FRAME}
use Rattle.frames.specs.Frames.{length_bytes, frame, IsCounted, IsClosed, IsDamaged, IsFrame}
use Rattle.frames.specs.Lengths.{length-length_bytes, length_read, length_of, same_length, same_front}
use Rattle.frames.specs.Laws.{ReadsAsWritten, IsFiveLonger, OneFrame}
use Rattle.frames.specs.declared.Frame.{Frame}
use Rattle.frames.specs.declared.Frame.TheVariants.{Counted, Closed, Damaged}

-- what a counted frame's bytes say of the length read
counted_parts : (head rest body : List ℕ) → length head ≡ 4 → IsCounted ((1 ∷ head) ++ rest) body →
    (length body ≡ from_be_bytes w32 head) × (length body < length rest)
counted_parts head rest body four counted =
    let tail : head ++ rest ≡ length_bytes (length body) ++ (body ++ counted.rest) = cc counted.parts in
    let parts = same_front head (length_bytes (length body)) rest (body ++ counted.rest)
    (four ∙ sym (length-length_bytes (length body))) tail in
    let n : from_be_bytes w32 head ≡ length body = ap (λ (l : List ℕ). from_be_bytes w32 l) parts.0 ∙ length_read (length body)
    counted.size.1 in
    (sym n, omega (arith, counted.followed, ap length parts.1, length-append body counted.rest))

pub not_counted : (head rest : List ℕ) (len : ℕ) → length head ≡ 4 → len ≡ from_be_bytes w32 head →
    (1 ≤ len → len ≤ FRAME → len < length rest → ⊥) → IsDamaged ((1 ∷ head) ++ rest)
not_counted head rest len four is none = record {
  not_counted = λ body counted.
      let parts = counted_parts head rest body four counted in
      let same : length body ≡ len = parts.0 ∙ sym is in
      none (omega (arith, counted.size.0)) (omega (arith, counted.size.1)) (omega (arith, parts.1));
  not_closed = λ closed. closed.shut (cc closed.parts);
}

pub is_counted : (head rest : List ℕ) (len : ℕ) → length head ≡ 4 → ((i : ℕ) → get_or head i 0 < 256) →
    len ≡ from_be_bytes w32 head → 1 ≤ len → len ≤ FRAME → len < length rest
    → (body : List ℕ) × (length body ≡ len) × IsCounted ((1 ∷ head) ++ rest) body
is_counted head rest len four bytes is low high fits =
    let body = take len rest in
    let size : length body ≡ len = length-take-le len rest (omega arith) in
    let front : head ≡ length_bytes (length body) = sym (ap length_bytes size ∙ length_of head len four bytes is) in (
      body,
      size,
      record {
        rest = drop len rest;
        size = (omega (arith, size), omega (arith, size));
        followed = omega (arith, length-drop len rest);
        parts = ap (λ (l : List ℕ). (1 ∷ l) ++ rest) front ∙ ap (λ (l : List ℕ). (1 ∷ length_bytes (length body)) ++ l)
            (sym (take-append-drop len rest));
      },
    )

pub short_damaged : (behind : List ℕ) → length behind < 4 → IsDamaged (1 ∷ behind)
short_damaged behind short = record {
  not_counted = λ body counted.
      let tail : behind ≡ length_bytes (length body) ++ (body ++ counted.rest) = cc counted.parts in
      omega (
        arith,
        ap length tail,
        length-append (length_bytes (length body)) (body ++ counted.rest),
        length-length_bytes
            (length body),
      );
  not_closed = λ closed. closed.shut (cc closed.parts);
}

pub empty_damaged : IsDamaged []
empty_damaged = record {
  not_counted = λ body counted. let e : _ = counted.parts in cc e;
  not_closed = λ closed. let e : _ =
      closed.parts in cc e;
}

pub framed : (body r1 r2 r3 be : List ℕ) → be ≡ length_bytes (length body) → take (0 + length be) r1 ≡ be →
    take (4 + length body) r2 ≡ take 4 r1 ++ body → take (4 + length body + 1) r3 ≡ take (4 + length body) r2 ++ 0 ∷ [] →
    take (length body + 5) r3 ≡ frame body
framed body r1 r2 r3 be is first second third =
    let four : length be ≡ 4 = ap length is ∙ length-length_bytes (length body) in
    let at_four : 4 ≡ 0 + length be = omega (arith, four) in
    let front : take 4 r1 ≡ be = ap (λ (k : ℕ). take k r1) at_four ∙ first in
    let all : length body + 5 ≡ 4 + length body + 1 = omega arith in
    ap (λ (k : ℕ). take k r3) all ∙ third ∙ ap (λ (l : List ℕ). l ++ 0 ∷ []) (second ∙ ap (λ (l : List ℕ). l ++ body)
    (front ∙ is))

pub reads_as_written : ReadsAsWritten
reads_as_written body rest size =
    let n = length_bytes (length body) in
    record {
      rest = 0 ∷ rest;
      size = size;
      followed = omega arith;
      parts = ap (λ (l : List ℕ). 1 ∷ l) (append_assoc (n ++ body) (0 ∷ []) rest ∙ append_assoc n body (0 ∷ rest));
    }

pub is_five_longer : IsFiveLonger
is_five_longer body =
    let n = length_bytes (length body) in
    omega (arith, length-append (n ++ body) (0 ∷ []), length-append n body, length-length_bytes (length body))

one_body : (bytes body other : List ℕ) → IsCounted bytes body → IsCounted bytes other → body ≡ other
one_body bytes body other is is' =
    let m = length_bytes (length body) in
    let n = length_bytes (length other) in
    let same : (1 ∷ m) ++ (body ++ is.rest) ≡ (1 ∷ n) ++ (other ++ is'.rest) = sym is.parts ∙ is'.parts in
    let tails : m ++ (body ++ is.rest) ≡ n ++ (other ++ is'.rest) = cc same in
    let heads = same_front m n (body ++ is.rest) (other ++ is'.rest) (length-length_bytes (length body) ∙
    sym (length-length_bytes (length other))) tails in
    (same_front body other is.rest is'.rest (same_length (length body) (length other) is.size.1 is'.size.1 heads.0) heads.1).0

apart : (bytes body : List ℕ) → IsCounted bytes body → IsClosed bytes → ⊥
apart bytes body counted closed =
    let same : closed.gate ∷ closed.rest ≡ 1 ∷ (length_bytes (length body) ++ (body ++ counted.rest)) = sym closed.parts ∙
    counted.parts in
    closed.shut (cc same)

one : (bytes : List ℕ) (a b : Frame) → IsFrame bytes a → IsFrame bytes b → a ≡ b
one bytes (Counted m) (Counted n) is is' = ap (λ (k : ℕ). Counted k) (sym is.1 ∙ ap length (one_body bytes is.0 is'.0 is.2 is'.2)
    ∙ is'.1)
one bytes (Counted m) Closed is is' = absurd (apart bytes is.0 is.2 is')
one bytes (Counted m) Damaged is is' = absurd (is'.not_counted is.0 is.2)
one bytes Closed (Counted n) is is' = absurd (apart bytes is'.0 is'.2 is)
one bytes Closed Closed is is' = refl
one bytes Closed Damaged is is' = absurd (is'.not_closed is)
one bytes Damaged (Counted n) is is' = absurd (is.not_counted is'.0 is'.2)
one bytes Damaged Closed is is' = absurd (is.not_closed is')
one bytes Damaged Damaged is is' = refl

pub one_frame : OneFrame
one_frame = (one, one_body)
