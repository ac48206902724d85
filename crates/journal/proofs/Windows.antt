-- A window of a file tells what stands at its start.
use Rattle.std.proofs.Common.{◌≡◌, ◌≤◌, ◌+◌, ◌-◌, min, inl, inr, ℕ, List, ◌∷◌, ◌++◌, length, take, drop, sym, ◌∙◌, ap, arith}
use Rattle.std.proofs.Common.{append_assoc, length-append, take-append-drop}
use Rattle.std.proofs.lemmas.List.{length-take, length-take-le, length-drop, take_at, drop_at, take_min, take_all, take-take, drop-drop, drop-take}
use Rattle.std.proofs.lemmas.Bool.{cases_lt}
use Rattle.chain_disk.specs.OnDisk.{IsRead}
use Rattle.frames.specs.Frames.{length_bytes, IsCounted, IsClosed}
use Rattle.frames.specs.Lengths.{length-length_bytes}
use Rattle.journal.specs.Ahead.{Ahead, Covers}
use Rattle.journal.specs.Step.{IsStep}
use Rattle.journal.specs.declared.reading.Step.{Step}
use Rattle.journal.specs.declared.reading.Step.TheVariants.{Counted, Closed, Damaged}

-- what was read, as a front of what is there
pub read_window : (room : ℕ) (content : List ℕ) (at n : ℕ) (old new : List ℕ) → length old ≡ room → IsRead content at n old new →
    take n new ≡ take room (drop at content)
read_window room content at n old new long read =
    let rest = drop at content in
    let count : n ≡ min room (length rest) = omega (arith, read.count, long, length-drop at content) in
    let all : length (take n rest) ≡ n = length-take-le n rest (omega (arith, count)) in
    ap (λ (l : List ℕ). take n l) read.bytes ∙ take_at (take n rest) (drop n old) n all ∙ ap (λ (k : ℕ). take k rest) count ∙
    take_min room rest

-- the window of a frame in what was read ahead
pub ahead_window : (content : List ℕ) (ahead : Ahead) (at : ℕ) → ahead.bytes ≡ take 65536 (drop ahead.start content) →
    Covers ahead at → take 4102 (drop (at - ahead.start) ahead.bytes) ≡ take 4102 (drop at content)
ahead_window content ahead at is covers =
    let k = at - ahead.start in
    let rest = drop ahead.start content in
    let sum : 65536 ≡ k + (65536 - k) = omega (arith, covers.whole) in
    let place : ahead.start + k ≡ at = omega (arith, covers.begun) in
    let cut : drop k ahead.bytes ≡ take (65536 - k) (drop k rest) = ap (λ (l : List ℕ). drop k l) is ∙
    ap (λ (n : ℕ). drop k (take n rest)) sum ∙ drop-take k (65536 - k) rest in
    ap (λ (l : List ℕ). take 4102 l) cut ∙ take-take 4102 (65536 - k) (drop k rest) (omega (arith, covers.whole)) ∙
    ap (λ (l : List ℕ). take 4102 l) (drop-drop k ahead.start content ∙ ap (λ (n : ℕ). drop n content) place)

-- the body of a counted frame
pub counted_body : (bytes body : List ℕ) (len : ℕ) → length body ≡ len → IsCounted bytes body → take (5 + len - 5) (drop 5 bytes)
    ≡ body
counted_body bytes body len size counted =
    let head = 1 ∷ length_bytes (length body) in
    let five : length head ≡ 5 = omega (arith, length-length_bytes (length body)) in
    let front : drop 5 bytes ≡ body ++ counted.rest = ap (λ (l : List ℕ). drop 5 l) counted.parts ∙
    drop_at head (body ++ counted.rest) 5 five in
    let n : 5 + len - 5 ≡ len = omega arith in
    ap (λ (k : ℕ). take k (drop 5 bytes)) n ∙ ap (λ (l : List ℕ). take len l) front ∙ take_at body counted.rest len size

counted_longer : (k : ℕ) (bytes body : List ℕ) → IsCounted (take k bytes) body → IsCounted bytes body
counted_longer k bytes body counted =
    let head = 1 ∷ length_bytes (length body) in
    record {
      rest = counted.rest ++ drop k bytes;
      size = counted.size;
      followed = omega (arith, counted.followed, length-append counted.rest (drop k bytes));
      parts = sym (take-append-drop k bytes) ∙ ap (λ (l : List ℕ). l ++ drop k bytes) counted.parts ∙ append_assoc head
          (body ++ counted.rest) (drop k bytes) ∙ ap (λ (l : List ℕ). head ++ l) (append_assoc body counted.rest (drop k bytes));
    }

closed_longer : (k : ℕ) (bytes : List ℕ) → IsClosed (take k bytes) → IsClosed bytes
closed_longer k bytes closed = record {
  gate = closed.gate;
  rest = closed.rest ++ drop k bytes;
  parts = sym (take-append-drop k bytes) ∙ ap (λ (l : List ℕ). l ++ drop k bytes) closed.parts;
  shut = closed.shut;
}

-- a front of k bytes of parts whose first is shorter
front_parts : (k : ℕ) (bytes first rest : List ℕ) → bytes ≡ first ++ rest → length first ≤ k → take k bytes ≡ first ++ take
    (k - length first) rest
front_parts k bytes first rest is short =
    let m = k - length first in
    let split : bytes ≡ (first ++ take m rest) ++ drop m rest = is ∙ ap (λ (l : List ℕ). first ++ l)
    (sym (take-append-drop m rest)) ∙ sym (append_assoc first (take m rest) (drop m rest)) in
    by_length split
  where
    by_length : bytes ≡ (first ++ take (k - length first) rest) ++ drop (k - length first) rest → take k bytes ≡ first ++ take
        (k - length first) rest
    by_length split = elim (cases_lt (length rest) (k - length first)) [
      | inl less ↦ (
          let whole : take (k - length first) rest ≡ rest = take_all (k - length first) rest (omega (arith, less)) in
          take_all k bytes (omega (arith, ap length is, length-append first rest, less)) ∙ is ∙ ap (λ (l : List ℕ). first ++ l)
          (sym whole))
      | inr enough ↦ ap (λ (l : List ℕ). take k l) split ∙ take_at (first ++ take (k - length first) rest)
          (drop (k - length first) rest) k (omega (
            arith,
            length-append first (take (k - length first) rest),
            length-take-le (k - length first) rest enough,
          ))
    ]

counted_shorter : (bytes body : List ℕ) → IsCounted bytes body → IsCounted (take 4102 bytes) body
counted_shorter bytes body counted =
    let head = 1 ∷ length_bytes (length body) in
    let first = head ++ body in
    let size : length first ≡ 5 + length body = omega (arith, length-append head body, length-length_bytes (length body)) in
    let is : bytes ≡ first ++ counted.rest = counted.parts ∙ sym (append_assoc head body counted.rest) in
    let m = 4102 - length first in
    record {
      rest = take m counted.rest;
      size = counted.size;
      followed = omega (arith, length-take m counted.rest, counted.followed, size, counted.size.1);
      parts = front_parts 4102 bytes first counted.rest is (omega (arith, size, counted.size.1)) ∙ append_assoc head body
          (take m counted.rest);
    }

closed_shorter : (bytes : List ℕ) → IsClosed bytes → IsClosed (take 4102 bytes)
closed_shorter bytes closed = record {
  gate = closed.gate;
  rest = take 4101 closed.rest;
  parts = ap (λ (l : List ℕ). take 4102 l)
      closed.parts;
  shut = closed.shut;
}

pub step_longer : (bytes body : List ℕ) (step : Step) → IsStep (take 4102 bytes) step body → IsStep bytes step body
step_longer bytes body (Counted next) is = counted_longer 4102 bytes body is
step_longer bytes body Closed is = closed_longer 4102 bytes is
step_longer bytes body Damaged is = record {
  not_counted = λ b counted. is.not_counted b (counted_shorter bytes b counted);
  not_closed = λ closed. is.not_closed (closed_shorter bytes closed);
}
