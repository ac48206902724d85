-- A walk over the frames of a file.
use Rattle.std.proofs.Common.{◌≡◌, ◌⊎◌, inl, inr, ◌<◌, ◌≤◌, ◌+◌, ℕ, List, [], ◌∷◌, ◌++◌, length, get_or, take, drop, refl, sym}
use Rattle.std.proofs.Common.{◌∙◌, ap, subst, arith, append_assoc, length-append, take-append-drop, codes}
use Rattle.std.proofs.lemmas.List.{drop-drop, drop_at, drop_more, take_at, length-drop}
use Rattle.frames.specs.Frames.{length_bytes, IsBody, IsCounted, IsClosed}
use Rattle.frames.specs.Lengths.{length-length_bytes, same_length, same_front}
use Rattle.parties.specs.Nif.{IsNif}
use Rattle.record_fields.specs.declared.versions.Version.{Version}
use Rattle.record_fields.specs.Versions.{number_of}
use Rattle.journal.specs.File.{header, framed, AreBodies, IsFile, closing_gate}
use Rattle.journal.specs.Framed.{framed-push, length-framed-push, AreBodies-push}
use Rattle.journal.specs.Header.{IsBegun}
use Rattle.journal.specs.Walk.{AreFrames, GoOn}
use Rattle.journal.specs.Laws.{WalkBegins, WalkGoesOn, WalkEnds, OneWalk, WalksAgree}

pub walk_begins : WalkBegins
walk_begins file = record { sizes = tt; place = refl; bytes = refl; followed = λ some. absurd (omega (arith, some)) }

pub walk_goes_on : WalkGoesOn
walk_goes_on file bodies at body are counted =
    let head = 1 ∷ length_bytes (length body) in
    let first = head ++ body in
    let size : length first ≡ 5 + length body = omega (arith, length-append head body, length-length_bytes (length body)) in
    let parts : drop at file ≡ first ++ counted.rest = counted.parts ∙ sym (append_assoc head body counted.rest) in
    let far : at + 5 + length body ≡ at + (5 + length body) = omega arith in
    let behind : drop (at + 5 + length body) file ≡ counted.rest =
    ap (λ (k : ℕ). drop k file) far ∙ sym (drop-drop (5 + length body) at file) ∙ ap (λ (l : List ℕ). drop (5 + length body) l)
    parts ∙ drop_at first counted.rest (5 + length body) size in
    record {
      sizes = AreBodies-push bodies body are.sizes counted.size;
      place = omega (arith, are.place, length-framed-push bodies body);
      bytes = are.bytes ∙ ap (λ (l : List ℕ). framed bodies ++ l) counted.parts ∙ sym (framed-push bodies body counted.rest) ∙
          ap (λ (l : List ℕ). framed (bodies ++ body ∷ []) ++ l) (sym behind);
      followed = λ some. omega (arith, counted.followed, ap length behind, length-drop (at + 5 + length body) file);
    }

-- a file whose bytes begin so has a sound header
begun : (version : Version) (issuer rest : List ℕ) → IsNif issuer → IsBegun version issuer ((1 ∷ header version issuer) ++ rest)
begun version issuer rest nif = record {
  versioned = record {
    marked = record { long = omega (arith, nif.nine, length-append issuer rest); first = refl; mark = refl };
    number = refl;
  };
  long = omega (arith, nif.nine, length-append issuer rest);
  issuer_is = take_at issuer rest 9 nif.nine;
  nif = nif;
}

-- and a file with a sound header begins so
header_split : (version : Version) (issuer file : List ℕ) → IsBegun version issuer file →
    file ≡ (1 ∷ header version issuer) ++ drop 19 file
header_split version issuer file is =
    let first : file ≡ get_or file 0 0 ∷ drop 1 file = drop_more file 0 0 (omega (arith, is.long)) in
    let mark : drop 1 file ≡ take 8 (drop 1 file) ++ drop 9 file = sym (take-append-drop 8 (drop 1 file)) ∙
    ap (λ (l : List ℕ). take 8 (drop 1 file) ++ l) (drop-drop 8 1 file) in
    let number : drop 9 file ≡ get_or file 9 0 ∷ drop 10 file = drop_more file 9 0 (omega (arith, is.long)) in
    let nif : drop 10 file ≡ take 9 (drop 10 file) ++ drop 19 file = sym (take-append-drop 9 (drop 10 file)) ∙
    ap (λ (l : List ℕ). take 9 (drop 10 file) ++ l) (drop-drop 9 10 file) in
    let behind : drop 9 file ≡ number_of version ∷ (issuer ++ drop 19 file) = number ∙
    ap (λ (x : ℕ). x ∷ drop 10 file) is.versioned.number ∙
    ap (λ (l : List ℕ). number_of version ∷ l) (nif ∙ ap (λ (l : List ℕ). l ++ drop 19 file) is.issuer_is) in
    first ∙ ap (λ (x : ℕ). x ∷ drop 1 file) is.versioned.marked.first
    ∙ ap (λ (l : List ℕ). 1 ∷ l) (mark ∙ ap (λ (l : List ℕ). l ++ drop 9 file) is.versioned.marked.mark ∙
    ap (λ (l : List ℕ). codes "VFCHAIN1" ++ l) behind)

walk_to : (version : Version) (issuer : List ℕ) (bodies : List (List ℕ)) (file : List ℕ) → IsFile version issuer bodies file →
    IsBegun version issuer file × AreFrames file bodies (closing_gate bodies) × IsClosed (drop (closing_gate bodies) file)
walk_to version issuer bodies file is =
    let head = 1 ∷ header version issuer in
    let tail = is.gate ∷ is.rest in
    let split : file ≡ (head ++ framed bodies) ++ tail = is.parts ∙ sym (append_assoc head (framed bodies) tail) in
    let long : length (head ++ framed bodies) ≡ closing_gate bodies =
    omega (arith, is.nif.nine, length-append head (framed bodies)) in
    let at_gate : drop (closing_gate bodies) file ≡ tail = ap (λ (l : List ℕ). drop (closing_gate bodies) l) split ∙
    drop_at (head ++ framed bodies) tail (closing_gate bodies) long in
    let nineteen : length head ≡ 19 = omega (arith, is.nif.nine) in
    let behind : drop 19 file ≡ framed bodies ++ tail = ap (λ (l : List ℕ). drop 19 l) is.parts ∙
    drop_at head (framed bodies ++ tail) 19 nineteen in (
      subst (IsBegun version issuer) (sym is.parts) (begun version issuer (framed bodies ++ tail) is.nif),
      record {
        sizes = is.sizes;
        place = refl;
        bytes = behind ∙ ap (λ (l : List ℕ). framed bodies ++ l) (sym at_gate);
        followed = λ some. omega (arith, ap length split, length-append (head ++ framed bodies) tail, long);
      },
      record { gate = is.gate; rest = is.rest; parts = at_gate; shut = is.shut },
    )

walk_from : (version : Version) (issuer : List ℕ) (bodies : List (List ℕ)) (file : List ℕ) → IsBegun version issuer file →
    AreFrames file bodies (closing_gate bodies) → IsClosed (drop (closing_gate bodies) file) → IsFile version issuer bodies file
walk_from version issuer bodies file begun are closed = record {
  gate = closed.gate;
  rest = closed.rest;
  nif = begun.nif;
  sizes = are.sizes;
  shut = closed.shut;
  parts = header_split version issuer file begun ∙ ap (λ (l : List ℕ). (1 ∷ header version issuer) ++ l)
      (are.bytes ∙ ap (λ (l : List ℕ). framed bodies ++ l) closed.parts);
}

pub walk_ends : WalkEnds
walk_ends version issuer bodies file = (
  λ is. walk_to version issuer bodies file is,
  λ all. walk_from version issuer bodies file all.0 all.1 all.2,
)

-- a counted frame at the front
counted_front : (body : List ℕ) (bodies : List (List ℕ)) (r s : List ℕ) → IsBody body → 1 ≤ length s → r ≡ framed (body ∷ bodies)
    ++ s → IsCounted r body
counted_front body bodies r s size some is =
    let n = length_bytes (length body) in
    record {
      rest = framed bodies ++ s;
      size = size;
      followed = omega (arith, some, length-append (framed bodies) s);
      parts = is ∙ ap (λ (l : List ℕ). 1 ∷ l) (append_assoc n (body ++ framed bodies) s ∙ ap (λ (l : List ℕ). n ++ l)
          (append_assoc body (framed bodies) s));
    }

-- two first frames that begin the same bytes
same_heads : (x y : List ℕ) (a b : List (List ℕ)) (r s : List ℕ) → IsBody x → IsBody y → framed (x ∷ a) ++ r ≡ framed (y ∷ b) ++ s
    → (x ≡ y) × (framed a ++ r ≡ framed b ++ s)
same_heads x y a b r s size size' same =
    let m = length_bytes (length x) in
    let n = length_bytes (length y) in
    let tails : (m ++ (x ++ framed a)) ++ r ≡ (n ++ (y ++ framed b)) ++ s = cc same in
    let parts : m ++ (x ++ (framed a ++ r)) ≡ n ++ (y ++ (framed b ++ s)) = simp append_assoc at tails in
    let heads = same_front m n (x ++ (framed a ++ r)) (y ++ (framed b ++ s)) (length-length_bytes (length x) ∙
    sym (length-length_bytes (length y))) parts in
    same_front x y (framed a ++ r) (framed b ++ s) (same_length (length x) (length y) size.1 size'.1 heads.0) heads.1

same_frames : (a b : List (List ℕ)) (r s : List ℕ) → AreBodies a → AreBodies b → (0 < length a → 1 ≤ length r) →
    (0 < length b → 1 ≤ length s)
    → ((body : List ℕ) → IsCounted r body → ⊥) → ((body : List ℕ) → IsCounted s body → ⊥) → framed a ++ r ≡ framed b ++ s → a ≡ b
same_frames [] [] r s are are' some some' none none' same = refl
same_frames [] (y ∷ b) r s are are' some some' none none' same =
    absurd (none y (counted_front y b r s are'.0 (some' (omega arith)) same))
same_frames (x ∷ a) [] r s are are' some some' none none' same =
    absurd (none' x (counted_front x a s r are.0 (some (omega arith)) (sym same)))
same_frames (x ∷ a) (y ∷ b) r s are are' some some' none none' same =
    let bodies = same_heads x y a b r s are.0 are'.0 same in
    let rest = same_frames a b r s are.1 are'.1 (λ more. some (omega arith)) (λ more. some' (omega arith)) none none' bodies.1 in
    cc (bodies.0, rest)

pub one_walk : OneWalk
one_walk file a b p q are are' none none' =
    let bodies = same_frames a b (drop p file) (drop q file) are.sizes are'.sizes
    (λ some. omega (arith, are.followed some, length-drop p file))
    (λ some. omega (arith, are'.followed some, length-drop q file)) none none' (sym are.bytes ∙ are'.bytes) in
    (bodies, are.place ∙ ap closing_gate bodies ∙ sym are'.place)

abbrev Agree : List (List ℕ) → List (List ℕ) → List ℕ → List ℕ → Type 0
Agree a b r s = (a ≡ b) ⊎ (GoOn r a b ⊎ GoOn s b a)

-- the same with one body in front of both
with_head : (x y : List ℕ) (a b : List (List ℕ)) (r s : List ℕ) → x ≡ y → Agree a b r s → Agree (x ∷ a) (y ∷ b) r s
with_head x y a b r s e (inl is) = inl (cc (e, is))
with_head x y a b r s e (inr (inl on)) = inr (inl (record {
  body = on.body;
  more = on.more;
  longer = cc (e, on.longer);
  counted = on.counted;
}))
with_head x y a b r s e (inr (inr on)) = inr (inr (record {
  body = on.body;
  more = on.more;
  longer = cc (e, on.longer);
  counted = on.counted;
}))

agreeing : (a b : List (List ℕ)) (r s : List ℕ) → AreBodies a → AreBodies b → (0 < length a → 1 ≤ length r) →
    (0 < length b → 1 ≤ length s)
    → framed a ++ r ≡ framed b ++ s → Agree a b r s
agreeing [] [] r s are are' some some' same = inl refl
agreeing [] (y ∷ b) r s are are' some some' same =
    inr (inl (record { body = y; more = b; longer = refl; counted = counted_front y b r s are'.0 (some' (omega arith)) same }))
agreeing (x ∷ a) [] r s are are' some some' same =
    inr (inr (record {
      body = x;
      more = a;
      longer = refl;
      counted = counted_front x a s r are.0 (some (omega arith)) (sym same);
    }))
agreeing (x ∷ a) (y ∷ b) r s are are' some some' same =
    let bodies = same_heads x y a b r s are.0 are'.0 same in
    with_head x y a b r s bodies.0 (agreeing a b r s are.1 are'.1 (λ more. some (omega arith)) (λ more. some' (omega arith))
    bodies.1)

pub walks_agree : WalksAgree
walks_agree file a b p q are are' =
    elim (agreeing a b (drop p file) (drop q file) are.sizes are'.sizes
    (λ some. omega (arith, are.followed some, length-drop p file))
    (λ some. omega (arith, are'.followed some, length-drop q file)) (sym are.bytes ∙ are'.bytes)) [
      | inl is ↦ inl (is, are.place ∙ ap closing_gate is ∙ sym are'.place)
      | inr on ↦ inr on
    ]
