-- One more line of a source that was read to the end of these lines.
use Rattle.std.proofs.Common.{◌≡◌, ◌∙◌, ◌⊎◌, inl, inr, ℕ, ◌<◌, List, [], ◌∷◌, ◌++◌, Bool, true, false, refl, sym, ap, subst, arith}
use Rattle.std.proofs.Common.{length, append-nil, append_assoc, length-append, flat_map, Option, Result, Ok, Err}
use Rattle.std.proofs.KnownBytes.{Consumes-trans}
use Rattle.std.specs.List.{AllByRecursion}
use Rattle.std.specs.Io.KnownBytes.{IsAtEnd}
use Rattle.ports.specs.Sources.{Sources}
use Rattle.ports.specs.declared.faults.Failed.{Failed}
use Rattle.line_reader.specs.Reading.{has_lf}
use Rattle.line_reader.specs.Lines.{Came, IsSpent, NextIs, is_dropping, is_over, kept_of, line_of}
use Rattle.line_reader.specs.Lists.{AreAllLines, AreLines, InputLine, IsLine, bytes_of, text_of, with_lf, without_lf}
use Rattle.line_reader.specs.Read.{AreRead, HasRead, HasReadOn, ReadsTooLong}
use Rattle.line_reader.specs.declared.reader.LineReader.{LineReader}
use Rattle.line_reader.specs.declared.reader.Next.{Next}
use Rattle.line_reader.specs.declared.reader.Next.TheVariants.{Line, Unended, TooLong, End}
use Rattle.line_reader.proofs.Underway.{clean_both, other_way}

each_more : (lines : List InputLine) (line : InputLine) → AllByRecursion IsLine lines → IsLine line →
    AllByRecursion IsLine (lines ++ line ∷ [])
each_more [] line h e = (e, tt)
each_more (first ∷ lines) line h e = (h.0, each_more lines line h.1 e)

-- the bytes of lines and of one line more
pub flat_more : (lines : List InputLine) (line : InputLine) (rest : List ℕ) →
    flat_map bytes_of (lines ++ line ∷ []) ++ rest ≡ flat_map bytes_of lines ++ (bytes_of line ++ rest)
flat_more [] line rest = ap (λ l. l ++ rest) (append-nil (bytes_of line))
flat_more (first ∷ lines) line rest =
    append_assoc (bytes_of first) (flat_map bytes_of (lines ++ line ∷ [])) rest
    ∙ ap (λ l. bytes_of first ++ l) (flat_more lines line rest)
    ∙ sym (append_assoc (bytes_of first) (flat_map bytes_of lines) (bytes_of line ++ rest))

-- what was taken, with what a call took and gave
along : (taken more given kept kept_after front : List ℕ) → taken ≡ front ++ kept → kept ++ more ≡ given ++ kept_after →
    taken ++ more ≡ front ++ (given ++ kept_after)
along taken more given kept kept_after front e f =
    ap (λ t. t ++ more) e ∙ append_assoc front kept more ∙ ap (λ t. front ++ t) f

-- nothing was kept and nothing taken, so nothing was given
nothing_given : (more given kept kept_after : List ℕ) → kept ≡ [] → more ≡ [] → kept ++ more ≡ given ++ kept_after →
    length given ≡ 0
nothing_given more given kept kept_after e f p =
    let sizes = ap (λ (l : List ℕ). length l) p in
    let none = ap (λ (l : List ℕ). length l) e in
    let no_more = ap (λ (l : List ℕ). length l) f in
    let left = length-append kept more in
    let right = length-append given kept_after in
    omega (arith, sizes, none, no_more, left, right)

-- a line that ends by an LF, or with the source
abbrev Ends : Bool → Bool → InputLine → List ℕ → List ℕ → Option (List ℕ) → Type 0
Ends b c (with_lf text) given kept_after left = (given ≡ text ++ 10 ∷ []) × (c ≡ b)
Ends b c (without_lf text) given kept_after left =
    (0 < length text) × (given ≡ text) × (kept_after ≡ []) × (c ≡ true) × (b ≡ false → IsAtEnd left)

line_more : (b c : Bool) (taken more given kept kept_after : List ℕ) (line : InputLine) (lines : List InputLine)
    (left left_after : Option (List ℕ)) → AreRead b taken lines kept left → kept ++ more ≡ given ++ kept_after →
    (b ≡ true → more ≡ []) → has_lf (text_of line) ≡ false → Ends b c line given kept_after left_after →
    AreRead c (taken ++ more) (lines ++ line ∷ []) kept_after left_after
line_more true c taken more given kept kept_after (with_lf text) lines left left_after are p rests clean e =
    let none = nothing_given more given kept kept_after are.1 (rests refl) p in
    let size = ap (λ (l : List ℕ). length l) e.0 in
    let long = length-append text (10 ∷ []) in absurd (omega (arith, none, size, long))
line_more true c taken more given kept kept_after (without_lf text) lines left left_after are p rests clean e =
    let none = nothing_given more given kept kept_after are.1 (rests refl) p in
    let size = ap (λ (l : List ℕ). length l) e.1 in
    let some = e.0 in absurd (omega (arith, none, size, some))
line_more false c taken more given kept kept_after (with_lf text) lines left left_after are p rests clean e =
    let line : InputLine = with_lf text in
    subst (λ (over : Bool). AreRead over (taken ++ more) (lines ++ line ∷ []) kept_after left_after) (sym e.1) (record {
      each = each_more lines line are.each clean;
      is = along taken more given kept kept_after (flat_map bytes_of lines) are.is p
          ∙ ap (λ g. flat_map bytes_of lines ++ (g ++ kept_after)) e.0 ∙ sym (flat_more lines line kept_after);
    })
line_more false c taken more given kept kept_after (without_lf text) lines left left_after are p rests clean e =
    let line : InputLine = without_lf text in
    subst (λ (over : Bool). AreRead over (taken ++ more) (lines ++ line ∷ []) kept_after left_after) (sym e.3) (
      record {
        whole = lines;
        last = line ∷ [];
        lines_are = refl;
        each = are.each;
        at_most_one = omega arith;
        last_is = ((clean, e.0), tt);
        is = along taken more given kept kept_after (flat_map bytes_of lines) are.is p
            ∙ ap (λ g. flat_map bytes_of lines ++ (g ++ kept_after)) e.1 ∙ ap (λ k. flat_map bytes_of lines ++ (text ++ k)) e.2;
      },
      e.2,
      e.4 refl,
    )

all_read : (b : Bool) (taken more given kept kept_after : List ℕ) (lines : List InputLine) (left left_after : Option (List ℕ)) →
    AreRead b taken lines kept left → kept ++ more ≡ given ++ kept_after → (b ≡ true → more ≡ []) → given ≡ [] → kept_after ≡ [] →
    (b ≡ false → IsAtEnd left_after) → (b ≡ true → left_after ≡ left) →
    AreAllLines (taken ++ more) lines × IsAtEnd left_after
all_read true taken more given kept kept_after lines left left_after are p rests none gone at_end same = (
  subst (λ (bytes : List ℕ). AreAllLines bytes lines) (sym (ap (λ m. taken ++ m) (rests refl) ∙ append-nil taken)) are.0,
  subst IsAtEnd (sym (same refl)) are.2,
)
all_read false taken more given kept kept_after lines left left_after are p rests none gone at_end same = (
  record {
    whole = lines;
    last = [];
    lines_are = sym (append-nil lines);
    each = are.each;
    at_most_one = omega arith;
    last_is = tt;
    is = along taken more given kept kept_after (flat_map bytes_of lines) are.is p
        ∙ ap (λ g. flat_map bytes_of lines ++ (g ++ kept_after)) none ∙ ap (λ k. flat_map bytes_of lines ++ k) gone;
  },
  at_end refl,
)

stopped : (b : Bool) (taken more given kept kept_after : List ℕ) (lines : List InputLine) (left : Option (List ℕ)) → b ≡ false →
    AreRead b taken lines kept left → kept ++ more ≡ given ++ kept_after → AreLines (taken ++ more) lines (given ++ kept_after)
stopped true taken more given kept kept_after lines left e are p = absurd cc
stopped false taken more given kept kept_after lines left e are p = record {
  each = are.each;
  is = along taken more given kept kept_after (flat_map bytes_of lines) are.is p;
}

is_past : (dropping : Bool) (n : ℕ) → dropping ≡ false → (dropping ≡ true) ⊎ (65536 < n) → 65536 < n
is_past dropping n e (inl d) = absurd (other_way dropping e d)
is_past dropping n e (inr h) = h

read_more : (s : Sources) (old new : LineReader) (told : Next) (came : Came s old new told) (line : InputLine) →
    has_lf (text_of line) ≡ false → Ends (is_over old) (is_over new) line came.given (kept_of new) s.left_after →
    (left : Option (List ℕ)) (lines : List InputLine) → HasRead left s.left old lines →
    HasRead left s.left_after new (lines ++ line ∷ [])
read_more s old new told came line clean ends left lines h = record {
  taken = h.taken ++ came.took.taken;
  consumed = Consumes-trans left s.left s.left_after h.taken came.took.taken h.consumed came.took.consumed;
  are = line_more (is_over old) (is_over new) h.taken came.took.taken came.given (kept_of old) (kept_of new) line lines s.left
      s.left_after h.are came.took.parts came.took.rests clean ends;
  few = came.few;
  fresh = came.going_on;
}

pub read_on : (s : Sources) (old new : LineReader) (r : Result Next Failed) → NextIs s old new r →
    (is_over old ≡ true → s.left_after ≡ s.left) → (left : Option (List ℕ)) (lines : List InputLine) →
    HasRead left s.left old lines → HasReadOn left s.left_after new lines r
read_on s old new (Ok Line) came same left lines h = record {
  within = came.gave.within;
  read = read_more s old new Line came (with_lf (line_of new)) came.gave.clean (came.gave.ends, came.gave.same_is) left lines h;
}
read_on s old new (Ok Unended) came same left lines h =
    let spent = came.gave.spent_is in record {
      within = came.gave.within;
      read = read_more s old new Unended came (without_lf (line_of new)) came.gave.clean
          (came.gave.some, came.gave.is, spent.none, spent.over, spent.at_end) left lines h;
    }
read_on s old new (Ok TooLong) came same left lines h =
    let long = came.gave.long in
    let past = is_past (is_dropping old) (length long) h.fresh came.gave.past in
    let Long : Type 0 = ReadsTooLong left s.left_after new lines in
    let by_ends : ((came.given ≡ long ++ 10 ∷ []) × (is_over new ≡ is_over old)) ⊎ ((came.given ≡ long) × IsSpent s old new) → Long =
    λ ends. elim ends [
      | inl e ↦
          record {
            long = with_lf long;
            past = past;
            read = read_more s old new TooLong came (with_lf long) came.gave.clean e left lines h;
          }
      | inr e ↦
          record {
            long = without_lf long;
            past = past;
            read = read_more s old new TooLong came (without_lf long) came.gave.clean
                ((let more = past in omega arith), e.0, e.1.none, e.1.over, e.1.at_end) left lines h;
          }
    ] in
    by_ends came.gave.ends
read_on s old new (Ok End) came same left lines h =
    let all = all_read (is_over old) h.taken came.took.taken came.given (kept_of old) (kept_of new) lines s.left s.left_after h.are
    came.took.parts came.took.rests came.gave.none came.gave.spent_is.none came.gave.spent_is.at_end same in record {
      taken = h.taken ++ came.took.taken;
      consumed = Consumes-trans left s.left s.left_after h.taken came.took.taken h.consumed came.took.consumed;
      are = all.0;
      at_end = all.1;
    }
read_on s old new (Err e) paused same left lines h = record {
  taken = h.taken ++ paused.took.taken;
  rest = paused.given ++ kept_of new;
  consumed = Consumes-trans left s.left s.left_after h.taken paused.took.taken h.consumed paused.took.consumed;
  are = stopped (is_over old) h.taken paused.took.taken paused.given (kept_of old) (kept_of new) lines s.left paused.over.0 h.are
      paused.took.parts;
  within = clean_both paused.given (kept_of new) paused.clean paused.kept_clean;
}
