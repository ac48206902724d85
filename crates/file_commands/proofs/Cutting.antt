-- A text cut at its first LF.
use Rattle.std.proofs.Common.{◌≡◌, ◌≢◌, ◌∙◌, ℕ, ◌+◌, ◌-◌, ◌<◌, ◌≤◌, List, [], ◌∷◌, length, take, drop, refl, ap, arith, map}
use Rattle.std.proofs.Common.{Some, None, Bool, true, false, cond, ◌==◌, nat_lt, position, length-drop, length-take}
use Rattle.std.specs.List.{position_or_len, slice_split}
use Rattle.std.specs.Str.Lines.{strip_carriage_return}
use Rattle.std.proofs.Math.Seq.{take-length}
use Rattle.std.proofs.lemmas.Bool.{ltb-true}
use Rattle.std.proofs.lemmas.Bool.Decides.{nat_tests}
use Rattle.std.proofs.lemmas.List.Sums.{fails_before_first}
use Rattle.std.proofs.lemmas.List.Splits.{slice_split_first, slice_split_none, length-slice_split}
use Rattle.file_commands.specs.Lines.{lines_of, without_empty_end}

abbrev parts_of : List ℕ → List (List ℕ)
parts_of text = slice_split (λ b. b == 10) text

some_at : (b : Bool) (n i : ℕ) → cond b (Some n) None ≡ Some i → (b ≡ true) × (n ≡ i)
some_at true n i e = (refl, cc)
some_at false n i e = absurd cc

none_at : (b : Bool) (n : ℕ) → cond b (Some n) None ≡ None → b ≡ false
none_at true n e = absurd cc
none_at false n e = refl

not_below : (a b : ℕ) → nat_lt a b ≡ false → b ≤ a
not_below a b e = grind (arith, nat_tests)

pub rest_is : (text : List ℕ) (at : ℕ) → take (length text - at) (drop at text) ≡ drop at text
rest_is text at = rw (← length-drop at text) (take-length (drop at text))

-- what is left after the LF at this place
abbrev behind : ℕ → List ℕ → List ℕ
behind i text = take (length text - (i + 1)) (drop (i + 1) text)

cut_there : (text : List ℕ) (i : ℕ) → position (λ b. b == 10) text ≡ Some i →
    (parts_of text ≡ take i text ∷ parts_of (behind i text)) × (i < length text)
cut_there text i e =
    let first = position_or_len (λ b. b == 10) text in
    let at = some_at (nat_lt first (length text)) first i e in
    let lt : first < length text = ltb-true first (length text) at.0 in (
      rw (rest_is text (i + 1), ← at.1) (slice_split_first (λ b. b == 10) text 0 lt),
      (let same = at.1 in omega arith),
    )

cut_nowhere : (text : List ℕ) → position (λ b. b == 10) text ≡ None → parts_of text ≡ text ∷ []
cut_nowhere text e =
    let first = position_or_len (λ b. b == 10) text in
    let all : length text ≤ first = not_below first (length text) (none_at (nat_lt first (length text)) first e) in
    slice_split_none (λ b. b == 10) text (λ k d h. fails_before_first (λ b. b == 10) text k d (omega arith))

-- before another part each stands
pub part_stands : (part : List ℕ) (parts : List (List ℕ)) → 0 < length parts →
    without_empty_end (part ∷ parts) ≡ part ∷ without_empty_end parts
part_stands part [] h = absurd (omega arith)
part_stands [] (p ∷ parts) h = refl
part_stands (c ∷ cs) (p ∷ parts) h = refl

one_stands : (part : List ℕ) → part ≢ [] → without_empty_end (part ∷ []) ≡ part ∷ []
one_stands [] some = absurd (some refl)
one_stands (c ∷ cs) some = refl

pub line_there : (text : List ℕ) (i : ℕ) → position (λ b. b == 10) text ≡ Some i →
    lines_of text ≡ strip_carriage_return (take i text) ∷ lines_of (behind i text)
line_there text i e =
    let more : 0 < length (parts_of (behind i text)) =
    omega (arith, length-slice_split (λ b. b == 10) (behind i text)) in
    ap (λ (parts : List (List ℕ)). map strip_carriage_return (without_empty_end parts)) (cut_there text i e).0
    ∙ ap (λ (parts : List (List ℕ)). map strip_carriage_return parts) (part_stands (take i text) (parts_of (behind i text)) more)

pub line_whole : (text : List ℕ) → text ≢ [] → position (λ b. b == 10) text ≡ None →
    lines_of text ≡ strip_carriage_return text ∷ lines_of []
line_whole text some e =
    ap (λ (parts : List (List ℕ)). map strip_carriage_return (without_empty_end parts)) (cut_nowhere text e)
    ∙ ap (λ (parts : List (List ℕ)). map strip_carriage_return parts) (one_stands text some)

pub behind_shorter : (text : List ℕ) (i : ℕ) → position (λ b. b == 10) text ≡ Some i → length (behind i text) < length text
behind_shorter text i e = let lt = (cut_there text i e).1 in omega (arith, length-take {A = ℕ}, length-drop {A = ℕ})

pub some_length : (text : List ℕ) → text ≢ [] → 0 < length text
some_length [] some = absurd (some refl)
some_length (c ∷ cs) some = omega arith
