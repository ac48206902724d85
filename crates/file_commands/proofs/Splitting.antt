-- A text cut after one of its LFs.
use Rattle.std.proofs.Common.{◌≡◌, ◌∙◌, ℕ, zero, suc, ◌+◌, ◌-◌, ◌<◌, ◌≤◌, List, [], ◌∷◌, ◌++◌, length, take, drop, get_or, refl, sym, ap}
use Rattle.std.proofs.Common.{inl, inr, arith, map, Some, true, false, ◌==◌, position, append-nil, add-one, length-drop}
use Rattle.std.specs.List.{onto_first, slice_split}
use Rattle.std.specs.Str.Lines.{strip_carriage_return}
use Rattle.std.proofs.lemmas.Bool.{cases_Bool}
use Rattle.std.proofs.lemmas.List.{get_or-drop, map-append}
use Rattle.std.proofs.lemmas.List.Quantifiers.{position-Some}
use Rattle.std.proofs.lemmas.List.Splits.{slice_split-cons_yes, slice_split-cons_no, length-slice_split}
use Rattle.file_commands.specs.Lines.{lines_of, without_empty_end}
use Rattle.file_commands.proofs.Cutting.{part_stands, rest_is}

-- the lines with their carriage returns
abbrev raw_lines : List ℕ → List (List ℕ)
raw_lines text = without_empty_end (slice_split (λ b. b == 10) text)

some_parts : (text : List ℕ) → 0 < length (slice_split (λ b. b == 10) text)
some_parts text = omega (arith, length-slice_split (λ b. b == 10) text)

onto_stands : (x : ℕ) (parts : List (List ℕ)) → without_empty_end (onto_first x parts) ≡ onto_first x (without_empty_end parts)
onto_stands x [] = refl
onto_stands x ([] ∷ []) = refl
onto_stands x ([] ∷ (p ∷ parts)) = refl
onto_stands x ((c ∷ cs) ∷ parts) = refl

raw_at_end : (x : ℕ) (xs : List ℕ) → (x == 10) ≡ true → raw_lines (x ∷ xs) ≡ [] ∷ raw_lines xs
raw_at_end x xs e = ap without_empty_end (slice_split-cons_yes (λ b. b == 10) x xs e)
    ∙ part_stands [] (slice_split (λ b. b == 10) xs) (some_parts xs)

raw_within : (x : ℕ) (xs : List ℕ) → (x == 10) ≡ false → raw_lines (x ∷ xs) ≡ onto_first x (raw_lines xs)
raw_within x xs e = ap without_empty_end (slice_split-cons_no (λ b. b == 10) x xs e)
    ∙ onto_stands x (slice_split (λ b. b == 10) xs)

some_onto : (x : ℕ) (parts : List (List ℕ)) → 0 < length (onto_first x parts)
some_onto x [] = omega arith
some_onto x (p ∷ parts) = omega arith

some_raw : (x : ℕ) (xs : List ℕ) → 0 < length (raw_lines (x ∷ xs))
some_raw x xs = elim (cases_Bool (x == 10)) [
  | inl e ↦ rw (raw_at_end x xs e) (omega arith)
  | inr e ↦ rw (raw_within x xs e) (some_onto x (raw_lines xs))
]

onto_append : (x : ℕ) (parts more : List (List ℕ)) → 0 < length parts → onto_first x (parts ++ more) ≡ onto_first x parts ++ more
onto_append x [] more some = absurd (omega arith)
onto_append x (p ∷ parts) more some = refl

some_front : (i : ℕ) (xs : List ℕ) → i < length xs → 0 < length (raw_lines (take (suc i) xs))
some_front i [] lt = absurd (omega arith)
some_front i (x ∷ xs) lt = some_raw x (take i xs)

raw_cut : (text : List ℕ) (i d : ℕ) → i < length text → (get_or text i d == 10) ≡ true →
    raw_lines text ≡ raw_lines (take (suc i) text) ++ raw_lines (drop (suc i) text)
raw_cut [] i d lt e = absurd (omega arith)
raw_cut (x ∷ xs) zero d lt e = raw_at_end x xs e ∙ ap (λ (ls : List (List ℕ)). ls ++ raw_lines xs) (sym (raw_at_end x [] e))
raw_cut (x ∷ xs) (suc i) d lt e =
    let rest : raw_lines xs ≡ raw_lines (take (suc i) xs) ++ raw_lines (drop (suc i) xs) = raw_cut xs i d (omega arith) e in
    elim (cases_Bool (x == 10)) [
      | inl f ↦ raw_at_end x xs f ∙ ap (λ (ls : List (List ℕ)). [] ∷ ls) rest
          ∙ ap (λ (ls : List (List ℕ)). ls ++ raw_lines (drop (suc i) xs)) (sym (raw_at_end x (take (suc i) xs) f))
      | inr f ↦ raw_within x xs f ∙ ap (onto_first x) rest
          ∙ onto_append x (raw_lines (take (suc i) xs)) (raw_lines (drop (suc i) xs)) (some_front i xs (omega arith))
          ∙ ap (λ (ls : List (List ℕ)). ls ++ raw_lines (drop (suc i) xs)) (sym (raw_within x (take (suc i) xs) f))
    ]

cut_behind : (text : List ℕ) (i : ℕ) → i < length text → (get_or text i 0 == 10) ≡ true →
    lines_of text ≡ lines_of (take (i + 1) text) ++ lines_of (drop (i + 1) text)
cut_behind text i lt e = rw add-one
    (ap (map strip_carriage_return) (raw_cut text i 0 lt e)
    ∙ map-append strip_carriage_return (raw_lines (take (suc i) text)) (raw_lines (drop (suc i) text)))

-- after the first LF at a place or after it
pub split_there : (text : List ℕ) (at more : ℕ) → at ≤ length text →
    position (λ b. b == 10) (take (length text - at) (drop at text)) ≡ Some more →
    (lines_of text ≡ lines_of (take (at + more + 1) text) ++ lines_of (drop (at + more + 1) text)) × (at + more < length text)
split_there text at more within e =
    let found = position-Some (λ b. b == 10) (drop at text) more 0 (ap (position (λ b. b == 10)) (sym (rest_is text at)) ∙ e) in
    let lt : at + more < length text = (let below = found.0 in omega (arith, length-drop at text)) in (
      cut_behind text (at + more) lt (ap (λ (b : ℕ). b == 10) (sym (get_or-drop at text more 0)) ∙ found.1),
      lt,
    )

-- where there is none, nothing is left
pub split_nowhere : (text : List ℕ) → lines_of text ≡ lines_of text ++ lines_of []
split_nowhere text = sym (append-nil (lines_of text))
