-- Bytes have one list of lines.
use Rattle.std.proofs.Common.{◌≡◌, ◌∙◌, ℕ, ◌<◌, ◌==◌, List, [], ◌∷◌, ◌++◌, Bool, true, false, ◌||◌, refl, sym, ap, arith, length}
use Rattle.std.proofs.Common.{append-nil, append_assoc, flat_map}
use Rattle.std.proofs.lemmas.Bool.{or_parts}
use Rattle.std.proofs.lemmas.List.Folds.{list_any-append}
use Rattle.std.specs.List.{AllByRecursion}
use Rattle.line_reader.specs.Reading.{has_lf}
use Rattle.line_reader.specs.Lists.{HaveOneList, InputLine, IsLast, IsLine, bytes_of, with_lf, without_lf}

has_ten : (bytes : List ℕ) (b : ℕ) (rest : List ℕ) → b ≡ 10 → bytes ≡ b ∷ rest → has_lf bytes ≡ false → ⊥
has_ten bytes b rest e p h = let there = ap has_lf (p ∙ ap (λ x. x ∷ rest) e) in absurd cc

first_of_two : (a b : ℕ) (xs ys : List ℕ) → a ∷ xs ≡ b ∷ ys → a ≡ b
first_of_two a b xs ys e = cc

rest_of_two : (a b : ℕ) (xs ys : List ℕ) → a ∷ xs ≡ b ∷ ys → xs ≡ ys
rest_of_two a b xs ys e = cc

-- two lines that stand at the front of the same bytes
pub same_line : (a b rest more : List ℕ) → has_lf a ≡ false → has_lf b ≡ false → a ++ 10 ∷ rest ≡ b ++ 10 ∷ more →
    (a ≡ b) × (rest ≡ more)
same_line [] [] rest more p q e = (refl, rest_of_two 10 10 rest more e)
same_line [] (y ∷ b) rest more p q e =
    absurd (has_ten (y ∷ b) y b (sym (first_of_two 10 y rest (b ++ 10 ∷ more) e)) refl q)
same_line (x ∷ a) [] rest more p q e = absurd (has_ten (x ∷ a) x a (first_of_two x 10 (a ++ 10 ∷ rest) more e) refl p)
same_line (x ∷ a) (y ∷ b) rest more p q e =
    let both = same_line a b rest more (or_parts (x == 10) (has_lf a) p).1 (or_parts (y == 10) (has_lf b) q).1
    (rest_of_two x y (a ++ 10 ∷ rest) (b ++ 10 ∷ more) e) in
    let first = first_of_two x y (a ++ 10 ∷ rest) (b ++ 10 ∷ more) e in (
      rw (first, both.0) refl,
      both.1,
    )

behind_lf : (line rest : List ℕ) → bytes_of (with_lf line) ++ rest ≡ line ++ 10 ∷ rest
behind_lf line rest = append_assoc line (10 ∷ []) rest

clean_last : (last : List InputLine) → length last < 2 → AllByRecursion IsLast last → has_lf (flat_map bytes_of last) ≡ false
clean_last [] few each = refl
clean_last (with_lf line ∷ last) few each = absurd each.0
clean_last (without_lf line ∷ []) few each = ap has_lf (append-nil line) ∙ each.0.0
clean_last (without_lf line ∷ other ∷ last) few each = absurd (omega (arith, few))

lf_in_front : (line rest : List ℕ) → has_lf (line ++ 10 ∷ rest) ≡ true
lf_in_front line rest = list_any-append (λ b. b == 10) line (10 ∷ rest) ∙ or_true (has_lf line)
  where
    or_true : (b : Bool) → (b || true) ≡ true
    or_true true = refl
    or_true false = refl

-- no line with an LF stands in a last line
lf_in_last : (last : List InputLine) (line rest : List ℕ) → length last < 2 → AllByRecursion IsLast last →
    flat_map bytes_of last ≡ bytes_of (with_lf line) ++ rest → ⊥
lf_in_last last line rest few each e =
    let clean = clean_last last few each in
    let there = ap has_lf (e ∙ behind_lf line rest) ∙ lf_in_front line rest in absurd cc

none_is : (line rest : List ℕ) → 0 < length line → [] ≡ line ++ rest → ⊥
none_is [] rest h e = absurd (omega (arith, h))
none_is (c ∷ line) rest h e = absurd cc

same_last : (a b : List InputLine) → length a < 2 → length b < 2 → AllByRecursion IsLast a → AllByRecursion IsLast b →
    flat_map bytes_of a ≡ flat_map bytes_of b → a ≡ b
same_last [] [] f g p q e = refl
same_last [] (with_lf y ∷ b) f g p q e = absurd q.0
same_last [] (without_lf y ∷ b) f g p q e = absurd (none_is y (flat_map bytes_of b) q.0.1 e)
same_last (with_lf x ∷ a) b f g p q e = absurd p.0
same_last (without_lf x ∷ a) [] f g p q e = absurd (none_is x (flat_map bytes_of a) p.0.1 (sym e))
same_last (without_lf x ∷ a) (with_lf y ∷ b) f g p q e = absurd q.0
same_last (without_lf x ∷ []) (without_lf y ∷ []) f g p q e =
    ap (λ (t : List ℕ). without_lf t ∷ []) (sym (append-nil x) ∙ e ∙ append-nil y)
same_last (without_lf x ∷ x' ∷ a) (without_lf y ∷ b) f g p q e = absurd (omega (arith, f))
same_last (without_lf x ∷ []) (without_lf y ∷ y' ∷ b) f g p q e = absurd (omega (arith, g))

same_lines : (a b la lb : List InputLine) → AllByRecursion IsLine a → AllByRecursion IsLine b → length la < 2 → length lb < 2 →
    AllByRecursion IsLast la → AllByRecursion IsLast lb →
    flat_map bytes_of a ++ flat_map bytes_of la ≡ flat_map bytes_of b ++ flat_map bytes_of lb → a ++ la ≡ b ++ lb
same_lines [] [] la lb ca cb f g p q e = same_last la lb f g p q e
same_lines [] (without_lf y ∷ b) la lb ca cb f g p q e = absurd cb.0
same_lines [] (with_lf y ∷ b) la lb ca cb f g p q e =
    absurd (lf_in_last la y (flat_map bytes_of b ++ flat_map bytes_of lb) f p
    (e ∙ append_assoc (bytes_of (with_lf y)) (flat_map bytes_of b) (flat_map bytes_of lb)))
same_lines (without_lf x ∷ a) b la lb ca cb f g p q e = absurd ca.0
same_lines (with_lf x ∷ a) [] la lb ca cb f g p q e =
    absurd (lf_in_last lb x (flat_map bytes_of a ++ flat_map bytes_of la) g q
    (sym e ∙ append_assoc (bytes_of (with_lf x)) (flat_map bytes_of a) (flat_map bytes_of la)))
same_lines (with_lf x ∷ a) (without_lf y ∷ b) la lb ca cb f g p q e = absurd cb.0
same_lines (with_lf x ∷ a) (with_lf y ∷ b) la lb ca cb f g p q e =
    let left = flat_map bytes_of a ++ flat_map bytes_of la in
    let right = flat_map bytes_of b ++ flat_map bytes_of lb in
    let both = same_line x y left right ca.0 cb.0
    (sym (append_assoc (bytes_of (with_lf x)) (flat_map bytes_of a) (flat_map bytes_of la) ∙ behind_lf x left) ∙ e
    ∙ append_assoc (bytes_of (with_lf y)) (flat_map bytes_of b) (flat_map bytes_of lb) ∙ behind_lf y right) in
    let more = same_lines a b la lb ca.1 cb.1 f g p q both.1 in
    ap (λ (t : List ℕ). with_lf t ∷ (a ++ la)) both.0 ∙ ap (λ (l : List InputLine). with_lf y ∷ l) more

pub one_list : (bytes : List ℕ) → HaveOneList bytes
one_list bytes lines others h k = h.lines_are
    ∙ same_lines h.whole k.whole h.last k.last h.each k.each h.at_most_one k.at_most_one h.last_is k.last_is (sym h.is ∙ k.is)
    ∙ sym k.lines_are
