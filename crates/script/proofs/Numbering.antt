-- The numbers of the lines that say commands.
use Rattle.std.proofs.Common.{◌≡◌, ◌∙◌, ℕ, ◌+◌, ◌≤◌, ◌<◌, List, [], ◌∷◌, ◌++◌, length, filter_map, refl, sym, ap, arith, add-zero}
use Rattle.std.proofs.Common.{Option, Some, None, is_some, cond}
use Rattle.std.specs.List.{AllByRecursion, cons_option, enumerate_from}
use Rattle.std.proofs.lemmas.List.Elements.{filter_map-append}
use Rattle.record_fields.specs.Picks.{when}
use Rattle.shop_core.specs.Answer.Requests.{Asked}
use Rattle.script.specs.Lines.{ask_in}
use Rattle.script.specs.Numbered.{Rising, command_line, command_lines}
use Rattle.script.specs.Script.{EachSays}
use Rattle.script.specs.declared.forms.Form.{Form}
use Rattle.script.specs.declared.lines.Meaning.{Meaning}

-- there is a meaning for each line
pub each_length : (form : Form) (before : List Meaning) (lines : List (List ℕ)) (meanings : List Meaning) →
    EachSays form before lines meanings → length meanings ≡ length lines
each_length form before [] [] h = refl
each_length form before [] (m ∷ meanings) h = absurd h
each_length form before (l ∷ lines) [] h = absurd h
each_length form before (l ∷ lines) (m ∷ meanings) h =
    let rest = each_length form (before ++ m ∷ []) lines meanings h.1 in omega (arith, rest)

enumerate_push : {X : Type 0} (n : ℕ) (xs : List X) (x : X) →
    enumerate_from n (xs ++ x ∷ []) ≡ enumerate_from n xs ++ (n + length xs, x) ∷ []
enumerate_push {X} n [] x = let P : ℕ → List (ℕ × X) = λ k. (k, x) ∷ [] in ap P (sym (add-zero n))
enumerate_push {X} n (y ∷ xs) x =
    let P : ℕ → List (ℕ × X) = λ k. (n, y) ∷ (enumerate_from (n + 1) xs ++ (k, x) ∷ []) in
    let same : (n + 1) + length xs ≡ n + length (y ∷ xs) = omega arith in
    ap (λ (l : List (ℕ × X)). (n, y) ∷ l) (enumerate_push (n + 1) xs x) ∙ ap P same

-- one line more
pub lines_more : (meanings : List Meaning) (meaning : Meaning) (number : ℕ) → number ≡ length meanings →
    command_lines (meanings ++ meaning ∷ []) ≡ command_lines meanings ++ filter_map command_line ((number + 1, meaning) ∷ [])
lines_more meanings meaning number is =
    let same : 1 + length meanings ≡ number + 1 = omega (arith, is) in
    let P : ℕ → List (ℕ × Meaning) = λ k. enumerate_from 1 meanings ++ (k, meaning) ∷ [] in
    ap (λ (l : List (ℕ × Meaning)). filter_map command_line l) (enumerate_push 1 meanings meaning ∙ ap P same) ∙
    filter_map-append command_line (enumerate_from 1 meanings) ((number + 1, meaning) ∷ [])

-- there is a number for each ask
pub one_each : (n : ℕ) (meanings : List Meaning) →
    length (filter_map command_line (enumerate_from n meanings)) ≡ length (filter_map ask_in meanings)
one_each n [] = refl
one_each n (m ∷ meanings) =
    by_ask (ask_in m) (filter_map command_line (enumerate_from (n + 1) meanings)) (filter_map ask_in meanings) (one_each (n + 1) meanings)
  where
    by_ask : (o : Option Asked) (numbers : List ℕ) (asks : List Asked) → length numbers ≡ length asks →
        length (cons_option (when (is_some o) n) numbers) ≡ length (cons_option o asks)
    by_ask None numbers asks e = e
    by_ask (Some ask) numbers asks e = omega (arith, e)

each_weaker : {A : Type 0} (P R : A → Type 0) (xs : List A) → ((x : A) → P x → R x) → AllByRecursion P xs → AllByRecursion R xs
each_weaker P R [] f p = tt
each_weaker P R (x ∷ xs) f p = (f x p.0, each_weaker P R xs f p.1)

numbers_rise : (n : ℕ) (meanings : List Meaning) →
    AllByRecursion (λ (k : ℕ). n ≤ k) (filter_map command_line (enumerate_from n meanings))
    × Rising (filter_map command_line (enumerate_from n meanings))
numbers_rise n [] = (tt, tt)
numbers_rise n (m ∷ meanings) =
    let rest = numbers_rise (n + 1) meanings in
    by_ask (ask_in m) (filter_map command_line (enumerate_from (n + 1) meanings)) rest.0 rest.1
  where
    by_ask : (o : Option Asked) (xs : List ℕ) → AllByRecursion (λ (k : ℕ). n + 1 ≤ k) xs → Rising xs →
        AllByRecursion (λ (k : ℕ). n ≤ k) (cons_option (when (is_some o) n) xs) × Rising (cons_option (when (is_some o) n) xs)
    by_ask (Some ask) xs low rising = (
      (omega arith, each_weaker (λ (k : ℕ). n + 1 ≤ k) (λ (k : ℕ). n ≤ k) xs (λ k h. omega (arith, h)) low),
      (each_weaker (λ (k : ℕ). n + 1 ≤ k) (λ (k : ℕ). n < k) xs (λ k h. omega (arith, h)) low, rising),
    )
    by_ask None xs low rising = (each_weaker (λ (k : ℕ). n + 1 ≤ k) (λ (k : ℕ). n ≤ k) xs (λ k h. omega (arith, h)) low, rising)

pub rise : (meanings : List Meaning) → Rising (command_lines meanings)
rise meanings = (numbers_rise 1 meanings).1
