use Rattle.std.proofs.Common.{◌≡◌, ◌∙◌, ◌-◌, ◌≤◌, ℕ, List, inl, inr, sym, ap, take, length, arith}
use Rattle.std.proofs.lemmas.Bool.{cases_lt}
use Rattle.std.proofs.lemmas.List.{take_all}
use Rattle.agency_rules.proofs.pairs.Pairs.truncate.Goals as goal

cut_down : {A : Type 0} (xs ys : List A) (cut count : ℕ) → ys ≡ take (length xs - (cut - count)) xs →
    (length xs ≤ count → ys ≡ xs) →
    length xs ≤ cut → (count ≤ length xs → cut ≤ length xs) → ys ≡ take count xs
cut_down xs ys cut count front whole far near = elim (cases_lt count (length xs)) [
  | inl fewer ↦
      let at : cut ≤ length xs = near (omega arith) in
      let n : length xs - (cut - count) ≡ count = omega arith in
      front ∙ ap (λ (i : ℕ). take i xs) n
  | inr more ↦ whole more ∙ sym (take_all count xs more)
]

pub returns : goal.returns
returns c = cut_down c.args.self.now c.loop-cut.self c.loop-cut._cut c.args.count c.loop-cut.invariant.front
    c.loop-cut.invariant.whole
    (omega (arith, c.loop-cut-test.false, c.len-cut-end.ensures))
    (λ few. omega (arith, c.loop-cut.auto._cut-end (omega (arith, few, c.len-cut-end.ensures)), c.len-cut-end.ensures))
