use Rattle.std.proofs.Common.{◌≡◌, ◌∙◌, ◌++◌, ◌∷◌, ◌+◌, [], List, ℕ, ap, sym, rules, arith, length}
use Rattle.std.specs.List.{range_with_len}
use Rattle.std.proofs.lemmas.List.FromFn.{length-range_with_len}
use Rattle.dialogue_loop.proofs.Lists.{range_more}
use Rattle.dialogue_loop.proofs.held.all_numbers.Goals as goal

pub push_reserved-requires : goal.push_reserved-requires
push_reserved-requires c =
    let e = ap (λ (l : List ℕ). length l) c.loop-before.invariant.items in
    let f = length-range_with_len 1 c.loop-before.before in
    search rules

pub loop-before-preserved : goal.loop-before-preserved
loop-before-preserved c = record {
  items = c.push_reserved.ensures.items ∙ ap (λ (l : List ℕ). l ++ (c.loop-before.before + 1) ∷ []) c.loop-before.invariant.items ∙
      ap (λ (n : ℕ). range_with_len 1 c.loop-before.before ++ n ∷ []) (let e : c.loop-before.before + 1 ≡ 1 + c.loop-before.before = omega arith in e) ∙
      sym (range_more 1 c.loop-before.before);
  room = search rules;
}

pub returns : goal.returns
returns c = c.loop-before.invariant.items ∙ ap (λ (n : ℕ). range_with_len 1 n)
    (let e = c.loop-before-test.false in let f = c.loop-before.auto.before-end in let g : c.loop-before.before ≡ 64 =
    omega (arith, e, f) in g)
