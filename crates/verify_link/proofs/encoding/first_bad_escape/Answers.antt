use Rattle.std.proofs.Common.{◌≡◌, ℕ, ◌<◌, ◌≤◌, List, length, false, sym, ◌∙◌, inl, inr, arith, below_more}
use Rattle.std.proofs.lemmas.Bool.{cases_order}
use Rattle.verify_link.specs.Writing.{is_bad_escape}
use Rattle.verify_link.proofs.DecodingLemmas.{none_past}
use Rattle.verify_link.proofs.encoding.first_bad_escape.Goals as goal

none_at_all : (text : List ℕ) (i : ℕ) → length text ≤ i → ((j : ℕ) → j < i → is_bad_escape text j ≡ false) → (k : ℕ) →
    is_bad_escape text k ≡ false
none_at_all text i end none k =
    elim (cases_order k i) [
      | inl same ↦ none_past text k (omega (arith, same, end))
      | inr (inl before) ↦ none k before
      | inr (inr past) ↦ none_past text k (omega (arith, past, end))
    ]

pub loop-k-preserved : goal.loop-k-preserved
loop-k-preserved c = below_more _ _ c.loop-k.invariant (sym c.is_bad_escape.ensures ∙ c.if-is_bad_escape.false)

pub returns-clause-none : goal.returns-clause-none
returns-clause-none c = none_at_all c.args.value.now c.loop-k.k c.loop-k-test.false c.loop-k.invariant
