-- A clock that was handed in, after a run by one of its own.
use Rattle.std.proofs.Common.{◌≡◌, ◌∙◌, ℕ, ◌+◌, refl, ap, sym, Option, Some, None}
use Rattle.std.specs.Prelude.{option_map}
use Rattle.chain_store.specs.Clocks.{this_clock}
use Rattle.chain_store.specs.Readings.{IsAsked, LeavesClock, readings, readings_of}
use Rattle.chain_store.specs.Replies.{Replies}
use Rattle.many_issuers.specs.OwnClock.{IsReadOn, coming_of, given_of, replaced_of}
use Rattle.many_issuers.specs.declared.own_clock.OwnClock.{OwnClock}
use Rattle.many_issuers.specs.declared.own_clock.OwnClock.TheVariants.{Given, Line}

given_replaced : {C : Type 0} (own : OwnClock C) (clock : C) → replaced_of own ≡ Some clock → given_of own ≡ clock
given_replaced (Given x) clock is = let e = is in absurd cc
given_replaced (Line own x) clock is = let e = is in cc

given_coming : {C : Type 0} (coming : C → ℕ → Option ℕ) (own : OwnClock C) (k : ℕ) → replaced_of own ≡ None →
    coming_of coming own k ≡ coming (given_of own) k
given_coming coming (Given x) k none = refl
given_coming coming (Line own x) k none = let e = none in absurd cc

module _ {C : Type 0} (coming : C → ℕ → Option ℕ) (clock after : C) (own then : OwnClock C) (given : given_of own ≡ clock)
    (back : after ≡ given_of then) where
  pub left_same : then ≡ own → after ≡ clock
  left_same same = back ∙ ap (λ (x : OwnClock C). given_of x) same ∙ given

  -- a clock line left it as it was, and it was read for the commands otherwise
  pub left_so : (line : Option (ℕ × ℕ)) (replies : Replies) → ((k : ℕ) → coming_of coming own k ≡ readings_of line (coming clock) k) →
      replaced_of own ≡ option_map (λ _. clock) line → IsReadOn own then →
      IsAsked (this_clock (coming_of coming) own then) (readings replies) → LeavesClock (this_clock coming clock after) line replies
  left_so None replies times replaced read asked = record {
    moved = λ k. ap (λ (x : C). coming x k) back ∙ sym (given_coming coming then k (read ∙ replaced)) ∙ asked.moved k ∙
        times (readings replies + k);
    untouched = λ unread. left_same (asked.untouched unread);
  }
  left_so (Some line) replies times replaced read asked = back ∙ given_replaced then clock (read ∙ replaced)
