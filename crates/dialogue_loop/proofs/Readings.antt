-- The clock that is read for a dialogue's commands, one command further.
use Rattle.std.proofs.Common.{◌≡◌, ◌∙◌, ℕ, ◌+◌, List, [], ◌∷◌, ◌++◌, refl, ap, sym, subst, arith, cond, true, Option, Some, Result, Ok, Err}
use Rattle.std.proofs.lemmas.List.Sums.{sum_by-append, sum_by-cons}
use Rattle.chain_lock.specs.Known.{Known}
use Rattle.chain_store.specs.Readings.{has_read, readings}
use Rattle.chain_store.specs.Replies.{IsGoingOn, Replies}
use Rattle.journal.specs.declared.faults.StoreFault.{StoreFault}
use Rattle.journal.specs.declared.faults.StoreFault.TheVariants as fault
use Rattle.ports.specs.Readings.{IsTold, MovedBy}
use Rattle.shop_core.specs.Answer.Requests.{Asked}
use Rattle.shop_core.specs.declared.answer.Reply.{Reply}
use Rattle.shop_core.specs.declared.items.Item.{Item}
use Rattle.till_calls.specs.Root.{Root}
use Rattle.till_calls.specs.Shop.{Asks}
use Rattle.till_calls.specs.Sound.{IsLater}
use Rattle.till_calls.specs.Turns.{IsReading, TillDoes}

-- the next reading is that of the number of readings so far
pub told_next : (coming old : ℕ → Option ℕ) (n seconds : ℕ) → MovedBy n coming old → IsTold (old 0) seconds → IsTold (coming n) seconds
told_next coming old n seconds moved told =
    let e : n + 0 ≡ n = omega arith in
    subst (λ (o : Option ℕ). IsTold o seconds) (moved 0 ∙ ap coming e) told

moved_more : (coming old new : ℕ → Option ℕ) (n : ℕ) → MovedBy n coming old → MovedBy 1 old new → MovedBy (n + 1) coming new
moved_more coming old new n h m = λ k. m k ∙ h (1 + k) ∙ ap coming (let e : n + (1 + k) ≡ n + 1 + k = omega arith in e)

reads_once : (told : Result Reply StoreFault) → IsGoingOn told → has_read told ≡ true
reads_once (Ok reply) h = refl
reads_once (Err fault.NoMemory) h = refl
reads_once (Err fault.DiskFault) h = absurd h
reads_once (Err (fault.Stopped count)) h = absurd h

-- a reply that goes on was one reading more
pub moved_on : (coming old new : ℕ → Option ℕ) (replies : Replies) (told : Result Reply StoreFault) → IsGoingOn told →
    MovedBy (readings replies) coming old → MovedBy 1 old new → MovedBy (readings (replies ++ told ∷ [])) coming new
moved_on coming old new replies told goes h m =
    let one : readings (told ∷ []) ≡ 1 = sum_by-cons (λ (r : Result Reply StoreFault). cond (has_read r) 1 0) told [] ∙
    ap (λ (b : _). cond b 1 0 + 0) (reads_once told goes) in
    let both = sum_by-append (λ (r : Result Reply StoreFault). cond (has_read r) 1 0) replies (told ∷ []) in
    let e : readings replies + 1 ≡ readings (replies ++ told ∷ []) = omega (arith, one, both) in
    subst (λ (n : ℕ). MovedBy n coming new) e (moved_more coming old new (readings replies) h m)

-- a clock after readings, and after more of them
pub later_unread : {C : Type 0} (coming : C → ℕ → Option ℕ) (old new : C) → new ≡ old → IsLater coming old new
later_unread {C} coming old new same = subst (λ (c : C). IsLater coming old c) (sym same)
    (record { number = 0; moved = λ k. ap (coming old) (let e : k ≡ 0 + k = omega arith in e) })

pub later_both : {C : Type 0} (coming : C → ℕ → Option ℕ) (old mid new : C) → IsLater coming old mid → IsLater coming mid new →
    IsLater coming old new
later_both coming old mid new h k = record {
  number = h.number + k.number;
  moved = λ n. k.moved n ∙ h.moved (k.number + n) ∙
      ap (coming old) (let e : h.number + (k.number + n) ≡ h.number + k.number + n = omega arith in e);
}

module _ {C : Type 0} (coming : ℕ → Option ℕ) (number seconds : ℕ) (told : IsTold (coming number) seconds) where
  does_by : (ask : Asked) (reply : Result Reply StoreFault) (root : Root C) (before after : List Item) →
      TillDoes (λ c k. Some seconds) ask reply root before after → TillDoes (λ c. coming) ask reply root before after
  does_by ask (Ok reply) root before after d = record {
    history = d.history;
    going_on = d.going_on;
    seconds = d.seconds;
    reading = record { number = number; told = subst (λ (s : ℕ). IsTold (coming number) s) (sym d.reading.told) told };
    gained = d.gained;
    tells = d.tells;
    after_is = d.after_is;
  }
  does_by ask (Err fault.DiskFault) root before after d = record {
    history = d.history;
    going_on = d.going_on;
    seconds = d.seconds;
    reading = record { number = number; told = subst (λ (s : ℕ). IsTold (coming number) s) (sym d.reading.told) told };
    torn = d.torn;
    made = d.made;
    count = d.count;
    rose = d.rose;
    after_is = d.after_is;
  }
  does_by ask (Err (fault.Stopped count)) root before after d = d
  does_by ask (Err fault.NoMemory) root before after d = d

  -- an ask at the reading of this number is one at a coming reading
  pub asked_by : (ask : Asked) (reply : Result Reply StoreFault) (old new : Known Item (Root C)) →
      Asks (λ c k. Some seconds) ask reply old new → Asks (λ c. coming) ask reply old new
  asked_by ask reply old new t = record {
    before = t.before;
    added = t.added;
    home = t.home;
    root = t.root;
    begins = t.begins;
    at_least = t.at_least;
    at_most_one = t.at_most_one;
    related = record {
      list = t.related.list;
      does = does_by ask reply t.home t.before (t.before ++ t.added) t.related.does;
    };
    after = t.after;
  }
