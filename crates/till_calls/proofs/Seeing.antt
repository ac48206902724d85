-- What a till sees between its asks, its asks, and the list at the end.
use Rattle.std.proofs.Common.{◌≡◌, ◌≤◌, ◌∙◌, ℕ, List, length, All, ap, subst, arith, Option, Some, Result, slice_get}
use Rattle.chain_lock.specs.Known.{Known, Fits}
use Rattle.chain_lock.specs.Lists.{StartsWith}
use Rattle.journal.specs.declared.faults.StoreFault.{StoreFault}
use Rattle.shop_core.specs.Answer.Requests.{Asked}
use Rattle.shop_core.specs.declared.answer.Reply.{Reply}
use Rattle.shop_core.specs.declared.items.Item.{Item}
use Rattle.till_calls.specs.Root.{Root}
use Rattle.till_calls.specs.Seen.{SeesOn}
use Rattle.till_calls.specs.Shop.{Asks}
use Rattle.till_calls.proofs.Telling.{trans}

module _ {C : Type 0} where
  pub sees_twice : (old mid new : Known Item (Root C)) → SeesOn old mid → SeesOn mid new → SeesOn old new
  sees_twice old mid new s t = record {
    begins = trans new.seen mid.seen old.seen t.begins s.begins;
    at_least = (let a = s.at_least in let b = t.at_least in omega (arith, a, b));
    same = t.same ∙ ap (λ (k : Known Item (Root C)). record k { seen = new.seen; least = new.least }) s.same;
  }

  -- an ask of a till that has seen these items and knows of this many
  from_seen : (coming : C → ℕ → Option ℕ) (ask : Asked) (reply : Result Reply StoreFault) (old new : Known Item (Root C))
      (seen : List Item) (least : ℕ) → StartsWith seen old.seen → old.least ≤ least →
      Asks coming ask reply (record old { seen = seen; least = least }) new → Asks coming ask reply old new
  from_seen coming ask reply old new seen least begins more t = record {
    before = t.before;
    added = t.added;
    home = t.home;
    root = t.root;
    begins = trans t.before seen old.seen t.begins begins;
    at_least = (let a : least ≤ length t.before = t.at_least in omega (arith, a, more));
    at_most_one = t.at_most_one;
    related = t.related;
    after = t.after;
  }

  pub asks_from_before : (coming : C → ℕ → Option ℕ) (ask : Asked) (reply : Result Reply StoreFault)
      (old mid new : Known Item (Root C)) → SeesOn old mid → Asks coming ask reply mid new → Asks coming ask reply old new
  asks_from_before coming ask reply old mid new s t =
      from_seen coming ask reply old new mid.seen mid.least s.begins s.at_least
      (subst (λ (k : Known Item (Root C)). Asks coming ask reply k new) s.same t)

  pub fits_before : (log : List Item) (old new : Known Item (Root C)) → SeesOn old new → Fits log new → Fits log old
  fits_before log old new s f = record {
    begins = trans log new.seen old.seen f.begins s.begins;
    at_least = (let a = s.at_least in let b = f.at_least in omega (arith, a, b));
    own = subst (λ (o : List (ℕ × Item)). All (λ (x : ℕ × Item). slice_get log x.0 ≡ Some x.1) o)
        (ap (λ (k : Known Item (Root C)). k.own) s.same) f.own;
  }
