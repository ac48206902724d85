-- A run of a till, read off the shop's list at the end.
use Rattle.std.proofs.Common.{◌≡◌, ℕ, ◌≤◌, Bool, true, false, List, [], ◌∷◌, ◌++◌, length, map, Option, Some, Result, Ok, Err}
use Rattle.std.proofs.Common.{refl, ap, sym, ◌∙◌, subst, arith, append_assoc}
use Rattle.std.proofs.lemmas.List.{length-append, length-map}
use Rattle.chain_lock.specs.Known.{Known}
use Rattle.chain_lock.specs.Lists.{StartsWith}
use Rattle.journal.specs.declared.faults.StoreFault.{StoreFault}
use Rattle.journal.specs.declared.faults.StoreFault.TheVariants.{DiskFault, Stopped, NoMemory}
use Rattle.record_codec.specs.declared.entry.Entry.{Entry}
use Rattle.shop_core.specs.Answer.Requests.{Asked}
use Rattle.shop_core.specs.declared.items.Item.{Item}
use Rattle.shop_core.specs.declared.items.Item.TheVariants as item
use Rattle.shop_core.specs.declared.answer.Reply.{Reply}
use Rattle.till_calls.specs.Root.{Root}
use Rattle.till_calls.specs.Client.{TillRun, TillTold}
use Rattle.till_calls.specs.Client.TillRun.{begun, asked}
use Rattle.till_calls.specs.Client.TillTold.{unasked, answered, torn, stopped, without_memory}
use Rattle.till_calls.specs.Shop.{Asks}
use Rattle.till_calls.specs.Turns.{TillDoes}

-- a stop stands in the list
pub record HasStop (items : List Item) : Type 0 where
  pub front : List Item
  pub rest : List Item
  pub count : ℕ
  pub entry_torn : Entry
  pub is : items ≡ front ++ item.Stop count entry_torn ∷ rest

no_stop : (h : List Entry) (front rest : List Item) (count : ℕ) (e : Entry) → map item.Entry h ≡ front ++ item.Stop count e ∷ rest
    → ⊥
no_stop [] [] rest count e is = absurd (let x = is in cc)
no_stop [] (y ∷ ys) rest count e is = absurd (let x = is in cc)
no_stop (a ∷ h) [] rest count e is = absurd (let x = is in cc)
no_stop (a ∷ h) (y ∷ ys) rest count e is = no_stop h ys rest count e (let x = is in cc)

stop_stays : (seen items : List Item) → StartsWith items seen → HasStop seen → HasStop items
stop_stays seen items starts s = record {
  front = s.front;
  rest = s.rest ++ starts.0;
  count = s.count;
  entry_torn = s.entry_torn;
  is = starts.1 ∙ ap (λ (l : List Item). l ++ starts.0) s.is ∙ append_assoc s.front (item.Stop s.count s.entry_torn ∷ s.rest)
      starts.0;
}

pub trans : (a b c : List Item) → StartsWith a b → StartsWith b c → StartsWith a c
trans a b c p q = (q.0 ++ p.0, p.1 ∙ ap (λ (l : List Item). l ++ p.0) q.1 ∙ append_assoc c q.0 p.0)

no_shorter : (a b : List Item) → StartsWith a b → length b ≤ length a
no_shorter a b p = let e = ap (λ (l : List Item). length l) p.1 in let f = length-append b p.0 in omega (arith, e, f)

module _ {C : Type 0} (coming : C → ℕ → Option ℕ) (root : Root C) (log : List Item) (start : ℕ) where
  -- how far the till has been told
  pub record Sofar (asks : List Asked) (replies : List (Result Reply StoreFault)) (k : Known Item (Root C)) : Type 0 where
    pub seen : ℕ
    pub told : Bool
    pub run : TillTold coming root log start asks replies seen told
    pub within : seen ≤ length k.seen
    pub home : k.root ≡ Some root
    pub stop_seen : told ≡ true → HasStop k.seen

  module _ (asks : List Asked) (replies : List (Result Reply StoreFault)) (ask : Asked) (old : Known Item (Root C))
      (before more : List Item) (starts : StartsWith before old.seen) (whole : StartsWith log (before ++ more)) where
    abbrev after : Known Item (Root C)
    after = record old { seen = before ++ more }

    grows : length old.seen ≤ length (before ++ more)
    grows = let a = no_shorter before old.seen starts in let b = length-append before more in omega (arith, a, b)

    going : (s : Sofar asks replies old) (history : List Entry) → before ≡ map item.Entry history → s.told ≡ false
    going s history is = by_mark s.told refl
      where
        by_mark : (b : Bool) → s.told ≡ b → s.told ≡ false
        by_mark false e = e
        by_mark true e = absurd (let h = stop_stays old.seen before starts (s.stop_seen e) in
            no_stop history h.front h.rest h.count h.entry_torn (sym is ∙ h.is))

    step : (reply : Result Reply StoreFault) → Sofar asks replies old → TillDoes coming ask reply root before (before ++ more) →
        Sofar (asks ++ ask ∷ []) (replies ++ reply ∷ []) after
    step (Ok reply) s a =
        let run : TillTold coming root log start asks replies s.seen false = subst (λ (b : Bool). TillTold coming root log start
        asks replies s.seen b) (going s a.history a.going_on) s.run in
        let sizes : length before ≡ length a.history = ap (λ (l : List Item). length l) a.going_on ∙ length-map a.history
        (λ (e : Entry). item.Entry e) in
        let long = no_shorter before old.seen starts in
        let all : length (before ++ more) ≡ length (a.history ++ a.gained) = ap (λ (l : List Item). length l) a.after_is ∙
        length-map (a.history ++ a.gained) (λ (e : Entry). item.Entry e) in
        record {
          seen = length (a.history ++ a.gained);
          told = false;
          run = answered asks replies s.seen ask reply a.history a.gained a.seconds run (omega (arith, s.within, long, sizes))
              (subst (λ (l : List Item). StartsWith log l) a.after_is whole) a.reading a.tells;
          within = omega (arith, all);
          home = s.home;
          stop_seen = λ e. absurd (let x = e in cc);
        }
    step (Err DiskFault) s t = record {
      seen = s.seen;
      told = true;
      run = torn asks replies s.seen ask (subst (λ (b : Bool). TillTold coming root log start asks replies s.seen b)
          (going s t.history t.going_on) s.run);
      within = omega (arith, s.within, grows);
      home = s.home;
      stop_seen = λ e. record {
        front = map (λ x. item.Entry x) t.history;
        rest = [];
        count = t.count;
        entry_torn = t.torn;
        is = t.after_is;
      };
    }
    step (Err (Stopped count)) s t = record {
      seen = s.seen;
      told = true;
      run = stopped asks replies s.seen s.told ask count s.run;
      within = omega (arith, s.within, grows);
      home = s.home;
      stop_seen = λ e. stop_stays before (before ++ more) (more, refl) (record {
        front = map (λ x. item.Entry x) t.1.history;
        rest = [];
        count = count;
        entry_torn = t.1.torn;
        is = t.1.items_are;
      });
    }
    step (Err NoMemory) s e = record {
      seen = s.seen;
      told = false;
      run = without_memory asks replies s.seen ask (subst (λ (b : Bool). TillTold coming root log start asks replies s.seen b)
          (going s e.1.history e.1.entries) s.run);
      within = omega (arith, s.within, grows);
      home = s.home;
      stop_seen = λ x. absurd (let y = x in cc);
    }

  one_more : (asks : List Asked) (replies : List (Result Reply StoreFault)) (ask : Asked) (reply : Result Reply StoreFault)
      (old new : Known Item (Root C)) → Asks coming ask reply old new → StartsWith log new.seen →
      Sofar asks replies old → Sofar (asks ++ ask ∷ []) (replies ++ reply ∷ []) new
  one_more asks replies ask reply old new t whole s =
      let same : Some root ≡ Some t.home = sym s.home ∙ t.root in
      let is : t.home ≡ root = (let e = same in cc) in
      let seen : new.seen ≡ t.before ++ t.added = ap (λ (k : Known Item (Root C)). k.seen) t.after in
      let whole' : StartsWith log (t.before ++ t.added) = subst (λ (l : List Item). StartsWith log l) seen whole in
      let does : TillDoes coming ask reply root t.before (t.before ++ t.added) = subst (λ (r : Root C). TillDoes coming ask reply
      r t.before (t.before ++ t.added)) is t.related.does in
      let next = step asks replies ask old t.before t.added t.begins whole' reply s does in
      record {
        seen = next.seen;
        told = next.told;
        run = next.run;
        within = subst (λ (l : List Item). next.seen ≤ length l) (sym seen) next.within;
        home = ap (λ (k : Known Item (Root C)). k.root) t.after ∙ s.home;
        stop_seen = λ e. subst (λ (l : List Item). HasStop l) (sym seen) (next.stop_seen e);
      }

  seen_before : (ask : Asked) (reply : Result Reply StoreFault) (old new : Known Item (Root C)) → Asks coming ask reply old new →
      StartsWith log new.seen → StartsWith log old.seen
  seen_before ask reply old new t whole =
      trans log new.seen old.seen whole (subst (λ (l : List Item). StartsWith l old.seen)
      (sym (ap (λ (k : Known Item (Root C)). k.seen) t.after)) (trans (t.before ++ t.added) t.before old.seen (t.added, refl)
      t.begins))

  pub tells_run : (old new : Known Item (Root C)) (asks : List Asked) (replies : List (Result Reply StoreFault)) →
      start ≤ length old.seen → old.root ≡ Some root → StartsWith log new.seen → TillRun coming old asks replies new →
      Sofar asks replies new
  tells_run old new asks replies low home whole begun = record {
    seen = start;
    told = false;
    run = unasked;
    within = low;
    home = home;
    stop_seen = λ e. absurd (let x = e in cc);
  }
  tells_run old new asks' replies' low home whole (asked asks replies mid _ ask reply run this) =
      one_more asks replies ask reply mid new this whole (tells_run old mid asks replies low home (seen_before ask reply mid new
      this whole) run)

  -- what a till was told, of the list at the end
  pub told_at_end : (old new : Known Item (Root C)) (asks : List Asked) (replies : List (Result Reply StoreFault)) →
      start ≤ length old.seen → old.root ≡ Some root → StartsWith log new.seen → TillRun coming old asks replies new →
      (seen : ℕ) × (told : Bool) × TillTold coming root log start asks replies seen told
  told_at_end old new asks replies low home whole run = let s = tells_run old new asks replies low home whole run in
      (s.seen, s.told, s.run)
