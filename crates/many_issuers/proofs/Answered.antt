-- What the stores of an office answered, each to its own part.
use Rattle.std.proofs.Common.{◌≡◌, ℕ, List, [], ◌∷◌, length, map, refl, ap, sym, ◌∙◌, subst, arith, slice_get, Some, Option, Result, Ok, Err}
use Rattle.std.proofs.Common.{All, OnOk}
use Rattle.std.specs.Prelude.{zip}
use Rattle.std.proofs.lemmas.List.{map-append}
use Rattle.std.proofs.lemmas.Option.{get_or_from_slice_get, slice_get_within}
use Rattle.ports.specs.declared.Clock as clock
use Rattle.ports.specs.declared.faults.NoMemory.{NoMemory}
use Rattle.chain_disk.specs.declared.disk.Disk as disk
use Rattle.shop_core.specs.Answer.Requests.{Asked}
use Rattle.shop_core.specs.Prefix.{IsPrefix}
use Rattle.chain_store.specs.Runs.{this_store}
use Rattle.chain_store.specs.Taking.{OwnRun}
use Rattle.chain_store.specs.declared.store.Store.{Store}
use Rattle.issuers.specs.Parts.{HasLines}
use Rattle.issuers.specs.Serving.{Served, replies_to}
use Rattle.issuers.specs.Turns.{Turn, asks_in, mine, own_turns, turn_of, turns_of}
use Rattle.issuers.specs.declared.answers.OfficeAnswer.{OfficeAnswer}
use Rattle.issuers.specs.declared.parts.Part.{Part}
use Rattle.many_issuers.specs.Served.{EachServed}

asks_back : (index : ℕ) (lines : List ℕ) (asks : List Asked) → length lines ≡ length asks →
    map (λ (t : Turn). t.ask) (map (turn_of index) (zip lines asks)) ≡ asks
asks_back index [] [] e = refl
asks_back index [] (ask ∷ asks) e = absurd (omega (arith, e))
asks_back index (line ∷ lines) [] e = absurd (omega (arith, e))
asks_back index (line ∷ lines) (ask ∷ asks) e = ap (λ (l : List Asked). ask ∷ l) (asks_back index lines asks (omega (arith, e)))

module _ {D C : Type 0} (d : disk.Ghosts D) (c : clock.Ghosts C) (parts : List Part) (before after : List (Store D C d))
    (answers : List OfficeAnswer) (all : Result (Unit {0}) NoMemory) where
  -- the asks that were made of an issuer's part are the first ones of it
  front : (s : Served d c parts before after answers all) (index : ℕ) (part : Part) → slice_get parts index ≡ Some part →
      HasLines part → IsPrefix (asks_in (mine index s.made)) part.script.asks
  front s index part is lines =
      let turns : own_turns parts index ≡ turns_of index part = rw is refl in
      record {
        rest = asks_in (s.left index);
        is = sym (asks_back index part.lines part.script.asks lines.one_each) ∙ ap asks_in (sym turns ∙ s.order.own index) ∙
            map-append (λ (t : Turn). t.ask) (mine index s.made) (s.left index);
      }

  whole_by : (r : Result (Unit {0}) NoMemory) (made : ℕ → List Asked) →
      OnOk r ((index : ℕ) (part : Part) → slice_get parts index ≡ Some part → made index ≡ part.script.asks) → (index : ℕ) (part : Part) →
      slice_get parts index ≡ Some part → OnOk r (made index ≡ part.script.asks)
  whole_by (Ok done) made h index part is = h index part is
  whole_by (Err fault) made h index part is = tt

  pub each_served : ((index : ℕ) (part : Part) → slice_get parts index ≡ Some part → HasLines part) →
      Served d c parts before after answers all → EachServed d c parts before after answers all
  each_served lines s = record {
    stores = s.stores;
    each = λ index old new part was is own going. record {
      asked = asks_in (mine index s.made);
      front = front s index part own (lines index part own);
      whole = whole_by all (λ (i : ℕ). asks_in (mine i s.made)) s.whole index part own;
      stays = s.stays index old new was is;
      answers = subst (λ (o : Option ℕ). OwnRun o (asks_in (mine index s.made)) (replies_to index answers)
          (this_store d.tells d.on_disk d.faults c.coming old new)) going (s.own index old new was is);
      read = s.read index old new was is;
      fails = s.fails index old new was is going;
      goes_on = s.goes_on index old new was is going;
    };
  }

-- no store, no answer
pub none_served : {D C : Type 0} (d : disk.Ghosts D) (c : clock.Ghosts C) (parts : List Part) (stores : List (Store D C d))
    (answers : List OfficeAnswer) (all : Result (Unit {0}) NoMemory) → stores ≡ [] → EachServed d c parts stores stores answers all
none_served {D} {C} d c parts stores answers all none = record {
  stores = refl;
  each = λ index old new part was is own going.
      let gone : slice_get [] index ≡ Some old = subst (λ (l : List (Store D C d)). slice_get l index ≡ Some old) none was in
      absurd cc;
}

pub all_at : {X : Type 0} (P : X → Type 0) (xs : List X) (k : ℕ) (x : X) → All P xs → slice_get xs k ≡ Some x → P x
all_at P xs k x all is = subst P (get_or_from_slice_get xs k x x is) (all k x (slice_get_within xs k x is))
