-- An office's answers, ask by ask.
use Rattle.std.proofs.Common.{◌≡◌, ℕ, zero, suc, ◌+◌, ◌<◌, List, [], ◌∷◌, ◌++◌, length, map, filter, refl, ap, sym, ◌∙◌, subst, arith, inl, inr}
use Rattle.std.proofs.Common.{◌⊎◌, slice_get, Some, All, Result, Ok, Err, OnOk, eqb}
use Rattle.std.specs.Prelude.{slice_index, slice_set}
use Rattle.std.specs.List.{AllByRecursion}
use Rattle.std.proofs.lemmas.Bool.{cases_eq, eq-eqb, ne_eqb}
use Rattle.std.proofs.lemmas.List.{append-nil, length-set, map_push}
use Rattle.std.proofs.lemmas.List.Elements.{filter-append}
use Rattle.std.proofs.lemmas.Option.{get_or_from_slice_get, slice_get_within}
use Rattle.ports.specs.declared.Clock as clock
use Rattle.ports.specs.declared.faults.NoMemory.{NoMemory}
use Rattle.chain_disk.specs.declared.disk.Disk as disk
use Rattle.journal.specs.declared.faults.StoreFault.{StoreFault}
use Rattle.shop_core.specs.Answer.Requests.{Asked}
use Rattle.shop_core.specs.declared.answer.Reply.{Reply}
use Rattle.chain_store.specs.declared.store.Store.{Store}
use Rattle.chain_store.specs.Replies.{Replies}
use Rattle.chain_store.specs.Taking.{Along}
use Rattle.issuers.specs.Office.{TookAt}
use Rattle.issuers.specs.Parts.{HasLines}
use Rattle.issuers.specs.Serving.{ComesTo, NoneLeft, Served, Serving, answers_whom, asks_whom, replies_to}
use Rattle.issuers.specs.Turns.{Turn, asks_in, mine}
use Rattle.issuers.specs.declared.answers.OfficeAnswer.{OfficeAnswer}
use Rattle.issuers.specs.declared.parts.Part.{Part}
use Rattle.issuers.proofs.Orders.{NextTurn, all_asked, front_begins, front_more, left_at, mine_push, mine_other}

pub all_at : {X : Type 0} (P : X → Type 0) (xs : List X) (k : ℕ) (x : X) → All P xs → slice_get xs k ≡ Some x → P x
all_at P xs k x all is = subst P (get_or_from_slice_get xs k x x is) (all k x (slice_get_within xs k x is))

get_set_same : {X : Type 0} (xs : List X) (i : ℕ) (x : X) → i < length xs → slice_get (slice_set xs i x) i ≡ Some x
get_set_same [] i x within = absurd (omega (arith, within))
get_set_same (y ∷ xs) zero x within = refl
get_set_same (y ∷ xs) (suc i) x within = get_set_same xs i x (omega (arith, within))

get_set_other : {X : Type 0} (xs : List X) (i k : ℕ) (x : X) → (k ≡ i → ⊥) → slice_get (slice_set xs i x) k ≡ slice_get xs k
get_set_other [] i k x apart = refl
get_set_other (y ∷ xs) zero zero x apart = absurd (apart refl)
get_set_other (y ∷ xs) zero (suc k) x apart = refl
get_set_other (y ∷ xs) (suc i) zero x apart = refl
get_set_other (y ∷ xs) (suc i) (suc k) x apart = get_set_other xs i k x (λ same. apart (ap (λ (n : ℕ). suc n) same))

replies_push : (index : ℕ) (answers : List OfficeAnswer) (a : OfficeAnswer) → a.index ≡ index →
    replies_to index (answers ++ a ∷ []) ≡ replies_to index answers ++ a.reply ∷ []
replies_push index answers a is =
    let one : filter (λ (a : OfficeAnswer). eqb a.index index) (a ∷ []) ≡ a ∷ [] = rw (eq-eqb a.index index is) refl in
    ap (λ (l : List OfficeAnswer). map (λ (a : OfficeAnswer). a.reply) l)
    (filter-append (λ (a : OfficeAnswer). eqb a.index index) answers (a ∷ []) ∙
    ap (λ (r : List OfficeAnswer). filter (λ (a : OfficeAnswer). eqb a.index index) answers ++ r) one) ∙
    map_push (λ (a : OfficeAnswer). a.reply) (filter (λ (a : OfficeAnswer). eqb a.index index) answers) a

replies_other : (index : ℕ) (answers : List OfficeAnswer) (a : OfficeAnswer) → (a.index ≡ index → ⊥) →
    replies_to index (answers ++ a ∷ []) ≡ replies_to index answers
replies_other index answers a isnt =
    let one : filter (λ (a : OfficeAnswer). eqb a.index index) (a ∷ []) ≡ [] = rw (ne_eqb a.index index isnt) refl in
    ap (λ (l : List OfficeAnswer). map (λ (a : OfficeAnswer). a.reply) l)
    (filter-append (λ (a : OfficeAnswer). eqb a.index index) answers (a ∷ []) ∙
    ap (λ (r : List OfficeAnswer). filter (λ (a : OfficeAnswer). eqb a.index index) answers ++ r) one ∙
    append-nil (filter (λ (a : OfficeAnswer). eqb a.index index) answers))

asks_push : (index : ℕ) (made : List Turn) (t : Turn) → t.index ≡ index →
    asks_in (mine index (made ++ t ∷ [])) ≡ asks_in (mine index made) ++ t.ask ∷ []
asks_push index made t is = ap asks_in (mine_push index made t is) ∙ map_push (λ (t : Turn). t.ask) (mine index made) t

asks_other : (index : ℕ) (made : List Turn) (t : Turn) → (t.index ≡ index → ⊥) →
    asks_in (mine index (made ++ t ∷ [])) ≡ asks_in (mine index made)
asks_other index made t isnt = ap asks_in (mine_other index made t isnt)

module _ {D C : Type 0} (d : disk.Ghosts D) (c : clock.Ghosts C) (parts : List Part) where
  pub serving_begins : (stores : List (Store D C d)) (places : List ℕ) → ((index : ℕ) → slice_index places index ≡ 0) →
      All (λ store. Along d c store store [] []) stores → Serving d c parts stores stores places []
  serving_begins stores places zeros begin = record {
    made = [];
    order = front_begins parts places zeros;
    whom = refl;
    stores = refl;
    own = λ index old new was is.
        let same : old ≡ new = (let e = sym was ∙ is in cc) in
        subst (λ (s : Store D C d). Along d c old s [] []) same
        (all_at (λ (store : Store D C d). Along d c store store [] []) stores index old begin was);
  }

  module _ (before stores after : List (Store D C d)) (places : List ℕ) (answers : List OfficeAnswer) (index line : ℕ)
      (ask : Asked) (reply : Result Reply StoreFault) where
    abbrev turn : Turn
    turn = record { line = line; index = index; ask = ask }

    abbrev told : OfficeAnswer
    told = record { index = index; till = ask.till; serial = ask.serial; reply = reply }

    pub serving_more : NextTurn parts places index turn → ((other : ℕ) (part : Part) → slice_get parts other ≡ Some part → HasLines part)
        → TookAt d c stores after index ask reply → Serving d c parts before stores places answers →
        Serving d c parts before after (slice_set places index (slice_index places index + 1)) (answers ++ told ∷ [])
    serving_more n lines t s = record {
      made = s.made ++ turn ∷ [];
      order = front_more parts places s.made index turn lines n s.order;
      whom = map_push answers_whom answers told ∙ ap (λ (l : List (ℕ × ℕ × ℕ)). l ++ asks_whom turn ∷ []) s.whom ∙
          sym (map_push asks_whom s.made turn);
      stores = ap length t.changed ∙ length-set stores index t.new ∙ s.stores;
      own = λ k old new was is. own_by k old new was is (cases_eq k index);
    }
      where
        own_by : (k : ℕ) (old new : Store D C d) → slice_get before k ≡ Some old → slice_get after k ≡ Some new →
            (k ≡ index) ⊎ (k ≡ index → ⊥) →
            Along d c old new (asks_in (mine k (s.made ++ turn ∷ []))) (replies_to k (answers ++ told ∷ []))
        own_by k old new was is (inl same) =
            let there : slice_get stores k ≡ Some t.old = ap (λ (n : ℕ). slice_get stores n) same ∙ t.there in
            let now : slice_get after k ≡ Some t.new = ap (λ (l : List (Store D C d)). slice_get l k) t.changed ∙
            ap (λ (n : ℕ). slice_get (slice_set stores index t.new) n) same ∙
            get_set_same stores index t.new (slice_get_within stores index t.old t.there) in
            let one : t.new ≡ new = (let e = sym now ∙ is in cc) in
            let next = t.along old (asks_in (mine k s.made)) (replies_to k answers) (s.own k old t.old was there) in
            subst (λ (u : Store D C d). Along d c old u (asks_in (mine k (s.made ++ turn ∷ []))) (replies_to k (answers ++ told ∷ [])))
            one
            (subst (λ (rs : Replies). Along d c old t.new (asks_in (mine k (s.made ++ turn ∷ []))) rs)
            (sym (replies_push k answers told (sym same)))
            (subst (λ (qs : List Asked). Along d c old t.new qs (replies_to k answers ++ reply ∷ []))
            (sym (asks_push k s.made turn (sym same))) next))
        own_by k old new was is (inr apart) =
            let there : slice_get stores k ≡ Some new = sym (get_set_other stores index k t.new apart) ∙
            ap (λ (l : List (Store D C d)). slice_get l k) (sym t.changed) ∙ is in
            subst (λ (rs : Replies). Along d c old new (asks_in (mine k (s.made ++ turn ∷ []))) rs)
            (sym (replies_other k answers told (λ e. apart (sym e))))
            (subst (λ (qs : List Asked). Along d c old new qs (replies_to k answers))
            (sym (asks_other k s.made turn (λ e. apart (sym e)))) (s.own k old new was there))

  pub serving_ends : (before after : List (Store D C d)) (places : List ℕ) (answers : List OfficeAnswer)
      (result : Result (Unit {0}) NoMemory) → ((other : ℕ) (part : Part) → slice_get parts other ≡ Some part → HasLines part) →
      Serving d c parts before after places answers → OnOk result (NoneLeft parts places) → All (ComesTo d c) after →
      Served d c parts before after answers result
  serving_ends before after places answers result lines s none ends = record {
    made = s.made;
    left = left_at parts places;
    order = s.order;
    none_left = none;
    whole = whole_by result none;
    whom = s.whom;
    stores = s.stores;
    own = λ index old new was is. let comes = all_at (ComesTo d c) after index new ends is in
        comes.own old (asks_in (mine index s.made)) (replies_to index answers) (s.own index old new was is);
    fails = λ index old new was is going. let comes = all_at (ComesTo d c) after index new ends is in
        comes.fails old (asks_in (mine index s.made)) (replies_to index answers) (s.own index old new was is) going;
    stays = λ index old new was is. let comes = all_at (ComesTo d c) after index new ends is in
        comes.stays old (asks_in (mine index s.made)) (replies_to index answers) (s.own index old new was is);
    read = λ index old new was is. (s.own index old new was is).read;
    goes_on = λ index old new was is going all. let comes = all_at (ComesTo d c) after index new ends is in
        comes.goes_on old (asks_in (mine index s.made)) (replies_to index answers) (s.own index old new was is) going all;
  }
    where
      whole_by : (r : Result (Unit {0}) NoMemory) → OnOk r (NoneLeft parts places) →
          OnOk r ((index : ℕ) (part : Part) → slice_get parts index ≡ Some part → asks_in (mine index s.made) ≡ part.script.asks)
      whole_by (Ok done) left = λ index part is. all_asked parts s.made (left_at parts places) index part s.order (left index) is
          (lines index part is)
      whole_by (Err fault) left = tt

-- a list of zeros, at every place
pub all_zero : (xs : List ℕ) (index : ℕ) → AllByRecursion (λ (n : ℕ). n ≡ 0) xs → slice_index xs index ≡ 0
all_zero [] index h = refl
all_zero (x ∷ xs) zero h = h.0
all_zero (x ∷ xs) (suc index) h = all_zero xs index h.1
