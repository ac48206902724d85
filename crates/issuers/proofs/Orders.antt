-- The order of turns goes on by the one that is next.
use Rattle.std.proofs.Common.{◌≡◌, inl, inr, ◌⊎◌, ℕ, zero, suc, ◌+◌, ◌<◌, ◌≤◌, List, [], ◌∷◌, ◌++◌, length, map, zip, filter, drop}
use Rattle.std.proofs.Common.{slice_get, refl, ap, sym, ◌∙◌, subst, arith, add-one, append_assoc, Some, None, Option}
use Rattle.std.proofs.Common.{eqb}
use Rattle.std.specs.Prelude.{slice_index, slice_set}
use Rattle.std.specs.List.{AllByRecursion}
use Rattle.std.specs.Option.{option_map_or}
use Rattle.std.proofs.lemmas.Bool.{cases_eq, eq-eqb, ne_eqb}
use Rattle.std.proofs.lemmas.List.{append-nil, get_or-set_same, get_or-set_other}
use Rattle.std.proofs.lemmas.List.Elements.{filter-append}
use Rattle.shop_core.specs.Answer.Requests.{Asked}
use Rattle.issuers.specs.Next.{HeadIs}
use Rattle.issuers.specs.Parts.{HasLines}
use Rattle.script.specs.Numbered.{Rising}
use Rattle.issuers.specs.Turns.{Before, InOrder, IsFront, Turn, asks_in, mine, own_turns, turn_of, turns_of}
use Rattle.issuers.specs.declared.parts.Part.{Part}
use Rattle.issuers.proofs.EachElement.{each_both, each_of, each_snoc}

-- the turns of these asks in these lines
abbrev turns : ℕ → List ℕ → List Asked → List Turn
turns index lines asks = map (turn_of index) (zip lines asks)

-- one turn more
pub in_order_push : (made : List Turn) (t : Turn) → InOrder made → AllByRecursion (λ (s : Turn). Before s t) made →
    InOrder (made ++ t ∷ [])
in_order_push [] t h all = (tt, tt)
in_order_push (s ∷ made) t h all = (each_snoc (Before s) made t h.0 all.0, in_order_push made t h.1 all.1)

pub mine_push : (index : ℕ) (made : List Turn) (t : Turn) → t.index ≡ index → mine index (made ++ t ∷ []) ≡ mine index made ++ t ∷ []
mine_push index made t is =
    let one : filter (λ (t : Turn). eqb t.index index) (t ∷ []) ≡ t ∷ [] = rw (eq-eqb t.index index is) refl in
    filter-append (λ (t : Turn). eqb t.index index) made (t ∷ []) ∙ ap (λ (r : List Turn). mine index made ++ r) one

pub mine_other : (index : ℕ) (made : List Turn) (t : Turn) → (t.index ≡ index → ⊥) → mine index (made ++ t ∷ []) ≡ mine index made
mine_other index made t isnt =
    let one : filter (λ (t : Turn). eqb t.index index) (t ∷ []) ≡ [] = rw (ne_eqb t.index index isnt) refl in
    filter-append (λ (t : Turn). eqb t.index index) made (t ∷ []) ∙ ap (λ (r : List Turn). mine index made ++ r) one ∙
    append-nil (mine index made)

-- the next turn, and those after it
dropped : (index : ℕ) (lines : List ℕ) (asks : List Asked) (place : ℕ) (line : ℕ) (ask : Asked) →
    slice_get lines place ≡ Some line → slice_get asks place ≡ Some ask →
    drop place (turns index lines asks) ≡ turn_of index (line, ask) ∷ drop (suc place) (turns index lines asks)
dropped index [] asks place line ask a b = absurd cc
dropped index (l ∷ lines) [] place line ask a b = absurd cc
dropped index (l ∷ lines) (q ∷ asks) zero line ask a b =
    let x : l ≡ line = cc in
    let y : q ≡ ask = cc in
    ap (λ (k : ℕ). turn_of index (k, q) ∷ turns index lines asks) x ∙
    ap (λ (k : Asked). turn_of index (line, k) ∷ turns index lines asks) y
dropped index (l ∷ lines) (q ∷ asks) (suc place) line ask a b = dropped index lines asks place line ask a b

-- what stands after a line comes later than its turn
later_all : (index : ℕ) (lines : List ℕ) (asks : List Asked) (t : Turn) (line : ℕ) → t.line ≤ line →
    AllByRecursion (λ (other : ℕ). line < other) lines → AllByRecursion (Before t) (turns index lines asks)
later_all index [] asks t line below h = tt
later_all index (l ∷ lines) [] t line below h = tt
later_all index (l ∷ lines) (q ∷ asks) t line below h =
    let first : line < l = h.0 in
    (inl (omega arith), later_all index lines asks t line below h.1)

-- a turn that comes before the head of some turns comes before them all
left_behind : (index : ℕ) (lines : List ℕ) (asks : List Asked) (place : ℕ) (t : Turn) → Rising lines →
    ((line : ℕ) → slice_get lines place ≡ Some line → (t.line < line) ⊎ ((t.line ≡ line) × (t.index < index))) →
    AllByRecursion (Before t) (drop place (turns index lines asks))
left_behind index [] asks zero t rising head = tt
left_behind index [] asks (suc place) t rising head = tt
left_behind index (l ∷ lines) [] zero t rising head = tt
left_behind index (l ∷ lines) [] (suc place) t rising head = tt
left_behind index (l ∷ lines) (q ∷ asks) zero t rising head =
    let first : (t.line < l) ⊎ ((t.line ≡ l) × (t.index < index)) = head l refl in
    let below : t.line ≤ l = elim first [ inl h ↦ omega (arith, h) | inr h ↦ omega (arith, h.0) ] in
    (first, later_all index lines asks t l below rising.0)
left_behind index (l ∷ lines) (q ∷ asks) (suc place) t rising head = left_behind index lines asks place t rising.1 head

-- a line stands after the one before it
rising_next : (lines : List ℕ) (place x y : ℕ) → Rising lines → slice_get lines place ≡ Some x →
    slice_get lines (suc place) ≡ Some y → x < y
rising_next [] place x y rising a b = absurd cc
rising_next (l ∷ []) zero x y rising a b = absurd cc
rising_next (l ∷ m ∷ lines) zero x y rising a b =
    let first : l < m = rising.0.0 in
    let p : l ≡ x = cc in
    let q : m ≡ y = cc in
    omega arith
rising_next (l ∷ lines) (suc place) x y rising a b = rising_next lines place x y rising.1 a b

-- asks and lines side by side
pub asks_of_turns : (index : ℕ) (lines : List ℕ) (asks : List Asked) → length lines ≡ length asks →
    asks_in (turns index lines asks) ≡ asks
asks_of_turns index [] [] same = refl
asks_of_turns index [] (q ∷ asks) same = absurd (omega (arith, same))
asks_of_turns index (l ∷ lines) [] same = absurd (omega (arith, same))
asks_of_turns index (l ∷ lines) (q ∷ asks) same = ap (λ (rest : List Asked). q ∷ rest) (asks_of_turns index lines asks (omega
    (arith, same)))

abbrev pub left_at : List Part → List ℕ → ℕ → List Turn
left_at parts places index = drop (slice_index places index) (own_turns parts index)

own_at : (parts : List Part) (index : ℕ) (part : Part) → slice_get parts index ≡ Some part → own_turns parts index ≡ turns_of index part
own_at parts index part is = ap (λ (o : Option Part). option_map_or (turns_of index) o []) is

drop_nothing : (n : ℕ) → drop n (let none : List Turn = [] in none) ≡ []
drop_nothing zero = refl
drop_nothing (suc n) = refl

-- the turn that is next
pub record NextTurn (parts : List Part) (places : List ℕ) (index : ℕ) (t : Turn) : Type 0 where
  pub part : Part
  pub own : slice_get parts index ≡ Some part
  pub line : slice_get part.lines (slice_index places index) ≡ Some t.line
  pub ask : slice_get part.script.asks (slice_index places index) ≡ Some t.ask
  pub index_is : t.index ≡ index
  pub within : index < length places
  pub first : (other line : ℕ) → HeadIs parts places other line → (t.line < line) ⊎ ((t.line ≡ line) × (t.index ≤ other))

module _ (parts : List Part) (places : List ℕ) (made : List Turn) (index : ℕ) (t : Turn)
    (lines : (other : ℕ) (part : Part) → slice_get parts other ≡ Some part → HasLines part) (n : NextTurn parts places index t)
    (h : IsFront parts made (left_at parts places)) where
  abbrev place : ℕ
  place = slice_index places index

  abbrev after : List ℕ
  after = slice_set places index (place + 1)

  whole : left_at parts places index ≡ t ∷ drop (suc place) (own_turns parts index)
  whole =
      let same = own_at parts index n.part n.own in
      let here : turn_of index (t.line, t.ask) ≡ t = ap (λ (k : ℕ). record t { index = k }) (sym n.index_is) in
      subst (λ (ts : List Turn). drop place ts ≡ t ∷ drop (suc place) ts) (sym same)
      (dropped index n.part.lines n.part.script.asks place t.line t.ask n.line n.ask ∙
      ap (λ (u : Turn). u ∷ drop (suc place) (turns_of index n.part)) here)

  moved : slice_index after index ≡ suc place
  moved = get_or-set_same places index (place + 1) 0 n.within ∙ add-one place

  kept : (other : ℕ) → (other ≡ index → ⊥) → slice_index after other ≡ slice_index places other
  kept other isnt = get_or-set_other places index other (place + 1) 0 isnt

  own_part : (other : ℕ) → (other ≡ index) ⊎ (other ≡ index → ⊥) →
      own_turns parts other ≡ mine other (made ++ t ∷ []) ++ left_at parts after other
  own_part other (inl is) =
      subst (λ (k : ℕ). own_turns parts k ≡ mine k (made ++ t ∷ []) ++ left_at parts after k) (sym is)
      (h.own index ∙ ap (λ (r : List Turn). mine index made ++ r) whole ∙
      sym (append_assoc (mine index made) (t ∷ []) (drop (suc place) (own_turns parts index))) ∙
      ap (λ (r : List Turn). r ++ drop (suc place) (own_turns parts index)) (sym (mine_push index made t n.index_is)) ∙
      ap (λ (k : ℕ). mine index (made ++ t ∷ []) ++ drop k (own_turns parts index)) (sym moved))
  own_part other (inr isnt) =
      h.own other ∙ ap (λ (r : List Turn). r ++ left_at parts places other)
      (sym (mine_other other made t (λ same. isnt (sym same ∙ n.index_is)))) ∙
      ap (λ (k : ℕ). mine other (made ++ t ∷ []) ++ drop k (own_turns parts other)) (sym (kept other isnt))

  -- the turns made come before the next one
  before_next : AllByRecursion (λ (s : Turn). Before s t) made
  before_next =
      let all : AllByRecursion (λ (u : Turn). AllByRecursion (λ (s : Turn). Before s u) made)
      (t ∷ drop (suc place) (own_turns parts index)) =
      subst (λ (ts : List Turn). AllByRecursion (λ (u : Turn). AllByRecursion (λ (s : Turn). Before s u) made) ts) whole
      (h.behind index) in
      all.0

  -- the next turn comes before those that are left
  next_before_own : AllByRecursion (Before t) (drop (suc place) (own_turns parts index))
  next_before_own =
      subst (λ (ts : List Turn). AllByRecursion (Before t) (drop (suc place) ts)) (sym (own_at parts index n.part n.own))
      (left_behind index n.part.lines n.part.script.asks (suc place) t (lines index n.part n.own).rising
      (λ line is. inl (rising_next n.part.lines place t.line line (lines index n.part n.own).rising n.line is)))

  next_before_by : (other : ℕ) → (other ≡ index → ⊥) → (o : Option Part) → slice_get parts other ≡ o →
      AllByRecursion (Before t) (drop (slice_index places other) (option_map_or (turns_of other) o []))
  next_before_by other isnt None is = subst (λ (ts : List Turn). AllByRecursion (Before t) ts)
      (sym (drop_nothing (slice_index places other))) tt
  next_before_by other isnt (Some part) is =
      left_behind other part.lines part.script.asks (slice_index places other) t (lines other part is).rising
      (λ line there. elim (n.first other line (part, is, there)) [
        | inl sooner ↦ inl sooner
        | inr same ↦ inr (
          same.0,
          (let apart : t.index ≡ other → ⊥ = λ e. isnt (sym e ∙ n.index_is) in
              let low : t.index ≤ other = same.1 in strict t.index other low apart),
        )
      ])
    where
      strict : (a b : ℕ) → a ≤ b → (a ≡ b → ⊥) → a < b
      strict a b low apart = elim (cases_eq a b) [ inl e ↦ absurd (apart e) | inr e ↦ omega (arith, low, e) ]

  behind_part : (other : ℕ) → (other ≡ index) ⊎ (other ≡ index → ⊥) →
      AllByRecursion (λ (u : Turn). AllByRecursion (λ (s : Turn). Before s u) (made ++ t ∷ [])) (left_at parts after other)
  behind_part other (inl is) =
      let all : AllByRecursion (λ (u : Turn). AllByRecursion (λ (s : Turn). Before s u) made)
      (t ∷ drop (suc place) (own_turns parts index)) =
      subst (λ (ts : List Turn). AllByRecursion (λ (u : Turn). AllByRecursion (λ (s : Turn). Before s u) made) ts) whole
      (h.behind index) in
      subst (λ (k : ℕ). AllByRecursion (λ (u : Turn). AllByRecursion (λ (s : Turn). Before s u) (made ++ t ∷ []))
      (left_at parts after k)) (sym is)
      (subst (λ (k : ℕ). AllByRecursion (λ (u : Turn). AllByRecursion (λ (s : Turn). Before s u) (made ++ t ∷ []))
      (drop k (own_turns parts index))) (sym moved)
      (each_both (λ (u : Turn). AllByRecursion (λ (s : Turn). Before s u) made) (Before t)
      (λ (u : Turn). AllByRecursion (λ (s : Turn). Before s u) (made ++ t ∷ []))
      (drop (suc place) (own_turns parts index)) (λ u a b. each_snoc (λ (s : Turn). Before s u) made t a b) all.1
      next_before_own))
  behind_part other (inr isnt) =
      subst (λ (k : ℕ). AllByRecursion (λ (u : Turn). AllByRecursion (λ (s : Turn). Before s u) (made ++ t ∷ []))
      (drop k (own_turns parts other))) (sym (kept other isnt))
      (each_both (λ (u : Turn). AllByRecursion (λ (s : Turn). Before s u) made) (Before t)
      (λ (u : Turn). AllByRecursion (λ (s : Turn). Before s u) (made ++ t ∷ []))
      (left_at parts places other) (λ u a b. each_snoc (λ (s : Turn). Before s u) made t a b) (h.behind other)
      (next_before_by other isnt (slice_get parts other) refl))

  pub front_more : IsFront parts (made ++ t ∷ []) (left_at parts after)
  front_more = record {
    own = λ other. own_part other (cases_eq other index);
    ordered = in_order_push made t h.ordered before_next;
    behind = λ other. behind_part other (cases_eq other index);
  }

-- past the last line no turn is left
past_last : (index : ℕ) (lines : List ℕ) (asks : List Asked) (place : ℕ) →
    ((line : ℕ) → slice_get lines place ≡ Some line → ⊥) → drop place (turns index lines asks) ≡ []
past_last index [] asks zero none = refl
past_last index [] asks (suc place) none = refl
past_last index (l ∷ lines) [] zero none = refl
past_last index (l ∷ lines) [] (suc place) none = refl
past_last index (l ∷ lines) (q ∷ asks) zero none = absurd (none l refl)
past_last index (l ∷ lines) (q ∷ asks) (suc place) none = past_last index lines asks place none

none_left_by : (parts : List Part) (places : List ℕ) (index : ℕ) (o : Option Part) → slice_get parts index ≡ o →
    ((line : ℕ) → HeadIs parts places index line → ⊥) → drop (slice_index places index) (option_map_or (turns_of index) o []) ≡ []
none_left_by parts places index None is none = drop_nothing (slice_index places index)
none_left_by parts places index (Some part) is none =
    past_last index part.lines part.script.asks (slice_index places index) (λ line there. none line (part, is, there))

-- where no issuer has a head no turn is left
pub none_left : (parts : List Part) (places : List ℕ) → ((index line : ℕ) → HeadIs parts places index line → ⊥) → (index : ℕ) →
    left_at parts places index ≡ []
none_left parts places none index = none_left_by parts places index (slice_get parts index) refl (none index)

-- before the first turn all are left
pub front_begins : (parts : List Part) (places : List ℕ) → ((index : ℕ) → slice_index places index ≡ 0) →
    IsFront parts [] (left_at parts places)
front_begins parts places zeros = record {
  own = λ index. ap (λ (n : ℕ). drop n (own_turns parts index)) (sym (zeros index));
  ordered = tt;
  behind = λ index. each_of (λ (t : Turn). AllByRecursion (λ (s : Turn). Before s t) []) (left_at parts places index) (λ t. tt);
}

-- where no turn is left, an issuer's asks are those of its part
pub all_asked : (parts : List Part) (made : List Turn) (left : ℕ → List Turn) (index : ℕ) (part : Part) → IsFront parts made left →
    left index ≡ [] → slice_get parts index ≡ Some part → HasLines part → asks_in (mine index made) ≡ part.script.asks
all_asked parts made left index part h none is lines =
    let all : mine index made ≡ turns_of index part =
    sym (append-nil (mine index made)) ∙ ap (λ (r : List Turn). mine index made ++ r) (sym none) ∙ sym (h.own index) ∙
    own_at parts index part is in
    ap asks_in all ∙ asks_of_turns index part.lines part.script.asks lines.one_each
