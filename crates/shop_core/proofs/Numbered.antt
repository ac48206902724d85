-- The table from numbers to standings, where a number is entered and where its standing changes.
use Rattle.std.proofs.Common.{◌≡◌, ℕ, zero, suc, List, [], ◌∷◌, ◌++◌, length, Bool, true, false, cond, ◌&&◌, eqb, bytes_eq}
use Rattle.std.proofs.Common.{if◌then◌else◌, Option, Some, None, option_map, is_some, slice_get, refl, sym, ap, subst, ◌∙◌, inl}
use Rattle.std.proofs.Common.{inr, arith, true≢false, Vec, Result, Ok, Err}
use Rattle.std.specs.Prelude.{unwrap_or}
use Rattle.std.specs.Option.{option_map_or, option_or}
use Rattle.std.specs.Result.{OnOk, OnErr}
use Rattle.std.specs.declared.alloc.Global.{Global}
use Rattle.std.proofs.lemmas.Bool.{and_from, and_parts, cases_Bool, eq-eqb, eqb-true}
use Rattle.std.proofs.lemmas.Slice.Eq.{bytes_eq-Decides}
use Rattle.shop_core.specs.Tables.ByNumber.{changed, has, list_of, listed_at, nothing, other_at, standing_at}
use Rattle.shop_core.specs.Tables.Spots.{spot_of}
use Rattle.shop_core.specs.declared.tables.by_number.ByNumber.{ByNumber}
use Rattle.shop_core.specs.declared.tables.by_number.Change.{Change}
use Rattle.shop_core.specs.declared.tables.by_number.Standing.{Standing}
use Rattle.shop_core.specs.declared.tables.spots.Spot.{Spot}
use Rattle.shop_core.proofs.Entering.{bytes_are}
use Rattle.shop_core.proofs.Spotted.{one_number}

pub on_ok : {T E A B : Type 0} (r : Result T E) → (A → B) → OnOk r A → OnOk r B
on_ok (Ok x) f a = f a
on_ok (Err e) f a = tt

pub on_err : {T E A B : Type 0} (r : Result T E) → (A → B) → OnErr r A → OnErr r B
on_err (Ok x) f a = tt
on_err (Err e) f a = f a

-- a list that stays as it was stays in its map
abbrev items_of : Option (Vec Standing Global) → List Standing
items_of o = option_map_or (λ (list : Vec Standing Global). list.items) o []

pub lists_stay : (series : List ℕ) (old new : List ℕ → Option (Vec Standing Global)) (list more : Vec Standing Global) →
    Some list ≡ old series → more.items ≡ list.items →
    ((q : List ℕ) → new q ≡ cond (bytes_eq series q) (Some more) (old q)) → (q : List ℕ) → items_of (new q) ≡ items_of (old q)
lists_stay series old new list more there items updates q = elim (cases_Bool (bytes_eq series q)) [
  | inl e ↦
      let n : new q ≡ Some more = updates q ∙ rw e refl in
      let o : old q ≡ Some list = ap old (sym (bytes_are series q e)) ∙ sym there in
      ap items_of n ∙ items ∙ sym (ap items_of o)
  | inr e ↦ let n : new q ≡ old q = updates q ∙ rw e refl in ap items_of n
]

-- a number that is entered apart from the lists
module _ (old new listed : List ℕ → Option Standing) (num : List ℕ) (absent : is_some (option_or (old num) (listed num)) ≡ false)
    (updates : (q : List ℕ) → new q ≡ cond (bytes_eq num q) (Some nothing) (old q)) where
  none_of : (o : Option Standing) → is_some o ≡ false → unwrap_or o nothing ≡ nothing
  none_of None e = refl
  none_of (Some x) e = absurd (true≢false e)

  pub beside_same : (q : List ℕ) → unwrap_or (option_or (new q) (listed q)) nothing ≡ unwrap_or (option_or (old q) (listed q))
      nothing
  beside_same q = elim (cases_Bool (bytes_eq num q)) [
    | inl e ↦
        let n : new q ≡ Some nothing = updates q ∙ rw e refl in
        let was : unwrap_or (option_or (old q) (listed q)) nothing ≡ nothing =
        ap (λ (k : List ℕ). unwrap_or (option_or (old k) (listed k)) nothing) (sym (bytes_are num q e)) ∙ none_of _ absent in
        ap (λ (o : Option Standing). unwrap_or (option_or o (listed q)) nothing) n ∙ sym was
    | inr e ↦
        let n : new q ≡ old q = updates q ∙ rw e refl in
        ap (λ (o : Option Standing). unwrap_or (option_or o (listed q)) nothing) n
  ]

  pub beside_stays : (q : List ℕ) → is_some (option_or (old q) (listed q)) ≡ true → is_some (option_or (new q) (listed q)) ≡ true
  beside_stays q there = elim (cases_Bool (bytes_eq num q)) [
    | inl e ↦
        let n : new q ≡ Some nothing = updates q ∙ rw e refl in
        ap (λ (o : Option Standing). is_some (option_or o (listed q))) n
    | inr e ↦
        let n : new q ≡ old q = updates q ∙ rw e refl in
        ap (λ (o : Option Standing). is_some (option_or o (listed q))) n ∙ there
  ]

either : (o : Option Standing) (x : Standing) → is_some (option_or o (Some x)) ≡ true
either None x = refl
either (Some y) x = refl

slice_end : (xs : List Standing) (x : Standing) (k : ℕ) → length xs ≡ k → slice_get (xs ++ x ∷ []) k ≡ Some x
slice_end [] x k e = rw (sym e) refl
slice_end (y ∷ xs) x zero e = absurd (omega (arith, e))
slice_end (y ∷ xs) x (suc k) e = slice_end xs x k (omega (arith, e))

-- a number that is the next of its list
pub last_entered : (a b : ByNumber) (num : List ℕ) (spot : Spot) → spot_of num ≡ Some spot →
    ((s : List ℕ) → list_of b s ≡ (if bytes_eq spot.series s then list_of a s ++ nothing ∷ [] else list_of a s)) →
    length (list_of a spot.series) ≡ spot.index → has b num ≡ true
last_entered a b num spot e lists at =
    let own : bytes_eq spot.series spot.series ≡ true = (bytes_eq-Decides spot.series spot.series).1 refl in
    let is : list_of b spot.series ≡ list_of a spot.series ++ nothing ∷ [] = lists spot.series ∙ rw own refl in
    let there : listed_at b (spot_of num) ≡ Some nothing = ap (listed_at b) e ∙
    ap (λ (ys : List Standing). slice_get ys spot.index) is ∙ slice_end (list_of a spot.series) nothing spot.index at in
    ap (λ (o : Option Standing). is_some (option_or (other_at b num) o)) there ∙ either (other_at b num) nothing

-- a change of the standing at a place of a series
abbrev is_at : Spot → Spot → Bool
is_at spot s = bytes_eq spot.series s.series && eqb spot.index s.index

itself : (s : Spot) → is_at s s ≡ true
itself s = and_from _ _ ((bytes_eq-Decides s.series s.series).1 refl) (eq-eqb s.index s.index refl)

spots_are : (a b : Spot) → is_at a b ≡ true → a ≡ b
spots_are a b e =
    let p = and_parts _ _ e in
    let name : a.series ≡ b.series = bytes_are a.series b.series p.0 in
    let index : a.index ≡ b.index = eqb-true a.index b.index p.1 in
    λ i. record { series = name i; index = index i }

module _ (a b : ByNumber) (num : List ℕ) (change : Change) (spot : Spot) (at : spot_of num ≡ Some spot)
    (absent : is_some (other_at a num) ≡ false) (others : b.others ≡ a.others)
    (lists : (s : Spot) → listed_at b (Some s) ≡ (if is_at spot s then option_map (changed change) (listed_at a (Some s)) else
    listed_at a (Some s))) (there : has a num ≡ true) where
  other_same : (n : List ℕ) → other_at b n ≡ other_at a n
  other_same n = ap (λ o. other_at (record b { others = o }) n) others

  listed_own : listed_at b (spot_of num) ≡ option_map (changed change) (listed_at a (spot_of num))
  listed_own =
      let here : is_at spot spot ≡ true = itself spot in
      let l : listed_at b (Some spot) ≡ option_map (changed change) (listed_at a (Some spot)) = lists spot ∙ rw here refl in
      ap (listed_at b) at ∙ l ∙ sym (ap (λ (o : Option Spot). option_map (changed change) (listed_at a o)) at)

  own : standing_at b num ≡ changed change (standing_at a num)
  own = own_case (other_at a num) (other_at b num) (listed_at a (spot_of num)) (listed_at b (spot_of num)) absent (other_same num)
      listed_own there
    where
      own_case : (oa ob la lb : Option Standing) → is_some oa ≡ false → ob ≡ oa → lb ≡ option_map (changed change) la →
          is_some (option_or oa la) ≡ true → unwrap_or (option_or ob lb) nothing ≡ changed change
          (unwrap_or (option_or oa la) nothing)
      own_case (Some y) ob la lb e f g h = absurd (true≢false e)
      own_case None ob None lb e f g h = absurd (true≢false (sym h))
      own_case None ob (Some x) lb e f g h = rw (f, g) refl

  elsewhere : (n : List ℕ) → bytes_eq num n ≡ false → listed_at b (spot_of n) ≡ listed_at a (spot_of n)
  elsewhere n other = by (spot_of n) refl
    where
      not_here : (s : Spot) → spot_of n ≡ Some s → is_at spot s ≡ false
      not_here s e = elim (cases_Bool (is_at spot s)) [
        | inl t ↦
            let same : num ≡ n = one_number num n spot at (e ∙ ap (λ (p : Spot). Some p) (sym (spots_are spot s t))) in
            absurd (true≢false (sym ((bytes_eq-Decides num n).1 same) ∙ other))
        | inr f ↦ f
      ]

      by : (o : Option Spot) → spot_of n ≡ o → listed_at b (spot_of n) ≡ listed_at a (spot_of n)
      by None e = ap (listed_at b) e ∙ sym (ap (listed_at a) e)
      by (Some s) e =
          let t : is_at spot s ≡ false = not_here s e in
          let l : listed_at b (Some s) ≡ listed_at a (Some s) = lists s ∙ rw t refl in
          ap (listed_at b) e ∙ l ∙ sym (ap (listed_at a) e)

  pub changed_at : (n : List ℕ) → standing_at b n ≡ (if bytes_eq num n then changed change (standing_at a n) else standing_at a n)
  changed_at n = elim (cases_Bool (bytes_eq num n)) [
    | inl e ↦ rw e (subst (λ (k : List ℕ). standing_at b k ≡ changed change (standing_at a k)) (bytes_are num n e) own)
    | inr e ↦
        rw e (ap (λ (o : Option Standing). unwrap_or (option_or o (listed_at b (spot_of n))) nothing) (other_same n)
        ∙ ap (λ (o : Option Standing). unwrap_or (option_or (other_at a n) o) nothing) (elsewhere n e))
  ]
