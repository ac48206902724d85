-- What holds of a list place by place, and notes that stand at places of their own.
use Rattle.std.proofs.Common.{◌≡◌, inl, inr, ℕ, zero, suc, ◌+◌, ◌<◌, ◌==◌, cond, List, [], ◌∷◌, ◌++◌, get_or, length, map, drop}
use Rattle.std.proofs.Common.{Some, slice_get, All, refl, ap, sym, ◌∙◌, subst, arith}
use Rattle.std.specs.Prelude.{count_by, Contains}
use Rattle.std.specs.List.{AllByRecursion}
use Rattle.std.proofs.Math.Seq.{drop-append_seam}
use Rattle.std.proofs.lemmas.Bool.Decides.{nat_tests, eqb_tells}
use Rattle.std.proofs.lemmas.List.Sums.{sum_by-cons}
use Rattle.record_codec.specs.declared.entry.Entry.TheVariants.{Rec, Notes}
use Rattle.record_fields.specs.declared.lines.Line.{Line}
use Rattle.shop_core.specs.declared.items.Item.{Item}
use Rattle.shop_core.specs.declared.items.Item.TheVariants as item
use Rattle.once_world.specs.Outbox.{AreOwnNotes, GainsOwnNotes, Sight}
use Rattle.sender.specs.Agreeing.{HasAt}

in_head : (x y : ℕ) (xs : List ℕ) → x ≡ y → Contains (x ∷ xs) y
in_head x y xs e = (0, omega arith, e)

in_tail : (x y : ℕ) (xs : List ℕ) → Contains xs y → Contains (x ∷ xs) y
in_tail x y xs c = (suc c.0, (let l = c.1 in omega arith), c.2)

-- a place that is counted is there
pub counted_in : {I : Type 0} (n : ℕ) (own : List (ℕ × I)) → 0 < count_by (λ x. x.0 == n) own →
    Contains (map (λ (z : ℕ × I). z.0) own) n
counted_in n [] some = absurd (omega (arith, some))
counted_in {I} n (z ∷ zs) some =
    let split = sum_by-cons (λ (y : ℕ × I). cond (y.0 == n) 1 0) z zs in
    elim (eqb_tells z.0 n) [
      | inl same ↦ in_head z.0 n (map (λ (y : ℕ × I). y.0) zs) same.1
      | inr apart ↦ in_tail z.0 n (map (λ (y : ℕ × I). y.0) zs) (counted_in n zs (let none : ◌≡◌ {A = ℕ} (cond (z.0 == n) 1 0) 0 =
          (let ne : z.0 ≡ n → ⊥ = apart.1 in grind (arith, nat_tests, ne)) in omega (arith, none, some, split)))
    ]

pub all_each : {A : Type 0} (P : A → Type 0) (xs : List A) → All P xs → AllByRecursion P xs
all_each P [] h = tt
all_each P (x ∷ xs) h = (h 0 x (omega arith), all_each P xs (λ k d l. h (suc k) d (omega arith)))

pub all_split : {A : Type 0} (P : A → Type 0) (xs : List A) (y : A) → AllByRecursion P (xs ++ y ∷ []) → AllByRecursion P xs × P y
all_split P [] y h = (tt, h.0)
all_split P (x ∷ xs) y h = ((h.0, (all_split P xs y h.1).0), (all_split P xs y h.1).1)

pub get_behind : {I : Type 0} (b r : List I) (m : ℕ) → slice_get (b ++ r) (length b + m) ≡ slice_get r m
get_behind [] r m = ap (λ (k : ℕ). slice_get r k) (let e : 0 + m ≡ m = omega arith in e)
get_behind (x ∷ b) r m = ap (λ (k : ℕ). slice_get (x ∷ (b ++ r)) k) (let e : length (x ∷ b) + m ≡ suc (length b + m) =
    omega arith in e) ∙ get_behind b r m

-- what holds at each place holds of each
pub all_by_place : (P : Item → Type 0) (items : List Item) → ((m : ℕ) → m < length items → HasAt P items m) →
    AllByRecursion P items
all_by_place P [] h = tt
all_by_place P (x ∷ items) h =
    let here = h 0 (omega arith) in
    let same : x ≡ here.0 = (let e : Some x ≡ Some here.0 = here.1 in let f = e in cc) in
    (subst P (sym same) here.2, all_by_place P items (λ m l. h (suc m) (omega (arith, l))))

all_at : {A : Type 0} (P : A → Type 0) (xs : List A) (k : ℕ) (x : A) → AllByRecursion P xs → k < length xs → get_or xs k x ≡ x →
    P x
all_at P [] k x all lt e = absurd (omega (arith, lt))
all_at P (y ∷ xs) zero x all lt e = let h : y ≡ x = e in subst P h all.0
all_at P (y ∷ xs) (suc k) x all lt e = all_at P xs k x all.1 (omega (arith, lt)) e

pub all_contained : {A : Type 0} (P : A → Type 0) (xs : List A) (x : A) → AllByRecursion P xs → Contains xs x → P x
all_contained P xs x all there = all_at P xs there.0 x all there.1 there.2

-- each note stands at one of these places
pub own_all : (items : List Item) (at : ℕ) (own : List ℕ) → ((m first : ℕ) (lines : List Line) →
    slice_get items m ≡ Some (item.Entry (Notes first lines)) → Contains own (at + m)) → AreOwnNotes own at items
own_all [] at own h = tt
own_all (item.Entry (Rec till serial sealed) ∷ items) at own h =
    own_all items (at + 1) own (λ m f l e. subst (λ (k : ℕ). Contains own k) (let s : at + suc m ≡ at + 1 + m = omega arith in
    s) (h (suc m) f l e))
own_all (item.Entry (Notes first lines) ∷ items) at own h = (
  subst (λ (k : ℕ). Contains own k) (let s : at + 0 ≡ at = omega arith in s) (h 0 first lines refl),
  own_all items (at + 1) own (λ m f l e. subst (λ (k : ℕ). Contains own k) (let s : at + suc m ≡ at + 1 + m = omega arith in
      s) (h (suc m) f l e)),
)
own_all (item.Stop faults torn ∷ items) at own h =
    own_all items (at + 1) own (λ m f l e. subst (λ (k : ℕ). Contains own k) (let s : at + suc m ≡ at + 1 + m = omega arith in
    s) (h (suc m) f l e))

-- what came after a sight without items of its own are no notes but its own, where each of the notes is
pub gains_by : (before after : Sight) (items : List Item) → before.own ≡ [] → after.items ≡ before.items ++ items →
    ((m first : ℕ) (lines : List Line) → slice_get items m ≡ Some (item.Entry (Notes first lines)) →
    Contains after.own (length before.items + m)) → GainsOwnNotes before after
gains_by before after items none is each =
    let own : drop (length before.own) after.own ≡ after.own = ap (λ (o : List ℕ). drop (length o) after.own) none in
    let gained : drop (length before.items) after.items ≡ items = ap (λ (l : List Item). drop (length before.items) l) is ∙
    drop-append_seam before.items items in
    subst (λ (o : List ℕ). AreOwnNotes o (length before.items) (drop (length before.items) after.items)) (sym own)
    (subst (λ (l : List Item). AreOwnNotes after.own (length before.items) l) (sym gained)
    (own_all items (length before.items) after.own each))
