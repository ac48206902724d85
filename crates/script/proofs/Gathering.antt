-- Items gathered one after another.
use Rattle.std.proofs.Common.{◌≡◌, List, [], ◌∷◌, ◌++◌, map, filter_map, refl, Option, Some, None, Bool, true, false, not}
use Rattle.std.proofs.Common.{is_some}
use Rattle.std.specs.Option.{option_or}
use Rattle.std.proofs.lemmas.List.Elements.{filter_map-append}
use Rattle.record_fields.specs.Picks.{first_of}
use Rattle.script.specs.Gathered.{IsGathered}
use Rattle.script.specs.Options.{to_in, rect_in, ref_in, line_in}
use Rattle.script.specs.declared.drafts.Gathered.{Gathered}
use Rattle.script.specs.declared.options.Item.{Item}

first_one : {B : Type 0} (o : Option B) → first_of (o ∷ []) ≡ o
first_one None = refl
first_one (Some x) = refl

first_step : {B : Type 0} (o : Option B) (xs ys : List (Option B)) (p : Option B) → first_of ys ≡ option_or (first_of xs) p
    → first_of (o ∷ ys) ≡ option_or (first_of (o ∷ xs)) p
first_step None xs ys p h = h
first_step (Some x) xs ys p h = refl

pub first_more : {A B : Type 0} (f : A → Option B) (xs : List A) (x : A) → first_of (map f (xs ++ x ∷ [])) ≡ option_or
    (first_of (map f xs)) (f x)
first_more f [] x = first_one (f x)
first_more f (y ∷ xs) x = first_step (f y) (map f xs) (map f (xs ++ x ∷ [])) (f x) (first_more f xs x)

pub or_new : {A : Type 0} (o : Option A) (x : A) → (b : Bool) → is_some o ≡ not b → b ≡ true → Some x ≡ option_or o (Some x)
or_new None x b e h = refl
or_new (Some y) x b e h = absurd cc

pub or_same : {A : Type 0} (o : Option A) (x : A) → (b : Bool) → is_some o ≡ not b → b ≡ false → o ≡ option_or o (Some x)
or_same None x b e h = absurd cc
or_same (Some y) x b e h = refl

pub or_none : {A : Type 0} (o : Option A) → o ≡ option_or o None
or_none None = refl
or_none (Some x) = refl

pub gathered_more : (items : List Item) (item : Item) (old new : Gathered) → IsGathered items old
    → new.customer ≡ option_or old.customer (to_in item) → new.rect ≡ option_or old.rect (rect_in item)
    → new.refs.items ≡ old.refs.items ++ filter_map ref_in (item ∷ []) → new.lines.items ≡ old.lines.items ++ filter_map line_in
    (item ∷ [])
    → IsGathered (items ++ item ∷ []) new
gathered_more items item old new g customer rect refs lines = record {
  customer = rw (first_more to_in items item, ← g.customer) customer;
  rect = rw (first_more rect_in items item, ← g.rect) rect;
  refs = rw (filter_map-append ref_in items (item ∷ []), ← g.refs) refs;
  lines = rw (filter_map-append line_in items (item ∷ []), ← g.lines) lines;
}
