-- The entries among items.
use Rattle.std.proofs.Common.{◌≡◌, List, [], ◌∷◌, ◌++◌, map, refl, ap}
use Rattle.std.proofs.lemmas.List.Elements.{filter_map-append}
use Rattle.record_codec.specs.declared.entry.Entry.{Entry}
use Rattle.shop_core.specs.Items.{entry_in, entries_of}
use Rattle.shop_core.specs.declared.items.Item.{Item}
use Rattle.shop_core.specs.declared.items.Item.TheVariants as item

pub entries_both : (xs ys : List Item) → entries_of (xs ++ ys) ≡ entries_of xs ++ entries_of ys
entries_both xs ys = filter_map-append entry_in xs ys

pub entries_back : (es : List Entry) → entries_of (map item.Entry es) ≡ es
entries_back [] = refl
entries_back (e ∷ es) = ap (λ (l : List Entry). e ∷ l) (entries_back es)
