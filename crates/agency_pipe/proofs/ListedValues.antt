-- The values of a list, made one after the other.
use Rattle.std.proofs.Common.{◌≡◌, ℕ, ◌+◌, ◌<◌, List, [], ◌∷◌, ◌++◌, get_or, length, map, take}
use Rattle.std.proofs.lemmas.List.{map-append, map_more}
use Rattle.serde_json.specs.Data.{Data}
use Rattle.serde_json.specs.View.{view}
use Rattle.serde_json.specs.declared.value.Value.{Value}

pub one_value_more : {P : Type 0} (f : P → Data) (ps : List P) (i : ℕ) (d : P) (values after : List Value) (v : Value)
    → map view values ≡ map f (take i ps) → i < length ps → after ≡ values ++ v ∷ [] → view v ≡ f (get_or ps i d)
    → map view after ≡ map f (take (i + 1) ps)
one_value_more f ps i d values after v e lt is said = rw (is, map-append view values (v ∷ []), e, said, map_more f ps i d lt)
