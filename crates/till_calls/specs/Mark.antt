-- What a seat's box shows of what its seat knows, and what no call of the box changes.
use Rattle.std.specs.Prelude.{ℕ, [], List, Option, map}
use Rattle.std.specs.Option.{option_map_or}
use Rattle.record_fields.specs.declared.versions.Version.TheVariants.{One}
use Rattle.atomic_table.specs.Seated.{TableId}
use Rattle.chain_lock.specs.Known.{Known}
use Rattle.once_world.specs.Outbox.{Sight}
use Rattle.shop_core.specs.declared.items.Item.{Item}
use Rattle.till_calls.specs.Root.{Root}

-- which shop a seat is of, its numbers, and the shop's root
pub record Mark (C : Type 0) : Type 0 where
  pub shop : TableId
  pub numbers : List ℕ
  pub root : Option (Root C)

abbrev pub mark_by : {C : Type 0} → TableId → Known Item (Root C) → Mark C
mark_by shop k = record { shop = shop; numbers = k.numbers; root = k.root }

-- what a pass has seen, and the places of its own items
abbrev pub sight_by : {C : Type 0} → Known Item (Root C) → Sight
sight_by k = record {
  issuer = option_map_or (λ (r : Root _). r.issuer) k.root [];
  version = option_map_or (λ (r : Root _). r.version) k.root One;
  items = k.seen;
  own = map (λ (x : ℕ × Item). x.0) k.own;
}
