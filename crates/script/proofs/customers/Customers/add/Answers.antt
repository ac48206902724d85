use Rattle.std.proofs.Common.{◌≡◌, ◌∙◌, Some, None}
use Rattle.std.specs.BTreeMap.{get_by_text}
use Rattle.std.specs.String.{string_bytes}
use Rattle.std.proofs.lemmas.Map.Text.{btree_map_updates_text}
use Rattle.script.proofs.customers.Customers.add.Goals as goal

pub returns-clause-found : goal.returns-clause-found
returns-clause-found c = λ other.
    rw (← c.into_text.ensures) (btree_map_updates_text (string_bytes c.into_text.result) c.args.self.now.by_key c.insert.new.self
    (Some c.args.party) c.in_ok-insert.ensures.updates other)

pub returns-clause-count : goal.returns-clause-count
returns-clause-count c =
    let absent : get_by_text c.args.self.now.by_key (string_bytes c.into_text.result) ≡ None = rw c.into_text.ensures c.requires
    in
    let none : c.in_ok-insert.field-0 ≡ None = c.in_ok-insert.ensures.old ∙ absent in
    rw none at c.in_ok-insert.ensures.len
