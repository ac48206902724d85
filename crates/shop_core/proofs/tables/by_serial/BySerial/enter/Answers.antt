use Rattle.std.proofs.Common.{sym, ◌∙◌}
use Rattle.shop_core.specs.Tables.BySerial.{same_slot}
use Rattle.std.specs.Map.{lookup}
use Rattle.shop_core.proofs.Entering.{entered, stays, slots_are}
use Rattle.shop_core.proofs.tables.by_serial.BySerial.enter.Goals as goal

pub returns-in_ok-insert-clause-same : goal.returns-in_ok-insert-clause-same
returns-in_ok-insert-clause-same c =
    entered same_slot slots_are (λ q. lookup (same_slot q) c.args.self.now.places.entries)
    (λ q. lookup (same_slot q) c.insert.new.self.entries) c.args.slot 0
    (sym c.contains_key.ensures ∙ c.if-not-contains_key.true) c.in_ok-insert.ensures.updates.0

pub returns-in_ok-insert-clause-stays : goal.returns-in_ok-insert-clause-stays
returns-in_ok-insert-clause-stays c =
    stays same_slot slots_are (λ q. lookup (same_slot q) c.args.self.now.places.entries)
    (λ q. lookup (same_slot q) c.insert.new.self.entries) c.args.slot 0
    (sym c.contains_key.ensures ∙ c.if-not-contains_key.true) c.in_ok-insert.ensures.updates.0
