use Rattle.std.proofs.Common.{sym, ◌∙◌}
use Rattle.std.proofs.Common.{bytes_eq}
use Rattle.std.specs.Map.{lookup}
use Rattle.shop_core.specs.Tables.ByHuella.{is_key}
use Rattle.shop_core.proofs.Entering.{entered, stays, bytes_are}
use Rattle.shop_core.proofs.tables.by_huella.ByHuella.enter.Goals as goal

pub returns-in_ok-insert-clause-same : goal.returns-in_ok-insert-clause-same
returns-in_ok-insert-clause-same c =
    entered bytes_eq bytes_are (λ q. lookup (is_key q) c.args.self.now.places.entries)
    (λ q. lookup (is_key q) c.insert.new.self.entries) c.args.huella.now 0
    (sym c.contains_key.ensures ∙ c.if-not-contains_key.true) (λ q. c.in_ok-insert.ensures.updates.0 (record { huella = q }))

pub returns-in_ok-insert-clause-stays : goal.returns-in_ok-insert-clause-stays
returns-in_ok-insert-clause-stays c =
    stays bytes_eq bytes_are (λ q. lookup (is_key q) c.args.self.now.places.entries)
    (λ q. lookup (is_key q) c.insert.new.self.entries) c.args.huella.now 0
    (sym c.contains_key.ensures ∙ c.if-not-contains_key.true) (λ q. c.in_ok-insert.ensures.updates.0 (record { huella = q }))
