use Rattle.std.proofs.Common.{bytes_eq}
use Rattle.std.specs.Map.{lookup}
use Rattle.shop_core.specs.Tables.ByNumber.{listed_at}
use Rattle.shop_core.specs.Tables.Spots.{spot_of}
use Rattle.shop_core.proofs.Numbered.{beside_same, beside_stays}
use Rattle.shop_core.proofs.tables.by_number.ByNumber.enter_other.Goals as goal

pub returns-clause-same : goal.returns-clause-same
returns-clause-same c =
    beside_same (λ q. lookup (bytes_eq q) c.args.self.now.others.entries) (λ q. lookup (bytes_eq q) c.insert.new.self.entries)
    (λ q. listed_at c.args.self.now (spot_of q)) c.args.num.now c.requires.absent c.in_ok-insert.ensures.updates.0

pub returns-clause-stays : goal.returns-clause-stays
returns-clause-stays c =
    beside_stays (λ q. lookup (bytes_eq q) c.args.self.now.others.entries) (λ q. lookup (bytes_eq q) c.insert.new.self.entries)
    (λ q. listed_at c.args.self.now (spot_of q)) c.args.num.now c.requires.absent c.in_ok-insert.ensures.updates.0
