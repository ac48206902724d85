use Rattle.std.proofs.Common.{◌∙◌, sym}
use Rattle.shop_commands.proofs.OnePosts.{only_one}
use Rattle.shop_commands.proofs.outside.take_further.Goals as goal

pub returns-clause-one : goal.returns-clause-one
returns-clause-one g c =
    (only_one c.args.more c.pop.new.self.items c.in-Some.post c.requires
    (sym c.into_vec-room.ensures ∙ c.in-Some.ensures.items)).1

pub returns-clause-empty : goal.returns-clause-empty
returns-clause-empty g c =
    (only_one c.args.more c.pop.new.self.items c.in-Some.post c.requires
    (sym c.into_vec-room.ensures ∙ c.in-Some.ensures.items)).0
