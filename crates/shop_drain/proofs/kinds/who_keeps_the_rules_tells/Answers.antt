use Rattle.shop_drain.proofs.kinds.who_keeps_the_rules_tells.Goals as goal

pub returns : goal.returns
returns g c = λ keeps. g.met.G.Agency.keeps_and_tells keeps
