use Rattle.std.proofs.Common.{All, ap, map, sym, ◌∙◌, subst}
use Rattle.chain_lock.specs.Known.{IsNew, holders}
use Rattle.chain_lock.specs.Rule.{known_of}
use Rattle.chain_lock.proofs.Sums.{all_new, holders_are}
use Rattle.chain_lock.proofs.lock.ChainLock.new.Goals as goal

pub returns-in-Ok-lay-clause-each : goal.returns-in-Ok-lay-clause-each
returns-in-Ok-lay-clause-each g c = let items = g.V.Recorded.items c.args.value in let root = g.V.Recorded.root c.args.value in
    subst (λ v. All (IsNew items root) (map (λ s. known_of s.place.me.0) v.items)) (sym c.passes_with-passes_made.ensures.list)
    (subst (λ y. All (IsNew (g.V.Recorded.items y) (g.V.Recorded.root y)) (map (λ s. known_of s.place.me.0)
    c.deal.new.list.items)) c.of-about.ensures (all_new _ _ _ _ c.deal.ensures.each))

pub returns-in-Ok-lay-clause-whole : goal.returns-in-Ok-lay-clause-whole
returns-in-Ok-lay-clause-whole g c = λ n l. ap (λ v. holders n (map (λ s. known_of s.place.me.0) v.items))
    c.passes_with-passes_made.ensures.list ∙ (sym (holders_are n _) ∙ c.deal.ensures.whole n l)
