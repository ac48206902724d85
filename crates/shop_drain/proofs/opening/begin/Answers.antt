use Rattle.std.proofs.Common.{rules, sym, subst}
use Rattle.shop_core.specs.History.{History}
use Rattle.shop_core.specs.Legal.{Legal}
use Rattle.till_calls.specs.Root.{Root}
use Rattle.shop_drain.proofs.opening.begin.Goals as goal

pub returns-in-Ok-start-clause-shop : goal.returns-in-Ok-start-clause-shop
returns-in-Ok-start-clause-shop g c =
    let h = c.in-Ok-start.ensures in
    let store = c.args.opened.store in
    let legal : Legal store.state.version store.state.issuer store.state.entries =
    subst (λ (h : History). Legal h.version h.issuer h.entries) c.state.ensures c.is_legal.ensures in
    record {
      started = record {
        own = h.own;
        new = h.new;
        whole = h.whole;
        legal = subst (λ (r : Root g.row.C.Denot). Legal r.version r.issuer r.history) (sym h.root.0) legal;
        base = search rules;
      };
      root = h.root.0;
      numbers_are = h.numbers.0;
      made = h.numbers.1;
    }
