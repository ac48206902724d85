use Rattle.std.proofs.Common.{◌≤◌, List, sym, subst}
use Rattle.journal.specs.Journal.{end_of}
use Rattle.record_codec.specs.declared.entry.Entry.{Entry}
use Rattle.shop_core.specs.File.Files.{furthest_gate}
use Rattle.chain_store.proofs.Stores.{holds_roomy}
use Rattle.chain_store.proofs.store.Store.prepare.Goals as goal

pub returns-clause-ready : goal.returns-clause-ready
returns-clause-ready g c =
    let same = c.prepare.ensures.same in
    record {
      place = subst (λ (es : List Entry). end_of c.args.self.now.journal ≤ furthest_gate es) (sym same.2) c.requires.ready.place;
      holds = λ none tells. holds_roomy c.args.self.now.state c.prepare.new.state _ _ same.0 same.1 same.2
          (c.requires.ready.holds none tells);
    }
