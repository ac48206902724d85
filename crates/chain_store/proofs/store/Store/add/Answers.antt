use Rattle.std.proofs.Common.{rules, ap, refl, subst, sym}
use Rattle.chain_disk.specs.OnDisk.{LeavesOnly}
use Rattle.journal.proofs.Appends.{appends_none}
use Rattle.journal.specs.Journal.{disk_of, end_of}
use Rattle.journal.specs.Written.{AppendsFrom}
use Rattle.shop_core.specs.File.Files.{StandsBeforeOrWith}
use Rattle.shop_core.specs.History.{History}
use Rattle.chain_store.specs.Losing.{none_lost_by}
use Rattle.chain_store.proofs.Stores.{untouched_around}
use Rattle.chain_store.proofs.store.Store.add.Goals as goal

pub returns-in_default : goal.returns-in_default
returns-in_default g c =
    let s = c.args.self.now.state in
    let same = c.prepare.ensures.same in
    record {
      ready = c.prepare.ensures.ready;
      issuer = ap (λ (h : History). h.issuer) c.in_default.ensures.err;
      version = ap (λ (h : History). h.version) c.in_default.ensures.err;
      clock = same.1;
      added = search rules;
      same = ap (λ (h : History). h.entries) c.in_default.ensures.err;
      any_moment = λ tells. subst (λ (j : _). LeavesOnly (g.D.Disk.on_disk (disk_of c.args.self.now.journal))
          (g.D.Disk.on_disk (disk_of j)) (StandsBeforeOrWith s.version s.issuer s.entries c.args.entry)) (sym same.0)
          (untouched_around s _ _ c.args.entry (c.requires.ready.holds refl tells) c.is_legal.ensures);
      never_loses = λ tells. none_lost_by (g.D.Disk.on_disk (disk_of c.args.self.now.journal)) _
          (ap (λ (j : _). g.D.Disk.on_disk (disk_of j)) same.0);
      appended = λ going tells. subst (λ (j : _). AppendsFrom (end_of c.args.self.now.journal)
          (g.D.Disk.on_disk (disk_of c.args.self.now.journal)) (g.D.Disk.on_disk (disk_of j))) (sym same.0)
          (appends_none (end_of c.args.self.now.journal) (g.D.Disk.on_disk (disk_of c.args.self.now.journal))
          (c.requires.ready.holds refl tells).file.nothing_pending);
      content = search rules;
      acknowledged = search rules;
      no_memory = search rules;
      fault = search rules;
      torn = search rules;
      room = search rules;
      not_stopped = search rules;
      later = search rules;
    }
