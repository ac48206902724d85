use Rattle.std.proofs.Common.{List, arith, subst}
use Rattle.std.proofs.lemmas.List.{take_all}
use Rattle.chain_disk.specs.Runs.{started}
use Rattle.journal.specs.File.{framed}
use Rattle.record_codec.specs.declared.entry.Entry.{Entry}
use Rattle.record_fields.specs.declared.versions.Version.TheVariants.{Two}
use Rattle.shop_core.specs.File.Files.{bodies_of}
use Rattle.recovery.specs.Moving.{IsHeldShut, IsWriting}
use Rattle.journal.proofs.Shut.{writing_now}
use Rattle.recovery.proofs.rewriting.write_entries.Goals as goal

pub loop-index-init : goal.loop-index-init
loop-index-init g c = record {
  near = omega arith;
  writing = λ tells. c.requires tells;
  any_moment = λ tells.
      started (g.M.Disk.on_disk c.args.disk.now) (IsHeldShut c.args.state.now.issuer)
      (writing_now Two c.args.state.now.issuer _ 19 (g.M.Disk.on_disk c.args.disk.now) (c.requires tells));
  later = omega arith;
}

pub returns-clause-ok : goal.returns-clause-ok
returns-clause-ok g c = λ tells.
    let es = c.args.state.now.entries in
    subst (λ (l : List Entry). IsWriting c.args.state.now.issuer (framed (bodies_of Two l)) c.loop-index.at
    (g.M.Disk.on_disk c.loop-index.disk)) (take_all c.loop-index.index es
    (omega (arith, c.loop-index-test.false, c.entries-index-end.ensures.count))) (c.loop-index.invariant.writing tells)
