use Rattle.std.proofs.Common.{◌∙◌, ℕ, List, ap}
use Rattle.journal.specs.Commit.{gated}
use Rattle.journal.proofs.Appends.{appends}
use Rattle.journal.proofs.Files.{acknowledged, any_moment, ready_after, within}
use Rattle.journal.proofs.Losing.{append_never_loses}
use Rattle.journal.proofs.journal.Journal.append.Goals as goal

pub returns-in-Ok-clause-content : goal.returns-in-Ok-clause-content
returns-in-Ok-clause-content g c = λ tells.
    c.in-Ok.ensures.content tells ∙ ap (λ (l : List ℕ). gated (g.D.Disk.on_disk c.args.self.now.disk).content c.args.self.now.end 1 l)
    (c.as_slice.ensures.value ∙ c.frame_bytes.ensures)

pub returns-in-Ok-clause-acknowledged : goal.returns-in-Ok-clause-acknowledged
returns-in-Ok-clause-acknowledged g c = λ tells version issuer bodies at.
    (acknowledged (g.D.Disk.on_disk c.args.self.now.disk) (g.D.Disk.on_disk c.commit.new.disk) version issuer bodies c.args.body.now
    c.as_slice.result.now c.args.self.now.end c.requires.size at (c.as_slice.ensures.value ∙ c.frame_bytes.ensures)
    (c.in-Ok.ensures.ok tells at.nothing_pending)).0

pub returns-in-Ok-clause-every_crash : goal.returns-in-Ok-clause-every_crash
returns-in-Ok-clause-every_crash g c = λ tells version issuer bodies at.
    (acknowledged (g.D.Disk.on_disk c.args.self.now.disk) (g.D.Disk.on_disk c.commit.new.disk) version issuer bodies c.args.body.now
    c.as_slice.result.now c.args.self.now.end c.requires.size at (c.as_slice.ensures.value ∙ c.frame_bytes.ensures)
    (c.in-Ok.ensures.ok tells at.nothing_pending)).1

pub returns-in-Ok-clause-any_moment : goal.returns-in-Ok-clause-any_moment
returns-in-Ok-clause-any_moment g c = λ going tells version issuer bodies at.
    any_moment (g.D.Disk.on_disk c.args.self.now.disk) (g.D.Disk.on_disk c.commit.new.disk) version issuer bodies c.args.body.now
    c.as_slice.result.now c.args.self.now.end c.requires.size at (c.as_slice.ensures.value ∙ c.frame_bytes.ensures)
    (c.commit.ensures.any_moment tells at.nothing_pending)

pub invariant_of-self : goal.invariant_of-self
invariant_of-self g c = record {
  ready = λ going tells.
      ready_after (g.D.Disk.on_disk c.args.self.now.disk) (g.D.Disk.on_disk c.commit.new.disk) c.args.body.now c.as_slice.result.now
      c.args.self.now.end c.requires.size (c.as_slice.ensures.value ∙ c.frame_bytes.ensures)
      (c.args.self.now.ready going tells) (c.in-Ok.ensures.ok tells);
}

pub commit-requires-clause-within : goal.commit-requires-clause-within
commit-requires-clause-within g c = λ tells. within (g.D.Disk.on_disk c.args.self.now.disk) c.args.self.now.end
    (c.args.self.now.ready c.in_default.is tells)

pub returns-in-Err-clause-any_moment : goal.returns-in-Err-clause-any_moment
returns-in-Err-clause-any_moment g c = λ going tells version issuer bodies at.
    any_moment (g.D.Disk.on_disk c.args.self.now.disk) (g.D.Disk.on_disk c.commit.new.disk) version issuer bodies c.args.body.now
    c.as_slice.result.now c.args.self.now.end c.requires.size at (c.as_slice.ensures.value ∙ c.frame_bytes.ensures)
    (c.commit.ensures.any_moment tells at.nothing_pending)

pub returns-in-Ok-clause-appended : goal.returns-in-Ok-clause-appended
returns-in-Ok-clause-appended g c = λ going tells.
    appends c.args.self.now.end (g.D.Disk.on_disk c.args.self.now.disk) (g.D.Disk.on_disk c.commit.new.disk) c.as_slice.result.now
    (c.args.self.now.ready going tells) (c.commit.ensures.any_moment tells) (g.met.D.Disk.reads_an_image c.commit.new.disk tells)

pub returns-in-Err-clause-appended : goal.returns-in-Err-clause-appended
returns-in-Err-clause-appended g c = λ going tells.
    appends c.args.self.now.end (g.D.Disk.on_disk c.args.self.now.disk) (g.D.Disk.on_disk c.commit.new.disk) c.as_slice.result.now
    (c.args.self.now.ready going tells) (c.commit.ensures.any_moment tells) (g.met.D.Disk.reads_an_image c.commit.new.disk tells)

pub returns-in-Ok-clause-never_loses : goal.returns-in-Ok-clause-never_loses
returns-in-Ok-clause-never_loses g c = λ going tells version issuer bodies at.
    append_never_loses (g.D.Disk.on_disk c.args.self.now.disk) (g.D.Disk.on_disk c.commit.new.disk) version issuer bodies
    c.args.body.now c.as_slice.result.now c.args.self.now.end c.requires.size at (c.as_slice.ensures.value ∙ c.frame_bytes.ensures)
    (c.commit.ensures.any_moment tells at.nothing_pending) (c.commit.ensures.before_the_last tells at.nothing_pending)

pub returns-in-Err-clause-never_loses : goal.returns-in-Err-clause-never_loses
returns-in-Err-clause-never_loses g c = λ going tells version issuer bodies at.
    append_never_loses (g.D.Disk.on_disk c.args.self.now.disk) (g.D.Disk.on_disk c.commit.new.disk) version issuer bodies
    c.args.body.now c.as_slice.result.now c.args.self.now.end c.requires.size at (c.as_slice.ensures.value ∙ c.frame_bytes.ensures)
    (c.commit.ensures.any_moment tells at.nothing_pending) (c.commit.ensures.before_the_last tells at.nothing_pending)
