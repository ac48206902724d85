use Rattle.std.proofs.Common.{◌+◌, true, subst, sym, ap, ◌∙◌, Bool, take}
use Rattle.chain_disk.specs.OnDisk.{OnDisk}
use Rattle.journal.specs.Tails.{HasGate, HaveOneByte}
use Rattle.journal.specs.Written.{AppendsFrom, KeepsFront}
use Rattle.journal.proofs.Behind.{fronts_with_gates, has_gate, keeps_gate, keeps_same, on_ok, stays_at}
use Rattle.journal.proofs.tails.make_tails_equal.Goals as goal

pub returns-in_err-have_one_byte-clause-first : goal.returns-in_err-have_one_byte-clause-first
returns-in_err-have_one_byte-clause-first g c = λ tells. keeps_same c.args.gate _ _ (c.requires.first tells)
    c.have_one_byte.ensures.same.0

pub returns-in_err-have_one_byte-clause-second : goal.returns-in_err-have_one_byte-clause-second
returns-in_err-have_one_byte-clause-second g c = λ tells. keeps_same c.args.gate _ _ (c.requires.second tells)
    c.have_one_byte.ensures.same.1

pub returns-then-not-branch-clause-first : goal.returns-then-not-branch-clause-first
returns-then-not-branch-clause-first g c = λ tells. keeps_same c.args.gate _ _ (c.requires.first tells)
    c.have_one_byte.ensures.same.0

pub returns-then-not-branch-clause-second : goal.returns-then-not-branch-clause-second
returns-then-not-branch-clause-second g c = λ tells. keeps_same c.args.gate _ _ (c.requires.second tells)
    c.have_one_byte.ensures.same.1

pub level_behind-requires-clause-first : goal.level_behind-requires-clause-first
level_behind-requires-clause-first g c = λ tells. subst (λ (u : OnDisk). HasGate c.args.gate u)
    (sym c.have_one_byte.ensures.same.0) (has_gate c.args.gate _ (c.requires.first tells))

pub level_behind-requires-clause-second : goal.level_behind-requires-clause-second
level_behind-requires-clause-second g c = λ tells. subst (λ (u : OnDisk). HasGate c.args.gate u)
    (sym c.have_one_byte.ensures.same.1) (has_gate c.args.gate _ (c.requires.second tells))

pub returns-clause-equal : goal.returns-clause-equal
returns-clause-equal g c = on_ok c.level_behind.result c.level_behind.ensures.equal (λ equal tells others.
    let from = g.D.Disk.on_disk c.args.first.now in
    let to = g.M.Disk.on_disk c.args.second.now in
    let one : HaveOneByte from.content to.content c.args.gate true = subst (λ (b : Bool). HaveOneByte from.content to.content c.args.gate b)
    c.if-not-branch.false (c.in_ok-have_one_byte.ensures.one tells others) in
    let fronts : KeepsFront (c.args.gate + 1) from.content to.content =
    fronts_with_gates c.args.gate from.content to.content (c.requires.front tells others) one in
    equal tells others (ap (λ (u : OnDisk). take (c.args.gate + 1) u.content) c.have_one_byte.ensures.same.1 ∙ fronts
    ∙ sym (ap (λ (u : OnDisk). take (c.args.gate + 1) u.content) c.have_one_byte.ensures.same.0)))

pub returns-clause-stays : goal.returns-clause-stays
returns-clause-stays g c = on_ok c.level_behind.result c.level_behind.ensures.settled (λ settled. (
  λ tells. stays_at c.args.gate (g.D.Disk.on_disk c.args.first.now) _
      (subst (λ (u : OnDisk). AppendsFrom (c.args.gate + 1) u (g.D.Disk.on_disk c.level_behind.new.first))
      c.have_one_byte.ensures.same.0 (c.level_behind.ensures.first tells)) (settled.0 tells),
  λ tells. stays_at c.args.gate (g.M.Disk.on_disk c.args.second.now) _
      (subst (λ (u : OnDisk). AppendsFrom (c.args.gate + 1) u (g.M.Disk.on_disk c.level_behind.new.second))
      c.have_one_byte.ensures.same.1 (c.level_behind.ensures.second tells)) (settled.1 tells),
))

pub returns-clause-first : goal.returns-clause-first
returns-clause-first g c = λ tells. keeps_gate c.args.gate (g.D.Disk.on_disk c.args.first.now) _
    (subst (λ (u : OnDisk). AppendsFrom (c.args.gate + 1) u (g.D.Disk.on_disk c.level_behind.new.first))
    c.have_one_byte.ensures.same.0 (c.level_behind.ensures.first tells))

pub returns-clause-second : goal.returns-clause-second
returns-clause-second g c = λ tells. keeps_gate c.args.gate (g.M.Disk.on_disk c.args.second.now) _
    (subst (λ (u : OnDisk). AppendsFrom (c.args.gate + 1) u (g.M.Disk.on_disk c.level_behind.new.second))
    c.have_one_byte.ensures.same.1 (c.level_behind.ensures.second tells))
