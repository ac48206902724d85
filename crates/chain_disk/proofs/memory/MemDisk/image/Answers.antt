use Rattle.std.proofs.Common.{◌∙◌, List, ℕ, take, length, ◌≤◌, ap, sym, subst, arith}
use Rattle.chain_disk.specs.Fill.{IsFilled}
use Rattle.chain_disk.specs.Memory.{on_disk_by, fresh}
use Rattle.chain_disk.specs.OnDisk.{OnDisk, IsLeft}
use Rattle.chain_disk.specs.declared.event.Event.{Event}
use Rattle.chain_disk.proofs.Images.{filled_image, image_left, moment_told}
use Rattle.chain_disk.proofs.memory.MemDisk.image.Goals as goal

pub returns-then-moment-len : goal.returns-then-moment-len
returns-then-moment-len c = omega (
  arith,
  moment_told c.args.self.now.first.items c.args.self.now.events.items,
  c.if-moment-len.true,
  c.len.ensures,
)

pub returns : goal.returns
returns c =
    let m = c.args.moment in
    let first = c.args.self.now.first.items in
    let events = c.args.self.now.events.items in
    let v = c.in_ok-bytes.bytes.items in
    let of_first : IsFilled c.args.fill (on_disk_by first (take m c.deref-2.result.now)).content
    (on_disk_by first (take m c.deref-2.result.now)).now v =
    subst (λ (l : List ℕ). IsFilled c.args.fill (on_disk_by l (take m c.deref-2.result.now)).content
    (on_disk_by l (take m c.deref-2.result.now)).now v) c.deref.ensures.value c.in_ok-bytes.ensures in
    let filled : IsFilled c.args.fill (on_disk_by first (take m events)).content (on_disk_by first (take m events)).now v =
    subst (λ (l : List Event). IsFilled c.args.fill (on_disk_by first (take m l)).content (on_disk_by first (take m l)).now v)
    c.deref-2.ensures.value of_first in
    let within : m ≤ length events = omega (arith, c.if-moment-len.false, c.len.ensures) in
    let image = filled_image c.args.fill (on_disk_by first (take m events)).content (on_disk_by first (take m events)).now v filled in
    let told = c.new-2.ensures.told in
    let content = ap (λ (t : OnDisk). t.content) told in
    record {
      already = omega (arith, within, moment_told first events);
      told = told ∙ ap fresh (sym content);
      filled = subst (IsFilled c.args.fill (on_disk_by first (take m events)).content (on_disk_by first (take m events)).now)
          (sym content) filled;
      left = subst (IsLeft (on_disk_by first events) m) (sym content) (image_left first events m v within image);
      failing = cc (c.new-2.ensures.failing, c.new.ensures.items);
      calls = c.new-2.ensures.calls;
      faults = c.new-2.ensures.faults;
    }
