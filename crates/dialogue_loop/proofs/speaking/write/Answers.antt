use Rattle.std.proofs.Common.{arith}
use Rattle.std.proofs.KnownBytes.{Appends-trans}
use Rattle.dialogue_loop.proofs.Bytewise.{take_on, rest_le}
use Rattle.dialogue_loop.proofs.speaking.write.Goals as goal

pub loop-done-preserved : goal.loop-done-preserved
loop-done-preserved g c =
    let w = rest_le c.args.text.now c.loop-done.done c.in_ok-done.field-0 c.in_ok-done.ensures.within in
    record {
      written = rw (take_on c.args.text.now c.loop-done.done c.in_ok-done.field-0)
          (Appends-trans _ _ _ _ _ c.loop-done.invariant.written c.in_ok-done.ensures.bytes.0);
      size = omega (arith, w);
      later = omega (arith, c.write.ensures.cause.later);
    }
