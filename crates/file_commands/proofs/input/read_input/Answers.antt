use Rattle.std.proofs.Common.{◌++◌, take, arith, length-append}
use Rattle.std.proofs.KnownBytes.{Consumes-trans}
use Rattle.file_commands.proofs.Bytewise.{front_length}
use Rattle.file_commands.proofs.input.read_input.Goals as goal

pub returns-then-len-count-gt-MAX_INPUT-clause-input :
    goal.returns-then-len-count-gt-MAX_INPUT-clause-input
returns-then-len-count-gt-MAX_INPUT-clause-input g c =
    let old = c.loop-turn.bytes.items in
    let front = take c.in-Ok.count c.read.new.buf in
    let n = front_length c.read.new.buf c.in-Ok.count c.in-Ok.ensures.within in
    record {
      bytes = old ++ front;
      given = Consumes-trans _ _ _ old front c.loop-turn.invariant.given c.in-Ok.ensures.bytes.0;
      size = simp length-append (omega (arith, n, c.loop-turn.bytes.ok.0));
    }
