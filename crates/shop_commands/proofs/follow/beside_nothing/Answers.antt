use Rattle.std.proofs.Common.{inl, inr, refl, arith}
use Rattle.file_commands.proofs.Bytewise.{took_nothing}
use Rattle.shop_commands.proofs.follow.beside_nothing.Goals as goal

pub returns-then-held-gt0 : goal.returns-then-held-gt0
returns-then-held-gt0 g c =
    let some = c.if-held-gt0.true in
    let count = c.entries-held.ensures.count in
    inl (omega (arith, some, count), refl, took_nothing (g.K.Sink.taken c.args.sink.now))

pub returns : goal.returns
returns g c =
    let none = c.if-held-gt0.false in
    let count = c.entries-held.ensures.count in
    inr (omega (arith, none, count), c.print_counts.ensures)
