use Rattle.std.proofs.Common.{arith}
use Rattle.amounts.proofs.TextLemmas.{drop-set_front}
use Rattle.tax_lines.proofs.words.put_in_front.Goals as goal

pub returns-clause-written : goal.returns-clause-written
returns-clause-written c =
    drop-set_front c.args.bytes.now c.args.start c.args.byte c.requires.0 (omega (arith, c.requires.1, c.told-bytes))
