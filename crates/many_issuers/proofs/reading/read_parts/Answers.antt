use Rattle.many_issuers.proofs.PartsCount.{parts_count}
use Rattle.many_issuers.proofs.reading.read_parts.Goals as goal

pub returns-in-Ok-read_many-clause-one_each : goal.returns-in-Ok-read_many-clause-one_each
returns-in-Ok-read_many-clause-one_each g c =
    parts_count c.deref.result.now c.args.issuers.now c.in-Ok-read_many.parts c.in-Ok-read_many.ensures.many.1
