use Rattle.std.proofs.Common.{◌==◌}
use Rattle.script.proofs.Cutting.{cut_parts}
use Rattle.script.proofs.options.said_by.Goals as goal

pub returns-in-Some : goal.returns-in-Some
returns-in-Some c =
    let p = cut_parts (λ b. b == 61) c.args.field.now c.in-Some.name.now c.in-Some.value.now c.in-Some.ensures in
    rw (p.0, p.1, p.2) c.option_item.ensures
