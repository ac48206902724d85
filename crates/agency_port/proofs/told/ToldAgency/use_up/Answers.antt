use Rattle.std.proofs.Common.{◌∙◌, ap}
use Rattle.agency_port.specs.Telling.{used_up}
use Rattle.agency_port.proofs.Tellings.{left_record}
use Rattle.agency_port.proofs.told.ToldAgency.use_up.Goals as goal

pub returns-then-self-as_slice : goal.returns-then-self-as_slice
returns-then-self-as_slice c =
    let s = c.self.inside in
    left_record s.answers s.at s.said.items s.fault_count ∙ ap used_up c.self.view_is
