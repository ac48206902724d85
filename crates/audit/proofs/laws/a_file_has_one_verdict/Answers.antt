use Rattle.audit.proofs.Verdicts.{one_verdict}
use Rattle.audit.proofs.laws.a_file_has_one_verdict.Goals as goal

pub returns : goal.returns
returns c =
    one_verdict c.bytes_begin_with_one_frame.ensures c.encodings_are_apart.ensures c.a_file_has_one_header.ensures.header
    c.a_file_stops_at_one_place.ensures.one c.a_file_stops_at_one_place.ensures.sound
