use Rattle.shop_core.proofs.FileStops.{one_stop, stops_at_its_gate}
use Rattle.shop_core.proofs.file.laws.a_file_stops_at_one_place.Goals as goal

pub returns-clause-one : goal.returns-clause-one
returns-clause-one c = one_stop c.encodings_are_apart.ensures c.a_file_has_one_header.ensures.version
    c.walks_over_a_file_agree.ensures

pub returns-clause-sound : goal.returns-clause-sound
returns-clause-sound c = stops_at_its_gate c.a_file_is_walked.ensures.ends
