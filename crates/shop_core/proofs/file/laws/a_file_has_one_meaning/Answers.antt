use Rattle.shop_core.proofs.FileMeanings.{one_history, one_damage, sound_or_damaged, not_begun_is_neither}
use Rattle.shop_core.proofs.file.laws.a_file_has_one_meaning.Goals as goal

pub returns-clause-history : goal.returns-clause-history
returns-clause-history c = one_history c.a_file_stops_at_one_place.ensures.one c.a_file_stops_at_one_place.ensures.sound

pub returns-clause-damage : goal.returns-clause-damage
returns-clause-damage c = one_damage c.bytes_begin_with_one_frame.ensures c.encodings_are_apart.ensures
    c.a_file_has_one_header.ensures.header c.a_file_stops_at_one_place.ensures.one

pub returns-clause-sound : goal.returns-clause-sound
returns-clause-sound c = sound_or_damaged c.bytes_begin_with_one_frame.ensures c.encodings_are_apart.ensures
    c.a_file_has_one_header.ensures.header c.a_file_stops_at_one_place.ensures.one c.a_file_stops_at_one_place.ensures.sound

pub returns-clause-not_begun : goal.returns-clause-not_begun
returns-clause-not_begun c = not_begun_is_neither c.bytes_begin_with_one_frame.ensures c.encodings_are_apart.ensures
    c.a_file_has_one_header.ensures.header c.a_file_stops_at_one_place.ensures.sound
