use Rattle.sender.proofs.laws.what_is_known.Goals as goal

pub returns : goal.returns
returns c = record {
  records = c.agreement_is_kept.ensures.records;
  next_lines = c.agreement_is_kept.ensures.next_lines;
  sending = c.agreement_is_kept.ensures.sending;
  deliveries = c.agreement_is_kept.ensures.deliveries;
  noting = c.agreement_is_kept.ensures.noting;
  first = c.answers_are_next.ensures.first;
  whole = c.answers_are_next.ensures.whole;
  looked = c.answers_are_next.ensures.looked;
  adds = c.what_came_is_seen.ensures.grows;
  delivered_seen = c.what_came_is_seen.ensures.delivered;
  stays = c.what_came_is_seen.ensures.stays;
  quiet = c.what_came_beside_is_records.ensures.quiet;
  own = c.what_came_beside_is_records.ensures.own;
}
