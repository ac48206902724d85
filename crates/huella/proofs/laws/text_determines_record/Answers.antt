use Rattle.huella.proofs.Determined.{same_record, TextsDetermine}
use Rattle.huella.proofs.laws.text_determines_record.Goals as goal

pub returns : goal.returns
returns c a b here there e =
    let by : TextsDetermine = record {
      day = c.text_determines_day.ensures;
      moment = λ m k here there. c.text_determines_moment.ensures m k (here.seconds, here.offset) (there.seconds, there.offset);
      amount = c.text_determines_amount.ensures;
    } in
    same_record by a b here there e
