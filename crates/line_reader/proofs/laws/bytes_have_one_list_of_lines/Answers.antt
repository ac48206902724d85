use Rattle.line_reader.proofs.OneList.{one_list}
use Rattle.line_reader.proofs.laws.bytes_have_one_list_of_lines.Goals as goal

pub returns : goal.returns
returns c = one_list c.args.bytes.now
