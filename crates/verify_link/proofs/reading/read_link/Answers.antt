use Rattle.std.proofs.Common.{◌∙◌, ap}
use Rattle.verify_link.specs.Parts.{link_text}
use Rattle.verify_link.proofs.CapitalLemmas.{capitals, capitals_from}
use Rattle.verify_link.proofs.LinkLemmas.{read_back, capitals-link}
use Rattle.verify_link.proofs.reading.read_link.Goals as goal

pub returns-clause-read_back : goal.returns-clause-read_back
returns-clause-read_back c = λ parts valid is.
    read_back c.text_determines_day.ensures c.text_determines_amount.ensures c.args.text.now parts valid
    (capitals_from c.args.text.now (link_text parts) is) c.read_bytes.result
    (rw c.as_bytes.ensures.value at c.read_bytes.ensures)

pub returns-clause-inverse : goal.returns-clause-inverse
returns-clause-inverse c = λ parts valid is.
    read_back c.text_determines_day.ensures c.text_determines_amount.ensures c.args.text.now parts valid (ap (capitals 0) is ∙
    capitals-link parts) c.read_bytes.result
    (rw c.as_bytes.ensures.value at c.read_bytes.ensures)
