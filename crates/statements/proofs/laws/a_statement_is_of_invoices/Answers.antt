use Rattle.statements.proofs.Invoices.{lines_are, rows_are}
use Rattle.statements.proofs.laws.a_statement_is_of_invoices.Goals as goal

pub returns : goal.returns
returns c = record {
  lines = lines_are c.a_sale_has_a_new_number.ensures;
  rows = rows_are c.a_sale_has_a_new_number.ensures;
}
