-- How `statement` ends.
use Rattle.std.specs.Prelude.{ℕ, List, IsTrue, map}
use Rattle.chain_disk.specs.Disks.{Disks, DiskRose}
use Rattle.ports.specs.Sinks.{Sinks, WroteNothing}
use Rattle.record_codec.specs.declared.entry.Entry.{Entry}
use Rattle.shop_core.specs.File.Files.{IsDamagedFile}
use Rattle.statements.specs.Periods.{IsStatementOf, period_text}
use Rattle.statements.specs.declared.periods.Period.{Period}
use Rattle.statements.specs.declared.rows.Row.{Row}
use Rattle.report.specs.Statements as report
use Rattle.report.specs.declared.statements.StatementLine.{StatementLine}
use Rattle.report.specs.declared.status.Detail.{Detail}
use Rattle.report.specs.declared.status.Detail.TheVariants as detail
use Rattle.file_commands.specs.Linking.{IsHistoryOf}
use Rattle.file_commands.specs.Output.{PrintEnds}

-- a row as it is printed
abbrev pub line_of : Row → StatementLine
line_of row = record {
  key = row.key;
  lines = row.lines;
  base = row.base;
  tax = row.tax;
  surcharge = row.surcharge;
}

-- the text of a period's rows
abbrev pub statement_text : Period → List Row → List ℕ
statement_text period rows = report.statement_text (period_text period) (map line_of rows)

-- these rows were printed, or there was no memory for their text
pub data RowsPrinted (period : Period) (rows : List Row) (s : Sinks) : Detail → Type 0 where
  told : (end : Detail) → PrintEnds (statement_text period rows) detail.Done s end → RowsPrinted period rows s end
  no_memory : WroteNothing s → RowsPrinted period rows s detail.NoMemory

-- the statement of the period of these entries was printed
pub data StatementPrinted (entries : List Entry) (period : Period) (s : Sinks) : Detail → Type 0 where
  stated : (rows : List Row) (end : Detail) → IsStatementOf entries period rows → RowsPrinted period rows s end →
      StatementPrinted entries period s end
  no_memory : WroteNothing s → StatementPrinted entries period s detail.NoMemory

-- that of the file's history; or why the file couldn't be read
pub data StatementEnds {D : Type 0} (period : Period) (s : Sinks) (k : Disks D) : Detail → Type 0 where
  read : (entries : List Entry) (end : Detail) → (IsTrue k.tells → IsHistoryOf entries (k.on_disk k.disk).content) →
      StatementPrinted entries period s end → StatementEnds period s k end
  damaged : (at : ℕ) → (IsTrue k.tells → IsDamagedFile (k.on_disk k.disk).content at) → WroteNothing s →
      StatementEnds period s k (detail.Damaged at)
  disk_fault : DiskRose k → WroteNothing s → StatementEnds period s k detail.DiskFault
  no_memory : WroteNothing s → StatementEnds period s k detail.NoMemory
