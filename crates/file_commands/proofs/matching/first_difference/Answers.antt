use Rattle.std.proofs.Common.{◌∙◌, ◌+◌, ◌≤◌, arith, length, sym}
use Rattle.export.specs.Objects.{object_of}
use Rattle.file_commands.specs.Exporting.{objects_of}
use Rattle.file_commands.specs.Exporting.Exported.{history}
use Rattle.file_commands.specs.Lines.{lines_of}
use Rattle.file_commands.proofs.Places.{all_same, differs_here, missing_here, object_at, objects_end, one_more, reads, reads_not, too_many_here}
use Rattle.file_commands.proofs.matching.first_difference.Goals as goal

pub returns-in_default-next_line : goal.returns-in_default-next_line
returns-in_default-next_line c =
    let state = c.args.state.now in
    let i = c.loop-index.index in
    missing_here (lines_of c.args.bytes.now) (objects_of (history state.version state.issuer state.entries)) (i + 1) (i + 2)
    (lines_of c.loop-index.rest.now) (object_of c.in-Some-2.entry) (omega arith) c.loop-index.invariant
    c.in_default-next_line.ensures
    (object_at state.version state.issuer state.entries i c.in-Some-2.entry (sym c.in_ok-entry.ensures ∙ c.in-Some-2.is))

pub returns-then-not-branch-2 : goal.returns-then-not-branch-2
returns-then-not-branch-2 c =
    let state = c.args.state.now in
    let i = c.loop-index.index in
    differs_here (lines_of c.args.bytes.now) (objects_of (history state.version state.issuer state.entries)) (i + 1) (i + 2)
    c.in-Some-next_line.line.now (lines_of c.loop-index.rest.now) (lines_of c.in-Some-next_line.behind.now)
    (object_of c.in-Some-2.entry) (omega arith) c.loop-index.invariant c.in-Some-next_line.ensures
    (object_at state.version state.issuer state.entries i c.in-Some-2.entry (sym c.in_ok-entry.ensures ∙ c.in-Some-2.is))
    (reads_not c.in_ok-is_entry_line.field-0 c.in_ok-is_entry_line.ensures c.if-not-branch-2.true)

pub loop-index-preserved : goal.loop-index-preserved
loop-index-preserved c =
    let state = c.args.state.now in
    let i = c.loop-index.index in
    one_more (lines_of c.args.bytes.now) (objects_of (history state.version state.issuer state.entries)) (i + 1) (i + 1 + 1)
    c.in-Some-next_line.line.now (lines_of c.loop-index.rest.now) (lines_of c.in-Some-next_line.behind.now)
    (object_of c.in-Some-2.entry) (omega arith) c.loop-index.invariant c.in-Some-next_line.ensures
    (object_at state.version state.issuer state.entries i c.in-Some-2.entry (sym c.in_ok-entry.ensures ∙ c.in-Some-2.is))
    (reads c.in_ok-is_entry_line.field-0 c.in_ok-is_entry_line.ensures c.if-not-branch-2.false)

pub returns-in-None : goal.returns-in-None
returns-in-None c =
    let state = c.args.state.now in
    let end : length state.entries ≤ c.loop-index.index = omega (
      arith,
      c.entries-index-end.ensures.count,
      c.loop-index-test.false,
    ) in
    all_same (lines_of c.args.bytes.now) (objects_of (history state.version state.issuer state.entries)) (c.loop-index.index + 1)
    (lines_of c.loop-index.rest.now) c.loop-index.invariant c.in-None.ensures
    (objects_end state.version state.issuer state.entries c.loop-index.index end)

pub returns-in-Some-next_line-2 : goal.returns-in-Some-next_line-2
returns-in-Some-next_line-2 c =
    let state = c.args.state.now in
    let end : length state.entries ≤ c.loop-index.index = omega (
      arith,
      c.entries-index-end.ensures.count,
      c.loop-index-test.false,
    ) in
    too_many_here (lines_of c.args.bytes.now) (objects_of (history state.version state.issuer state.entries))
    (c.loop-index.index + 1) (c.entries.result + 2) c.in-Some-next_line-2.field-0.0.now (lines_of c.loop-index.rest.now)
    (lines_of c.in-Some-next_line-2.field-0.1.now)
    (omega (arith, c.entries.ensures.count, c.entries-index-end.ensures.count, c.loop-index-test.false, c.loop-index.auto.index-end))
    c.loop-index.invariant c.in-Some-next_line-2.ensures
    (objects_end state.version state.issuer state.entries c.loop-index.index end)
