use Rattle.std.proofs.Common.{◌∙◌, arith, sym}
use Rattle.file_commands.proofs.Exports.{all_lines, first_line, next_line}
use Rattle.file_commands.proofs.exporting.history_text.Goals as goal

pub loop-index-init : goal.loop-index-init
loop-index-init c = first_line c.args.state.now.version c.version.result c.args.state.now.issuer c.issuer.result.now _ _ _ _
    c.new-text.ensures.items c.as_slice.ensures c.in_ok-head.ensures.text c.issuer.ensures c.version.ensures
    c.in_ok-put_line.ensures

pub loop-index-preserved : goal.loop-index-preserved
loop-index-preserved c =
    let state = c.args.state.now in
    next_line state.version state.issuer state.entries c.loop-index.index c.in-Some.entry _ _ _ _ c.loop-index.invariant
    (sym c.in_ok-entry.ensures ∙ c.in-Some.is) c.as_slice-in-loop-index.ensures c.in_ok-line.ensures.text
    c.in_ok-put_line-2.ensures

pub returns : goal.returns
returns c =
    let state = c.args.state.now in
    all_lines state.version state.issuer state.entries c.loop-index.index _
    (omega (arith, c.entries-index-end.ensures.count, c.loop-index-test.false)) c.loop-index.invariant
