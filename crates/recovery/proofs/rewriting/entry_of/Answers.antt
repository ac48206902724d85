use Rattle.std.proofs.Common.{sym, ◌∙◌}
use Rattle.recovery.proofs.Entries.{fits_in_two, found_fits}
use Rattle.recovery.proofs.rewriting.entry_of.Goals as goal

pub returns-clause-ranges : goal.returns-clause-ranges
returns-clause-ranges c =
    let state = c.args.state.now in
    found_fits state.version state.issuer state.entries c.args.index c.in-Some.entry
    c.what_continues_fits_its_bytes.ensures c.is_legal.ensures (sym (c.in_ok-entry.ensures) ∙ c.in-Some.is)

pub returns-clause-fits : goal.returns-clause-fits
returns-clause-fits c = fits_in_two c.in-Some.entry
