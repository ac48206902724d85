use Rattle.std.proofs.Common.{◌≡◌, ◌∙◌, List, subst, Err}
use Rattle.std.proofs.lemmas.Result.{err_from_is_err_and}
use Rattle.std.specs.List.{AllByRecursion}
use Rattle.tax_lines.specs.Breakdown.{IsBreakdown, IsBreakdownOf}
use Rattle.tax_lines.specs.declared.lines.TaxLine.{TaxLine}
use Rattle.record_fields.specs.declared.versions.Version.TheVariants.{Two}
use Rattle.record_codec.proofs.BreakdownLemmas.{IsLineOf, breakdown_has}
use Rattle.export.specs.Objects.{array_from, tax_line_value}
use Rattle.export.proofs.ObjectLemmas.{only_memory}
use Rattle.export.proofs.records.breakdown_at.Goals as goal

formed : (lines : List TaxLine) → IsBreakdown lines → AllByRecursion (IsLineOf Two) lines
formed lines is = breakdown_has Two lines (is, tt)

pub returns-in_err-lines : goal.returns-in_err-lines
returns-in_err-lines c = λ lines is e.
    let p = err_from_is_err_and c.from_residual-in_err-lines.result c.from_residual-in_err-lines.ensures.1 in
    rw (p.1, p.2) (c.in_err-lines.ensures lines (formed lines is) (c.in_ok-member.ensures (array_from tax_line_value lines) e))

pub returns-in-Ok : goal.returns-in-Ok
returns-in-Ok c = λ lines is e.
    let read : c.in_ok-lines.lines.items ≡ lines = c.in_ok-lines.ensures lines (formed lines is) (c.in_ok-member.ensures (array_from tax_line_value lines) e) in
    c.in-Ok.ensures.1 ∙ c.deref.ensures.value ∙ read

pub returns : goal.returns
returns c = λ lines is e.
    let read : c.in_ok-lines.lines.items ≡ lines = c.in_ok-lines.ensures lines (formed lines is) (c.in_ok-member.ensures (array_from tax_line_value lines) e) in
    only_memory lines c.in-Err.fault is (subst (λ xs. IsBreakdownOf xs (Err c.in-Err.fault)) (c.deref.ensures.value ∙ read) c.in-Err.ensures) c.in_default.not-NoMemory
