use Rattle.std.proofs.Common.{◌∙◌, ℕ, List, ap, sym}
use Rattle.script.specs.Fields.{fields_of}
use Rattle.issuers.specs.Reading.{behind_issuer, section_in}
use Rattle.issuers.proofs.Heads.{section_no, section_yes}
use Rattle.issuers.proofs.reading.section_of.Goals as goal

pub returns-in-Ok : goal.returns-in-Ok
returns-in-Ok c = c.behind_issuer.ensures ∙ ap (λ (t : List ℕ). behind_issuer (fields_of t)) c.in-Ok.ensures.cases.0 ∙
    sym (section_yes c.without_return.result.now c.in-Ok.ensures.cases.1) ∙ ap section_in c.without_return.ensures

pub returns-in-Err : goal.returns-in-Err
returns-in-Err c = sym (section_no c.without_return.result.now c.in-Err.ensures.cases.0) ∙ ap section_in c.without_return.ensures
