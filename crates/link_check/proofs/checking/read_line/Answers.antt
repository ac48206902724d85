use Rattle.std.proofs.Common.{List, ℕ, subst, Err}
use Rattle.verify_link.specs.Reading.{IsLinkReading}
use Rattle.link_check.specs.Checking.IsChecked.{no_text, no_link}
use Rattle.link_check.proofs.checking.read_line.Goals as goal

pub returns-in-Err : goal.returns-in-Err
returns-in-Err c = λ chain. no_text c.in-Err.ensures.cases.0

pub returns-in_default : goal.returns-in_default
returns-in_default c = λ chain.
    let fault = c.in-Err-read_link.fault in
    let reading = subst (λ (t : List ℕ). IsLinkReading t (Err fault)) c.in-Ok.ensures.cases.0
    c.in-Err-read_link.ensures.reading in
    no_link fault c.in-Ok.ensures.cases.1 reading c.in_default.not-NoMemory
