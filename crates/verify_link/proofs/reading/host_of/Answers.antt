use Rattle.std.proofs.Common.{◌∙◌, List, ℕ}
use Rattle.verify_link.specs.Parts.{beginning}
use Rattle.verify_link.specs.Reading.{Begins}
use Rattle.verify_link.specs.declared.parts.Host.{Host}
use Rattle.verify_link.specs.declared.parts.Host.TheVariants.{Real, Practice}
use Rattle.verify_link.proofs.BeginsLemmas.{begins_from, begins_not}
use Rattle.verify_link.proofs.reading.host_of.Goals as goal

of_neither : (text : List ℕ) → ¬ (Begins (beginning Real) text) → ¬ (Begins (beginning Practice) text) → (host : Host) →
    ¬ (Begins (beginning host) text)
of_neither text real practice Real = real
of_neither text real practice Practice = practice

pub returns-then-starts_with : goal.returns-then-starts_with
returns-then-starts_with c =
    begins_from (beginning Real) c.args.text.now c.as_bytes.result.now c.starts_with.result c.starts_with.ensures.value
    (c.as_bytes.ensures.value ∙ c.beginning.ensures) c.if-starts_with.true

pub returns-then-starts_with-2 : goal.returns-then-starts_with-2
returns-then-starts_with-2 c =
    begins_from (beginning Practice) c.args.text.now c.as_bytes-2.result.now c.starts_with-2.result c.starts_with-2.ensures.value
    (c.as_bytes-2.ensures.value ∙ c.beginning-2.ensures) c.if-starts_with-2.true

pub returns : goal.returns
returns c =
    of_neither c.args.text.now
    (begins_not (beginning Real) c.args.text.now c.as_bytes.result.now c.starts_with.result c.starts_with.ensures.value
    (c.as_bytes.ensures.value ∙ c.beginning.ensures) c.if-starts_with.false)
    (begins_not (beginning Practice) c.args.text.now c.as_bytes-2.result.now c.starts_with-2.result c.starts_with-2.ensures.value
    (c.as_bytes-2.ensures.value ∙ c.beginning-2.ensures) c.if-starts_with-2.false)
