use Rattle.std.proofs.Common.{◌≡◌, ℕ, List, codes, refl, ◌∙◌, ap, ap₂}
use Rattle.serde_json.specs.Data.{Data, Members, object, put}
use Rattle.serde_json.proofs.Views.{view-Object}
use Rattle.record_fields.specs.declared.records.Record.{Record}
use Rattle.record_fields.specs.declared.records.Record.TheVariants as record_of
use Rattle.export.specs.Objects.{body_object, members_from, number_of, record_fields_of}
use Rattle.export.proofs.objects.record_value.Goals as goal

-- a till and a serial more
abbrev more : ℕ → ℕ → Members → Data
more till serial members = object (put (codes "till") (number_of till) (put (codes "serial") (number_of serial) members))

whole : (till serial : ℕ) (body : Record) (huella : List ℕ) →
    more till serial (members_from (record_fields_of body huella)) ≡ body_object till serial body huella
whole till serial (record_of.Alta alta) huella = refl
whole till serial (record_of.Anulacion anulacion) huella = refl

pub returns : goal.returns
returns c =
    let args = c.args in
    view-Object c.put-2.new.map ∙ ap (λ (m : Members). object m) (c.in_ok-put-2.ensures.ok
    ∙ ap₂ (λ (d : Data) (m : Members). put (codes "till") d m) c.from-2.ensures (c.in_ok-put.ensures.ok
    ∙ ap₂ (λ (d : Data) (m : Members). put (codes "serial") d m) c.from.ensures c.in_ok-members.ensures))
    ∙ whole args.till args.serial args.sealed.now.body args.sealed.now.huella
