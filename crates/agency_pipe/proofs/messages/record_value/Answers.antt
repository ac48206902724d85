use Rattle.std.proofs.Common.{◌≡◌, ℕ, List, codes, refl, ◌∙◌, ap}
use Rattle.serde_json.specs.Data.{Data, Members, object, put}
use Rattle.serde_json.proofs.Views.{view-Object}
use Rattle.tax_lines.specs.Totals.{cuota, total}
use Rattle.record_fields.specs.declared.records.Alta.{Alta}
use Rattle.record_fields.specs.declared.records.Record.{Record}
use Rattle.record_fields.specs.declared.records.Record.TheVariants as record_of
use Rattle.verify_link.specs.Parts.{link_text, parts_of}
use Rattle.verify_link.specs.declared.parts.Host.{Host}
use Rattle.export.specs.Objects.{members_from, record_fields_of, word}
use Rattle.agency_pipe.specs.Messages.{body_object, cents}
use Rattle.agency_pipe.proofs.messages.record_value.Goals as goal

-- what a message says of an alta besides
more : Host → Alta → Members → Members
more host alta members =
    put (codes "total") (cents (total alta.draft.lines)) (
    put (codes "qr") (word (link_text (parts_of alta host))) (
    put (codes "issuer") (word alta.issuer) (
    put (codes "cuota") (cents (cuota alta.draft.lines)) members)))

whole : (host : Host) (body : Record) (alta : Alta) (huella : List ℕ) → body ≡ record_of.Alta alta →
    object (more host alta (members_from (record_fields_of body huella))) ≡ body_object host body huella
unfolding more
whole host body alta huella is = rw is refl

pub returns-in_ok-put_alta-in-Alta : goal.returns-in_ok-put_alta-in-Alta
unfolding more
returns-in_ok-put_alta-in-Alta c =
    let sealed = c.args.sealed.now in
    let alta = c.in-Alta.alta in
    view-Object c.put_alta.new.members
    ∙ ap (λ (m : Members). object m) (c.in_ok-put_alta-in-Alta.ensures
    ∙ ap (λ (m : Members). more c.args.host alta m) c.in_ok-members.ensures)
    ∙ whole c.args.host sealed.body alta sealed.huella c.in-Alta.is
