use Rattle.std.proofs.Common.{arith}
use Rattle.std.proofs.lemmas.List.{length-map}
use Rattle.shop_core.specs.declared.items.Item.TheVariants as recorded
use Rattle.std.proofs.Common.{◌∙◌, refl}
use Rattle.once_world.proofs.Sights.{grows_same, shows_plain}
use Rattle.once_world.proofs.plain.PlainOutboxOutbox.waiting.Goals as goal

pub returns-in_err-list-clause-grows : goal.returns-in_err-list-clause-grows
returns-in_err-list-clause-grows g c =
    let s = c.args.self.now.state in
    grows_same s.version s.version s.issuer s.issuer s.entries s.entries c.args.self.now.own.items c.args.self.now.own.items refl
    refl
    refl
    c.is_legal.ensures

pub returns-clause-grows : goal.returns-clause-grows
returns-clause-grows g c =
    let s = c.args.self.now.state in
    grows_same s.version s.version s.issuer s.issuer s.entries s.entries c.args.self.now.own.items c.args.self.now.own.items refl
    refl
    refl
    c.is_legal.ensures

pub returns-clause-shows : goal.returns-clause-shows
returns-clause-shows g c =
    let s = c.args.self.now.state in
    shows_plain s.version s.issuer s.entries c.args.self.now.own.items c.args.max _ c.noted.ensures.count c.records.ensures.count
    (c.of.ensures ∙ c.in_ok-list.ensures)

pub returns-in_err-list-clause-covers : goal.returns-in_err-list-clause-covers
returns-in_err-list-clause-covers g c =
    let e = length-map c.args.self.now.state.entries (λ x. recorded.Entry x) in omega (arith, e)

pub returns-clause-covers : goal.returns-clause-covers
returns-clause-covers g c = let e = length-map c.args.self.now.state.entries (λ x. recorded.Entry x) in omega (arith, e)
