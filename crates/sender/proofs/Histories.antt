-- The history of a shop that grew.
use Rattle.std.proofs.Common.{◌≡◌, List, [], ◌++◌, refl, sym, ◌∙◌, ap, subst, append-nil}
use Rattle.std.proofs.lemmas.List.Elements.{filter_map-append}
use Rattle.shop_core.specs.Items.{entry_in, entries_of}
use Rattle.shop_core.specs.declared.items.Item.{Item}
use Rattle.shop_core.specs.Legal.{Legal}
use Rattle.once_world.specs.Outbox.{Sight, Grows, history_of}

pub entries_both : (xs ys : List Item) → entries_of (xs ++ ys) ≡ entries_of xs ++ entries_of ys
entries_both xs ys = filter_map-append entry_in xs ys

pub grown : (before look : Sight) (g : Grows before look) → history_of look ≡ history_of before ++ entries_of g.items.rest
grown before look g = ap entries_of g.items.is ∙ entries_both before.items g.items.rest

pub stays : (look after : Sight) → Legal look.version look.issuer (history_of look) → after ≡ look → Grows look after
stays look after legal e = subst (λ (s : Sight). Grows look s) (sym e) (record {
  issuer = refl;
  version = refl;
  items = record { rest = []; is = sym (append-nil look.items) };
  legal = legal;
})
