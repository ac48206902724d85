use Rattle.std.proofs.Common.{◌≡◌, ◌∙◌, ap, sym, Some, Bool, true, false, not, bytes_eq, refl, List, ℕ}
use Rattle.shop_core.specs.Standing.{is_known_on, last_accepted}
use Rattle.link_check.proofs.Looking.{is_settled}
use Rattle.link_check.proofs.checking.answer.Goals as goal

not_false : (b : Bool) → not b ≡ false → b ≡ true
not_false true e = refl
not_false false e = absurd cc

pub returns : goal.returns
returns c =
    let issuer = c.args.state.now.issuer in
    let entries = c.args.state.now.entries in
    let parts = c.args.parts.now in
    let nif : bytes_eq parts.nif issuer ≡ true =
    ap (λ (t : List ℕ). bytes_eq parts.nif t) (sym c.issuer.ensures)
    ∙ not_false (bytes_eq parts.nif c.issuer.result.now) (sym c.ne.ensures ∙ c.if-ne.false) in
    let known : is_known_on entries parts.num parts.day ≡ true = sym c.is_known_on.ensures ∙ c.if-not-is_known_on.false in
    let accepted : last_accepted entries parts.num ≡ Some (c.in-Some.place, c.in-Some.sealed) =
    sym c.in_ok-place.ensures ∙ c.in-Some.is in
    is_settled issuer entries parts (c.in-Some.place, c.in-Some.sealed) nif known accepted ∙ ap Some (sym c.beside.ensures)
