use Rattle.std.proofs.Common.{◌≡◌, ◌∙◌, ℕ, Bool, true, false, cond, Option, Some, is_some, ap, sym, refl, bytes_eq}
use Rattle.std.specs.Map.{lookup}
use Rattle.std.specs.Prelude.{unwrap_or, if◌then◌else◌}
use Rattle.shop_core.specs.Tables.ByHuella.{is_key}
use Rattle.shop_core.proofs.tables.by_huella.ByHuella.write.Goals as goal

put : (is : Bool) (place : ℕ) (o : Option ℕ) → unwrap_or (cond is (Some place) o) 0 ≡ (if is then place else unwrap_or o 0)
put true place o = refl
put false place o = refl

pub returns : goal.returns
returns c = λ h.
    let written = ((c.get_mut.follows.holds c.args.place).3 (sym (ap is_some c.in-Some.ensures.value))).0 in
    ap (λ (o : Option ℕ). unwrap_or o 0) (written (record { huella = h })) ∙ put (bytes_eq c.args.huella.now h) c.args.place
    (lookup (is_key h) c.args.self.now.places.entries)
