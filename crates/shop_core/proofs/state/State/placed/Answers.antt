use Rattle.std.proofs.Common.{◌≡◌, ◌∙◌, ap, sym, refl, ℕ, Option, Some, None, option_map, List}
use Rattle.record_fields.specs.declared.records.Sealed.{Sealed}
use Rattle.record_codec.specs.declared.entry.Entry.{Entry}
use Rattle.shop_core.specs.Found.{is_wanted}
use Rattle.shop_core.specs.Tables.ByNumber.{place_in}
use Rattle.shop_core.specs.History.{recs, noted, sealed_at}
use Rattle.shop_core.specs.Standing.{last_where}
use Rattle.shop_core.specs.declared.standing.Wanted.{Wanted}
use Rattle.shop_core.proofs.Standings.{last_read}
use Rattle.shop_core.proofs.state.State.placed.Goals as goal

mapped : (o : Option (ℕ × Sealed)) → option_map (λ (p : ℕ × Sealed). p) o ≡ o
mapped None = refl
mapped (Some p) = refl

placed_with : ℕ → Option Sealed → Option (ℕ × Sealed)
placed_with place o = option_map (λ (s : Sealed). (place, s)) o

there : (wanted : Wanted) (entries : List Entry) (num : List ℕ) (place : ℕ) (found : Option Sealed) →
    place_in (is_wanted wanted (noted entries) num) (recs entries) ≡ Some place → found ≡ sealed_at entries place →
    placed_with place found ≡ last_where (is_wanted wanted (noted entries) num) entries
unfolding placed_with
there wanted entries num place found e f =
    ap (placed_with place) f ∙ last_read (λ (p : ℕ × Sealed). p) (is_wanted wanted (noted entries) num) (recs entries) place e
    ∙ mapped (last_where (is_wanted wanted (noted entries) num) entries)

pub returns-in-None-2 : goal.returns-in-None-2
unfolding placed_with
returns-in-None-2 c =
    there c.args.wanted c.args.self.now.entries c.args.num.now c.in-Some.place None (sym c.place_where.ensures ∙ c.in-Some.is)
    (sym c.in-None-2.is ∙ c.in_ok-sealed-in-Some.ensures)

pub returns-in-Some-2 : goal.returns-in-Some-2
unfolding placed_with
returns-in-Some-2 c =
    there c.args.wanted c.args.self.now.entries c.args.num.now c.in-Some.place (Some c.in-Some-2.sealed)
    (sym c.place_where.ensures ∙ c.in-Some.is) (sym c.in-Some-2.is ∙ c.in_ok-sealed-in-Some.ensures)
