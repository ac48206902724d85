-- The last alta of a number is an alta.
use Rattle.std.proofs.Common.{◌≡◌, ℕ, List, option_map, refl, subst, Bool, true, false, Option, Some, None}
use Rattle.std.specs.Prelude.{◌&&◌, All, filter, length, ◌-◌}
use Rattle.std.specs.List.{enumerate_from}
use Rattle.std.proofs.lemmas.List.Elements.{filter_passes}
use Rattle.std.proofs.lemmas.Option.{slice_get_within, get_or_from_slice_get}
use Rattle.record_fields.specs.Picks.{last_of}
use Rattle.record_fields.specs.Records.{is_alta}
use Rattle.record_fields.specs.declared.records.Anulacion.{Anulacion as AnyAnulacion}
use Rattle.record_fields.specs.declared.records.Record.TheVariants.{Anulacion}
use Rattle.record_fields.specs.declared.records.Sealed.{Sealed}
use Rattle.record_codec.specs.declared.entry.Entry.{Entry}
use Rattle.shop_core.specs.History.{recs}
use Rattle.shop_core.specs.Standing.{has_num, last_alta}
use Rattle.file_commands.specs.Linking.{last_alta_of}

passes : {A : Type 0} (test : A → Bool) (xs : List A) (x : A) → All (λ y. test y ≡ true) xs → last_of xs ≡ Some x → test x ≡ true
passes test xs x all e = subst (λ y. test y ≡ true) (get_or_from_slice_get xs (length xs - 1) x x e)
    (all (length xs - 1) x (slice_get_within xs (length xs - 1) x e))

abbrev wanted : List ℕ → ℕ × Sealed → Bool
wanted num p = has_num num p.1 && is_alta p.1.body

both : (a b : Bool) → (a && b) ≡ true → b ≡ true
both true b e = e
both false b e = absurd cc

of_pair : (o : Option (ℕ × Sealed)) (s : Sealed) → Some s ≡ option_map (λ (p : ℕ × Sealed). p.1) o →
    ((p : ℕ × Sealed) → o ≡ Some p → is_alta p.1.body ≡ true) → is_alta s.body ≡ true
of_pair None s e each = absurd cc
of_pair (Some p) s e each = let one = each p refl in cc

is_alta_last : (entries : List Entry) (num : List ℕ) (s : Sealed) → Some s ≡ option_map (λ (p : ℕ × Sealed). p.1)
    (last_alta entries num) → is_alta s.body ≡ true
is_alta_last entries num s e =
    let listed = enumerate_from 1 (recs entries) in
    of_pair (last_alta entries num) s e (λ p is. both (has_num num p.1) (is_alta p.1.body)
    (passes (wanted num) (filter (wanted num) listed) p (filter_passes (wanted num) listed) is))

pub no_anulacion : (entries : List Entry) (num : List ℕ) (s : Sealed) (a : AnyAnulacion) →
    Some s ≡ option_map (λ (p : ℕ × Sealed). p.1) (last_alta entries num) → s.body ≡ Anulacion a → ⊥
no_anulacion entries num s a e is = let alta = is_alta_last entries num s e in absurd cc

pub none_last : (entries : List Entry) (num : List ℕ) → None ≡ option_map (λ (p : ℕ × Sealed). p.1) (last_alta entries num) →
    last_alta_of entries num ≡ None
none_last entries num e = of_none (last_alta entries num) e
  where
    of_none : (o : Option (ℕ × Sealed)) → None ≡ option_map (λ (p : ℕ × Sealed). p.1) o →
        option_map (λ (p : ℕ × Sealed). p.1.body) o ≡ None
    of_none None e = refl
    of_none (Some p) e = absurd cc

pub some_last : (entries : List Entry) (num : List ℕ) (s : Sealed) → Some s ≡ option_map (λ (p : ℕ × Sealed). p.1)
    (last_alta entries num) → last_alta_of entries num ≡ Some s.body
some_last entries num s e = of_some (last_alta entries num) e
  where
    of_some : (o : Option (ℕ × Sealed)) → Some s ≡ option_map (λ (p : ℕ × Sealed). p.1) o →
        option_map (λ (p : ℕ × Sealed). p.1.body) o ≡ Some s.body
    of_some None e = absurd cc
    of_some (Some p) e = cc
