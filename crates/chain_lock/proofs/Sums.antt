-- Facts on all seats of a list, as contracts state them of what their passes know and as the rule does.
use Rattle.std.proofs.Common.{◌≡◌, ℕ, List, All, map, ◌∙◌}
use Rattle.atomic_table.specs.Seated.{TableId}
use Rattle.chain_lock.specs.declared.pass.RestingSeat.{RestingSeat}
use Rattle.chain_lock.specs.Known.{Fits, IsNew, holders, owners, times_held, times_owned}
use Rattle.chain_lock.specs.Lists.{EachOf, placed, times, total}
use Rattle.chain_lock.specs.Rule.{FitsAll, known_of}
use Rattle.chain_lock.proofs.Keeps.{fits_known}
use Rattle.chain_lock.proofs.Lists.{all_each, each_all, each_image, each_map, placed_is, times_is, total_is}

module _ {V I R : Type 0} where
  pub holders_are : (n : ℕ) (ss : List (RestingSeat V I R)) → total (λ s. times n s.place.me.0.numbers) ss ≡ holders n
      (map (λ s. known_of s.place.me.0) ss)
  holders_are n ss = total_is _ (times_held n) (λ s. known_of s.place.me.0) ss (λ s. times_is n s.place.me.0.numbers)

  pub owners_are : (n : ℕ) (ss : List (RestingSeat V I R)) → total (λ s. placed n s.place.me.0.own) ss ≡ owners n
      (map (λ s. known_of s.place.me.0) ss)
  owners_are n ss = total_is _ (times_owned n) (λ s. known_of s.place.me.0) ss (λ s. placed_is n s.place.me.0.own)

  pub all_fit : (log : List I) (ss : List (RestingSeat V I R)) → EachOf (λ s. FitsAll log s.place.me.0) ss →
      All (Fits log) (map (λ s. known_of s.place.me.0) ss)
  all_fit log ss fits = each_all _ _ (each_image (Fits log) (λ s. known_of s.place.me.0) ss
      (each_map _ _ ss (λ s. fits_known log s.place.me.0) fits))

  pub all_new : (items : List I) (root : R) (id : TableId) (ss : List (RestingSeat V I R)) →
      EachOf (λ s. (s.place.table_id ≡ id) × IsNew items root (known_of s.place.me.0)) ss
      → All (IsNew items root) (map (λ s. known_of s.place.me.0) ss)
  all_new items root id ss news = each_all _ _ (each_image (IsNew items root) (λ s. known_of s.place.me.0) ss
      (each_map _ _ ss (λ s e. e.1) news))

  pub of_one : (id id' : TableId) (ss : List (RestingSeat V I R)) → id ≡ id' → All (λ s. s.place.table_id ≡ id) ss →
      EachOf (λ s. s.place.table_id ≡ id') ss
  of_one id id' ss same own = each_map _ _ ss (λ s e. e ∙ same) (all_each _ ss own)
