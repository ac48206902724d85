-- Whether a closed shop that had no tills has stopped.
use Rattle.std.proofs.Common.{◌≡◌, ℕ, ◌<◌, ◌≤◌, List, [], ◌∷◌, ◌++◌, length, length-append, map, Option, Some, None, slice_get}
use Rattle.std.proofs.Common.{refl, ap, sym, ◌∙◌, subst, arith}
use Rattle.std.specs.Prelude.{Contains, IsSome}
use Rattle.std.specs.List.{AllByRecursion}
use Rattle.std.proofs.lemmas.List.{length-map}
use Rattle.record_codec.specs.declared.entry.Entry.{Entry}
use Rattle.chain_lock.specs.Known.{Known}
use Rattle.shop_core.specs.declared.items.Item.{Item}
use Rattle.shop_core.specs.declared.items.Item.TheVariants as item
use Rattle.once_world.specs.Outbox.{IsEntry}
use Rattle.till_calls.specs.Mark.{sight_by}
use Rattle.till_calls.specs.Root.{Root, stop_in}
use Rattle.sender.specs.Agreeing.{HasAt, Adds, AreNotes}
use Rattle.sender_session.specs.Session.{EndsStopped}
use Rattle.shop_drain.specs.Draining.{torn_in}
use Rattle.shop_drain.proofs.WithoutTills.{Closed, all_seen, mine, own_before}
use Rattle.sender_session.proofs.Places.{all_contained}
use Rattle.shop_drain.proofs.Agreed.{Stored}
use Rattle.sender_session.proofs.Stops.{get_seam}

all_last : (xs : List Item) (x : Item) → AllByRecursion IsEntry (xs ++ x ∷ []) → IsEntry x
all_last [] x h = h.0
all_last (y ∷ xs) x h = all_last xs x h.1

are_entries : (es : List Entry) → AllByRecursion IsEntry (map item.Entry es ++ [])
are_entries [] = tt
are_entries (e ∷ es) = (tt, are_entries es)

module _ {C : Type 0} (base log : List Item) (root : Root C) (tills : List (Known Item (Root C)))
    (seat then : Known Item (Root C)) (closed : Closed base log root tills seat then)
    (start es : List Entry) (stopped : Option ℕ) (torn : Option Entry) (stored : Stored base log root tills seat then closed start
    es stopped torn) where
  pub is_stopped : EndsStopped then.seen → IsSome stopped
  is_stopped ends = by_case stopped torn stored.log_is
    where
      by_case : (n : Option ℕ) (t : Option Entry) → log ≡ map item.Entry es ++ stop_in n t → IsSome n
      by_case (Some n) t e = refl
      by_case None t e =
          let all : AllByRecursion IsEntry (ends.front ++ item.Stop ends.faults ends.torn ∷ []) =
          subst (λ (l : List Item). AllByRecursion IsEntry l) (sym e ∙ sym (all_seen base log root tills seat then closed) ∙
          ends.is) (are_entries es) in
          absurd (all_last ends.front (item.Stop ends.faults ends.torn) all)

  pub is_untorn : Adds AreNotes (sight_by seat) (sight_by then) → torn_in stopped torn ≡ []
  is_untorn adds = by_case stopped torn stored.log_is
    where
      by_case : (n : Option ℕ) (t : Option Entry) → log ≡ map item.Entry es ++ stop_in n t → torn_in n t ≡ []
      by_case None t e = refl
      by_case (Some n) None e = refl
      by_case (Some n) (Some t) e =
          let items : List Item = map item.Entry es in
          let last : List Item = item.Stop n t ∷ [] in
          let low : length base ≤ length items =
          (let a = ap length stored.base_is in let b = ap length stored.begins.1 in let c = length-append start stored.begins.0 in
          let d = length-map es item.Entry in let f = length-map start item.Entry in omega arith) in
          let high : length items < length log = (let a = ap length e in let b = length-append items last in omega arith) in
          let own : (sight_by then).own ≡ adds.own = adds.own_is ∙ ap (λ (o : List ℕ). o ++ adds.own)
          (own_before base log root tills seat then closed) in
          let there : HasAt AreNotes then.seen (length items) =
          all_contained (HasAt AreNotes then.seen) adds.own (length items) adds.are
          (subst (λ (o : List ℕ). Contains o (length items)) own (mine base log root tills seat then closed (length items) low
          high)) in
          let same : Some there.0 ≡ Some (item.Stop n t) = sym there.1 ∙ ap (λ (l : List Item). slice_get l (length items))
          (all_seen base log root tills seat then closed ∙ e) ∙ get_seam items (item.Stop n t) in
          let is : there.0 ≡ item.Stop n t = (let f = same in cc) in
          absurd (subst AreNotes is there.2)
