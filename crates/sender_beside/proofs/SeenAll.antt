-- A sender that is done has seen all that the closed shop's list has.
use Rattle.std.proofs.Common.{◌≡◌, ◌∙◌, ℕ, ◌<◌, ◌≤◌, List, [], ◌∷◌, ◌++◌, length, All, Option, ap, sym, arith}
use Rattle.std.specs.List.{AllByRecursion}
use Rattle.std.proofs.lemmas.List.Elements.{All-weaker}
use Rattle.chain_disk.specs.OnDisk.{OnDisk}
use Rattle.chain_lock.specs.Known.{IsNew, Known, OwnsBelow}
use Rattle.chain_lock.specs.Laws.{SeesAll}
use Rattle.shop_core.specs.Items.{entries_of}
use Rattle.shop_core.specs.Answer.Requests.{Asked}
use Rattle.shop_core.specs.declared.items.Item.{Item}
use Rattle.till_calls.specs.Laws.{OwnsWithinKnown}
use Rattle.till_calls.specs.Root.{Parts, Root, items_in, root_of}
use Rattle.sender_beside.specs.Tills.{asks_of}
use Rattle.sender_beside.specs.Works.{Row, Worked, known_after}
use Rattle.sender_beside.proofs.StartAndStop.{entries_in}
use Rattle.sender_session.proofs.Lists.{all_of_each, each_of_all, each_snoc}
use Rattle.sender_beside.proofs.Rows.{after_all, own_asks}
use Rattle.sender_beside.proofs.ClosedShop.{Shared, fit, long, owns_seen}

module _ {D C : Type 0} (tell : D → OnDisk) (faults : D → ℕ) (coming : C → ℕ → Option ℕ) (asks : List Asked) (p : Parts D C)
    (root : Root C) (base : List Item) (within : OwnsWithinKnown coming)
    (sees : SeesAll (items_in {D = D} {C = C}) (root_of tell faults)) where
  -- what a till owns stands below the count at its end
  row_below : (n : ℕ) (r : Row C) → IsNew base root r.from → Worked coming asks r → r.part.saw ≤ n → OwnsBelow n (known_after r)
  row_below n r new w most =
      All-weaker (λ (x : ℕ × Item). x.0 < r.last.least) (λ (x : ℕ × Item). x.0 < n)
      (λ x l. let a = w.at_least in omega (arith, l, a, most)) r.last.own
      (within r.part.till root base r.from r.last (asks_of r.part.till asks) r.part.replies new w.run
      (own_asks r.part.till asks))

  rows_below : (n : ℕ) (rows : List (Row C)) → AllByRecursion (λ (r : Row C). IsNew base root r.from) rows →
      AllByRecursion (Worked coming asks) rows →
      AllByRecursion (λ (k : Known Item (Root C)). k.least ≤ n) (after_all coming asks rows) →
      AllByRecursion (OwnsBelow n) (after_all coming asks rows)
  rows_below n [] news worked told = tt
  rows_below n (r ∷ rs) news worked told =
      (row_below n r news.0 worked.0 told.0, rows_below n rs news.1 worked.1 told.1)

  module _ (rows : List (Row C)) (news : AllByRecursion (λ (r : Row C). IsNew base root r.from) rows)
      (worked : AllByRecursion (Worked coming asks) rows) (seat then : Known Item (Root C))
      (h : Shared base (items_in p) root (after_all coming asks rows) seat then)
      (told : All (λ (k : Known Item (Root C)). k.least ≤ length then.seen) (after_all coming asks rows)) where
    -- where it has seen as many items as each till knew of, it has seen all
    all_seen : items_in p ≡ then.seen
    all_seen =
        let n : ℕ = length then.seen in
        let tills : List (Known Item (Root C)) = after_all coming asks rows in
        let below = rows_below n rows news worked (each_of_all (λ (k : Known Item (Root C)). k.least ≤ n) tills told) in
        let mine = owns_seen base (items_in p) root tills seat then h in
        sees base (items_in p) then.seen (tills ++ then ∷ []) (fit base (items_in p) root tills seat then h).1.begins
        (long base (items_in p) root tills seat then h)
        (all_of_each (OwnsBelow n) (tills ++ then ∷ []) (each_snoc (OwnsBelow n) tills then below mine)) h.since

    -- what it has seen is the whole history
    pub seen_whole : entries_of then.seen ≡ p.state.entries
    seen_whole = ap entries_of (sym all_seen) ∙ entries_in p.state.entries p.stopped p.torn
