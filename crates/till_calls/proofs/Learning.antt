-- What a till's question learns.
use Rattle.std.proofs.Common.{◌≡◌, ◌++◌, [], ℕ, List, length, refl, sym, ◌∙◌, ap, subst, Bool, Option, Result}
use Rattle.std.specs.Prelude.{IfOk}
use Rattle.std.specs.List.{enumerate_from}
use Rattle.std.proofs.lemmas.List.{append-nil, append_cancel_left}
use Rattle.chain_disk.specs.OnDisk.{OnDisk}
use Rattle.chain_lock.specs.Known.{Known, Turns}
use Rattle.ports.specs.declared.faults.NoMemory.{NoMemory}
use Rattle.record_codec.specs.declared.entry.Entry.{Entry}
use Rattle.record_fields.specs.declared.versions.Version.{Version}
use Rattle.shop_core.specs.declared.items.Item.{Item}
use Rattle.till_calls.specs.Root.{Root, Parts, items_in}
use Rattle.till_calls.specs.Seen.{Looks}
use Rattle.till_calls.specs.Sound.{IsSound}
use Rattle.till_calls.specs.Turns.{IsShopList, LearnTurn}
use Rattle.till_calls.proofs.Asking.{entries_in, list_of}

module _ {D C L : Type 0} (tells : Bool) (on_disk : D → OnDisk) (faults : D → ℕ) (coming : C → ℕ → Option ℕ) (root : Root C)
    (question : Version → List ℕ → List Entry → L → Type 0) (r : Result L NoMemory) where
  pub learns : (p : Parts D C) → IsSound tells on_disk faults coming root p →
      IfOk r (question p.state.version p.state.issuer p.state.entries) → LearnTurn question r root (items_in p) (items_in p)
  learns p s h = record {
    list = list_of tells on_disk faults coming root p s;
    same = refl;
    answer = subst (λ (es : List Entry). IfOk r (question root.version root.issuer es)) (sym (entries_in p))
        (subst (λ (n : List ℕ). IfOk r (question root.version n p.state.entries)) s.issuer
        (subst (λ (v : Version). IfOk r (question v p.state.issuer p.state.entries)) s.version h));
  }

module _ {C L : Type 0} (question : Version → List ℕ → List Entry → L → Type 0) (r : Result L NoMemory) where
  pub looked : (old new : Known Item (Root C)) → Turns (λ root before after. LearnTurn question r root before after) old new →
      Looks question r old new
  looked old new t =
      let none : t.added ≡ [] = append_cancel_left t.before t.added [] (t.related.same ∙ sym (append-nil t.before)) in
      let own = ap (λ (l : List Item). old.own ++ enumerate_from (length t.before) l) none ∙ append-nil old.own in
      let list = ap (λ (l : List Item). record old {
        seen = l;
        least = length l;
        own = old.own ++ enumerate_from (length t.before) t.added;
      }) t.related.same in
      let is : new ≡ record old { seen = t.before; least = length t.before } =
      t.after ∙ list ∙ ap (λ (o : List (ℕ × Item)). record old { seen = t.before; least = length t.before; own = o }) own in
      subst (λ (k : Known Item (Root C)). Looks question r old k) (sym is) (record {
        sees = record { begins = t.begins; at_least = t.at_least; same = refl };
        all = refl;
        home = t.home;
        root = t.root;
        list = subst (λ (l : List Item). IsShopList t.home l) t.related.same t.related.list;
        answer = t.related.answer;
      })
