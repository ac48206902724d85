use Rattle.std.proofs.Common.{◌≡◌, ℕ, List, [], ◌∷◌, All, OnOk, refl, sym, subst, slice_get, Some, Result, Ok, Err}
use Rattle.std.specs.Prelude.{slice_index}
use Rattle.chain_store.specs.declared.store.Store.{Store}
use Rattle.chain_store.specs.Taking.{Along}
use Rattle.issuers.specs.Parts.{HasLines}
use Rattle.ports.specs.declared.faults.NoMemory.{NoMemory}
use Rattle.issuers.specs.Serving.{ComesTo, NoneLeft, Served, Serving}
use Rattle.issuers.specs.Worlds.{HasOwnWorlds}
use Rattle.issuers.specs.declared.answers.OfficeAnswer.{OfficeAnswer}
use Rattle.issuers.specs.declared.parts.Part.{Part}
use Rattle.issuers.proofs.Rounds.{all_at, all_zero, serving_begins, serving_ends}
use Rattle.issuers.proofs.office.Office.serve.Goals as goal

abbrev eight_zeros : List ℕ
eight_zeros = 0 ∷ 0 ∷ 0 ∷ 0 ∷ 0 ∷ 0 ∷ 0 ∷ 0 ∷ []

eight_are_zero : (index : ℕ) → slice_index eight_zeros index ≡ 0
eight_are_zero index = all_zero eight_zeros index (refl, (refl, (refl, (refl, (refl, (refl, (refl, (refl, tt))))))))

pub returns-clause-served : goal.returns-clause-served
returns-clause-served g c =
    let d = g.D.Disk in
    let k = g.C.Clock in
    let parts = c.args.parts.now in
    let before = c.args.self.now.stores.items in
    let after = c.serve_all-served.new.self.stores.items in
    let answers = c.serve_all-served.new.answers.items in
    let places = c.serve_all-served.new.places in
    let result = c.serve_all-served.result in
    let begin : All (λ (s : Store g.row.D.Denot g.row.C.Denot d). Along d k s s [] []) before =
    subst (All (λ (s : Store g.row.D.Denot g.row.C.Denot d). Along d k s s [] [])) c.deref.ensures.value c.all_begin.ensures in
    let ends : All (ComesTo d k) after = subst (All (ComesTo d k)) c.deref-2.ensures.value c.all_end.ensures in
    let lines = λ (other : ℕ) (p : Part) (is : slice_get parts other ≡ Some p). all_at HasLines parts other p c.requires.lines is in
    let seen : c.as_slice.result.now ≡ parts = c.as_slice.ensures in
    let empty : c.answers.inside.list.items ≡ [] = (let a = c.answers.view_is in let b = c.requires.none in cc) in
    let first = subst (λ (l : List OfficeAnswer). Serving d k c.as_slice.result.now before before eight_zeros l) (sym empty)
    (serving_begins d k c.as_slice.result.now before eight_zeros eight_are_zero begin) in
    let last : Serving d k parts before after places answers =
    subst (λ (ps : List Part). Serving d k ps before after places answers) seen (c.serve_all-served.ensures.served before first) in
    let none : OnOk result (NoneLeft parts places) =
    subst (λ (ps : List Part). OnOk result (NoneLeft ps places)) seen c.serve_all-served.ensures.whole in
    serving_ends d k parts before after places answers result lines last none ends

pub returns-clause-world : goal.returns-clause-world
returns-clause-world g c = by_result c.serve_all-served.result (returns-clause-served g c)
  where
    by_result : (r : Result (Unit {0}) NoMemory) →
        Served g.D.Disk g.C.Clock c.args.parts.now c.args.self.now.stores.items c.serve_all-served.new.self.stores.items
        c.serve_all-served.new.answers.items r →
        OnOk r (HasOwnWorlds g.D.Disk g.C.Clock c.args.parts.now c.args.self.now.stores.items c.serve_all-served.new.self.stores.items
        c.serve_all-served.new.answers.items)
    by_result (Ok done) s = λ parts' before' after' answers' index index' s'. c.an_issuer_has_its_own_world.ensures
        c.args.parts.now parts' c.args.self.now.stores.items c.serve_all-served.new.self.stores.items before' after'
        c.serve_all-served.new.answers.items answers' index index' s s'
    by_result (Err fault) s = tt
