-- Every world is sound.
use Rattle.std.proofs.Common.{◌≡◌, ℕ, List, [], ◌∷◌, refl, ◌∙◌, subst, Option, Some, None, Bool, true, false, cond}
use Rattle.std.proofs.Common.{◌&&◌, length, slice_get}
use Rattle.std.specs.List.{AllByRecursion}
use Rattle.record_fields.specs.declared.versions.Version.{Version}
use Rattle.record_fields.specs.declared.versions.Version.TheVariants.{Two}
use Rattle.record_fields.specs.declared.lines.Line.{Line}
use Rattle.record_fields.specs.declared.records.Sealed.{Sealed}
use Rattle.record_codec.specs.declared.entry.Entry.TheVariants.{Notes}
use Rattle.shop_core.specs.Answer.Plans.{answer, MakesRecords}
use Rattle.shop_core.specs.Answer.Requests.{Asked, IsAsked}
use Rattle.shop_core.specs.History.{noted}
use Rattle.shop_core.specs.Legal.{Legal, GoesOn, MadeContinues}
use Rattle.shop_core.specs.Sales.{SalesAreNew}
use Rattle.shop_core.specs.declared.answer.Planned.{Planned}
use Rattle.shop_core.specs.declared.answer.Planned.TheVariants.{Again, Refused, Made}
use Rattle.agency_rules.specs.declared.plans.Plan.{Plan}
use Rattle.once_world.specs.Laws.{IsEvent, EveryWorldIsSound}
use Rattle.once_world.specs.World.{empty, appended, torn, may_send, after_send, after_delivery, after_look, after_note, torn_note}
use Rattle.once_world.specs.World.{reopened, happens, happen, world}
use Rattle.once_world.specs.declared.events.Event.{Event}
use Rattle.once_world.specs.declared.events.Event.TheVariants as event
use Rattle.once_world.specs.declared.world.World.{World}
use Rattle.once_world.proofs.Deliveries.{AreLinked, chain_of}
use Rattle.once_world.proofs.Agreements.{once_of, lines_fit}
use Rattle.once_world.proofs.Worlds.{Holds, HoldsOf, holds_then, holds_first, same_issuer, same_version}

abbrev pub IsLegal : World → Type 0
IsLegal w = Legal w.state.version w.state.issuer w.state.entries

legal_either : (b : Bool) (v w : World) → IsLegal v → IsLegal w → IsLegal (cond b v w)
legal_either true v w h k = h
legal_either false v w h k = k

legal_appended : MadeContinues → GoesOn → (w : World) (ask : Asked) (seconds : ℕ) (planned : Planned) → IsAsked ask →
    answer w.state.version w.state.issuer w.state.entries ask seconds ≡ planned → IsLegal w → IsLegal (appended w planned)
legal_appended made goes w ask seconds (Made entry) asked e h = goes w.state.version w.state.issuer w.state.entries entry h
    (made w.state.version w.state.issuer w.state.entries ask seconds entry h asked e)
legal_appended made goes w ask seconds (Again receipt) asked e h = h
legal_appended made goes w ask seconds (Refused why) asked e h = h

legal_torn : MadeContinues → GoesOn → (w : World) (kept : Bool) (ask : Asked) (seconds : ℕ) (planned : Planned) → IsAsked ask →
    answer w.state.version w.state.issuer w.state.entries ask seconds ≡ planned → IsLegal w → IsLegal (torn w kept planned)
legal_torn made goes w true ask seconds (Made entry) asked e h = goes w.state.version w.state.issuer w.state.entries entry h
    (made w.state.version w.state.issuer w.state.entries ask seconds entry h asked e)
legal_torn made goes w false ask seconds (Made entry) asked e h = h
legal_torn made goes w kept ask seconds (Again receipt) asked e h = h
legal_torn made goes w kept ask seconds (Refused why) asked e h = h

legal_notes : GoesOn → (w : World) (lines : List Line) → Holds w.state.entries w.processed w.sent (Some lines) → IsLegal w →
    IsLegal (after_note w (Some lines))
legal_notes goes w lines h legal =
    goes w.state.version w.state.issuer w.state.entries (Notes (length (noted w.state.entries)) lines) legal
    (lines_fit w.state.entries w.processed w.sent lines h.agree h.learnt_next)

legal_note : GoesOn → (w : World) (learnt : Option (List Line)) → w.learnt ≡ learnt → HoldsOf w → IsLegal w →
    IsLegal (after_note w learnt)
legal_note goes w None e h legal = legal
legal_note goes w (Some lines) e h legal = legal_notes goes w lines
    (subst (λ (l : Option (List Line)). Holds w.state.entries w.processed w.sent l) e h) legal

legal_torn_note : GoesOn → (w : World) (kept : Bool) (learnt : Option (List Line)) → w.learnt ≡ learnt → HoldsOf w → IsLegal w →
    IsLegal (torn_note w kept learnt)
legal_torn_note goes w kept None e h legal = legal
legal_torn_note goes w true (Some lines) e h legal = legal_notes goes w lines
    (subst (λ (l : Option (List Line)). Holds w.state.entries w.processed w.sent l) e h) legal
legal_torn_note goes w false (Some lines) e h legal = legal

legal_coming : (plan : Plan) (w : World) (found : Option (List Sealed)) → IsLegal w → IsLegal (after_delivery plan w found)
legal_coming plan w None legal = legal
legal_coming plan w (Some batch) legal = legal

legal_then : MadeContinues → GoesOn → (plan : Plan) (w : World) (e : Event) → IsEvent e → HoldsOf w → IsLegal w →
    IsLegal (happens plan w e)
legal_then made goes plan w (event.Append ask seconds) asked h legal =
    let planned = answer w.state.version w.state.issuer w.state.entries ask seconds in
    legal_either w.up (appended w planned) w (legal_appended made goes w ask seconds planned asked refl legal) legal
legal_then made goes plan w (event.Send count) asked h legal = legal_either (may_send w count) (after_send w count) w legal legal
legal_then made goes plan w (event.Deliver index) asked h legal = legal_coming plan w (slice_get w.sent index) legal
legal_then made goes plan w event.Look asked h legal = legal_either (w.up && w.doubt) (after_look w) w legal legal
legal_then made goes plan w event.Note asked h legal = legal_either w.up (after_note w w.learnt) w
    (legal_note goes w w.learnt refl h legal) legal
legal_then made goes plan w (event.Tear ask seconds kept) asked h legal =
    let planned = answer w.state.version w.state.issuer w.state.entries ask seconds in
    legal_either w.up (torn w kept planned) w (legal_torn made goes w kept ask seconds planned asked refl legal) legal
legal_then made goes plan w (event.TearNote kept) asked h legal = legal_either w.up (torn_note w kept w.learnt) w
    (legal_torn_note goes w kept w.learnt refl h legal) legal
legal_then made goes plan w event.Reopen asked h legal = legal_either w.up w (reopened w) legal legal

-- what holds of a world after more events
record After (issuer : List ℕ) (w : World) : Type 0 where
  same : w.state.issuer ≡ issuer
  version : w.state.version ≡ Two
  holds : HoldsOf w
  legal : IsLegal w

along : MadeContinues → GoesOn → MakesRecords → AreLinked → SalesAreNew → (issuer : List ℕ) (plan : Plan) (events : List Event)
    (w : World) → AllByRecursion IsEvent events → After issuer w → After issuer (happen plan w events)
along made goes makes linked sales issuer plan [] w are a = a
along made goes makes linked sales issuer plan (e ∷ events) w are a =
    let chain = chain_of linked sales w.state.version w.state.issuer w.state.entries a.legal in
    along made goes makes linked sales issuer plan events (happens plan w e) are.1 (record {
      same = same_issuer plan w e ∙ a.same;
      version = same_version plan w e ∙ a.version;
      holds = holds_then makes plan w e chain a.holds;
      legal = legal_then made goes plan w e are.0 a.holds a.legal;
    })

none_before : (version : Version) (issuer : List ℕ) → Legal version issuer []
none_before version issuer [] after entry e = absurd cc
none_before version issuer (x ∷ before) after entry e = absurd cc

pub sound : MadeContinues → GoesOn → MakesRecords → AreLinked → SalesAreNew → EveryWorldIsSound
sound made goes makes linked sales issuer plan events are =
    let a = along made goes makes linked sales issuer plan events (empty issuer) are
    (record { same = refl; version = refl; holds = holds_first issuer; legal = none_before Two issuer }) in
    let w = world issuer plan events in
    record {
      legal = subst (λ (n : List ℕ). Legal Two n w.state.entries) a.same
          (subst (λ (v : Version). Legal v w.state.issuer w.state.entries) a.version a.legal);
      agree = a.holds.agree;
      learnt = a.holds.learnt_next;
      once = once_of w.state.entries w.processed w.sent (chain_of linked sales w.state.version w.state.issuer w.state.entries
          a.legal)
          a.holds.agree;
      sales = a.holds.no_refused_sale;
    }
