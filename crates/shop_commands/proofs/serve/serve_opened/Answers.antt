use Rattle.std.proofs.Common.{◌≡◌, ◌⊎◌, ◌∙◌, inl, inr, ℕ, ◌+◌, List, length, refl, sym, ap, subst, arith, All, None, OnOk, Option}
use Rattle.std.specs.Int.{IsInRange}
use Rattle.std.specs.List.{list_any}
use Rattle.agency_rules.specs.declared.plans.Plan.{Plan}
use Rattle.chain_store.specs.Replies.{Replies, is_no_memory}
use Rattle.dialogue_loop.specs.Speech.{AreRepliesOf, IsWritten, clock_first, moment_of, moment_since}
use Rattle.dialogue_loop.specs.declared.speaking.SpeechEnd.{SpeechEnd}
use Rattle.dialogue_loop.specs.declared.speaking.SpeechEnd.TheVariants as speech
use Rattle.file_commands.proofs.Bytewise.{took_nothing}
use Rattle.ports.specs.Sinks.{Sinks, this_sink}
use Rattle.ports.specs.Sources.{SourceRose, Sources}
use Rattle.report.specs.Pieces.{chain_line}
use Rattle.report.specs.declared.status.Detail.TheVariants as detail
use Rattle.shop_core.specs.Answer.Requests.{Asked}
use Rattle.shop_core.specs.History.{History, noted, recs}
use Rattle.agency_rules.specs.Plans.{plain}
use Rattle.chain_store.specs.Clocks.{this_clock}
use Rattle.chain_store.specs.Store.{clock_of}
use Rattle.journal.specs.Journal.{disk_of}
use Rattle.till_calls.specs.Root.{Root, parts_of}
use Rattle.till_calls.specs.Sound.{IsLater}
use Rattle.till_calls.specs.declared.clockless.Clockless.{Clockless as NoClock}
use Rattle.shop_drain.specs.Opening.{IsOpened, IsUnbegun}
use Rattle.shop_drain.specs.declared.posts.Post.{Post}
use Rattle.sender_session.specs.Kinds.{StoreKind, agency_state_of, agency_kind, store_kind}
use Rattle.shop_drain.specs.Devices.{agency_in, around_in, sleeper_in}
use Rattle.shop_drain.specs.Draining.{OpensSession}
use Rattle.record_codec.specs.declared.entry.Entry.{Entry}
use Rattle.sender_session.specs.Sessions.{SessionSteps}
use Rattle.sender_beside.specs.Behind.{DrainsBehind, scene_in}
use Rattle.shop_commands.specs.Serve.{Closes, SpeechEnds, SpeechServed, post_with, printed, source_since}
use Rattle.shop_dialogue.specs.Dialogues.{DialogueRun, drains_after}
use Rattle.shop_dialogue.proofs.AllTills.{all_within}
use Rattle.shop_commands.proofs.ServeEnding.{came_read, first_once, not_begun, opened_with, parts_back, served_by_clock, talked, talked_once}
use Rattle.shop_commands.proofs.SpeechTexts.{closed_drains}
use Rattle.shop_commands.proofs.serve.serve_opened.Goals as goal

pub returns-in_default-clause-ends : goal.returns-in_default-clause-ends
returns-in_default-clause-ends g c = λ issuer disk left faults is_opened comes later cause.
    let o = c.args.opened in
    let p = parts_of o.store in
    let old = post_with disk p o.sleeper o.agency in
    let new = post_with p.disk p o.sleeper o.agency in
    let rest = g.S.Source.left c.args.source.now in
    not_begun (store_kind g.D.Disk g.C.Clock) g.C.Clock.coming issuer disk p p (sleeper_in g.Z.Sleeper old new) (agency_in g.G.Agency old new)
    (source_since left faults rest (g.S.Source.faults c.args.source.now))
    (this_sink g.K.Sink.taken g.K.Sink.faults c.args.sink.now c.args.sink.now) (clock_first c.args.first.now) is_opened
    c.what_a_disk_reads_is_an_image.ensures c.who_keeps_the_rules_tells.ensures refl
    (inl (record { lists = λ tells. refl; faults = refl })) (took_nothing (g.K.Sink.taken c.args.sink.now)) refl
    (came_read left rest c.args.listener c.args.first.now comes)

pub returns-in_default-with_capacity-clause-ends : goal.returns-in_default-with_capacity-clause-ends
returns-in_default-with_capacity-clause-ends g c = λ issuer disk left faults is_opened comes later cause.
    let o = c.args.opened in
    let p = parts_of o.store in
    let old = post_with disk p o.sleeper o.agency in
    let new = post_with p.disk p o.sleeper o.agency in
    let rest = g.S.Source.left c.args.source.now in
    not_begun (store_kind g.D.Disk g.C.Clock) g.C.Clock.coming issuer disk p p (sleeper_in g.Z.Sleeper old new) (agency_in g.G.Agency old new)
    (source_since left faults rest (g.S.Source.faults c.args.source.now))
    (this_sink g.K.Sink.taken g.K.Sink.faults c.args.sink.now c.args.sink.now) (clock_first c.args.first.now) is_opened
    c.what_a_disk_reads_is_an_image.ensures c.who_keeps_the_rules_tells.ensures refl
    (inl (record { lists = λ tells. refl; faults = refl })) (took_nothing (g.K.Sink.taken c.args.sink.now)) refl
    (came_read left rest c.args.listener c.args.first.now comes)

pub begin-requires-clause-numbers : goal.begin-requires-clause-numbers
begin-requires-clause-numbers g c =
    subst (λ (l : List ℕ). All (IsInRange 1 64) l) (sym (c.deref.ensures.value ∙ c.in-Ok.ensures)) all_within

pub returns-in-Err-clause-ends : goal.returns-in-Err-clause-ends
returns-in-Err-clause-ends g c = λ issuer disk left faults is_opened comes later cause.
    let o = c.args.opened in
    let own = c.with_clock-own.result.0 in
    let e = c.in-Err.own in
    let back = c.with_clock.result.0 in
    let p = parts_of o.store in
    let then = parts_of back.store in
    let old = post_with disk p o.sleeper o.agency in
    let new = post_with then.disk then back.sleeper back.agency in
    let kind = agency_kind g.G.Agency in
    let refused = c.in-Err.ensures.refused in
    let first = c.with_clock-own.ensures in
    let last = c.with_clock.ensures in
    let Begins : Plan → List Entry → g.row.G.Denot → g.row.G.Denot → Type 0 = λ q es x y.
    IsUnbegun kind (agency_state_of g.G.Agency x) (agency_state_of g.G.Agency y)
    ⊎ OpensSession kind g.G.Agency.begun q es (agency_state_of g.G.Agency x) (agency_state_of g.G.Agency y) in
    let begun : Begins plain p.state.entries o.agency back.agency =
    subst (λ (q : Plan). Begins q p.state.entries o.agency back.agency) c.plain.ensures
    (subst (λ (v : History). Begins c.plain.result v.entries o.agency back.agency) first.store.0
    (subst (λ (x : g.row.G.Denot). Begins c.plain.result (parts_of own.store).state.entries x back.agency) first.rest.1
    (subst (λ (y : g.row.G.Denot). Begins c.plain.result (parts_of own.store).state.entries own.agency y) (sym last.rest.1) refused.2))) in
    let rest = g.S.Source.left c.args.source.now in
    not_begun (store_kind g.D.Disk g.C.Clock) g.C.Clock.coming issuer disk p then (sleeper_in g.Z.Sleeper old new)
    (agency_in g.G.Agency old new) (source_since left faults rest (g.S.Source.faults c.args.source.now))
    (this_sink g.K.Sink.taken g.K.Sink.faults c.args.sink.now c.args.sink.now) (clock_first c.args.first.now) is_opened
    c.what_a_disk_reads_is_an_image.ensures c.who_keeps_the_rules_tells.ensures
    (parts_back o.store back.store own.store e.store first.store refused.0 last.store (last.clocks.0 ∙ first.clocks.1)) begun
    (took_nothing (g.K.Sink.taken c.args.sink.now)) (last.rest.0 ∙ refused.1 ∙ first.rest.0)
    (came_read left rest c.args.listener c.args.first.now comes)

pub speech_end-detail-requires : goal.speech_end-detail-requires
speech_end-detail-requires g c =
    let f = c.requires.first in
    let run = c.run_dialogue-opened.ensures.run f.left f.faults f.comes f.later f.cause in
    record {
      counts = λ is. subst (λ (h : History). OnOk c.run_dialogue-opened.result.answer (length (noted h.entries) ≡
          length (recs h.entries)))
          (sym c.state-in-Ok-begin.ensures) (run.run.all_noted (closed_drains c.run_dialogue-opened.result.how
          c.close_speech-closed.result c.close_speech-closed.ensures.closes is));
    }

pub returns-in-Ok-begin-clause-ends : goal.returns-in-Ok-begin-clause-ends
returns-in-Ok-begin-clause-ends g c = λ issuer disk left faults is_opened comes later cause.
    let o = c.args.opened in
    let own = c.with_clock-own.result.0 in
    let own_clock = c.with_clock-own.result.1 in
    let t = c.run_dialogue-opened.result in
    let back = c.with_clock-in-Ok-begin.result.0 in
    let first = c.with_clock-own.ensures in
    let last = c.with_clock-in-Ok-begin.ensures in
    let real = parts_of o.store in
    let p = parts_of own.store in
    let b = c.in-Ok-begin.begun in
    let begun = c.in-Ok-begin.ensures in
    let then = parts_of t.opened.store in
    let old : Post g.row.D.Denot NoClock g.row.Z.Denot g.row.G.Denot = post_with disk p own.sleeper own.agency in
    let new : Post g.row.D.Denot NoClock g.row.Z.Denot g.row.G.Denot = post_with then.disk then t.opened.sleeper t.opened.agency in
    let kind = agency_kind g.G.Agency in
    let agency_state = agency_state_of g.G.Agency b.agency in
    let after = agency_state_of g.G.Agency t.opened.agency in
    let clock = clock_first c.args.first.now in
    let from = moment_since left faults (g.K.Sink.taken c.args.sink.now) (g.K.Sink.faults c.args.sink.now) in
    let now = moment_of g.S.Source.left g.S.Source.faults g.K.Sink.taken g.K.Sink.faults c.run_dialogue-opened.new.source
    c.run_dialogue-opened.new.sink in
    let h : StoreKind g.row.D.Denot NoClock = record {
      tells = g.D.Disk.tells;
      on_disk = g.D.Disk.on_disk;
      faults = g.D.Disk.faults;
      coming = λ k n. None;
    } in
    let coming : ℕ → Option ℕ = g.C.Clock.coming own_clock in
    let opened : IsOpened issuer h disk p.clock p = opened_with (store_kind g.D.Disk g.C.Clock) (λ k n. None) issuer disk real p
    first.store.0 (ap disk_of first.store.1) is_opened in
    let run = subst (λ (r : Root NoClock). DialogueRun h coming r then clock from now kind agency_state after t.answer t.lacked t.how)
    begun.shop.root (c.run_dialogue-opened.ensures.run left faults comes later cause) in
    let opens = subst (λ (q : Plan). OpensSession kind g.G.Agency.begun q p.state.entries (agency_state_of g.G.Agency own.agency) agency_state)
    c.plain.ensures begun.session in
    let behind : DrainsBehind kind (drains_after t.how) agency_state after t.answer = record {
      exact = g.Z.Sleeper.tells;
      met = scene_in (agency_state_of g.G.Agency) g.Z.Sleeper.moment t.met.value;
      left = scene_in (agency_state_of g.G.Agency) g.Z.Sleeper.moment t.left.value;
      beside = t.met.value.answer;
      sends = c.run_dialogue-opened.ensures.behind;
    } in
    let Session : ℕ → List Entry → Type 0 = λ m es. SessionSteps g.G.Agency.tells g.Z.Sleeper.tells (drains_after t.how) m es
    then.state.entries agency_state after t.answer in
    let session : Session (g.Z.Sleeper.moment own.sleeper) p.state.entries =
    subst (λ (m : ℕ). Session m p.state.entries) (ap g.Z.Sleeper.moment begun.sleeper)
    (subst (λ (r : Root NoClock). Session (g.Z.Sleeper.moment b.sleeper) r.history) begun.shop.root
    c.run_dialogue-opened.ensures.steps) in
    let closed = c.close_speech-closed.result in
    let end = c.speech_end-detail.result in
    let k = this_sink g.K.Sink.taken g.K.Sink.faults c.args.sink.now c.close_speech-closed.new.sink in
    let written = subst (λ (v : History). IsWritten closed k (printed t.how run.speech.said.answers (chain_line (length (recs v.entries))
    (length (noted v.entries))))) c.state.ensures
    (c.close_speech-closed.ensures.printed from.taken from.sink_faults run.speech.said.answers run.written run.sink_later) in
    let Comes : History → Type 0 = λ v. (began : SpeechEnd) (asks : List Asked) (replies : Replies) (answers texts : List (List ℕ))
    (s : Sources) (k : Sinks) → Closes began closed → AreRepliesOf began asks replies answers → t.lacked ≡ list_any is_no_memory replies →
    (began ≡ speech.ReadFault → SourceRose s) → IsWritten closed k texts →
    SpeechEnds began replies t.answer (length (noted v.entries)) (length (recs v.entries)) texts s k end in
    let ends = subst (λ (v : History). Comes v) c.state-in-Ok-begin.ensures c.speech_end-detail.ensures.ends in
    let sources = source_since left faults (g.S.Source.left c.run_dialogue-opened.new.source) (g.S.Source.faults c.run_dialogue-opened.new.source) in
    let still : IsLater (λ (x : NoClock). coming) p.clock then.clock = record {
      number = 0;
      moved = λ n. ap coming (let e : n ≡ 0 + n = omega arith in e);
    } in
    let served = talked h (λ x. coming) issuer disk p then (sleeper_in g.Z.Sleeper old new) (agency_in g.G.Agency old new) sources k clock
    opened c.what_a_disk_reads_is_an_image.ensures c.who_keeps_the_rules_tells.ensures agency_state opens t.answer t.lacked t.how from now
    still run behind session (c.legal_is_chained.ensures.linked p.state.version p.state.issuer then.state.entries run.run.sound.legal)
    (λ till. c.legal_is_chained.ensures.rising p.state.version p.state.issuer then.state.entries till run.run.sound.legal)
    closed end refl c.close_speech-closed.ensures.closes written ends in
    let after_clock = clock_of back.store in
    let time : IsLater g.C.Clock.coming real.clock after_clock =
    subst (λ (x : g.row.C.Denot). IsLater g.C.Clock.coming x after_clock) first.clocks.1
    (subst (λ (x : g.row.C.Denot). IsLater g.C.Clock.coming own_clock x) (sym last.clocks.0) c.run_dialogue-opened.ensures.time) in
    let Post' : Type 0 = Post g.row.D.Denot g.row.C.Denot g.row.Z.Denot g.row.G.Denot in
    let before : g.row.Z.Denot → g.row.G.Denot → Post' = λ z x.
    record { disk = disk; clock = real.clock; sleeper = z; agency = x } in
    let behind_it : g.row.D.Denot → g.row.Z.Denot → g.row.G.Denot → Post' = λ d z x.
    record { disk = d; clock = after_clock; sleeper = z; agency = x } in
    let At : Post' → Post' → Type 0 = λ x y. SpeechServed issuer None clock sources
    (around_in k g.D.Disk g.C.Clock g.Z.Sleeper g.G.Agency x y) end in
    let real_call : At (before own.sleeper own.agency) (behind_it then.disk t.opened.sleeper t.opened.agency) =
    served_by_clock issuer clock sources (around_in k g.D.Disk g.C.Clock g.Z.Sleeper g.G.Agency (before own.sleeper own.agency)
    (behind_it then.disk t.opened.sleeper t.opened.agency)) (this_clock (λ (x : NoClock). coming) p.clock then.clock) end
    (λ n. ap (λ (x : g.row.C.Denot). g.C.Clock.coming x n) first.clocks.1) time served in
    inr (subst (λ (z : g.row.Z.Denot). At (before z o.agency) (behind_it (parts_of back.store).disk back.sleeper back.agency)) first.rest.0
    (subst (λ (x : g.row.G.Denot). At (before own.sleeper x) (behind_it (parts_of back.store).disk back.sleeper back.agency)) first.rest.1
    (subst (λ (d : g.row.D.Denot). At (before own.sleeper own.agency) (behind_it d back.sleeper back.agency))
    (sym (ap disk_of last.store.1))
    (subst (λ (z : g.row.Z.Denot). At (before own.sleeper own.agency) (behind_it then.disk z back.agency)) (sym last.rest.0)
    (subst (λ (x : g.row.G.Denot). At (before own.sleeper own.agency) (behind_it then.disk t.opened.sleeper x)) (sym last.rest.1)
    real_call)))))

pub returns-in_default-clause-once : goal.returns-in_default-clause-once
returns-in_default-clause-once g c = λ counts faults first.
    first_once c.args.first.now faults (g.S.Source.faults c.args.source.now) detail.NoMemory tt first

pub returns-in_default-with_capacity-clause-once : goal.returns-in_default-with_capacity-clause-once
returns-in_default-with_capacity-clause-once g c = λ counts faults first.
    first_once c.args.first.now faults (g.S.Source.faults c.args.source.now) detail.NoMemory tt first

pub returns-in-Err-clause-once : goal.returns-in-Err-clause-once
returns-in-Err-clause-once g c = λ counts faults first.
    first_once c.args.first.now faults (g.S.Source.faults c.args.source.now) detail.NoMemory tt first

pub returns-in-Ok-begin-clause-once : goal.returns-in-Ok-begin-clause-once
returns-in-Ok-begin-clause-once g c = λ counts faults first.
    talked_once c.run_dialogue-opened.result.how c.close_speech-closed.result faults (g.S.Source.faults c.run_dialogue-opened.new.source)
    c.speech_end-detail.result c.close_speech-closed.ensures.closes c.speech_end-detail.ensures.read
    (c.run_dialogue-opened.ensures.once counts faults first)
