-- What the messages of a drain say of the lines that a file and its copy have.
use Rattle.std.proofs.Common.{◌≡◌, ◌∙◌, ◌⊎◌, inl, inr, sym, ap, subst, arith, ℕ, ◌≤◌, List, [], ◌∷◌, ◌++◌, length, append-nil}
use Rattle.std.proofs.Common.{append_assoc, Result, Err}
use Rattle.std.specs.List.{AllByRecursion}
use Rattle.agency_port.specs.declared.messages.Message.{Message}
use Rattle.agency_port.specs.declared.messages.Message.TheVariants.{Begun}
use Rattle.agency_rules.specs.declared.plans.Plan.{Plan}
use Rattle.journal.specs.declared.faults.StoreFault.TheVariants as store
use Rattle.record_codec.specs.declared.entry.Entry.{Entry}
use Rattle.record_fields.specs.declared.lines.Line.{Line}
use Rattle.sender.specs.declared.answers.DrainFault.{DrainFault}
use Rattle.sender.specs.declared.answers.DrainFault.TheVariants as drain
use Rattle.shop_core.specs.History.{noted}
use Rattle.shop_core.specs.Prefix.{IsPrefix}
use Rattle.shop_drain.specs.Guarding.{AreHeld, Held}
use Rattle.sender_session.specs.Noting.{MissesLast, NotesSaid, NotesWhatIsSaid, TornSaid, all_said, lines_said}
use Rattle.sender_session.proofs.Contrary.{same_ends}
use Rattle.shop_drain.proofs.Saying.{first_said, noted_both, said_both}

-- what was torn is what the last message says, so all is said
whole_said : (start end : List Entry) (opened new : List Message) (t : Entry)
    (h : NotesSaid start end opened new (Err (drain.Store store.DiskFault))) → TornSaid end new t →
    noted start ++ all_said h.session ≡ noted (end ++ t ∷ [])
whole_said start end opened new t h x =
    let m : MissesLast (noted start) (noted end) h.session = h.lines in
    let last : new ≡ (opened ++ m.front) ++ m.last ∷ [] = h.is ∙ ap (λ (ms : List Message). opened ++ ms) m.is ∙
    sym (append_assoc opened m.front (m.last ∷ [])) in
    let same = (same_ends x.front (opened ++ m.front) x.last m.last (sym x.is ∙ last)).1 in
    let torn : noted (t ∷ []) ≡ all_said (m.last ∷ []) = ap (λ (e : Entry). noted (e ∷ [])) x.torn_is ∙
    ap (λ (k : Message). lines_said k ++ []) same in
    ap (λ (ms : List Message). noted start ++ all_said ms) m.is ∙
    ap (λ (l : List Line). noted start ++ l) (said_both m.front (m.last ∷ [])) ∙
    sym (append_assoc (noted start) (all_said m.front) (all_said (m.last ∷ []))) ∙
    ap (λ (l : List Line). l ++ all_said (m.last ∷ [])) (sym m.noted) ∙
    ap (λ (l : List Line). noted end ++ l) (sym torn) ∙ sym (noted_both end (t ∷ []))

module _ (start end torn : List Entry) (old opened new : List Message) (plan : Plan) (count : ℕ)
    (opens : opened ≡ old ++ Begun plan count ∷ []) where
  -- from the opening of the session on
  since : (entries : List Entry) (session : List Message) → new ≡ opened ++ session →
      IsPrefix (noted entries) (noted start ++ all_said session) → NotesWhatIsSaid start entries old new
  since entries session is lines = record {
    since = Begun plan count ∷ session;
    is = is ∙ ap (λ (ms : List Message). ms ++ session) opens ∙ append_assoc old (Begun plan count ∷ []) session;
    lines = lines;
  }

  -- what both hold
  pub both_said : (answer : Result (Unit {0}) DrainFault) → NotesSaid start end opened new answer →
      NotesWhatIsSaid start end old new
  both_said answer h = since end h.session h.is (first_said (noted start) (noted end) h.session answer h.lines)

  -- that and the torn notes
  ahead_said : (es : List Entry) (answer : Result (Unit {0}) DrainFault) → length es ≤ 1 → NotesSaid start end opened new answer →
      (es ≡ []) ⊎ NotesSaid start end opened new (Err (drain.Store store.DiskFault)) →
      AllByRecursion (TornSaid end new) es → NotesWhatIsSaid start (end ++ es) old new
  ahead_said [] answer few h missed all = subst (λ (l : List Entry). NotesWhatIsSaid start l old new) (sym (append-nil end))
      (both_said answer h)
  ahead_said (t ∷ []) answer few h (inl none) all = absurd cc
  ahead_said (t ∷ []) answer few h (inr m) all = since (end ++ t ∷ []) m.session m.is (record {
    rest = [];
    is = whole_said start end opened new t m all.0 ∙ sym (append-nil (noted (end ++ t ∷ [])));
  })
  ahead_said (t ∷ u ∷ es) answer few h missed all = absurd (omega (arith, few))

  -- what the file has
  pub file_said : (file copy : Held) (answer : Result (Unit {0}) DrainFault) → AreHeld end torn file copy → length torn ≤ 1 →
      NotesSaid start end opened new answer → (torn ≡ []) ⊎ NotesSaid start end opened new (Err (drain.Store store.DiskFault)) →
      AllByRecursion (TornSaid end new) torn → NotesWhatIsSaid start file.entries old new
  file_said file copy answer held few h missed all = elim held.file_is [
    | inl is ↦ subst (λ (l : List Entry). NotesWhatIsSaid start l old new) (sym is.0) (both_said answer h)
    | inr is ↦ subst (λ (l : List Entry). NotesWhatIsSaid start l old new) (sym is.0) (ahead_said torn answer few h missed all)
  ]

-- nothing was said and nothing noted
pub nothing_said : (start entries : List Entry) (old new : List Message) → entries ≡ start → new ≡ old →
    NotesWhatIsSaid start entries old new
nothing_said start entries old new same silent = record {
  since = [];
  is = silent ∙ sym (append-nil old);
  lines = record {
    rest = [];
    is = append-nil (noted start) ∙ ap (λ (es : List Entry). noted es) (sym same) ∙ sym (append-nil (noted entries));
  };
}
