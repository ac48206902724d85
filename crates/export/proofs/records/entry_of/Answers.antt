use Rattle.std.proofs.Common.{◌≡◌, codes, true, false, sym, ◌∙◌}
use Rattle.std.proofs.lemmas.Result.{err_from_is_err_and}
use Rattle.serde_json.specs.View.{view}
use Rattle.export.proofs.ObjectLemmas.{sort_of, sort_at, gives_record, gives_notes, one_of_three}
use Rattle.export.proofs.records.entry_of.Goals as goal

pub returns-in_err-text_at-clause-gives : goal.returns-in_err-text_at-clause-gives
returns-in_err-text_at-clause-gives c = λ version entry fields has e.
    let p = err_from_is_err_and c.from_residual.result c.from_residual.ensures.1 in
    rw (p.1, p.2) (c.in_err-text_at.ensures (sort_of entry) (sort_at entry (view c.args.value.now) e))

pub returns-in-alta-clause-gives : goal.returns-in-alta-clause-gives
returns-in-alta-clause-gives c = λ version entry fields has e.
    let d = view c.args.value.now in
    let sort : sort_of entry ≡ codes "alta" = sym (c.in_ok-text_at.ensures (sort_of entry) (sort_at entry d e)) ∙ c.in-alta.is in
    gives_record version entry true c.args.issuer.now d c.record_of.result sort fields has e (c.record_of.ensures.gives version)

pub returns-in-anulacion-clause-gives : goal.returns-in-anulacion-clause-gives
returns-in-anulacion-clause-gives c = λ version entry fields has e.
    let d = view c.args.value.now in
    let sort : sort_of entry ≡ codes "anulacion" = sym (c.in_ok-text_at.ensures (sort_of entry) (sort_at entry d e)) ∙ c.in-anulacion.is in
    gives_record version entry false c.args.issuer.now d c.record_of-in-anulacion.result sort fields has e (c.record_of-in-anulacion.ensures.gives version)

pub returns-in-notes-clause-gives : goal.returns-in-notes-clause-gives
returns-in-notes-clause-gives c = λ version entry fields has e.
    let d = view c.args.value.now in
    let sort : sort_of entry ≡ codes "notes" = sym (c.in_ok-text_at.ensures (sort_of entry) (sort_at entry d e)) ∙ c.in-notes.is in
    gives_notes version entry d c.notes_of.result sort fields e c.notes_of.ensures.gives

pub returns-in_default-clause-gives : goal.returns-in_default-clause-gives
returns-in_default-clause-gives c = λ version entry fields has e.
    let same = c.in_ok-text_at.ensures (sort_of entry) (sort_at entry (view c.args.value.now) e) in
    one_of_three entry (λ s. c.in_default.not-alta (same ∙ s)) (λ s. c.in_default.not-anulacion (same ∙ s)) (λ s. c.in_default.not-notes (same ∙ s))
