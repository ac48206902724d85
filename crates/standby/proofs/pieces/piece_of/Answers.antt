use Rattle.std.proofs.Common.{refl, sym, ap, subst, ◌∙◌}
use Rattle.record_codec.specs.Validity.{AreFields, EntryFits}
use Rattle.record_codec.specs.Writing.{entry_bytes}
use Rattle.record_fields.specs.declared.versions.Version.{Version}
use Rattle.standby.proofs.Splitting.{cut_at, fits_at, none_past}
use Rattle.standby.proofs.pieces.piece_of.Goals as goal

pub fields_are_valid-requires : goal.fields_are_valid-requires
fields_are_valid-requires c =
    let s = c.args.state.now in
    let fits = fits_at c.what_continues_fits_its_bytes.ensures s.version s.issuer s.entries c.args.index
    c.in-Some.entry c.is_legal.ensures (sym c.in_ok-entry.ensures ∙ c.in-Some.is) in
    record {
      ranges = fits.0;
      fits = subst (λ (v : Version). EntryFits v c.in-Some.entry) (sym c.version-version.ensures) fits.1;
    }

pub returns-in-None-clause-none : goal.returns-in-None-clause-none
returns-in-None-clause-none c = none_past c.args.state.now.entries c.args.index (sym c.in_ok-entry.ensures ∙ c.in-None.is)

pub returns-in_ok-body-in-Some-clause-some : goal.returns-in_ok-body-in-Some-clause-some
returns-in_ok-body-in-Some-clause-some c =
    let found = sym c.in_ok-entry.ensures ∙ c.in-Some.is in
    let fits = fits_at c.what_continues_fits_its_bytes.ensures c.args.state.now.version c.args.state.now.issuer
    c.args.state.now.entries c.args.index c.in-Some.entry c.is_legal.ensures found in
    let t = cut_at c.args.state.now.entries c.args.index c.in-Some.entry found in (
      refl,
      record {
        before = t.before;
        entry = c.in-Some.entry;
        after = t.after;
        stands = t.is;
        index = t.place;
        encoding = record {
          issuer = fits.2;
          fields = subst (λ (v : Version). AreFields v c.in-Some.entry) c.version-version.ensures c.fields_are_valid.ensures;
          bytes = c.in_ok-body-in-Some.ensures ∙ ap (λ (v : Version). entry_bytes v c.in-Some.entry) c.version-version.ensures;
        };
      },
    )
