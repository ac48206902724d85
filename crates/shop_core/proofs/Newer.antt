-- A history of version One in version Two.
use Rattle.std.proofs.Common.{◌≡◌, ℕ, List, [], ◌∷◌, refl, ◌∙◌, ap}
use Rattle.record_fields.specs.Records.{moment_of}
use Rattle.record_fields.specs.declared.records.Record.{Record}
use Rattle.record_fields.specs.declared.records.Record.TheVariants.{Alta, Anulacion}
use Rattle.record_fields.specs.declared.versions.Version.TheVariants.{One, Two}
use Rattle.record_codec.specs.declared.entry.Entry.{Entry}
use Rattle.record_codec.specs.declared.entry.Entry.TheVariants.{Rec, Notes}
use Rattle.record_codec.specs.Validity.{AreFields, IsBody, IsEncoding}
use Rattle.record_codec.specs.Writing.{entry_bytes}
use Rattle.shop_core.specs.Answer.Plans.{answer}
use Rattle.shop_core.specs.Answer.Requests.{Asked}
use Rattle.shop_core.specs.Legal.{Continues, ask_of}
use Rattle.shop_core.specs.Newer.{EncodedInTwo, LegalInTwo}
use Rattle.shop_core.specs.declared.answer.Planned.TheVariants.{Made}
use Rattle.shop_core.proofs.Legality.{NoRefusal, is_made, makes}

-- version Two refuses nothing that version One doesn't
unrefused_in_two : (issuer : List ℕ) (entries : List Entry) (ask : Asked) (seconds : ℕ) →
    NoRefusal One issuer entries ask seconds → NoRefusal Two issuer entries ask seconds
unrefused_in_two issuer entries ask seconds n = record {
  new = n.new;
  not_passed = n.not_passed;
  good = n.good;
  fits = refl;
  known = n.known;
  not_cancelled = n.not_cancelled;
  good_refs = n.good_refs;
  not_full = n.not_full;
  in_time = n.in_time;
  not_twice = n.not_twice;
}

made_in_two : (issuer : List ℕ) (entries : List Entry) (ask : Asked) (seconds : ℕ) (entry : Entry) →
    answer One issuer entries ask seconds ≡ Made entry → answer Two issuer entries ask seconds ≡ Made entry
made_in_two issuer entries ask seconds entry made =
    let m = is_made One issuer entries ask seconds entry made in
    makes Two issuer entries ask seconds (unrefused_in_two issuer entries ask seconds m.none) ∙
    ap (λ (e : Entry). Made e) m.made

continues_in_two : (issuer : List ℕ) (entries : List Entry) (entry : Entry) → Continues One issuer entries entry →
    Continues Two issuer entries entry
continues_in_two issuer entries (Rec till serial sealed) next = record {
  asked = next.asked;
  made = made_in_two issuer entries (ask_of till serial sealed) (moment_of sealed.body).seconds (Rec till serial sealed)
      next.made;
}
continues_in_two issuer entries (Notes first lines) next = next

pub legal_in_two : LegalInTwo
legal_in_two issuer entries legal before after entry is = continues_in_two issuer before entry (legal before after entry is)

-- the lines of an alta may be of every tax there, and nothing else differs
body_in_two : (body : Record) → IsBody One body → IsBody Two body
body_in_two (Alta alta) is = record {
  id = is.id;
  draft = record { valid = is.draft.valid; name = is.draft.name; refs = is.draft.refs; fits = tt };
  link = is.link;
  moment = is.moment;
}
body_in_two (Anulacion anulacion) is = is

fields_in_two : (entry : Entry) → AreFields One entry → AreFields Two entry
fields_in_two (Rec till serial sealed) is = record {
  till = is.till;
  serial = is.serial;
  body = body_in_two sealed.body is.body;
  huella = is.huella;
}
fields_in_two (Notes first lines) is = is

encoding_in_two : (issuer : List ℕ) (entry : Entry) → IsEncoding One issuer entry (entry_bytes One entry) →
    IsEncoding Two issuer entry (entry_bytes Two entry)
encoding_in_two issuer entry is = record { issuer = is.issuer; fields = fields_in_two entry is.fields; bytes = refl }

pub encoded_in_two : EncodedInTwo
encoded_in_two issuer [] are = tt
encoded_in_two issuer (entry ∷ entries) are = (encoding_in_two issuer entry are.0, encoded_in_two issuer entries are.1)
