-- Where the readers of an entry's parts and of an entry halt.
use Rattle.std.proofs.Common.{◌≡◌, ◌⊎◌, ℕ, zero, suc, ◌+◌, ◌-◌, ◌^◌, ◌≤◌, Bool, true, false, List, [], ◌∷◌, ◌++◌, length, take}
use Rattle.std.proofs.Common.{drop, Option, Some, None, Result, Ok, Err, refl, sym, ap, subst, ◌∙◌, append_assoc, arith, inl, inr}
use Rattle.std.proofs.Common.{ℤ}
use Rattle.std.specs.Prelude.{⊤}
use Rattle.std.specs.Int.{w16, w32, w64, to_be_bytes, cast_unsigned, IsInRange}
use Rattle.std.specs.List.{flat_map, concat, AllByRecursion}
use Rattle.std.proofs.lemmas.List.{take_at, take-append-drop, length-append, length-take, append-nil}
use Rattle.std.proofs.lemmas.Str.{IsUtf8-from_ascii, is_utf8-from_IsUtf8}
use Rattle.std.proofs.lemmas.Str.Ascii.{IsAscii-nil, IsAscii-cons}
use Rattle.invoice_kinds.specs.declared.kind.Kind.{Kind}
use Rattle.invoice_kinds.specs.declared.kind.RectKind.{RectKind}
use Rattle.parties.specs.Nif.{IsNif}
use Rattle.parties.specs.declared.name.Party.{Party}
use Rattle.series.specs.declared.numbers.InvoiceId.{InvoiceId}
use Rattle.series.specs.Numbers.{is_num_serie}
use Rattle.stamps.specs.Day.{last_day}
use Rattle.stamps.specs.Clock.{IsStampOffset}
use Rattle.stamps.specs.Stamp.{Moment}
use Rattle.stamps.specs.declared.stamp.TheConstants.{CLOCK_FROM, CLOCK_TO}
use Rattle.tax_lines.specs.Keys.{Key}
use Rattle.tax_lines.specs.declared.lines.TaxLine.{TaxLine}
use Rattle.tax_lines.specs.declared.breakdown.TheConstants.{MAX_LINES}
use Rattle.record_fields.specs.Valid.{IsId}
use Rattle.record_fields.specs.declared.checks.TheConstants.{MAX_REFS}
use Rattle.record_fields.specs.declared.drafts.Draft.{Draft}
use Rattle.record_fields.specs.declared.lines.Line.{Line}
use Rattle.record_codec.specs.declared.entry.TheConstants.{MAX_NOTES}
use Rattle.record_fields.specs.declared.records.Link.{Link}
use Rattle.record_fields.specs.declared.records.Link.TheVariants.{First, After}
use Rattle.record_fields.specs.declared.records.Previo.{Previo}
use Rattle.record_fields.specs.declared.records.Record.{Record}
use Rattle.record_fields.specs.declared.records.Record.TheVariants as record_of
use Rattle.record_codec.specs.declared.entry.TheConstants.{LAST_TILL}
use Rattle.record_codec.specs.declared.entry.Entry.{Entry}
use Rattle.record_codec.specs.declared.entry.Entry.TheVariants.{Rec, Notes}
use Rattle.record_codec.specs.declared.faults.BadEntry.TheVariants as bad
use Rattle.record_fields.specs.declared.versions.Version.{Version}
use Rattle.record_codec.specs.Writing.{key_bytes}
use Rattle.record_codec.specs.Writing.{text_bytes, id_bytes, customer_bytes, refs_bytes, tax_line_bytes, draft_bytes, link_bytes}
use Rattle.record_codec.specs.Writing.{line_bytes}
use Rattle.record_codec.specs.Codes.{flag_code, kind_code, kinds, rect_code, rects, previo_code, previos, of_code}
use Rattle.record_codec.specs.Validity.{AreBytes, IsHuella, IsMoment, IsLink, IsLine, IsFullDraft, IsNoEncoding}
use Rattle.record_codec.specs.Laws.{AFaultIsBehindWholeFields}
use Rattle.record_codec.specs.Layout.{byte_field, id_fields, party_fields, customer_fields, refs_fields, key_fields}
use Rattle.record_codec.specs.Layout.{tax_line_fields}
use Rattle.record_codec.specs.Layout.{breakdown_fields, draft_fields, link_fields, moment_fields, alta_fields, anulacion_fields}
use Rattle.record_codec.specs.Layout.{said_fields, entry_fields, front_of, IsLongestFront}
use Rattle.record_codec.specs.Reading.{◌>>=◌, byte_at, fixed_at, text_at, number_at, number_in, flag_at, nif_in, base_in}
use Rattle.record_codec.specs.Reading.{offset_in, is_name, line_in, huella_at, id_at, party_at, customer_behind, customer_at}
use Rattle.record_codec.specs.Reading.{refs_at, key_at, tax_line_at, breakdown_at, draft_at, link_behind, link_at, moment_at}
use Rattle.record_codec.specs.Reading.{alta_at}
use Rattle.record_codec.specs.Reading.{anulacion_at, body_at, notes_at, rec_at, entry_behind, entry_at, entry_in, IsDecoded}
use Rattle.record_codec.proofs.BreakdownLemmas.{IsLineOf, BreakdownFits, breakdown_from, breakdown_has}
use Rattle.record_codec.proofs.EntryLemmas.{IsTextParty, IsTextCustomer, none_fits, some_fits, id_is, id_reads, party_is}
use Rattle.record_codec.proofs.EntryLemmas.{customer_reads, refs_reads, huella_behind, link_reads, moment_is, tax_line_is}
use Rattle.record_codec.proofs.EntryLemmas.{tax_line_reads}
use Rattle.record_codec.proofs.EntryReaders.{draft_of, draft_is, draft_full, draft_parted, draft_reads, IsAltaOf, alta_of}
use Rattle.record_codec.proofs.EntryReaders.{alta_is, alta_parted, IsAnulacionOf, anulacion_of, anulacion_is, anulacion_parted}
use Rattle.record_codec.proofs.FieldHalts.{alone, Halts-text, Halts-number, Halts-byte_in, flag_halts, kind_halts, rect_halts}
use Rattle.record_codec.proofs.FieldHalts.{previo_halts, nif_halts, huella_halts, base_halts, offset_halts}
use Rattle.record_codec.proofs.FieldHalts.{line_halts, Halts-counted}
use Rattle.record_codec.proofs.FieldLemmas.{Reads-text}
use Rattle.record_codec.proofs.FieldReaders.{wide16, wide32, wide64, Reads-number, Reads-byte_in, flag_reads, kind_reads}
use Rattle.record_codec.proofs.FieldReaders.{rect_reads, previo_reads, nif_reads, IsBase, line_reads}
use Rattle.record_codec.proofs.Halts.{Begun, left_by, Halts, Halts-none, Halts-then, Halts-through, Halts-as, Halts-is, Halts-and}
use Rattle.record_codec.proofs.KeyReaders.{KeyFits, key_reads, key_halts, key_whole}
use Rattle.record_codec.proofs.LayoutLemmas.{id_whole, customer_whole, refs_whole, tax_line_whole, draft_whole, link_whole}
use Rattle.record_codec.proofs.LayoutLemmas.{said_whole, whole}
use Rattle.record_codec.proofs.Readers.{pair_at, both_at}
use Rattle.record_codec.proofs.RecordReaders as readers
use Rattle.record_codec.proofs.RecordReaders.{said_bytes, IsBodyOf, body_reads, rec_of, rec_is, IsRecOf, rec_fits, rec_parted}
use Rattle.record_codec.proofs.RecordReaders.{counted_lines, notes_of, notes_is, AreLines, AreNotesOf, notes_parted, sort_of}
use Rattle.record_codec.proofs.RecordReaders.{IsEntryOf, IsBehind, alta_behind, behind_alta, anulacion_behind, behind_anulacion}
use Rattle.record_codec.proofs.RecordReaders.{notes_behind, behind_notes, entry_in_range, entry_reads, erred_at, in_takes}
use Rattle.record_codec.proofs.RecordReaders.{in_fails, not_refused}
use Rattle.record_codec.proofs.ValueLemmas.{name_is, name_yes}

-- ---- the parts of a record

abbrev id_of : List ℕ × ℕ → InvoiceId
id_of p = record { num = p.0; day = p.1 }

id_halts : Halts id_at id_fields IsId
id_halts =
    Halts-is (λ bytes. (pair_at (text_at is_num_serie) (number_at w32 0 last_day)) bytes >>= λ (p : (List ℕ × (ℕ)) × List ℕ). Ok
    (id_of p.0, p.1)) id_at id_fields IsId
    (Halts-through (pair_at (text_at is_num_serie) (number_at w32 0 last_day)) id_of
    (λ (p : List ℕ × (ℕ)). ((text_bytes p.0) ∷ []) ++ (((to_be_bytes w32 p.1) ∷ [])))
    id_fields
    (λ (p : List ℕ × (ℕ)). (is_num_serie p.0 ≡ true) × (IsInRange 0 last_day p.1)) IsId
    (Halts-and (text_at is_num_serie) (number_at w32 0 last_day)
    (λ (x : List ℕ). text_bytes x) (λ (x : List ℕ). ((text_bytes x) ∷ []))
    (λ (p : ℕ). ((to_be_bytes w32 p) ∷ []))
    (λ (x : List ℕ). (is_num_serie x ≡ true)) (λ (p : ℕ). IsInRange 0 last_day p)
    (Reads-text is_num_serie) (λ (x : List ℕ). alone (text_bytes x)) (Halts-text is_num_serie (65 ∷ []) refl)
    (Halts-number w32 (2 ^ 32) wide32 0 last_day (omega arith) (omega arith)))
    (λ p fits. (record { num = fits.0; day = fits.1.1 }, refl))
    (λ id is. ((id.num, id.day), (is.num, (omega arith, is.day)), refl)))
    id_is

abbrev named : List ℕ × List ℕ → Party
named p = record { nif = p.0; name = p.1 }

sample_name : is_name (65 ∷ []) ≡ true
sample_name = rw (is_utf8-from_IsUtf8 (65 ∷ []) (IsUtf8-from_ascii (65 ∷ []) (IsAscii-cons 65 [] (omega arith) IsAscii-nil))) refl

party_halts : Halts party_at party_fields IsTextParty
party_halts =
    Halts-is (λ bytes. (pair_at (fixed_at 9 nif_in) (text_at is_name)) bytes >>= λ (p : (List ℕ × (List ℕ)) × List ℕ). Ok
    (named p.0, p.1)) party_at party_fields IsTextParty
    (Halts-through (pair_at (fixed_at 9 nif_in) (text_at is_name)) named
    (λ (p : List ℕ × (List ℕ)). ((p.0) ∷ []) ++ (((text_bytes p.1) ∷ [])))
    party_fields
    (λ (p : List ℕ × (List ℕ)). IsNif p.0 × ((is_name p.1 ≡ true))) IsTextParty
    (Halts-and (fixed_at 9 nif_in) (text_at is_name)
    (λ (x : List ℕ). x) (λ (x : List ℕ). ((x) ∷ []))
    (λ (p : List ℕ). ((text_bytes p) ∷ []))
    (λ (x : List ℕ). IsNif x) (λ (p : List ℕ). (is_name p ≡ true))
    nif_reads (λ (x : List ℕ). alone (x)) nif_halts
    (Halts-text is_name (65 ∷ []) sample_name))
    (λ p fits. let n = name_is p.1 fits.1 in ((record { nif = fits.0; name = n.0 }, n.1), refl))
    (λ q is. ((q.nif, q.name), (is.0.nif, name_yes q.name is.0.name is.1), refl)))
    party_is

abbrev is_there : Option Party → Bool
is_there None = false
is_there (Some party) = true

abbrev behind_flag : Option Party → List (List ℕ)
behind_flag None = []
behind_flag (Some party) = party_fields party

no_fields : (customer : Option Party) → (is_there customer ≡ false) × IsTextCustomer customer → behind_flag customer ≡ []
no_fields None is = refl
no_fields (Some party) is = let never = is.0 in absurd cc

party_of : (customer : Option Party) → (is_there customer ≡ true) × IsTextCustomer customer → (party : Party) ×
    IsTextParty party × (Some party ≡ customer)
party_of None is = let never = is.0 in absurd cc
party_of (Some party) is = (party, is.1 party refl, refl)

customer_behind_halts : (flag : Bool) → Halts (customer_behind flag) behind_flag (λ customer. (is_there customer ≡ flag) ×
    IsTextCustomer customer)
customer_behind_halts false =
    Halts-none {A = Option Party} None behind_flag (λ (customer : Option Party). (is_there customer ≡ false) ×
    IsTextCustomer customer) (refl, none_fits) no_fields
customer_behind_halts true =
    Halts-through party_at (λ (party : Party). Some party) party_fields behind_flag IsTextParty
    (λ (customer : Option Party). (is_there customer ≡ true) × IsTextCustomer customer) party_halts
    (λ party is. ((refl, some_fits party is), refl)) party_of

customer_laid : (customer : Option Party) → customer_fields customer ≡ byte_field (flag_code (is_there customer)) ∷ behind_flag
    customer
customer_laid None = refl
customer_laid (Some party) = refl

customer_halts : Halts customer_at customer_fields IsTextCustomer
unfolding customer_at
customer_halts =
    Halts-as (λ bytes. flag_at bytes >>= λ f. customer_behind f.0 f.1) customer_at
    (λ (customer : Option Party). byte_field (flag_code (is_there customer)) ∷ behind_flag customer) customer_fields
    (λ (customer : Option Party). ⊤ × IsTextCustomer customer) IsTextCustomer
    (Halts-then flag_at customer_behind (λ flag. flag_code flag ∷ []) (λ flag. byte_field (flag_code flag) ∷ []) behind_flag
    (λ _. ⊤) IsTextCustomer is_there
    flag_reads (λ flag. alone (flag_code flag ∷ [])) flag_halts (λ flag _. customer_behind_halts flag))
    (λ bytes. refl) customer_laid (λ customer fits. fits.1) (λ customer is. (tt, is))

refs_halts : Halts refs_at refs_fields (λ ids. IsInRange 0 MAX_REFS (length ids) × AllByRecursion IsId ids)
unfolding refs_at
refs_halts =
    Halts-counted (byte_at (number_in 0 MAX_REFS)) id_at (λ n. n ∷ []) id_bytes id_fields (IsInRange 0 MAX_REFS) IsId
    (Reads-byte_in 0 MAX_REFS (omega arith)) (Halts-byte_in 0 MAX_REFS (omega arith) (omega arith)) id_reads id_whole id_halts

abbrev line_of : Key × ℤ → TaxLine
line_of p = record { key = p.0; base = p.1 }

tax_line_halts : (version : Version) → Halts (tax_line_at version) (tax_line_fields version) (IsLineOf version)
tax_line_halts version =
    Halts-is (λ bytes. (pair_at (key_at version) (fixed_at 8 base_in)) bytes >>= λ (p : (Key × (ℤ)) × List ℕ).
    Ok (line_of p.0, p.1)) (tax_line_at version) (tax_line_fields version) (IsLineOf version)
    (Halts-through (pair_at (key_at version) (fixed_at 8 base_in)) line_of
    (λ (p : Key × (ℤ)). key_fields version p.0 ++ (to_be_bytes w64 (cast_unsigned w64 p.1) ∷ []))
    (tax_line_fields version)
    (λ (p : Key × (ℤ)). KeyFits version p.0 × IsBase p.1) (IsLineOf version)
    (Halts-and (key_at version) (fixed_at 8 base_in) (key_bytes version) (key_fields version)
    (λ (p : ℤ). ((to_be_bytes w64 (cast_unsigned w64 p)) ∷ []))
    (KeyFits version) (λ (p : ℤ). IsBase p)
    (key_reads version) (key_whole version) (key_halts version)
    base_halts)
    (λ p fits. (fits, refl))
    (λ line is. ((line.key, line.base), is, refl)))
    (tax_line_is version)

breakdown_halts : (version : Version) → Halts (breakdown_at version) (breakdown_fields version) (BreakdownFits version)
unfolding breakdown_at
breakdown_halts version =
    Halts-as (breakdown_at version) (breakdown_at version) (breakdown_fields version) (breakdown_fields version)
    (λ (lines : List TaxLine). IsInRange 1 MAX_LINES (length lines) × AllByRecursion (IsLineOf version) lines)
    (BreakdownFits version)
    (Halts-counted (byte_at (number_in 1 MAX_LINES)) (tax_line_at version) (λ n. n ∷ []) (tax_line_bytes version)
    (tax_line_fields version) (IsInRange 1 MAX_LINES) (IsLineOf version)
    (Reads-byte_in 1 MAX_LINES (omega arith)) (Halts-byte_in 1 MAX_LINES (omega arith) (omega arith)) (tax_line_reads version)
    (tax_line_whole version) (tax_line_halts version))
    (λ bytes. refl) (λ lines. refl) (λ lines fits. breakdown_from version lines fits.0 fits.1)
    (λ lines is. (is.0.few, breakdown_has version lines is))

draft_laid : (version : Version) (p : Kind × (Option RectKind × (Option Party × (List InvoiceId × List TaxLine)))) →
    draft_fields version (draft_of p)
    ≡ byte_field (kind_code p.0) ∷ byte_field (rect_code p.1.0) ∷
    (customer_fields p.1.1.0 ++ (refs_fields p.1.1.1.0 ++ breakdown_fields version p.1.1.1.1))
draft_laid version p =
    ap (λ (xs : List (List ℕ)). byte_field (kind_code p.0) ∷ byte_field (rect_code p.1.0) ∷ xs)
    (append_assoc (customer_fields p.1.1.0) (refs_fields p.1.1.1.0) (breakdown_fields version p.1.1.1.1))

draft_halts : (version : Version) → Halts (draft_at version) (draft_fields version) (IsFullDraft version)
draft_halts version =
    Halts-is (λ bytes. (pair_at (byte_at (of_code kind_code kinds)) (pair_at (byte_at (of_code rect_code rects))
    (pair_at customer_at (pair_at refs_at (breakdown_at version))))) bytes >>= λ
    (p : (Kind × (Option RectKind × (Option Party × (List InvoiceId × (List TaxLine))))) × List ℕ). Ok (draft_of p.0, p.1))
    (draft_at version) (draft_fields version) (IsFullDraft version)
    (Halts-through (pair_at (byte_at (of_code kind_code kinds)) (pair_at (byte_at (of_code rect_code rects))
    (pair_at customer_at (pair_at refs_at (breakdown_at version))))) draft_of
    (λ (p : Kind × (Option RectKind × (Option Party × (List InvoiceId × (List TaxLine))))). ((kind_code p.0 ∷ []) ∷ []) ++
    (((rect_code p.1.0 ∷ []) ∷ []) ++
    (customer_fields p.1.1.0 ++ (refs_fields p.1.1.1.0 ++ (breakdown_fields version p.1.1.1.1)))))
    (draft_fields version)
    (λ (p : Kind × (Option RectKind × (Option Party × (List InvoiceId × (List TaxLine))))). ⊤ ×
    (⊤ × (IsTextCustomer p.1.1.0 × ((IsInRange 0 MAX_REFS (length p.1.1.1.0) × AllByRecursion IsId p.1.1.1.0) ×
    (BreakdownFits version p.1.1.1.1))))) (IsFullDraft version)
    (Halts-and (byte_at (of_code kind_code kinds)) (pair_at (byte_at (of_code rect_code rects))
    (pair_at customer_at (pair_at refs_at (breakdown_at version))))
    (λ (x : Kind). kind_code x ∷ []) (λ (x : Kind). ((kind_code x ∷ []) ∷ []))
    (λ (p : Option RectKind × (Option Party × (List InvoiceId × (List TaxLine)))). ((rect_code p.0 ∷ []) ∷ []) ++
    (customer_fields p.1.0 ++ (refs_fields p.1.1.0 ++ (breakdown_fields version p.1.1.1))))
    (λ (x : Kind). ⊤) (λ (p : Option RectKind × (Option Party × (List InvoiceId × (List TaxLine)))). ⊤ ×
    (IsTextCustomer p.1.0 ×
    ((IsInRange 0 MAX_REFS (length p.1.1.0) × AllByRecursion IsId p.1.1.0) × (BreakdownFits version p.1.1.1))))
    kind_reads (λ (x : Kind). alone (kind_code x ∷ [])) kind_halts
    (Halts-and (byte_at (of_code rect_code rects)) (pair_at customer_at (pair_at refs_at (breakdown_at version)))
    (λ (x : Option RectKind). rect_code x ∷ []) (λ (x : Option RectKind). ((rect_code x ∷ []) ∷ []))
    (λ (p : Option Party × (List InvoiceId × (List TaxLine))). customer_fields p.0 ++
    (refs_fields p.1.0 ++ (breakdown_fields version p.1.1)))
    (λ (x : Option RectKind). ⊤) (λ (p : Option Party × (List InvoiceId × (List TaxLine))). IsTextCustomer p.0 ×
    ((IsInRange 0 MAX_REFS (length p.1.0) × AllByRecursion IsId p.1.0) × (BreakdownFits version p.1.1)))
    rect_reads (λ (x : Option RectKind). alone (rect_code x ∷ [])) rect_halts
    (Halts-and customer_at (pair_at refs_at (breakdown_at version))
    (λ (x : Option Party). customer_bytes x) (λ (x : Option Party). customer_fields x)
    (λ (p : List InvoiceId × (List TaxLine)). refs_fields p.0 ++ (breakdown_fields version p.1))
    (λ (x : Option Party). IsTextCustomer x) (λ (p : List InvoiceId × (List TaxLine)). (IsInRange 0 MAX_REFS (length p.0) ×
    AllByRecursion IsId p.0) × (BreakdownFits version p.1))
    customer_reads customer_whole customer_halts
    (Halts-and refs_at (breakdown_at version)
    (λ (x : List InvoiceId). refs_bytes x) (λ (x : List InvoiceId). refs_fields x)
    (λ (p : List TaxLine). breakdown_fields version p)
    (λ (x : List InvoiceId). (IsInRange 0 MAX_REFS (length x) × AllByRecursion IsId x))
    (λ (p : List TaxLine). BreakdownFits version p)
    refs_reads refs_whole refs_halts
    (breakdown_halts version)))))
    (λ p fits. (draft_full version p fits, draft_laid version p))
    (draft_parted version))
    (draft_is version)

abbrev is_after : Link → Bool
is_after First = false
is_after (After id huella) = true

abbrev behind_after : Link → List (List ℕ)
behind_after First = []
behind_after (After id huella) = id_fields id ++ huella ∷ []

first_bare : (link : Link) → (is_after link ≡ false) × IsLink link → behind_after link ≡ []
first_bare First is = refl
first_bare (After id huella) is = let never = is.0 in absurd cc

link_unmade : (link : Link) → (is_after link ≡ true) × IsLink link → (p : InvoiceId × List ℕ) × (IsId p.0 × IsHuella p.1) ×
    (After p.0 p.1 ≡ link)
link_unmade First is = let never = is.0 in absurd cc
link_unmade (After id huella) is = ((id, huella), is.1, refl)

link_behind_halts : (flag : Bool) → Halts (link_behind flag) behind_after (λ link. (is_after link ≡ flag) × IsLink link)
link_behind_halts false =
    Halts-none First behind_after (λ (link : Link). (is_after link ≡ false) × IsLink link) (refl, tt) first_bare
link_behind_halts true =
    Halts-is (both_at id_at huella_at (λ p. After p.0 p.1)) (link_behind true) behind_after
    (λ (link : Link). (is_after link ≡ true) × IsLink link)
    (Halts-through (pair_at id_at huella_at) (λ (p : InvoiceId × List ℕ). After p.0 p.1) (λ (p : InvoiceId × List ℕ). id_fields
    p.0 ++ p.1 ∷ []) behind_after
    (λ (p : InvoiceId × List ℕ). IsId p.0 × IsHuella p.1) (λ (link : Link). (is_after link ≡ true) × IsLink link)
    (Halts-and id_at huella_at id_bytes id_fields (λ (h : List ℕ). h ∷ []) IsId IsHuella id_reads id_whole id_halts huella_halts)
    (λ p fits. ((refl, fits), refl)) link_unmade)
    huella_behind

link_laid : (link : Link) → link_fields link ≡ byte_field (flag_code (is_after link)) ∷ behind_after link
link_laid First = refl
link_laid (After id huella) = refl

link_halts : Halts link_at link_fields IsLink
unfolding link_at
link_halts =
    Halts-as (λ bytes. flag_at bytes >>= λ f. link_behind f.0 f.1) link_at
    (λ (link : Link). byte_field (flag_code (is_after link)) ∷ behind_after link) link_fields (λ (link : Link). ⊤ × IsLink link)
    IsLink
    (Halts-then flag_at link_behind (λ flag. flag_code flag ∷ []) (λ flag. byte_field (flag_code flag) ∷ []) behind_after (λ _. ⊤)
    IsLink is_after
    flag_reads (λ flag. alone (flag_code flag ∷ [])) flag_halts (λ flag _. link_behind_halts flag))
    (λ bytes. refl) link_laid (λ link fits. fits.1) (λ link is. (tt, is))

abbrev moment_of : ℕ × ℤ → Moment
moment_of p = record { seconds = p.0; offset_minutes = p.1 }

moment_halts : Halts moment_at moment_fields IsMoment
moment_halts =
    Halts-is (λ bytes. (pair_at (number_at w64 CLOCK_FROM CLOCK_TO) (fixed_at 2 offset_in)) bytes >>= λ (p : (ℕ × (ℤ)) × List ℕ).
    Ok (moment_of p.0, p.1)) moment_at moment_fields IsMoment
    (Halts-through (pair_at (number_at w64 CLOCK_FROM CLOCK_TO) (fixed_at 2 offset_in)) moment_of
    (λ (p : ℕ × (ℤ)). ((to_be_bytes w64 p.0) ∷ []) ++ (((to_be_bytes w16 (cast_unsigned w16 p.1)) ∷ [])))
    moment_fields
    (λ (p : ℕ × (ℤ)). IsInRange CLOCK_FROM CLOCK_TO p.0 × (IsStampOffset p.1)) IsMoment
    (Halts-and (number_at w64 CLOCK_FROM CLOCK_TO) (fixed_at 2 offset_in)
    (λ (x : ℕ). to_be_bytes w64 x) (λ (x : ℕ). ((to_be_bytes w64 x) ∷ []))
    (λ (p : ℤ). ((to_be_bytes w16 (cast_unsigned w16 p)) ∷ []))
    (λ (x : ℕ). IsInRange CLOCK_FROM CLOCK_TO x) (λ (p : ℤ). IsStampOffset p)
    (Reads-number w64 (2 ^ 64) wide64 CLOCK_FROM CLOCK_TO (omega arith)) (λ (x : ℕ). alone (to_be_bytes w64 x))
    (Halts-number w64 (2 ^ 64) wide64 CLOCK_FROM CLOCK_TO (omega arith) (omega arith))
    offset_halts)
    (λ p fits. (record { seconds = fits.0; offset = fits.1 }, refl))
    (λ m is. ((m.seconds, m.offset_minutes), (is.seconds, is.offset), refl)))
    moment_is

-- ---- records and notes

four : (a b c d : List (List ℕ)) → ((a ++ b) ++ c) ++ d ≡ a ++ (b ++ (c ++ d))
four a b c d = simp append_assoc

five : (a b c d e : List (List ℕ)) → (((a ++ b) ++ c) ++ d) ++ e ≡ a ++ (b ++ (c ++ (d ++ e)))
five a b c d e = simp append_assoc

alta_halts : (version : Version) (issuer : List ℕ) →
    Halts (alta_at version issuer) (alta_fields version) (IsAltaOf version issuer)
alta_halts version issuer =
    Halts-is (λ bytes. (pair_at id_at
    (pair_at (draft_at version) (pair_at flag_at (pair_at (byte_at (of_code previo_code previos))
    (pair_at link_at moment_at))))) bytes >>= λ (p : (InvoiceId × (Draft × (Bool × (Previo × (Link × (Moment)))))) × List ℕ).
    Ok ((alta_of issuer) p.0, p.1)) (alta_at version issuer) (alta_fields version) (IsAltaOf version issuer)
    (Halts-through (pair_at id_at (pair_at (draft_at version) (pair_at flag_at (pair_at (byte_at (of_code previo_code previos))
    (pair_at link_at moment_at))))) (alta_of issuer)
    (λ (p : InvoiceId × (Draft × (Bool × (Previo × (Link × (Moment)))))). id_fields p.0 ++
    (draft_fields version p.1.0 ++ (((flag_code p.1.1.0 ∷ []) ∷ []) ++ (((previo_code p.1.1.1.0 ∷ []) ∷ []) ++
    (link_fields p.1.1.1.1.0 ++ (moment_fields p.1.1.1.1.1))))))
    (alta_fields version)
    (λ (p : InvoiceId × (Draft × (Bool × (Previo × (Link × (Moment)))))). IsId p.0 ×
    (IsFullDraft version p.1.0 × (⊤ × (⊤ × (IsLink p.1.1.1.1.0 × (IsMoment p.1.1.1.1.1)))))) (IsAltaOf version issuer)
    (Halts-and id_at (pair_at (draft_at version) (pair_at flag_at (pair_at (byte_at (of_code previo_code previos))
    (pair_at link_at moment_at))))
    (λ (x : InvoiceId). id_bytes x) (λ (x : InvoiceId). id_fields x)
    (λ (p : Draft × (Bool × (Previo × (Link × (Moment))))). draft_fields version p.0 ++ (((flag_code p.1.0 ∷ []) ∷ []) ++
    (((previo_code p.1.1.0 ∷ []) ∷ []) ++ (link_fields p.1.1.1.0 ++ (moment_fields p.1.1.1.1)))))
    (λ (x : InvoiceId). IsId x) (λ (p : Draft × (Bool × (Previo × (Link × (Moment))))). IsFullDraft version p.0 ×
    (⊤ × (⊤ × (IsLink p.1.1.1.0 × (IsMoment p.1.1.1.1)))))
    id_reads id_whole id_halts
    (Halts-and (draft_at version) (pair_at flag_at (pair_at (byte_at (of_code previo_code previos)) (pair_at link_at moment_at)))
    (λ (x : Draft). draft_bytes version x) (λ (x : Draft). draft_fields version x)
    (λ (p : Bool × (Previo × (Link × (Moment)))). ((flag_code p.0 ∷ []) ∷ []) ++ (((previo_code p.1.0 ∷ []) ∷ []) ++
    (link_fields p.1.1.0 ++ (moment_fields p.1.1.1))))
    (λ (x : Draft). IsFullDraft version x) (λ (p : Bool × (Previo × (Link × (Moment)))). ⊤ ×
    (⊤ × (IsLink p.1.1.0 × (IsMoment p.1.1.1))))
    (draft_reads version) (draft_whole version) (draft_halts version)
    (Halts-and flag_at (pair_at (byte_at (of_code previo_code previos)) (pair_at link_at moment_at))
    (λ (x : Bool). flag_code x ∷ []) (λ (x : Bool). ((flag_code x ∷ []) ∷ []))
    (λ (p : Previo × (Link × (Moment))). ((previo_code p.0 ∷ []) ∷ []) ++ (link_fields p.1.0 ++ (moment_fields p.1.1)))
    (λ (x : Bool). ⊤) (λ (p : Previo × (Link × (Moment))). ⊤ × (IsLink p.1.0 × (IsMoment p.1.1)))
    flag_reads (λ (x : Bool). alone (flag_code x ∷ [])) flag_halts
    (Halts-and (byte_at (of_code previo_code previos)) (pair_at link_at moment_at)
    (λ (x : Previo). previo_code x ∷ []) (λ (x : Previo). ((previo_code x ∷ []) ∷ []))
    (λ (p : Link × (Moment)). link_fields p.0 ++ (moment_fields p.1))
    (λ (x : Previo). ⊤) (λ (p : Link × (Moment)). IsLink p.0 × (IsMoment p.1))
    previo_reads (λ (x : Previo). alone (previo_code x ∷ [])) previo_halts
    (Halts-and link_at moment_at
    (λ (x : Link). link_bytes x) (λ (x : Link). link_fields x)
    (λ (p : Moment). moment_fields p)
    (λ (x : Link). IsLink x) (λ (p : Moment). IsMoment p)
    link_reads link_whole link_halts
    moment_halts)))))
    (λ p fits. (
      (record { id = fits.0; draft = fits.1.0; link = fits.1.1.1.1.0; moment = fits.1.1.1.1.1 }, refl),
      five (id_fields p.0) (draft_fields version p.1.0) (byte_field (flag_code p.1.1.0) ∷ byte_field (previo_code p.1.1.1.0) ∷ [])
          (link_fields p.1.1.1.1.0) (moment_fields p.1.1.1.1.1),
    ))
    (alta_parted version issuer))
    (alta_is version issuer)

anulacion_halts : (issuer : List ℕ) → Halts (anulacion_at issuer) anulacion_fields (IsAnulacionOf issuer)
anulacion_halts issuer =
    Halts-is (λ bytes. (pair_at id_at (pair_at flag_at (pair_at flag_at (pair_at link_at moment_at)))) bytes >>= λ
    (p : (InvoiceId × (Bool × (Bool × (Link × (Moment))))) × List ℕ). Ok ((anulacion_of issuer) p.0, p.1))
    (anulacion_at issuer) anulacion_fields (IsAnulacionOf issuer)
    (Halts-through (pair_at id_at (pair_at flag_at (pair_at flag_at (pair_at link_at moment_at)))) (anulacion_of issuer)
    (λ (p : InvoiceId × (Bool × (Bool × (Link × (Moment))))). id_fields p.0 ++ (((flag_code p.1.0 ∷ []) ∷ []) ++
    (((flag_code p.1.1.0 ∷ []) ∷ []) ++ (link_fields p.1.1.1.0 ++ (moment_fields p.1.1.1.1)))))
    anulacion_fields
    (λ (p : InvoiceId × (Bool × (Bool × (Link × (Moment))))). IsId p.0 × (⊤ × (⊤ × (IsLink p.1.1.1.0 × (IsMoment p.1.1.1.1)))))
    (IsAnulacionOf issuer)
    (Halts-and id_at (pair_at flag_at (pair_at flag_at (pair_at link_at moment_at)))
    (λ (x : InvoiceId). id_bytes x) (λ (x : InvoiceId). id_fields x)
    (λ (p : Bool × (Bool × (Link × (Moment)))). ((flag_code p.0 ∷ []) ∷ []) ++ (((flag_code p.1.0 ∷ []) ∷ []) ++
    (link_fields p.1.1.0 ++ (moment_fields p.1.1.1))))
    (λ (x : InvoiceId). IsId x) (λ (p : Bool × (Bool × (Link × (Moment)))). ⊤ × (⊤ × (IsLink p.1.1.0 × (IsMoment p.1.1.1))))
    id_reads id_whole id_halts
    (Halts-and flag_at (pair_at flag_at (pair_at link_at moment_at))
    (λ (x : Bool). flag_code x ∷ []) (λ (x : Bool). ((flag_code x ∷ []) ∷ []))
    (λ (p : Bool × (Link × (Moment))). ((flag_code p.0 ∷ []) ∷ []) ++ (link_fields p.1.0 ++ (moment_fields p.1.1)))
    (λ (x : Bool). ⊤) (λ (p : Bool × (Link × (Moment))). ⊤ × (IsLink p.1.0 × (IsMoment p.1.1)))
    flag_reads (λ (x : Bool). alone (flag_code x ∷ [])) flag_halts
    (Halts-and flag_at (pair_at link_at moment_at)
    (λ (x : Bool). flag_code x ∷ []) (λ (x : Bool). ((flag_code x ∷ []) ∷ []))
    (λ (p : Link × (Moment)). link_fields p.0 ++ (moment_fields p.1))
    (λ (x : Bool). ⊤) (λ (p : Link × (Moment)). IsLink p.0 × (IsMoment p.1))
    flag_reads (λ (x : Bool). alone (flag_code x ∷ [])) flag_halts
    (Halts-and link_at moment_at
    (λ (x : Link). link_bytes x) (λ (x : Link). link_fields x)
    (λ (p : Moment). moment_fields p)
    (λ (x : Link). IsLink x) (λ (p : Moment). IsMoment p)
    link_reads link_whole link_halts
    moment_halts))))
    (λ p fits. (
      (record { id = fits.0; link = fits.1.1.1.0; moment = fits.1.1.1.1 }, refl),
      four (id_fields p.0) (byte_field (flag_code p.1.0) ∷ byte_field (flag_code p.1.1.0) ∷ []) (link_fields p.1.1.1.0)
          (moment_fields p.1.1.1.1),
    ))
    (anulacion_parted issuer))
    (anulacion_is issuer)

body_halts : (version : Version) (alta : Bool) (issuer : List ℕ) →
    Halts (body_at version alta issuer) (said_fields version) (IsBodyOf version alta issuer)
body_halts version true issuer =
    Halts-through (alta_at version issuer) (λ alta. record_of.Alta alta) (alta_fields version) (said_fields version)
    (IsAltaOf version issuer) (IsBodyOf version true issuer)
    (alta_halts version issuer)
    (λ alta fits. ((refl, fits), refl)) (readers.alta_parted version issuer)
body_halts version false issuer =
    Halts-through (anulacion_at issuer) (λ anulacion. record_of.Anulacion anulacion) anulacion_fields (said_fields version)
    (IsAnulacionOf issuer) (IsBodyOf version false issuer)
    (anulacion_halts issuer) (λ anulacion fits. ((refl, fits), refl)) (readers.anulacion_parted version issuer)

-- what follows the first byte of an entry
abbrev behind_sort : (version : Version) → Entry → List (List ℕ)
behind_sort version (Rec till serial sealed) = byte_field till ∷ to_be_bytes w32 serial ∷ said_fields version sealed.body ++
    sealed.huella ∷ []
behind_sort version (Notes first lines) = to_be_bytes w32 first ∷ to_be_bytes w16 (length lines) ∷ flat_map
    (λ (line : Line). line_bytes line ∷ []) lines

rec_halts : (version : Version) (alta : Bool) (issuer : List ℕ) →
    Halts (rec_at version alta issuer) (behind_sort version) (IsRecOf version alta issuer)
rec_halts version alta issuer =
    Halts-is (λ bytes. (pair_at (byte_at (number_in 1 LAST_TILL)) (pair_at (number_at w32 1 4_294_967_295)
    (pair_at (body_at version alta issuer) huella_at))) bytes >>= λ (p : (ℕ × (ℕ × (Record × (List ℕ)))) × List ℕ). Ok
    (rec_of p.0, p.1)) (rec_at version alta issuer) (behind_sort version) (IsRecOf version alta issuer)
    (Halts-through (pair_at (byte_at (number_in 1 LAST_TILL)) (pair_at (number_at w32 1 4_294_967_295)
    (pair_at (body_at version alta issuer) huella_at))) rec_of
    (λ (p : ℕ × (ℕ × (Record × (List ℕ)))). ((p.0 ∷ []) ∷ []) ++ (((to_be_bytes w32 p.1.0) ∷ []) ++
    (said_fields version p.1.1.0 ++ (((p.1.1.1) ∷ [])))))
    (behind_sort version)
    (λ (p : ℕ × (ℕ × (Record × (List ℕ)))). IsInRange 1 LAST_TILL p.0 × (IsInRange 1 4_294_967_295 p.1.0 ×
    (IsBodyOf version alta issuer p.1.1.0 × (IsHuella p.1.1.1)))) (IsRecOf version alta issuer)
    (Halts-and (byte_at (number_in 1 LAST_TILL)) (pair_at (number_at w32 1 4_294_967_295) (pair_at (body_at version alta issuer)
    huella_at))
    (λ (x : ℕ). x ∷ []) (λ (x : ℕ). ((x ∷ []) ∷ []))
    (λ (p : ℕ × (Record × (List ℕ))). ((to_be_bytes w32 p.0) ∷ []) ++ (said_fields version p.1.0 ++ (((p.1.1) ∷ []))))
    (λ (x : ℕ). IsInRange 1 LAST_TILL x) (λ (p : ℕ × (Record × (List ℕ))). IsInRange 1 4_294_967_295 p.0 ×
    (IsBodyOf version alta issuer p.1.0 × (IsHuella p.1.1)))
    (Reads-byte_in 1 LAST_TILL (omega arith)) (λ (x : ℕ). alone (x ∷ [])) (Halts-byte_in 1 LAST_TILL (omega arith) (omega arith))
    (Halts-and (number_at w32 1 4_294_967_295) (pair_at (body_at version alta issuer) huella_at)
    (λ (x : ℕ). to_be_bytes w32 x) (λ (x : ℕ). ((to_be_bytes w32 x) ∷ []))
    (λ (p : Record × (List ℕ)). said_fields version p.0 ++ (((p.1) ∷ [])))
    (λ (x : ℕ). IsInRange 1 4_294_967_295 x) (λ (p : Record × (List ℕ)). IsBodyOf version alta issuer p.0 × (IsHuella p.1))
    (Reads-number w32 (2 ^ 32) wide32 1 4_294_967_295 (omega arith)) (λ (x : ℕ). alone (to_be_bytes w32 x))
    (Halts-number w32 (2 ^ 32) wide32 1 4_294_967_295 (omega arith) (omega arith))
    (Halts-and (body_at version alta issuer) huella_at
    (λ (x : Record). said_bytes version x) (λ (x : Record). said_fields version x)
    (λ (p : List ℕ). ((p) ∷ []))
    (λ (x : Record). IsBodyOf version alta issuer x) (λ (p : List ℕ). IsHuella p)
    (body_reads version alta issuer) (said_whole version) (body_halts version alta issuer)
    huella_halts)))
    (λ p fits. (rec_fits version alta issuer p fits, refl))
    (rec_parted version alta issuer))
    (rec_is version alta issuer)

lines_halt : Halts counted_lines (λ lines. to_be_bytes w16 (length lines) ∷ flat_map (λ (line : Line). line_bytes line ∷ [])
    lines) AreLines
lines_halt =
    Halts-counted (number_at w16 1 MAX_NOTES) (fixed_at 3 line_in) (to_be_bytes w16) line_bytes (λ (line : Line). line_bytes line ∷
    []) (IsInRange 1 MAX_NOTES) IsLine
    (Reads-number w16 (2 ^ 16) wide16 1 MAX_NOTES (omega arith)) (Halts-number w16 (2 ^ 16) wide16 1 MAX_NOTES (omega arith)
    (omega arith))
    line_reads (λ line. alone (line_bytes line)) line_halts

notes_halts : (version : Version) → Halts notes_at (behind_sort version) AreNotesOf
notes_halts version =
    Halts-is (λ bytes. (pair_at (number_at w32 0 4_294_967_295) counted_lines) bytes >>= λ (p : (ℕ × (List Line)) × List ℕ). Ok
    (notes_of p.0, p.1)) notes_at (behind_sort version) AreNotesOf
    (Halts-through (pair_at (number_at w32 0 4_294_967_295) counted_lines) notes_of
    (λ (p : ℕ × (List Line)). ((to_be_bytes w32 p.0) ∷ []) ++
    ((to_be_bytes w16 (length p.1) ∷ flat_map (λ (line : Line). line_bytes line ∷ []) p.1)))
    (behind_sort version)
    (λ (p : ℕ × (List Line)). IsInRange 0 4_294_967_295 p.0 × (AreLines p.1)) AreNotesOf
    (Halts-and (number_at w32 0 4_294_967_295) counted_lines
    (λ (x : ℕ). to_be_bytes w32 x) (λ (x : ℕ). ((to_be_bytes w32 x) ∷ []))
    (λ (p : List Line). (to_be_bytes w16 (length p) ∷ flat_map (λ (line : Line). line_bytes line ∷ []) p))
    (λ (x : ℕ). IsInRange 0 4_294_967_295 x) (λ (p : List Line). AreLines p)
    (Reads-number w32 (2 ^ 32) wide32 0 4_294_967_295 (omega arith)) (λ (x : ℕ). alone (to_be_bytes w32 x))
    (Halts-number w32 (2 ^ 32) wide32 0 4_294_967_295 (omega arith) (omega arith))
    lines_halt)
    (λ p fits. (record { first = let small = fits.0 in omega arith; few = fits.1.0; lines = fits.1.1 }, refl))
    (notes_parted))
    notes_is

-- ---- an entry

behind_halts : (version : Version) (sort : ℕ) (issuer : List ℕ) → IsInRange 1 3 sort →
    Halts (entry_behind version sort issuer) (behind_sort version)
    (IsBehind version sort issuer)
behind_halts version zero issuer within = let low = within.0 in absurd (omega arith)
behind_halts version (suc zero) issuer within =
    Halts-as (rec_at version true issuer) (entry_behind version 1 issuer) (behind_sort version) (behind_sort version)
    (IsRecOf version true issuer) (IsBehind version 1 issuer)
    (rec_halts version true issuer)
    (λ bytes. refl) (λ entry. refl) (alta_behind version issuer) (behind_alta version issuer)
behind_halts version (suc (suc zero)) issuer within =
    Halts-as (rec_at version false issuer) (entry_behind version 2 issuer) (behind_sort version) (behind_sort version)
    (IsRecOf version false issuer) (IsBehind version 2 issuer)
    (rec_halts version false issuer)
    (λ bytes. refl) (λ entry. refl) (anulacion_behind version issuer) (behind_anulacion version issuer)
behind_halts version (suc (suc (suc zero))) issuer within =
    Halts-as notes_at (entry_behind version 3 issuer) (behind_sort version) (behind_sort version) AreNotesOf
    (IsBehind version 3 issuer) (notes_halts version)
    (λ bytes. refl) (λ entry. refl) (notes_behind version issuer) (behind_notes version issuer)
behind_halts version (suc (suc (suc (suc sort)))) issuer within = let high = within.1 in absurd (omega arith)

entry_laid : (version : Version) (entry : Entry) → entry_fields version entry ≡
    byte_field (sort_of entry) ∷ behind_sort version entry
entry_laid version (Rec till serial sealed) = refl
entry_laid version (Notes first lines) = refl

entry_halts : (version : Version) (issuer : List ℕ) →
    Halts (entry_at version issuer) (entry_fields version) (IsEntryOf version issuer)
unfolding entry_at
entry_halts version issuer =
    Halts-as (λ bytes. byte_at (number_in 1 3) bytes >>= λ sort. entry_behind version sort.0 issuer sort.1)
    (entry_at version issuer)
    (λ (entry : Entry). byte_field (sort_of entry) ∷ behind_sort version entry) (entry_fields version)
    (λ (entry : Entry). IsInRange 1 3 (sort_of entry) × IsEntryOf version issuer entry) (IsEntryOf version issuer)
    (Halts-then (byte_at (number_in 1 3)) (λ sort. entry_behind version sort issuer) (λ sort. sort ∷ [])
    (λ sort. byte_field sort ∷ [])
    (behind_sort version)
    (IsInRange 1 3) (IsEntryOf version issuer) sort_of (Reads-byte_in 1 3 (omega arith)) (λ sort. alone (sort ∷ []))
    (Halts-byte_in 1 3 (omega arith) (omega arith)) (λ sort within. behind_halts version sort issuer within))
    (λ bytes. refl) (entry_laid version) (λ entry fits. fits.1) (λ entry is. (entry_in_range entry, is))

-- ---- all of the bytes

abbrev Refused : (version : Version) → List ℕ → List ℕ → ℕ → Type 0
Refused version issuer bytes left =
    (entry_at version issuer bytes ≡ Err left) ⊎ ((x : Entry × List ℕ) × (entry_at version issuer bytes ≡ Ok x) ×
    (length x.1 ≡ left))

refused : (version : Version) (issuer bytes : List ℕ) (left : ℕ) → entry_in version issuer bytes ≡ Err left →
    Refused version issuer bytes left
unfolding entry_in
refused version issuer bytes left e = erred_at (entry_at version issuer bytes) left e

left_is : (version : Version) (issuer bytes : List ℕ) (left : ℕ) → Refused version issuer bytes left →
    left_by (entry_at version issuer bytes) ≡ left
left_is version issuer bytes left (inl f) = ap left_by f
left_is version issuer bytes left (inr w) = ap left_by w.1 ∙ w.2

begun_at : (version : Version) (issuer bytes : List ℕ) (left : ℕ) → AreBytes bytes → Refused version issuer bytes left →
    Begun (entry_fields version) (IsEntryOf version issuer)
    bytes left
begun_at version issuer bytes left are (inl f) = (entry_halts version issuer).begun bytes left are f
begun_at version issuer bytes left are (inr w) =
    let t = (entry_reads version issuer).takes bytes w.0.0 w.0.1 are w.1 in
    record {
      value = w.0.0;
      fits = t.fits;
      before = entry_fields version w.0.0;
      after = [];
      rest = w.0.1;
      split = sym (append-nil (entry_fields version w.0.0));
      is = t.parts ∙ ap (λ (x : List ℕ). x ++ w.0.1) (whole version w.0.0);
      long = w.2;
    }

fronts : (bytes : List ℕ) (at left : ℕ) (parts before after : List (List ℕ)) (rest : List ℕ) → at + left ≡ length bytes →
    parts ≡ before ++ after
    → bytes ≡ concat before ++ rest → length rest ≡ left → concat (take (length before) parts) ≡ take at bytes
fronts bytes at left parts before after rest sum split is long =
    let here : length (concat before) ≡ at = omega (arith, sum, ap length is, length-append (concat before) rest, long) in
    let fields : take (length before) parts ≡ before = ap (take (length before)) split ∙ take_at before after (length before) refl
    in
    ap concat fields ∙ sym (ap (take at) is ∙ take_at (concat before) rest at here)

place : (version : Version) (issuer bytes : List ℕ) (at : ℕ) → AreBytes bytes → IsDecoded version issuer bytes (Err (bad.At at)) →
    IsLongestFront version issuer bytes
    at
place version issuer bytes at are decoded =
    let left = decoded.0 in
    let how = refused version issuer bytes left decoded.1 in
    let b = begun_at version issuer bytes left are how in
    let sum = decoded.2 in
    record {
      within = omega (arith, sum);
      begun = (
        b.value,
        length b.before,
        (
          b.fits.1,
          (
            b.fits.0,
            fronts bytes at left (entry_fields version b.value) b.before b.after b.rest
                sum b.split b.is b.long,
          ),
        ),
      );
      most = λ entry n rest issuer_is fields is.
          let enough : left_by (entry_at version issuer bytes) ≤ length rest = (entry_halts version issuer).most bytes entry
          (take n (entry_fields version entry)) (drop n (entry_fields version entry)) rest are (fields, issuer_is)
          (sym (take-append-drop n (entry_fields version entry))) is in
          let least : left ≤ length rest = subst (λ (m : ℕ). m ≤ length rest) (left_is version issuer bytes left how) enough in
          omega (arith, sum, least, ap length is, length-append (concat (take n (entry_fields version entry))) rest);
    }

-- ---- there is one longest front

reached : (version : Version) (issuer bytes : List ℕ) (one other : ℕ) → IsLongestFront version issuer bytes one →
    IsLongestFront version issuer bytes other →
    one ≤ other
reached version issuer bytes one other a b =
    let entry = a.begun.0 in
    let n = a.begun.1 in
    let is = a.begun.2 in
    let all : bytes ≡ front_of version n entry ++ drop one bytes =
    sym (take-append-drop one bytes) ∙ ap (λ (xs : List ℕ). xs ++ drop one bytes) (sym is.1.1) in
    let most = b.most entry n (drop one bytes) is.0 is.1.0 all in
    let within = a.within in
    omega (arith, most, within, ap length is.1.1, length-take one bytes)

decided : (version : Version) (issuer bytes : List ℕ) (at : ℕ) → AreBytes bytes → IsNoEncoding version issuer bytes →
    IsLongestFront version issuer bytes at
    → (read : Result Entry ℕ) → entry_in version issuer bytes ≡ read → IsDecoded version issuer bytes (Err (bad.At at))
decided version issuer bytes at are none front (Ok entry) e = absurd (none entry (in_takes version issuer bytes entry are e))
decided version issuer bytes at are none front (Err left) e =
    let fits = in_fails version issuer bytes left are e in
    let there : length bytes - left + left ≡ length bytes = omega (arith, fits) in
    let other = place version issuer bytes (length bytes - left) are (left, e, there) in
    let up = reached version issuer bytes at (length bytes - left) front other in
    let down = reached version issuer bytes (length bytes - left) at other front in
    (left, e, omega (arith, up, down, fits))

pub fault_place : AFaultIsBehindWholeFields
fault_place version issuer bytes at are = (
  (λ decoded. (
    (λ entry is. not_refused version issuer bytes decoded.0 entry decoded.1 is),
    place version issuer bytes at are
        decoded,
  )),
  λ is. decided version issuer bytes at are is.0 is.1 (entry_in version issuer bytes) refl,
)
