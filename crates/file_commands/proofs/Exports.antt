-- What was read of a file is what is exported of it, and its lines so far.
use Rattle.std.proofs.Common.{◌≡◌, ◌∙◌, ℕ, zero, suc, ◌+◌, ◌≤◌, List, [], ◌∷◌, ◌++◌, map, take, length, slice_get, Some, refl, sym, ap}
use Rattle.std.proofs.Common.{add-one, append-nil}
use Rattle.std.proofs.lemmas.List.{flat_map_more, map-append, take_all}
use Rattle.shop_core.specs.File.Reading.{IsRead}
use Rattle.shop_core.specs.File.Reading.IsRead.{not_begun, stands, in_header, no_frame, no_entry, not_next}
use Rattle.shop_core.specs.declared.file.reading.FileRead.{FileRead}
use Rattle.shop_core.specs.declared.file.reading.FileRead.TheVariants.{NotBegun, Sound, Broken}
use Rattle.record_codec.specs.declared.entry.Entry.{Entry}
use Rattle.record_fields.specs.declared.versions.Version.{Version}
use Rattle.serde_json.specs.Data.{Data}
use Rattle.serde_json.specs.Written.{compact_text}
use Rattle.export.specs.Objects.{head_object, object_of}
use Rattle.file_commands.specs.Exporting.{IsExportOf, lines_text, objects_of}
use Rattle.file_commands.specs.Exporting.Exported.{nothing, history}

abbrev pub Exports : List ℕ → FileRead → Type 0
Exports file NotBegun = IsExportOf nothing file
Exports file (Sound state end) = IsExportOf (history state.version state.issuer state.entries) file
Exports file (Broken place at what) = Unit {0}

pub exports : (file : List ℕ) (read : FileRead) → IsRead file read → Exports file read
exports file read (not_begun none) = none
exports file read (stands state end h gate) = h
exports file read (in_header at h) = tt
exports file read (no_frame version issuer entries at sound damaged) = tt
exports file read (no_entry version issuer entries at body sound counted none) = tt
exports file read (not_next version issuer entries at body entry why sound counted encoding not broken) = tt

-- ---- the text of this many entries

pub no_lines : lines_text (objects_of nothing) ≡ []
unfolding lines_text
no_lines = refl

-- of none: the line of the issuer and the version
pub first_line : (version held : Version) (issuer own line head old text : List ℕ) → old ≡ [] → line ≡ head →
    head ≡ compact_text (head_object own held) → own ≡ issuer → held ≡ version → text ≡ old ++ (line ++ 10 ∷ []) →
    text ≡ lines_text (objects_of (history version issuer []))
unfolding lines_text
first_line version held issuer own line head old text none shown is whose kept added =
    added ∙ ap (λ (t : List ℕ). t ++ (line ++ 10 ∷ [])) none
    ∙ ap (λ (t : List ℕ). t ++ 10 ∷ []) (shown ∙ is ∙ ap (λ (o : List ℕ). compact_text (head_object o held)) whose
    ∙ ap (λ (v : Version). compact_text (head_object issuer v)) kept)
    ∙ sym (append-nil (compact_text (head_object issuer version) ++ 10 ∷ []))

next_taken : (entries : List Entry) (n : ℕ) (entry : Entry) → slice_get entries n ≡ Some entry →
    take (suc n) entries ≡ take n entries ++ entry ∷ []
next_taken [] n entry e = absurd cc
next_taken (x ∷ entries) zero entry e = cc
next_taken (x ∷ entries) (suc n) entry e = ap (λ (es : List Entry). x ∷ es) (next_taken entries n entry e)

line_more : (version : Version) (issuer : List ℕ) (entries : List Entry) (n : ℕ) (entry : Entry) →
    slice_get entries n ≡ Some entry →
    lines_text (objects_of (history version issuer (take (n + 1) entries)))
    ≡ lines_text (objects_of (history version issuer (take n entries))) ++ (compact_text (object_of entry) ++ 10 ∷ [])
unfolding lines_text
line_more version issuer entries n entry e =
    ap (λ (k : ℕ). lines_text (objects_of (history version issuer (take k entries)))) (add-one n)
    ∙ ap (λ (es : List Entry). lines_text (objects_of (history version issuer es))) (next_taken entries n entry e)
    ∙ ap (λ (os : List Data). lines_text (head_object issuer version ∷ os)) (map-append object_of (take n entries) (entry ∷ []))
    ∙ sym (flat_map_more (λ (value : Data). compact_text value ++ 10 ∷ []) []
    (head_object issuer version ∷ map object_of (take n entries)) (object_of entry))

-- one entry's line more
pub next_line : (version : Version) (issuer : List ℕ) (entries : List Entry) (n : ℕ) (entry : Entry) (line shown old text : List ℕ) →
    old ≡ lines_text (objects_of (history version issuer (take n entries))) → slice_get entries n ≡ Some entry →
    line ≡ shown → shown ≡ compact_text (object_of entry) → text ≡ old ++ (line ++ 10 ∷ []) →
    text ≡ lines_text (objects_of (history version issuer (take (n + 1) entries)))
next_line version issuer entries n entry line shown old text so e is says added =
    added ∙ ap (λ (t : List ℕ). t ++ (line ++ 10 ∷ [])) so
    ∙ ap (λ (t : List ℕ). lines_text (objects_of (history version issuer (take n entries))) ++ (t ++ 10 ∷ [])) (is ∙ says)
    ∙ sym (line_more version issuer entries n entry e)

pub all_lines : (version : Version) (issuer : List ℕ) (entries : List Entry) (n : ℕ) (text : List ℕ) → length entries ≤ n →
    text ≡ lines_text (objects_of (history version issuer (take n entries))) →
    text ≡ lines_text (objects_of (history version issuer entries))
all_lines version issuer entries n text all so = so ∙ ap (λ (es : List Entry). lines_text (objects_of (history version issuer es)))
    (take_all n entries all)
