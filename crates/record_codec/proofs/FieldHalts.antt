-- Where the readers of single fields halt: before the field.
use Rattle.std.proofs.Common.{◌≡◌, ℕ, zero, suc, ◌<◌, ◌≤◌, Bool, true, false, ltb, List, [], ◌∷◌, ◌++◌, length, take, drop}
use Rattle.std.proofs.Common.{get_or, Option, Some, None, Ok, Err, refl, sym, ap, arith, inl, pos}
use Rattle.std.specs.Prelude.{⊤}
use Rattle.std.specs.Int.{Width, w16, w64, byte_len, from_be_bytes, to_be_bytes, cast_unsigned, IsInRange}
use Rattle.std.specs.List.{flat_map, concat, AllByRecursion}
use Rattle.std.proofs.lemmas.List.{append-nil, nil_from_length}
use Rattle.invoice_kinds.specs.declared.kind.Kind.{Kind}
use Rattle.invoice_kinds.specs.declared.kind.Kind.TheVariants as kind
use Rattle.invoice_kinds.specs.declared.kind.RectKind.{RectKind}
use Rattle.parties.specs.Nif as nif_specs
use Rattle.parties.specs.Nif.{IsNif}
use Rattle.stamps.specs.Clock.{IsStampOffset}
use Rattle.tax_lines.specs.declared.taxes.Tax.{Tax}
use Rattle.tax_lines.specs.declared.taxes.Tax.TheVariants as tax
use Rattle.tax_lines.specs.Keys.{tax_code, taxes}
use Rattle.record_fields.specs.Picks.{when}
use Rattle.record_fields.specs.declared.lines.Line.TheVariants.{Correcto}
use Rattle.record_fields.specs.declared.records.Previo.{Previo}
use Rattle.record_fields.specs.declared.records.Previo.TheVariants as previo
use Rattle.record_codec.specs.Writing.{text_bytes, line_bytes}
use Rattle.record_codec.specs.Codes.{flag_code, flags, kind_code, kinds, rect_code, rects, previo_code, previos, of_code}
use Rattle.record_codec.specs.Validity.{IsHuella, IsLine}
use Rattle.record_codec.specs.Layout.{byte_field}
use Rattle.record_codec.specs.Reading.{Reading, ◌>>=◌, byte_at, fixed_at, number_at, number_in, text_at, many_at, flag_at, nif_in}
use Rattle.record_codec.specs.Reading.{base_in, offset_in, line_in, huella_at}
use Rattle.record_codec.proofs.FieldLemmas.{found_not, guarded, Reads-text}
use Rattle.record_codec.proofs.FieldReaders.{IsWide, Reads-number, Reads-byte_in, flag_reads, kind_reads, rect_reads}
use Rattle.record_codec.proofs.FieldReaders.{previo_reads, tax_reads, nif_reads, huella_reads, IsBase, base_reads, offset_reads}
use Rattle.record_codec.proofs.FieldReaders.{line_reads}
use Rattle.record_codec.proofs.Halts.{Halts, Halts-one, Halts-none, Halts-then, Halts-through, Halts-is, Halts-and}
use Rattle.record_codec.proofs.Readers.{Reads, pair_at, bind_assoc}

byte_whole : {A : Type 0} (says : ℕ → Option A) (bytes : List ℕ) (left : ℕ) → byte_at says bytes ≡ Err left → left ≡ length bytes
byte_whole says [] left e = let same : 0 ≡ left = cc in sym same
byte_whole says (b ∷ bytes) left e = sym (found_not (suc (length bytes)) (says b) bytes left e)

fixed_whole : {A : Type 0} (n : ℕ) (says : List ℕ → Option A) (bytes : List ℕ) (left : ℕ) → fixed_at n says bytes ≡ Err left →
    left ≡ length bytes
fixed_whole n says bytes left e = sym (guarded (ltb (length bytes) n) (length bytes) (says (take n bytes)) (drop n bytes) left e)

text_whole : (passes : List ℕ → Bool) (bytes : List ℕ) (left : ℕ) → text_at passes bytes ≡ Err left → left ≡ length bytes
text_whole passes [] left e = let same : 0 ≡ left = cc in sym same
text_whole passes (n ∷ bytes) left e =
    let text = take n bytes in
    sym (guarded (ltb (length bytes) n) (suc (length bytes)) (when (passes text) text) (drop n bytes) left e)

-- a field is its own bytes
pub alone : (x : List ℕ) → x ≡ concat (x ∷ [])
alone x = sym (append-nil x)

pub byte_halts : {A : Type 0} (says : ℕ → Option A) (code : A → ℕ) (Fits : A → Type 0) →
    Reads (byte_at says) (λ x. code x ∷ []) Fits
    → (value : A) → Fits value → Halts (byte_at says) (λ x. byte_field (code x) ∷ []) Fits
byte_halts {A} says code Fits reads value fits = Halts-one (byte_at says) (λ (x : A). code x ∷ []) Fits reads (byte_whole says)
    value fits

pub fixed_halts : {A : Type 0} (n : ℕ) (says : List ℕ → Option A) (spell : A → List ℕ) (Fits : A → Type 0) →
    Reads (fixed_at n says) spell Fits
    → (value : A) → Fits value → Halts (fixed_at n says) (λ x. spell x ∷ []) Fits
fixed_halts {A} n says spell Fits reads value fits = Halts-one (fixed_at n says) spell Fits reads (fixed_whole n says) value fits

pub Halts-text : (passes : List ℕ → Bool) (t : List ℕ) → passes t ≡ true → Halts (text_at passes) (λ t. text_bytes t ∷ [])
    (λ t. passes t ≡ true)
Halts-text passes t is = Halts-one (text_at passes) text_bytes (λ t. passes t ≡ true) (Reads-text passes) (text_whole passes) t is

pub Halts-number : (w : Width) (limit : ℕ) → IsWide w limit → (low high : ℕ) → high < limit → low ≤ high
    → Halts (number_at w low high) (λ n. to_be_bytes w n ∷ []) (IsInRange low high)
Halts-number w limit wide low high below some =
    fixed_halts (byte_len w) (λ front. number_in low high (from_be_bytes w front)) (to_be_bytes w) (IsInRange low high)
    (Reads-number w limit wide low high below) low (omega arith, some)

pub Halts-byte_in : (low high : ℕ) → high < 256 → low ≤ high → Halts (byte_at (number_in low high)) (λ n. byte_field n ∷ [])
    (IsInRange low high)
Halts-byte_in low high small some = byte_halts (number_in low high) (λ n. n) (IsInRange low high) (Reads-byte_in low high small)
    low (omega arith, some)

pub flag_halts : Halts flag_at (λ flag. byte_field (flag_code flag) ∷ []) (λ (flag : Bool). ⊤)
flag_halts = byte_halts (of_code flag_code flags) flag_code (λ _. ⊤) flag_reads false tt

pub kind_halts : Halts (byte_at (of_code kind_code kinds)) (λ kind. byte_field (kind_code kind) ∷ []) (λ (kind : Kind). ⊤)
kind_halts = byte_halts (of_code kind_code kinds) kind_code (λ _. ⊤) kind_reads kind.F1 tt

pub rect_halts : Halts (byte_at (of_code rect_code rects)) (λ rect. byte_field (rect_code rect) ∷ [])
    (λ (rect : Option RectKind). ⊤)
rect_halts = byte_halts (of_code rect_code rects) rect_code (λ _. ⊤) rect_reads None tt

pub previo_halts : Halts (byte_at (of_code previo_code previos)) (λ previo. byte_field (previo_code previo) ∷ [])
    (λ (previo : Previo). ⊤)
previo_halts = byte_halts (of_code previo_code previos) previo_code (λ _. ⊤) previo_reads previo.N tt

pub tax_halts : Halts (byte_at (of_code tax_code taxes)) (λ tax. byte_field (tax_code tax) ∷ []) (λ (tax : Tax). ⊤)
tax_halts = byte_halts (of_code tax_code taxes) tax_code (λ _. ⊤) tax_reads tax.Iva tt

sample_nif : List ℕ
sample_nif = 56 ∷ 57 ∷ 56 ∷ 57 ∷ 48 ∷ 48 ∷ 48 ∷ 49 ∷ 75 ∷ []

sample_is_nif : IsNif sample_nif
unfolding sample_nif nif_specs.person_letter
sample_is_nif = record { nine = refl; shaped = refl; controlled = refl }

pub nif_halts : Halts (fixed_at 9 nif_in) (λ nif. nif ∷ []) IsNif
nif_halts = fixed_halts 9 nif_in (λ nif. nif) IsNif nif_reads sample_nif sample_is_nif

zeros : ℕ → List ℕ
zeros zero = []
zeros (suc n) = 0 ∷ zeros n

zeros_long : (n : ℕ) → length (zeros n) ≡ n
unfolding zeros
zeros_long zero = refl
zeros_long (suc n) = ap suc (zeros_long n)

zeros_are : (n i : ℕ) → get_or (zeros n) i 0 < 256
unfolding zeros
zeros_are zero i = omega arith
zeros_are (suc n) zero = omega arith
zeros_are (suc n) (suc i) = zeros_are n i

pub huella_halts : Halts huella_at (λ huella. huella ∷ []) IsHuella
huella_halts =
    fixed_halts 32 Some (λ huella. huella) IsHuella huella_reads (zeros 32) (record {
      long = zeros_long 32;
      bytes = λ i. zeros_are 32 i;
    })

pub base_halts : Halts (fixed_at 8 base_in) (λ base. to_be_bytes w64 (cast_unsigned w64 base) ∷ []) IsBase
base_halts = fixed_halts 8 base_in (λ base. to_be_bytes w64 (cast_unsigned w64 base)) IsBase base_reads (pos 0) (omega arith)

pub offset_halts : Halts (fixed_at 2 offset_in) (λ minutes. to_be_bytes w16 (cast_unsigned w16 minutes) ∷ []) IsStampOffset
offset_halts = fixed_halts 2 offset_in (λ minutes. to_be_bytes w16 (cast_unsigned w16 minutes)) IsStampOffset offset_reads
    (pos 60) (inl refl)

pub line_halts : Halts (fixed_at 3 line_in) (λ line. line_bytes line ∷ []) IsLine
line_halts = fixed_halts 3 line_in line_bytes IsLine line_reads Correcto tt

-- ---- this many of them

abbrev both_of : {A : Type 0} → A × List A → List A
both_of p = p.0 ∷ p.1

cons_parted : {A : Type 0} (Fits : A → Type 0) (n : ℕ) (xs : List A) → (length xs ≡ suc n) × AllByRecursion Fits xs
    → (p : A × List A) × (Fits p.0 × ((length p.1 ≡ n) × AllByRecursion Fits p.1)) × (both_of p ≡ xs)
cons_parted Fits n [] is = let len = is.0 in absurd (omega (arith, len))
cons_parted Fits n (x ∷ xs) is = let len = is.0 in ((x, xs), (is.1.0, (omega (arith, len), is.1.1)), refl)

many_is : {A : Type 0} (item : List ℕ → Reading A) (n : ℕ) (bytes : List ℕ)
    → many_at item (suc n) bytes ≡ (pair_at item (many_at item n) bytes >>= λ p. Ok (both_of p.0, p.1))
unfolding many_at
many_is item n bytes = simp bind_assoc

pub Halts-many : {A : Type 0} (item : List ℕ → Reading A) (spell : A → List ℕ) (parts : A → List (List ℕ)) (Fits : A → Type 0)
    → Reads item spell Fits → ((a : A) → spell a ≡ concat (parts a)) → Halts item parts Fits → (n : ℕ)
    → Halts (many_at item n) (flat_map parts) (λ xs. (length xs ≡ n) × AllByRecursion Fits xs)
unfolding many_at
Halts-many {A} item spell parts Fits reads spelled halts zero =
    Halts-none {A = List A} [] (flat_map parts) (λ (xs : List A). (length xs ≡ 0) × AllByRecursion Fits xs) (refl, tt)
    (λ xs is. ap (flat_map parts) (nil_from_length xs is.0))
Halts-many {A} item spell parts Fits reads spelled halts (suc n) =
    Halts-is (λ bytes. pair_at item (many_at item n) bytes >>= λ p. Ok (both_of p.0, p.1)) (many_at item (suc n))
    (flat_map parts) (λ (xs : List A). (length xs ≡ suc n) × AllByRecursion Fits xs)
    (Halts-through (pair_at item (many_at item n)) (λ (p : A × List A). both_of p) (λ (p : A × List A). parts p.0 ++ flat_map
    parts p.1) (flat_map parts)
    (λ (p : A × List A). Fits p.0 × ((length p.1 ≡ n) × AllByRecursion Fits p.1)) (λ (xs : List A). (length xs ≡ suc n) ×
    AllByRecursion Fits xs)
    (Halts-and item (many_at item n) spell parts (flat_map parts) Fits (λ (xs : List A). (length xs ≡ n) × AllByRecursion Fits xs)
    reads spelled halts (Halts-many item spell parts Fits reads spelled halts n))
    (λ p fits. ((ap suc fits.1.0, (fits.0, fits.1.1)), refl)) (cons_parted Fits n))
    (many_is item n)

-- after their number
pub Halts-counted : {A : Type 0} (count : List ℕ → Reading ℕ) (item : List ℕ → Reading A) (spell_count : ℕ → List ℕ) (spell : A →
    List ℕ)
    (parts : A → List (List ℕ)) (IsCount : ℕ → Type 0) (Fits : A → Type 0)
    → Reads count spell_count IsCount → Halts count (λ n. spell_count n ∷ []) IsCount
    → Reads item spell Fits → ((a : A) → spell a ≡ concat (parts a)) → Halts item parts Fits
    → Halts (λ bytes. count bytes >>= λ n. many_at item n.0 n.1) (λ xs. spell_count (length xs) ∷ flat_map parts xs)
    (λ xs. IsCount (length xs) × AllByRecursion Fits xs)
Halts-counted {A} count item spell_count spell parts IsCount Fits counts count_halts reads spelled halts =
    Halts-then count (λ n. many_at item n) spell_count (λ n. spell_count n ∷ []) (flat_map parts) IsCount
    (λ (xs : List A). AllByRecursion Fits xs)
    (λ (xs : List A). length xs) counts (λ n. alone (spell_count n)) count_halts (λ n is. Halts-many item spell parts Fits reads
    spelled halts n)
