-- What a line is taxed by, with its reader in each version.
use Rattle.std.proofs.Common.{◌≡◌, ℕ, ◌≤◌, true, List, [], ◌∷◌, ◌++◌, length, Option, Some, None, Ok, refl}
use Rattle.std.proofs.Common.{sym, ap, subst, ◌∙◌, arith}
use Rattle.std.specs.Prelude.{⊤, option_and_then}
use Rattle.std.specs.Int.{w16, to_be_bytes, from_be_bytes}
use Rattle.std.specs.List.{concat}
use Rattle.std.proofs.lemmas.Bool.{eqb-true}
use Rattle.std.proofs.lemmas.Bool.Decides.{nat_tests}
use Rattle.std.proofs.lemmas.List.{append-nil}
use Rattle.tax_lines.specs.declared.taxes.Tax.{Tax}
use Rattle.tax_lines.specs.declared.taxes.Tax.TheVariants.{Iva, Ipsi, Igic}
use Rattle.tax_lines.specs.declared.classes.Class.{Class}
use Rattle.tax_lines.specs.declared.classes.Class.TheVariants as class_is
use Rattle.tax_lines.specs.Classes.{classes, class_code, class_rate}
use Rattle.tax_lines.specs.Keys.{Key, IsKey, tax_code, taxes, is_iva, has_class, has_rate, iva_key}
use Rattle.record_fields.specs.declared.versions.Version.{Version}
use Rattle.record_fields.specs.declared.versions.Version.TheVariants.{One, Two}
use Rattle.record_fields.specs.Picks.{when}
use Rattle.record_codec.specs.Writing.{key_bytes}
use Rattle.record_codec.specs.Codes.{of_code}
use Rattle.record_codec.specs.Layout.{byte_field, key_fields}
use Rattle.record_codec.specs.Reading.{Reading, ◌>>=◌, byte_at, fixed_at, class_in, rate_in, iva_key_at, full_key_at, key_at}
use Rattle.record_codec.proofs.CodeLemmas.{of_code_has, class_again}
use Rattle.record_codec.proofs.FieldHalts.{alone, byte_halts, fixed_halts, tax_halts}
use Rattle.record_codec.proofs.FieldLemmas.{Reads-byte, Reads-fixed}
use Rattle.record_codec.proofs.FieldReaders.{wide16, tax_reads}
use Rattle.record_codec.proofs.Halts.{Halts, Halts-then, Halts-through, Halts-as}
use Rattle.record_codec.proofs.Readers.{Reads, Reads-then, Reads-through, Reads-as}
use Rattle.record_codec.proofs.ValueLemmas.{taken_some}

-- a key that can be written in the version
abbrev pub KeyFits : Version → Key → Type 0
KeyFits One key = IsKey key × (is_iva key.tax ≡ true)
KeyFits Two key = IsKey key

-- a key that fits is one of the table
pub key_of : (version : Version) (key : Key) → KeyFits version key → IsKey key
key_of One key fits = fits.0
key_of Two key fits = fits

abbrev HasClass : Tax → Class → Type 0
HasClass tax class = has_class tax class ≡ true

abbrev HasRate : Class → ℕ → Type 0
HasRate class rate = has_rate class rate ≡ true

-- ---- classes and rates

class_said : (tax : Tax) (b : ℕ) (class : Class) (o : Option Class) → of_code class_code classes b ≡ o
    → option_and_then (λ (c : Class). when (has_class tax c) c) o ≡ Some class → (class_code class ≡ b) × HasClass tax class
class_said tax b class None there e = absurd cc
class_said tax b class (Some found) there e =
    let t = taken_some (has_class tax found) found class e in
    (subst (λ (c : Class). class_code c ≡ b) t.1 (of_code_has class_code classes b found there), subst (HasClass tax) t.1 t.0)

class_reads : (tax : Tax) → Reads (byte_at (class_in tax)) (λ class. class_code class ∷ []) (HasClass tax)
class_reads tax =
    Reads-byte (class_in tax) class_code (HasClass tax)
    (λ b class lt e. class_said tax b class (of_code class_code classes b) refl e)
    (λ class fits. rw (class_again class, fits) refl)

untaxed : (tax : Tax) → HasClass tax class_is.S2
untaxed Iva = refl
untaxed Ipsi = refl
untaxed Igic = refl

class_halts : (tax : Tax) → Halts (byte_at (class_in tax)) (λ class. byte_field (class_code class) ∷ []) (HasClass tax)
class_halts tax = byte_halts (class_in tax) class_code (HasClass tax) (class_reads tax) class_is.S2 (untaxed tax)

rate_small : (class : Class) (rate : ℕ) → HasRate class rate → rate ≤ 2500
rate_small class_is.General rate is = let e = eqb-true rate 2100 is in omega (arith, e)
rate_small class_is.Reduced rate is = let e = eqb-true rate 1000 is in omega (arith, e)
rate_small class_is.SuperReduced rate is = let e = eqb-true rate 400 is in omega (arith, e)
rate_small class_is.Zero rate is = let e = eqb-true rate 0 is in omega (arith, e)
rate_small class_is.GeneralSurcharge rate is = let e = eqb-true rate 2100 is in omega (arith, e)
rate_small class_is.ReducedSurcharge rate is = let e = eqb-true rate 1000 is in omega (arith, e)
rate_small class_is.SuperReducedSurcharge rate is = let e = eqb-true rate 400 is in omega (arith, e)
rate_small class_is.S2 rate is = let e = eqb-true rate 0 is in omega (arith, e)
rate_small class_is.N1 rate is = let e = eqb-true rate 0 is in omega (arith, e)
rate_small class_is.N2 rate is = let e = eqb-true rate 0 is in omega (arith, e)
rate_small class_is.E1 rate is = let e = eqb-true rate 0 is in omega (arith, e)
rate_small class_is.E2 rate is = let e = eqb-true rate 0 is in omega (arith, e)
rate_small class_is.E3 rate is = let e = eqb-true rate 0 is in omega (arith, e)
rate_small class_is.E4 rate is = let e = eqb-true rate 0 is in omega (arith, e)
rate_small class_is.E5 rate is = let e = eqb-true rate 0 is in omega (arith, e)
rate_small class_is.E6 rate is = let e = eqb-true rate 0 is in omega (arith, e)
rate_small class_is.Free rate is = grind (arith, nat_tests)

own_rate : (class : Class) → HasRate class (class_rate class)
own_rate class_is.General = refl
own_rate class_is.Reduced = refl
own_rate class_is.SuperReduced = refl
own_rate class_is.Zero = refl
own_rate class_is.GeneralSurcharge = refl
own_rate class_is.ReducedSurcharge = refl
own_rate class_is.SuperReducedSurcharge = refl
own_rate class_is.S2 = refl
own_rate class_is.N1 = refl
own_rate class_is.N2 = refl
own_rate class_is.E1 = refl
own_rate class_is.E2 = refl
own_rate class_is.E3 = refl
own_rate class_is.E4 = refl
own_rate class_is.E5 = refl
own_rate class_is.E6 = refl
own_rate class_is.Free = refl

rate_reads : (class : Class) → Reads (fixed_at 2 (rate_in class)) (to_be_bytes w16) (HasRate class)
rate_reads class =
    Reads-fixed 2 (rate_in class) (to_be_bytes w16) (HasRate class)
    (λ front rate len are e.
    let t = taken_some (has_rate class (from_be_bytes w16 front)) (from_be_bytes w16 front) rate e in
    (rw (← t.1) (wide16.back front len are), subst (HasRate class) t.1 t.0))
    (λ rate fits.
    let small = rate_small class rate fits in
    (refl, rw (wide16.again rate (omega (arith, small)), fits) refl))

rate_halts : (class : Class) → Halts (fixed_at 2 (rate_in class)) (λ rate. to_be_bytes w16 rate ∷ []) (HasRate class)
rate_halts class =
    fixed_halts 2 (rate_in class) (to_be_bytes w16) (HasRate class) (rate_reads class) (class_rate class) (own_rate class)

-- ---- version One

own_only : (class : Class) (rate : ℕ) → HasClass Iva class → HasRate class rate → rate ≡ class_rate class
own_only class_is.General rate has is = eqb-true rate _ is
own_only class_is.Reduced rate has is = eqb-true rate _ is
own_only class_is.SuperReduced rate has is = eqb-true rate _ is
own_only class_is.Zero rate has is = eqb-true rate _ is
own_only class_is.GeneralSurcharge rate has is = eqb-true rate _ is
own_only class_is.ReducedSurcharge rate has is = eqb-true rate _ is
own_only class_is.SuperReducedSurcharge rate has is = eqb-true rate _ is
own_only class_is.S2 rate has is = eqb-true rate _ is
own_only class_is.N1 rate has is = eqb-true rate _ is
own_only class_is.N2 rate has is = eqb-true rate _ is
own_only class_is.E1 rate has is = eqb-true rate _ is
own_only class_is.E2 rate has is = eqb-true rate _ is
own_only class_is.E3 rate has is = eqb-true rate _ is
own_only class_is.E4 rate has is = eqb-true rate _ is
own_only class_is.E5 rate has is = eqb-true rate _ is
own_only class_is.E6 rate has is = eqb-true rate _ is
own_only class_is.Free rate has is = absurd cc

iva_is : (tax : Tax) → is_iva tax ≡ true → tax ≡ Iva
iva_is Iva iva = refl
iva_is Ipsi iva = absurd cc
iva_is Igic iva = absurd cc

abbrev keyed : Tax → Class → ℕ → Key
keyed tax class rate = record { tax = tax; class = class; rate = rate }

iva_parted : (key : Key) → KeyFits One key → (class : Class) × HasClass Iva class × (iva_key class ≡ key)
iva_parted key fits =
    let tax = iva_is key.tax fits.1 in
    let has : HasClass Iva key.class = subst (λ (t : Tax). HasClass t key.class) tax fits.0.of_class in
    let rate = own_only key.class key.rate has fits.0.of_rate in (
      key.class,
      has,
      ap (λ (r : ℕ). keyed Iva key.class r) (sym rate) ∙ ap (λ (t : Tax). keyed t key.class key.rate) (sym tax),
    )

iva_fits : (class : Class) → HasClass Iva class → KeyFits One (iva_key class)
iva_fits class has = (record { of_class = has; of_rate = own_rate class }, refl)

iva_key_reads : Reads iva_key_at (key_bytes One) (KeyFits One)
unfolding iva_key_at
iva_key_reads =
    Reads-through (byte_at (class_in Iva)) iva_key (λ class. class_code class ∷ []) (key_bytes One) (HasClass Iva) (KeyFits One)
    (class_reads Iva) (λ class has. (iva_fits class has, refl)) iva_parted

iva_key_halts : Halts iva_key_at (key_fields One) (KeyFits One)
unfolding iva_key_at
iva_key_halts =
    Halts-through (byte_at (class_in Iva)) iva_key (λ class. byte_field (class_code class) ∷ []) (key_fields One) (HasClass Iva)
    (KeyFits One) (class_halts Iva) (λ class has. (iva_fits class has, refl)) iva_parted

-- ---- version Two: a rate after a class after a tax

rate_bytes : Key → List ℕ
rate_bytes key = to_be_bytes w16 key.rate

rate_fields : Key → List (List ℕ)
rate_fields key = to_be_bytes w16 key.rate ∷ []

-- the key has this tax and this class
abbrev IsOf : Tax → Class → Key → Type 0
IsOf tax class key = (key.class ≡ class) × ((key.tax ≡ tax) × HasRate key.class key.rate)

abbrev behind_class : Tax → Class → List ℕ → Reading Key
behind_class tax class bytes = fixed_at 2 (rate_in class) bytes >>= λ rate. Ok (keyed tax class rate.0, rate.1)

rate_parted : (tax : Tax) (class : Class) (key : Key) → IsOf tax class key → (rate : ℕ) × HasRate class rate ×
    (keyed tax class rate ≡ key)
rate_parted tax class key is = (
  key.rate,
  subst (λ (c : Class). HasRate c key.rate) is.0 is.1.1,
  ap (λ (c : Class). keyed tax c key.rate) (sym is.0) ∙ ap (λ (t : Tax). keyed t key.class key.rate) (sym is.1.0),
)

behind_class_reads : (tax : Tax) (class : Class) → Reads (behind_class tax class) rate_bytes (IsOf tax class)
unfolding rate_bytes
behind_class_reads tax class =
    Reads-through (fixed_at 2 (rate_in class)) (keyed tax class) (to_be_bytes w16) rate_bytes (HasRate class) (IsOf tax class)
    (rate_reads class) (λ rate has. ((refl, (refl, has)), refl)) (rate_parted tax class)

behind_class_halts : (tax : Tax) (class : Class) → Halts (behind_class tax class) rate_fields (IsOf tax class)
unfolding rate_fields
behind_class_halts tax class =
    Halts-through (fixed_at 2 (rate_in class)) (keyed tax class) (λ rate. to_be_bytes w16 rate ∷ []) rate_fields (HasRate class)
    (IsOf tax class) (rate_halts class) (λ rate has. ((refl, (refl, has)), refl)) (rate_parted tax class)

-- the key has this tax
abbrev IsUnder : Tax → Key → Type 0
IsUnder tax key = (key.tax ≡ tax) × IsKey key

abbrev behind_tax : Tax → List ℕ → Reading Key
behind_tax tax bytes = byte_at (class_in tax) bytes >>= λ class. behind_class tax class.0 class.1

abbrev class_bytes : Key → List ℕ
class_bytes key = (class_code key.class ∷ []) ++ rate_bytes key

abbrev class_fields : Key → List (List ℕ)
class_fields key = (byte_field (class_code key.class) ∷ []) ++ rate_fields key

abbrev IsParted : Tax → Key → Type 0
IsParted tax key = HasClass tax key.class × ((key.tax ≡ tax) × HasRate key.class key.rate)

under : (tax : Tax) (key : Key) → IsParted tax key → IsUnder tax key
under tax key is = (
  is.1.0,
  record { of_class = subst (λ (t : Tax). HasClass t key.class) (sym is.1.0) is.0; of_rate = is.1.1 },
)

parted : (tax : Tax) (key : Key) → IsUnder tax key → IsParted tax key
parted tax key is = (subst (λ (t : Tax). HasClass t key.class) is.0 is.1.of_class, (is.0, is.1.of_rate))

behind_tax_reads : (tax : Tax) → Reads (behind_tax tax) class_bytes (IsUnder tax)
behind_tax_reads tax =
    Reads-as (behind_tax tax) (behind_tax tax) class_bytes class_bytes (IsParted tax) (IsUnder tax)
    (Reads-then (byte_at (class_in tax)) (behind_class tax) (λ class. class_code class ∷ []) rate_bytes (HasClass tax)
    (λ (key : Key). (key.tax ≡ tax) × HasRate key.class key.rate) (λ (key : Key). key.class) (class_reads tax)
    (λ class has. behind_class_reads tax class))
    (λ bytes. refl) (λ key. refl) (under tax) (parted tax)

behind_tax_halts : (tax : Tax) → Halts (behind_tax tax) class_fields (IsUnder tax)
behind_tax_halts tax =
    Halts-as (behind_tax tax) (behind_tax tax) class_fields class_fields (IsParted tax) (IsUnder tax)
    (Halts-then (byte_at (class_in tax)) (behind_class tax) (λ class. class_code class ∷ [])
    (λ class. byte_field (class_code class) ∷ []) rate_fields (HasClass tax)
    (λ (key : Key). (key.tax ≡ tax) × HasRate key.class key.rate) (λ (key : Key). key.class) (class_reads tax)
    (λ class. alone (class_code class ∷ [])) (class_halts tax) (λ class has. behind_class_halts tax class))
    (λ bytes. refl) (λ key. refl) (under tax) (parted tax)

full_key_reads : Reads full_key_at (key_bytes Two) IsKey
unfolding full_key_at rate_bytes
full_key_reads =
    Reads-as (λ bytes. byte_at (of_code tax_code taxes) bytes >>= λ tax. behind_tax tax.0 tax.1) full_key_at
    (λ (key : Key). (tax_code key.tax ∷ []) ++ class_bytes key) (key_bytes Two) (λ (key : Key). ⊤ × IsKey key) IsKey
    (Reads-then (byte_at (of_code tax_code taxes)) behind_tax (λ tax. tax_code tax ∷ []) class_bytes
    (λ (tax : Tax). ⊤) IsKey (λ (key : Key). key.tax) tax_reads (λ tax _. behind_tax_reads tax))
    (λ bytes. refl) (λ key. refl) (λ key fits. fits.1) (λ key is. (tt, is))

full_key_halts : Halts full_key_at (key_fields Two) IsKey
unfolding full_key_at rate_fields
full_key_halts =
    Halts-as (λ bytes. byte_at (of_code tax_code taxes) bytes >>= λ tax. behind_tax tax.0 tax.1) full_key_at
    (λ (key : Key). (byte_field (tax_code key.tax) ∷ []) ++ class_fields key) (key_fields Two)
    (λ (key : Key). ⊤ × IsKey key) IsKey
    (Halts-then (byte_at (of_code tax_code taxes)) behind_tax (λ tax. tax_code tax ∷ [])
    (λ tax. byte_field (tax_code tax) ∷ []) class_fields (λ (tax : Tax). ⊤) IsKey (λ (key : Key). key.tax) tax_reads
    (λ tax. alone (tax_code tax ∷ [])) tax_halts (λ tax _. behind_tax_halts tax))
    (λ bytes. refl) (λ key. refl) (λ key fits. fits.1) (λ key is. (tt, is))

-- ---- both

pub key_reads : (version : Version) → Reads (key_at version) (key_bytes version) (KeyFits version)
key_reads One = iva_key_reads
key_reads Two = full_key_reads

pub key_halts : (version : Version) → Halts (key_at version) (key_fields version) (KeyFits version)
key_halts One = iva_key_halts
key_halts Two = full_key_halts

pub key_whole : (version : Version) (key : Key) → key_bytes version key ≡ concat (key_fields version key)
key_whole One key = refl
key_whole Two key = ap (λ (x : List ℕ). tax_code key.tax ∷ class_code key.class ∷ x) (sym (append-nil (to_be_bytes w16 key.rate)))

pub key_long : (version : Version) (key : Key) → length (key_bytes version key) ≤ 4
key_long One key = omega arith
key_long Two key = let two : length (to_be_bytes w16 key.rate) ≡ 2 = refl in omega (arith, two)
