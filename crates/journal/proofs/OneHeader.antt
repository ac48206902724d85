-- A file has one header.
use Rattle.std.proofs.Common.{◌≡◌, ◌≢◌, ◌⊎◌, ◌≤◌, inl, inr, ℕ, List, [], ◌∷◌, length, get_or, refl, sym, ◌∙◌, ap, subst, arith}
use Rattle.parties.specs.Nif.{IsNif}
use Rattle.record_fields.specs.declared.versions.Version.{Version}
use Rattle.record_fields.specs.Versions.{number_of}
use Rattle.journal.specs.File.{IsNotBegun}
use Rattle.journal.specs.Header.{HasVersion, IsHeaderDamaged, IsBegun}
use Rattle.journal.specs.Header.IsHeaderDamaged.{closed, cut_in_mark, no_mark, other_version, cut_in_issuer, no_nif}
use Rattle.journal.specs.Laws.{OneHeader, OneVersion}
use Rattle.journal.proofs.Unique.{same_version}
use Rattle.journal.specs.declared.reading.Header.TheVariants.{NotBegun, Begun, Damaged}

-- what is not begun is short, and its first byte isn't 1
pub not_begun : (file : List ℕ) → IsNotBegun file → (length file ≤ 1) ⊎ ((get_or file 0 0 ≢ 1) × (length file ≤ 20))
not_begun [] is = inl (omega arith)
not_begun (x ∷ rest) (inl short) = inl (omega (arith, short))
not_begun (x ∷ rest) (inr both) = inr (both.0, omega (arith, both.1))

one_damage : (file : List ℕ) (m n : ℕ) → IsHeaderDamaged file m → IsHeaderDamaged file n → m ≡ n
one_damage file m n (closed far shut) (closed far' shut') = refl
one_damage file m n (closed far shut) (cut_in_mark first' low' high') = absurd (shut first')
one_damage file m n (closed far shut) (no_mark long' first' other') = absurd (shut first')
one_damage file m n (closed far shut) (other_version has' other') = absurd (shut has'.first)
one_damage file m n (closed far shut) (cut_in_issuer version' has' short') = absurd (shut has'.marked.first)
one_damage file m n (closed far shut) (no_nif version' has' long' other') = absurd (shut has'.marked.first)
one_damage file m n (cut_in_mark first low high) (closed far' shut') = absurd (shut' first)
one_damage file m n (cut_in_mark first low high) (cut_in_mark first' low' high') = refl
one_damage file m n (cut_in_mark first low high) (no_mark long' first' other') = absurd (omega (arith, high, long'))
one_damage file m n (cut_in_mark first low high) (other_version has' other') = absurd (omega (arith, high, has'.long))
one_damage file m n (cut_in_mark first low high) (cut_in_issuer version' has' short') =
    absurd (omega (arith, high, has'.marked.long))
one_damage file m n (cut_in_mark first low high) (no_nif version' has' long' other') =
    absurd (omega (arith, high, has'.marked.long))
one_damage file m n (no_mark long first other) (closed far' shut') = absurd (shut' first)
one_damage file m n (no_mark long first other) (cut_in_mark first' low' high') = absurd (omega (arith, high', long))
one_damage file m n (no_mark long first other) (no_mark long' first' other') = refl
one_damage file m n (no_mark long first other) (other_version has' other') = absurd (other has'.mark)
one_damage file m n (no_mark long first other) (cut_in_issuer version' has' short') = absurd (other has'.marked.mark)
one_damage file m n (no_mark long first other) (no_nif version' has' long' other') = absurd (other has'.marked.mark)
one_damage file m n (other_version has other) (closed far' shut') = absurd (shut' has.first)
one_damage file m n (other_version has other) (cut_in_mark first' low' high') = absurd (omega (arith, high', has.long))
one_damage file m n (other_version has other) (no_mark long' first' other') = absurd (other' has.mark)
one_damage file m n (other_version has other) (other_version has' other') = refl
one_damage file m n (other_version has other) (cut_in_issuer version' has' short') = absurd (other version' has'.number)
one_damage file m n (other_version has other) (no_nif version' has' long' other') = absurd (other version' has'.number)
one_damage file m n (cut_in_issuer version has short) (closed far' shut') = absurd (shut' has.marked.first)
one_damage file m n (cut_in_issuer version has short) (cut_in_mark first' low' high') =
    absurd (omega (arith, high', has.marked.long))
one_damage file m n (cut_in_issuer version has short) (no_mark long' first' other') = absurd (other' has.marked.mark)
one_damage file m n (cut_in_issuer version has short) (other_version has' other') = absurd (other' version has.number)
one_damage file m n (cut_in_issuer version has short) (cut_in_issuer version' has' short') = refl
one_damage file m n (cut_in_issuer version has short) (no_nif version' has' long' other') = absurd (omega (arith, short, long'))
one_damage file m n (no_nif version has long other) (closed far' shut') = absurd (shut' has.marked.first)
one_damage file m n (no_nif version has long other) (cut_in_mark first' low' high') =
    absurd (omega (arith, high', has.marked.long))
one_damage file m n (no_nif version has long other) (no_mark long' first' other') = absurd (other' has.marked.mark)
one_damage file m n (no_nif version has long other) (other_version has' other') = absurd (other' version has.number)
one_damage file m n (no_nif version has long other) (cut_in_issuer version' has' short') = absurd (omega (arith, short', long))
one_damage file m n (no_nif version has long other) (no_nif version' has' long' other') = refl

not_damaged : (file : List ℕ) (m : ℕ) → (length file ≤ 1) ⊎ ((get_or file 0 0 ≢ 1) × (length file ≤ 20)) →
    IsHeaderDamaged file m → ⊥
not_damaged file m (inl short) (closed far shut) = omega (arith, short, far)
not_damaged file m (inr both) (closed far shut) = omega (arith, both.1, far)
not_damaged file m (inl short) (cut_in_mark first low high) = omega (arith, short, low)
not_damaged file m (inr both) (cut_in_mark first low high) = both.0 first
not_damaged file m (inl short) (no_mark long first other) = omega (arith, short, long)
not_damaged file m (inr both) (no_mark long first other) = both.0 first
not_damaged file m (inl short) (other_version has other) = omega (arith, short, has.long)
not_damaged file m (inr both) (other_version has other) = both.0 has.first
not_damaged file m (inl few) (cut_in_issuer version has short) = omega (arith, few, has.marked.long)
not_damaged file m (inr both) (cut_in_issuer version has short) = both.0 has.marked.first
not_damaged file m (inl short) (no_nif version has long other) = omega (arith, short, has.marked.long)
not_damaged file m (inr both) (no_nif version has long other) = both.0 has.marked.first

sound : (file : List ℕ) (m : ℕ) (version : Version) (issuer : List ℕ) → IsBegun version issuer file → IsHeaderDamaged file m → ⊥
sound file m version issuer is (closed far shut) = shut is.versioned.marked.first
sound file m version issuer is (cut_in_mark first low high) = omega (arith, high, is.long)
sound file m version issuer is (no_mark long first other) = other is.versioned.marked.mark
sound file m version issuer is (other_version has other) = other version is.versioned.number
sound file m version issuer is (cut_in_issuer read has short) = omega (arith, short, is.long)
sound file m version issuer is (no_nif read has long other) = other (subst IsNif (sym is.issuer_is) is.nif)

not_sound : (file : List ℕ) (version : Version) (issuer : List ℕ) →
    (length file ≤ 1) ⊎ ((get_or file 0 0 ≢ 1) × (length file ≤ 20)) → IsBegun version issuer file → ⊥
not_sound file version issuer (inl short) is = omega (arith, short, is.long)
not_sound file version issuer (inr both) is = both.0 is.versioned.marked.first

same_begun : (issuer other : List ℕ) (n m : ℕ) → issuer ≡ other → n ≡ m → Begun issuer n ≡ Begun other m
same_begun issuer other n m i v = cc

same_number : (file : List ℕ) (version version' : Version) → HasVersion version file → HasVersion version' file →
    number_of version ≡ number_of version'
same_number file version version' is is' = sym is.number ∙ is'.number

pub one_version : OneVersion
one_version file version version' is is' = same_version version version' (same_number file version version' is is')

pub one_header : OneHeader
one_header file NotBegun NotBegun is is' = refl
one_header file NotBegun (Begun issuer n) is is' = absurd (not_sound file is'.0 issuer (not_begun file is) is'.1)
one_header file NotBegun (Damaged at) is is' = absurd (not_damaged file at (not_begun file is) is')
one_header file (Begun issuer n) NotBegun is is' = absurd (not_sound file is.0 issuer (not_begun file is') is.1)
one_header file (Begun issuer n) (Begun other m) is is' = same_begun issuer other n m (sym is.1.issuer_is ∙ is'.1.issuer_is)
    (is.2 ∙ same_number file is.0 is'.0 is.1.versioned is'.1.versioned ∙ sym is'.2)
one_header file (Begun issuer n) (Damaged at) is is' = absurd (sound file at is.0 issuer is.1 is')
one_header file (Damaged at) NotBegun is is' = absurd (not_damaged file at (not_begun file is') is)
one_header file (Damaged at) (Begun issuer n) is is' = absurd (sound file at is'.0 issuer is'.1 is)
one_header file (Damaged at) (Damaged place) is is' = ap (λ (k : ℕ). Damaged k) (one_damage file at place is is')
