-- A list, cut at an element.
use Rattle.record_fields.specs.declared.versions.Version.{Version}
use Rattle.std.proofs.Common.{◌≡◌, ℕ, zero, suc, ◌≤◌, List, [], ◌∷◌, ◌++◌, length, refl, ap, arith, Some, None}
use Rattle.std.specs.Prelude.{slice_get}
use Rattle.record_codec.specs.Validity.{EntryFits, HasIssuer, InRanges}
use Rattle.record_codec.specs.declared.entry.Entry.{Entry}
use Rattle.shop_core.specs.Legal.{Legal}
use Rattle.shop_core.specs.Ranges.{FitsItsBytes}

-- what stands before the element at this index, and after it
pub record Cut {A : Type 0} (xs : List A) (i : ℕ) (x : A) : Type 0 where
  pub before : List A
  pub after : List A
  pub is : xs ≡ before ++ x ∷ after
  pub place : i ≡ length before

pub cut_at : {A : Type 0} (xs : List A) (i : ℕ) (x : A) → slice_get xs i ≡ Some x → Cut xs i x
cut_at [] i x e = absurd cc
cut_at (y ∷ ys) zero x e = let same : y ≡ x = cc in record {
  before = [];
  after = ys;
  is = ap (λ (z : _). z ∷ ys) same;
  place = refl;
}
cut_at (y ∷ ys) (suc i) x e =
    let t = cut_at ys i x e in
    let n = t.place in
    record {
      before = y ∷ t.before;
      after = t.after;
      is = ap (λ (l : List _). y ∷ l) t.is;
      place = omega (arith, n);
    }

-- each entry of a legal history fits its bytes
pub fits_at : FitsItsBytes → (version : Version) (issuer : List ℕ) (entries : List Entry) (i : ℕ) (entry : Entry) → Legal version issuer entries →
    slice_get entries i ≡ Some entry → InRanges entry × EntryFits version entry × HasIssuer issuer entry
fits_at fits version issuer entries i entry legal found =
    let t = cut_at entries i entry found in
    fits version issuer t.before entry (legal t.before t.after entry t.is)

pub none_past : {A : Type 0} (xs : List A) (i : ℕ) → slice_get xs i ≡ None → length xs ≤ i
none_past [] i e = omega arith
none_past (y ∷ ys) zero e = absurd cc
none_past (y ∷ ys) (suc i) e = let h = none_past ys i e in omega (arith, h)
