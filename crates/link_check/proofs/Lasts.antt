-- Where an invoice's last accepted record is an alta, it is its last accepted alta.
use Rattle.std.proofs.Common.{◌≡◌, ℕ, ◌-◌, List, [], ◌∷◌, ◌++◌, length, refl, sym, ◌∙◌, ap, inl, inr, ◌⊎◌, Bool, true}
use Rattle.std.proofs.Common.{◌&&◌, filter, Some, None, slice_get, length-append, arith, cond}
use Rattle.std.proofs.lemmas.Bool.{cases_Bool}
use Rattle.std.proofs.lemmas.List.Elements.{filter-append}
use Rattle.std.specs.List.{enumerate_from}
use Rattle.std.specs.Prelude.{not}
use Rattle.record_fields.specs.Picks.{last_of}
use Rattle.record_fields.specs.Records.{is_alta}
use Rattle.record_fields.specs.declared.records.Sealed.{Sealed}
use Rattle.record_codec.specs.declared.entry.Entry.{Entry}
use Rattle.shop_core.specs.History.{recs}
use Rattle.shop_core.specs.Standing.{has_num, is_refused, last_accepted}
use Rattle.link_check.specs.Checking.{last_accepted_alta}

length_after : {A : Type 0} (xs : List A) (x : A) → length (xs ++ x ∷ []) - 1 ≡ length xs
length_after xs x = simp length-append (omega arith)

get_end : {A : Type 0} (xs : List A) (x : A) → slice_get (xs ++ x ∷ []) (length xs) ≡ Some x
get_end [] x = refl
get_end (y ∷ xs) x = get_end xs x

get_last : {A : Type 0} (xs : List A) (x : A) → last_of (xs ++ x ∷ []) ≡ Some x
get_last xs x = rw (length_after xs x) (get_end xs x)

-- a list is empty or has a last element
record HasLast {A : Type 0} (xs : List A) : Type 0 where
  pub front : List A
  pub last : A
  pub is : xs ≡ front ++ last ∷ []

last_or_none : {A : Type 0} (xs : List A) → (xs ≡ []) ⊎ HasLast xs
last_or_none [] = inl refl
last_or_none (x ∷ xs) = elim (last_or_none xs) [
  | inl p ↦ inr (record { front = []; last = x; is = ap (λ t. x ∷ t) p })
  | inr p ↦ inr (record { front = x ∷ p.front; last = p.last; is = ap (λ t. x ∷ t) p.is })
]

-- what passes both tests is what passes the one of those that pass the other
filter_both : {A : Type 0} (p q : A → Bool) (xs : List A) → filter (λ x. p x && q x) xs ≡ filter q (filter p xs)
filter_both p q [] = refl
filter_both {A} p q (x ∷ xs) =
    let rest = filter_both p q xs in
    elim (cases_Bool (p x)) [
      | inl e ↦ elim (cases_Bool (q x)) [
        | inl f ↦ rw (e, f, rest) refl
        | inr f ↦ rw (e, f, rest) refl
      ]
      | inr e ↦ rw (e, rest) refl
    ]

-- a last element that passes stays the last
last_stays : {A : Type 0} (q : A → Bool) (xs : List A) (x : A) → last_of xs ≡ Some x → q x ≡ true → last_of (filter q xs) ≡ Some x
last_stays {A} q xs x e passes = elim (last_or_none xs) [
  | inl none ↦ absurd (let h : None ≡ Some x = sym (ap last_of none) ∙ e in cc)
  | inr some ↦
      let h : Some some.last ≡ Some x = sym (ap last_of some.is ∙ get_last some.front some.last) ∙ e in
      let same : some.last ≡ x = cc in
      let whole : xs ≡ some.front ++ x ∷ [] = some.is ∙ ap (λ (y : A). some.front ++ y ∷ []) same in
      let split : filter q (some.front ++ x ∷ []) ≡ filter q some.front ++ x ∷ [] =
      filter-append q some.front (x ∷ []) ∙ ap (λ (b : Bool). filter q some.front ++ cond b (x ∷ []) []) passes in
      ap (λ (ys : List A). last_of (filter q ys)) whole ∙ ap last_of split ∙ get_last (filter q some.front) x
]

pub held_is_last : (entries : List Entry) (num : List ℕ) (p : ℕ × Sealed) → last_accepted entries num ≡ Some p →
    is_alta p.1.body ≡ true → last_accepted_alta entries num ≡ Some p
held_is_last entries num p e alta =
    let all = enumerate_from 1 (recs entries) in
    let accepted : ℕ × Sealed → Bool = λ q. has_num num q.1 && not (is_refused entries q.0) in
    let is : ℕ × Sealed → Bool = λ q. is_alta q.1.body in
    ap last_of (filter_both accepted is all) ∙ last_stays is (filter accepted all) p e alta
