-- Lists made element by element.
use Rattle.std.proofs.Common.{◌≡◌, ℕ, ◌<◌, ◌+◌, List, [], ◌∷◌, ◌++◌, refl, sym, ◌∙◌, ap, arith, Bool, true, false, not, bytes_eq}
use Rattle.std.proofs.Common.{length, take, get_or}
use Rattle.std.proofs.lemmas.Slice.Eq.{bytes_eq-Decides}
use Rattle.std.proofs.lemmas.List.{take_more, map-append, get_or-map}
use Rattle.record_fields.specs.declared.records.Sealed.{Sealed}
use Rattle.batches.specs.Batches.{huellas_of}

pub copied_more : {A : Type 0} (copies then xs : List A) (i : ℕ) (x y : A) → i < length xs → x ≡ get_or xs i x →
    copies ≡ take i xs → y ≡ x → then ≡ copies ++ y ∷ [] →
    then ≡ take (i + 1) xs
copied_more copies then xs i x y within is so_far same one =
    one ∙ ap (λ z. copies ++ z ∷ []) (same ∙ is) ∙ ap (λ cs. cs ++ get_or xs i x ∷ []) so_far ∙ sym (take_more xs i x within)

pub huellas_more : (then now : List (List ℕ)) (records : List Sealed) (i : ℕ) (s : Sealed) → i < length records →
    s ≡ get_or records i s →
    now ≡ huellas_of (take i records) → then ≡ now ++ s.huella ∷ [] → then ≡ huellas_of (take (i + 1) records)
huellas_more then now records i s within is so_far one =
    one ∙ ap (λ (hs : List (List ℕ)). hs ++ s.huella ∷ []) so_far ∙ sym (map-append (λ (t : Sealed). t.huella) (take i records)
    (s ∷ []))
    ∙ ap huellas_of (ap (λ (t : Sealed). take i records ++ t ∷ []) is ∙ sym (take_more records i s within))

-- two lists that agree up to a place agree up to the next
pub equal_more : (list : List (List ℕ)) (records : List Sealed) (i : ℕ) (s : Sealed) → i < length records →
    length list ≡ length records → s ≡ get_or records i s →
    take i list ≡ huellas_of (take i records) → get_or list i [] ≡ s.huella → take (i + 1) list ≡ huellas_of
    (take (i + 1) records)
equal_more list records i s within even is so_far same =
    let lt : i < length list = omega arith in
    huellas_more (take (i + 1) list) (take i list) records i s within is so_far (take_more list i [] lt ∙
    ap (λ (h : List ℕ). take i list ++ h ∷ []) same)

pub equal_at : (list : List (List ℕ)) (records : List Sealed) (i : ℕ) (s : Sealed) → i < length records → s ≡ get_or records i s →
    list ≡ huellas_of records → get_or list i [] ≡ s.huella
equal_at list records i s within is e =
    ap (λ (hs : List (List ℕ)). get_or hs i []) e ∙ get_or-map (λ (t : Sealed). t.huella) records i s [] within ∙
    ap (λ (t : Sealed). t.huella) (sym is)

pub differ : (a b : List ℕ) → true ≡ not (bytes_eq a b) → a ≡ b → false ≡ true
differ a b h e = sym (h ∙ ap not ((bytes_eq-Decides a b).1 e))

pub alike : (a b : List ℕ) → false ≡ not (bytes_eq a b) → a ≡ b
alike a b h = (bytes_eq-Decides a b).0 (is_true (bytes_eq a b) h)
  where
    is_true : (t : Bool) → false ≡ not t → t ≡ true
    is_true true h = refl
    is_true false h = h
