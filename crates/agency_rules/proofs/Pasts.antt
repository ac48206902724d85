-- The past of an invoice after one more pair.
use Rattle.std.proofs.Common.{◌≡◌, ◌⊎◌, ◌+◌, ◌-◌, List, [], ◌∷◌, ◌++◌, refl, sym, ◌∙◌, ap, subst, inl, inr, ℕ, ◌<◌, Bool, true}
use Rattle.std.proofs.Common.{false, not, length, length-append, filter, append-nil, Some, slice_get, arith, take, get_or}
use Rattle.std.proofs.Common.{bytes_eq, eq-eqb}
use Rattle.std.proofs.lemmas.Slice.Eq.{bytes_eq-Decides}
use Rattle.std.proofs.lemmas.List.{take_more}
use Rattle.std.proofs.lemmas.List.Elements.{filter-append}
use Rattle.std.specs.Option.{option_map_or}
use Rattle.series.specs.declared.numbers.InvoiceId.{InvoiceId}
use Rattle.record_fields.specs.Picks.{last_of}
use Rattle.record_fields.specs.Records.{id_of, is_alta, is_anulacion}
use Rattle.record_fields.specs.declared.lines.Line.{Line}
use Rattle.record_fields.specs.declared.records.Record.{Record}
use Rattle.record_fields.specs.declared.records.Record.TheVariants as record_of
use Rattle.record_fields.specs.declared.records.Sealed.{Sealed}
use Rattle.agency_rules.specs.declared.judging.Past.{Past}
use Rattle.agency_rules.specs.Judging.{same_id, is_accepted, of_id, past_of, past_after}

pub by_cases : (b : Bool) → (b ≡ true) ⊎ (b ≡ false)
by_cases true = inl refl
by_cases false = inr refl

pub get_last : {A : Type 0} (xs : List A) (x : A) → last_of (xs ++ x ∷ []) ≡ Some x
get_last xs x = rw (length_after xs x) (get_end xs x)
  where
    length_after : {A : Type 0} (xs : List A) (x : A) → length (xs ++ x ∷ []) - 1 ≡ length xs
    length_after xs x = simp length-append (omega arith)

    get_end : {A : Type 0} (xs : List A) (x : A) → slice_get (xs ++ x ∷ []) (length xs) ≡ Some x
    get_end [] x = refl
    get_end (y ∷ xs) x = get_end xs x

-- those that are accepted, and the past that the pairs of one invoice make
abbrev accepted : List (Sealed × Line) → List (Sealed × Line)
accepted mine = filter (λ (p : Sealed × Line). is_accepted p.1) mine

abbrev summed : List (Sealed × Line) → Past
summed mine = record {
  count = length mine;
  held = option_map_or (λ (p : Sealed × Line). is_alta p.0.body) (last_of (accepted mine)) false;
  gone = option_map_or (λ (p : Sealed × Line). is_anulacion p.0.body) (last_of (accepted mine)) false;
}

accepted_more : (mine : List (Sealed × Line)) (p : Sealed × Line) → accepted (mine ++ p ∷ []) ≡ accepted mine ++ accepted (p ∷ [])
accepted_more mine p = filter-append (λ (p : Sealed × Line). is_accepted p.1) mine (p ∷ [])

accepted_one : (p : Sealed × Line) → is_accepted p.1 ≡ true → accepted (p ∷ []) ≡ p ∷ []
accepted_one p e = rw e refl

refused_one : (p : Sealed × Line) → is_accepted p.1 ≡ false → accepted (p ∷ []) ≡ []
refused_one p e = rw e refl

one_more : (mine : List (Sealed × Line)) (p : Sealed × Line) → length (mine ++ p ∷ []) ≡ length mine + 1
one_more mine p = length-append mine (p ∷ [])

summed_more : (mine : List (Sealed × Line)) (p : Sealed × Line) → summed (mine ++ p ∷ []) ≡ past_after (summed mine) p.0.body p.1
summed_more mine p = elim (by_cases (is_accepted p.1)) [
  | inl e ↦
      let a : accepted (mine ++ p ∷ []) ≡ accepted mine ++ p ∷ [] = accepted_more mine p ∙
      ap (λ (xs : List (Sealed × Line)). accepted mine ++ xs) (accepted_one p e) in
      rw (a, one_more mine p, e, get_last (accepted mine) p) refl
  | inr e ↦
      let a : accepted (mine ++ p ∷ []) ≡ accepted mine = accepted_more mine p ∙ ap (λ (xs : List (Sealed × Line)). accepted mine
      ++ xs) (refused_one p e) ∙ append-nil (accepted mine) in
      rw (a, one_more mine p, e) refl
]

mine_more : (processed : List (Sealed × Line)) (p : Sealed × Line) (id : InvoiceId) → of_id (processed ++ p ∷ []) id ≡ of_id
    processed id ++ of_id (p ∷ []) id
mine_more processed p id = filter-append (λ (p : Sealed × Line). same_id (id_of p.0.body) id) processed (p ∷ [])

mine_one : (p : Sealed × Line) (id : InvoiceId) → same_id (id_of p.0.body) id ≡ true → of_id (p ∷ []) id ≡ p ∷ []
mine_one p id e = rw e refl

other_one : (p : Sealed × Line) (id : InvoiceId) → same_id (id_of p.0.body) id ≡ false → of_id (p ∷ []) id ≡ []
other_one p id e = rw e refl

-- one more of the invoice, and one more of another
pub past_more : (processed : List (Sealed × Line)) (p : Sealed × Line) (id : InvoiceId) → same_id (id_of p.0.body) id ≡ true →
    past_of (processed ++ p ∷ []) id ≡ past_after (past_of processed id) p.0.body p.1
past_more processed p id e =
    let a : of_id (processed ++ p ∷ []) id ≡ of_id processed id ++ p ∷ [] = mine_more processed p id ∙
    ap (λ (xs : List (Sealed × Line)). of_id processed id ++ xs) (mine_one p id e) in
    ap summed a ∙ summed_more (of_id processed id) p

pub past_still : (processed : List (Sealed × Line)) (p : Sealed × Line) (id : InvoiceId) → same_id (id_of p.0.body) id ≡ false →
    past_of (processed ++ p ∷ []) id ≡ past_of processed id
past_still processed p id e =
    let a : of_id (processed ++ p ∷ []) id ≡ of_id processed id = mine_more processed p id ∙
    ap (λ (xs : List (Sealed × Line)). of_id processed id ++ xs) (other_one p id e) ∙ append-nil (of_id processed id) in
    ap summed a

pub same_bytes : (bs : List ℕ) → bytes_eq bs bs ≡ true
same_bytes bs = (bytes_eq-Decides bs bs).1 refl

pub same_itself : (id : InvoiceId) → same_id id id ≡ true
same_itself id = rw (same_bytes id.num, eq-eqb id.day id.day refl) refl

pub past_next : (processed : List (Sealed × Line)) (s : Sealed) (line : Line) (body : Record) → s.body ≡ body →
    past_after (past_of processed (id_of body)) body line ≡ past_of (processed ++ (s, line) ∷ []) (id_of body)
past_next processed s line body e =
    let P : Record → Type 0 = λ (b : Record). past_after (past_of processed (id_of b)) b line ≡ past_of
    (processed ++ (s, line) ∷ []) (id_of b) in
    subst P e (sym (past_more processed (s, line) (id_of s.body) (same_itself (id_of s.body))))

pub after_refused : (past : Past) (body : Record) (line : Line) → is_accepted line ≡ false →
    record { count = past.count + 1; held = past.held; gone = past.gone } ≡ past_after past body line
after_refused past body line e = rw e refl

gone_is : (body : Record) → not (is_alta body) ≡ is_anulacion body
gone_is (record_of.Alta a) = refl
gone_is (record_of.Anulacion a) = refl

pub after_accepted : (past : Past) (body : Record) (line : Line) (held : Bool) → is_accepted line ≡ true → held ≡ is_alta body →
    record { count = past.count + 1; held = held; gone = not held } ≡ past_after past body line
after_accepted past body line held e h = rw (e, h, gone_is body) refl

-- the past after one more pair, of this invoice or of another
pub past_step : (processed : List (Sealed × Line)) (p : Sealed × Line) (id : InvoiceId) (past then : Past) →
    past ≡ past_of processed id →
    (same_id (id_of p.0.body) id ≡ true → then ≡ past_after past p.0.body p.1) → (same_id (id_of p.0.body) id ≡ false →
    then ≡ past) →
    then ≡ past_of (processed ++ p ∷ []) id
past_step processed p id past then here same other = elim (by_cases (same_id (id_of p.0.body) id)) [
  | inl e ↦ same e ∙ ap (λ (q : Past). past_after q p.0.body p.1) here ∙ sym (past_more processed p id e)
  | inr e ↦ other e ∙ here ∙ sym (past_still processed p id e)
]

-- the same, where the pair is the next one of a list
pub past_step_in : (pairs : List (Sealed × Line)) (i : ℕ) (p : Sealed × Line) (id : InvoiceId) (past then : Past) →
    i < length pairs → p ≡ get_or pairs i p →
    past ≡ past_of (take i pairs) id →
    (same_id (id_of p.0.body) id ≡ true → then ≡ past_after past p.0.body p.1) → (same_id (id_of p.0.body) id ≡ false →
    then ≡ past) →
    then ≡ past_of (take (i + 1) pairs) id
past_step_in pairs i p id past then within is here same other =
    past_step (take i pairs) p id past then here same other
    ∙ ap (λ (xs : List (Sealed × Line)). past_of xs id) (ap (λ (q : Sealed × Line). take i pairs ++ q ∷ []) is ∙
    sym (take_more pairs i p within))
