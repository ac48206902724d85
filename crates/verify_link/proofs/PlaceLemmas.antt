-- Fields that stand in their places make a link.
use Rattle.std.proofs.Common.{◌≡◌, ℕ, zero, suc, ◌+◌, ◌<◌, true, not, eqb, List, [], ◌++◌, length, take, drop, refl, sym, ap, ◌∙◌}
use Rattle.std.proofs.Common.{subst, arith, append_assoc, Err, take-append-drop}
use Rattle.std.specs.List.{before_first}
use Rattle.std.proofs.Math.Seq.{drop-length, take-length}
use Rattle.std.proofs.lemmas.List.{drop-drop, append-nil}
use Rattle.std.proofs.lemmas.List.Folds.{length-prefix_len}
use Rattle.std.proofs.lemmas.Bool.{cond_both}
use Rattle.amounts.specs.Text.{amount_text}
use Rattle.stamps.specs.Text.{date_text_of}
use Rattle.verify_link.specs.declared.parts.Host.{Host}
use Rattle.verify_link.specs.declared.parts.Host.TheVariants.{Real, Practice}
use Rattle.verify_link.specs.declared.parts.LinkParts.{LinkParts}
use Rattle.verify_link.specs.declared.parts.LinkFault.{LinkFault}
use Rattle.verify_link.specs.declared.parts.LinkFault.TheVariants.{Prefix, Field, Escape, NoMemory}
use Rattle.verify_link.specs.Writing.{encoded}
use Rattle.verify_link.specs.Parts.{beginning, joined_link, link_text}
use Rattle.verify_link.specs.Reading.{Begins, name_of, value_in, is_ampersand, IsFieldAt, HasPlace, after_field, IsFieldFault}
use Rattle.verify_link.specs.Reading.{IsLinkReading}
use Rattle.verify_link.proofs.CapitalLemmas.{capitals, capitals_from, due_after, due_after-encoded, capitals-nil, capitals-plain}
use Rattle.verify_link.proofs.CapitalLemmas.{has_no_percent, joined}

pub place_next : (i at end : ℕ) (text said : List ℕ) → HasPlace text i at → IsFieldAt i text at said end →
    HasPlace text (suc i) end
place_next i at end text said placed it = subst (λ (e : ℕ). HasPlace text (suc i) e) (sym it.ends)
    (after_field i at said placed it.valid it.field)

pub fault_reading : (i place : ℕ) (text : List ℕ) (fault : LinkFault) → i < 4 → HasPlace text i place →
    IsFieldFault i place text fault → IsLinkReading text (Err fault)
fault_reading i place text Prefix within placed is = absurd is
fault_reading i place text (Field j) within placed is = record {
  i = i;
  within = within;
  place = place;
  placed = placed;
  fault_of = is;
}
fault_reading i place text (Escape at) within placed is = record {
  i = i;
  within = within;
  place = place;
  placed = placed;
  fault_of = is;
}
fault_reading i place text NoMemory within placed is = tt

-- the names have no `%`
pub name_plain : (i : ℕ) → has_no_percent (name_of i) ≡ true
name_plain zero = refl
name_plain (suc zero) = refl
name_plain (suc (suc zero)) = refl
name_plain (suc (suc (suc i))) = refl

pub name_due : (i : ℕ) → due_after 0 (name_of i) ≡ 0
unfolding due_after
name_due zero = refl
name_due (suc zero) = refl
name_due (suc (suc zero)) = refl
name_due (suc (suc (suc i))) = refl

pub beginning_plain : (host : Host) → has_no_percent (beginning host) ≡ true
beginning_plain Real = refl
beginning_plain Practice = refl

pub beginning_due : (host : Host) → due_after 0 (beginning host) ≡ 0
unfolding due_after
beginning_due Real = refl
beginning_due Practice = refl

-- a value is a front of what it is taken from
front_of : (i : ℕ) (after : List ℕ) → take (length (value_in i after)) after ≡ value_in i after
front_of i after =
    cond_both (eqb i 3) after (before_first is_ampersand after) (λ (v : List ℕ). take (length v) after ≡ v)
    (λ _. take-length after)
    (λ _. ap (λ n. take n after) (length-prefix_len (λ b. not (is_ampersand b)) after))

pub parted : (i : ℕ) (after : List ℕ) → value_in i after ++ drop (length (value_in i after)) after ≡ after
parted i after = ap (λ v. v ++ drop (length (value_in i after)) after) (sym (front_of i after)) ∙ take-append-drop
    (length (value_in i after)) after

-- what a field says, and what follows
pub field_text : (i at end : ℕ) (text said : List ℕ) → IsFieldAt i text at said end
    → capitals 0 (drop at text) ≡ (name_of i ++ encoded said) ++ capitals 0 (drop end text)
field_text i at end text said it =
    let name = name_of i in
    let after = drop (length name) (drop at text) in
    let value = value_in i after in
    let rest : drop (length value) after ≡ drop end text =
    drop-drop (length value) (length name) (drop at text) ∙ drop-drop (length name + length value) at text
    ∙ ap (λ n. drop n text) (omega (arith, it.ends)) in
    ap (capitals 0) it.field.named ∙ joined name after name (capitals-plain name (name_plain i)) (name_due i)
    ∙ ap (λ x. name ++ x) (
    ap (capitals 0) (sym (parted i after))
    ∙ joined value (drop (length value) after) (encoded said) (capitals_from value (encoded said) it.field.value)
    (due_after-encoded said)
    ∙ ap (λ x. encoded said ++ capitals 0 x) rest)
    ∙ sym (append_assoc name (encoded said) (capitals 0 (drop end text)))

joined_in_turn : (b n e n1 e1 n2 e2 n3 e3 : List ℕ)
    → b ++ ((n ++ e) ++ ((n1 ++ e1) ++ ((n2 ++ e2) ++ ((n3 ++ e3) ++ [])))) ≡ (((((((b ++ n) ++ e) ++ n1) ++ e1) ++ n2) ++ e2) ++
    n3) ++ e3
joined_in_turn b n e n1 e1 n2 e2 n3 e3 = simp (append_assoc, append-nil)

pub link_of_fields : (p : LinkParts) → beginning p.host ++ ((name_of 0 ++ encoded p.nif) ++ ((name_of 1 ++ encoded p.num) ++
    ((name_of 2 ++ encoded (date_text_of p.day)) ++ ((name_of 3 ++ encoded (amount_text p.total)) ++ [])))) ≡ link_text p
unfolding joined_link
link_of_fields p =
    joined_in_turn (beginning p.host) (name_of 0) (encoded p.nif) (name_of 1) (encoded p.num) (name_of 2)
    (encoded (date_text_of p.day)) (name_of 3) (encoded (amount_text p.total))

-- four fields after a beginning are the link of what they say
pub whole_link : (text : List ℕ) (p : LinkParts) (at end last : ℕ) → Begins (beginning p.host) text
    → IsFieldAt 0 text (length (beginning p.host)) p.nif at → IsFieldAt 1 text at p.num end
    → IsFieldAt 2 text end (date_text_of p.day) last → IsFieldAt 3 text last (amount_text p.total) (length text)
    → capitals 0 text ≡ link_text p
whole_link text p at end last begins nif num day total =
    let front = beginning p.host in
    let start : capitals 0 text ≡ front ++ capitals 0 (drop (length front) text) =
    ap (capitals 0) begins ∙ joined front (drop (length front) text) front (capitals-plain front (beginning_plain p.host))
    (beginning_due p.host) in
    let none : capitals 0 (drop (length text) text) ≡ [] = ap (capitals 0) (drop-length text) ∙ capitals-nil 0 in
    let fourth = field_text 3 last (length text) text (amount_text p.total) total ∙
    ap (λ x. (name_of 3 ++ encoded (amount_text p.total)) ++ x) none in
    let third = field_text 2 end last text (date_text_of p.day) day ∙ ap (λ x. (name_of 2 ++ encoded (date_text_of p.day)) ++ x)
    fourth in
    let second = field_text 1 at end text p.num num ∙ ap (λ x. (name_of 1 ++ encoded p.num) ++ x) third in
    let first = field_text 0 (length front) at text p.nif nif ∙ ap (λ x. (name_of 0 ++ encoded p.nif) ++ x) second in
    start ∙ ap (λ x. front ++ x) first ∙ link_of_fields p
