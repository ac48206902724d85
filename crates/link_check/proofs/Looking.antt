-- The answer that is looked for in the chain.
use Rattle.std.proofs.Common.{◌≡◌, ℕ, List, refl, ◌∙◌, ap, inl, inr, Bool, true, false, not, Option, Some, None, bytes_eq}
use Rattle.std.proofs.Common.{option_map, cond}
use Rattle.std.specs.Prelude.{ℤ, [], ◌∷◌}
use Rattle.std.specs.Option.{option_map_or}
use Rattle.std.proofs.lemmas.Bool.{cases_Bool}
use Rattle.record_fields.specs.Picks.{first_of, when}
use Rattle.record_fields.specs.Records.{is_alta}
use Rattle.record_fields.specs.declared.records.Sealed.{Sealed}
use Rattle.record_codec.specs.declared.entry.Entry.{Entry}
use Rattle.shop_core.specs.Standing.{is_known_on, last_accepted}
use Rattle.verify_link.specs.declared.parts.LinkParts.{LinkParts}
use Rattle.link_check.specs.Checking.{answer_to, compared, last_accepted_alta}
use Rattle.link_check.specs.Checking.Chain.{begun}
use Rattle.link_check.specs.BeforeChain.{settled}
use Rattle.link_check.specs.declared.checked.Checked.{Checked}
use Rattle.link_check.specs.declared.checked.Checked.TheVariants.{Cancelled, Refused, Unknown, OtherIssuer}
use Rattle.link_check.proofs.Lasts.{held_is_last}

-- the answer, from the invoice's last accepted record and its last accepted alta
abbrev answer_of : Bool → Bool → Option (ℕ × Sealed) → Option (ℕ × Sealed) → ℤ → Option Checked
answer_of nif known accepted alta cents = first_of (
    when (not nif) OtherIssuer
    ∷ when (not known) Unknown
    ∷ option_map Cancelled (option_map_or (λ (p : ℕ × Sealed). cond (is_alta p.1.body) None (Some p.0)) accepted None)
    ∷ when (not (option_map_or (λ (p : ℕ × Sealed). is_alta p.1.body) accepted false)) Refused
    ∷ option_map (compared cents) alta
    ∷ [])

settled_of : (p : ℕ × Sealed) (alta : Option (ℕ × Sealed)) (cents : ℤ) → (is_alta p.1.body ≡ true → alta ≡ Some p) →
    answer_of true true (Some p) alta cents ≡ Some (settled cents p)
settled_of p alta cents held = elim (cases_Bool (is_alta p.1.body)) [
  | inl e ↦ let h = held e in rw (e, h) refl
  | inr e ↦ rw e refl
]

pub is_settled : (issuer : List ℕ) (entries : List Entry) (parts : LinkParts) (p : ℕ × Sealed) →
    bytes_eq parts.nif issuer ≡ true → is_known_on entries parts.num parts.day ≡ true →
    last_accepted entries parts.num ≡ Some p → answer_to (begun issuer entries) parts ≡ Some (settled parts.total p)
is_settled issuer entries parts p nif known accepted =
    let alta = last_accepted_alta entries parts.num in
    ap (λ (b : Bool). answer_of b (is_known_on entries parts.num parts.day) (last_accepted entries parts.num) alta parts.total)
    nif
    ∙ ap (λ (b : Bool). answer_of true b (last_accepted entries parts.num) alta parts.total) known
    ∙ ap (λ (o : Option (ℕ × Sealed)). answer_of true true o alta parts.total) accepted
    ∙ settled_of p alta parts.total (held_is_last entries parts.num p accepted)
