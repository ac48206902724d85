-- The last reply that named its batch, until a consultation answers.
use Rattle.std.proofs.Common.{◌≡◌, ◌↔◌, ℕ, suc, ◌-◌, List, [], ◌∷◌, ◌++◌, refl, sym, ◌∙◌, ap, subst, inl, inr, arith, length}
use Rattle.std.proofs.Common.{slice_get, filter_map, option_map, option_to_list, unwrap_or, Option, Some, None, Result, Ok, Err}
use Rattle.std.proofs.Common.{Bool, true, false, append-nil}
use Rattle.std.proofs.lemmas.List.Elements.{filter_map-append}
use Rattle.std.specs.List.{AllByRecursion, cons_option}
use Rattle.record_fields.specs.Picks.{last_of, when}
use Rattle.record_fields.specs.declared.records.Sealed.{Sealed}
use Rattle.agency_rules.proofs.Pasts.{get_last}
use Rattle.agency_port.specs.Reply.{Replied}
use Rattle.agency_port.specs.Ledger.{Names}
use Rattle.agency_port.specs.Practice.{is_reply_to}
use Rattle.agency_port.specs.Sessions.{keeps, kept_reply, IsKept}
use Rattle.agency_port.specs.Laws.{KeptIsTheLastNamed, KeptByOneMore}
use Rattle.agency_port.specs.declared.messages.Message.{Message}
use Rattle.agency_port.specs.declared.messages.Message.TheVariants.{Begun, Submitted, Consulted}
use Rattle.agency_port.proofs.Logs.{one_of}
use Rattle.agency_port.proofs.Replies.{decides, named}

-- the last of a list with one more in front
shift : {A : Type 0} (x y : A) (ys : List A) → last_of (x ∷ (y ∷ ys)) ≡ last_of (y ∷ ys)
shift x y ys = let n : length (x ∷ (y ∷ ys)) - 1 ≡ suc (length (y ∷ ys) - 1) = omega arith in ap (slice_get (x ∷ (y ∷ ys))) n

last_after : {A : Type 0} (x : A) (xs : List A) → last_of (x ∷ xs) ≡ Some (unwrap_or (last_of xs) x)
last_after x [] = refl
last_after x (y ∷ ys) = let h = last_after y ys in shift x y ys ∙ h ∙ ap (λ o. Some (unwrap_or o x)) (sym h)

-- the message is a reply that names its batch
record IsNamed (m : Message) (reply : Replied) : Type 0 where
  batch : List Sealed
  is : m ≡ Submitted batch (Ok reply)
  named : Names reply batch

named_if : (batch : List Sealed) (kept reply : Replied) (t : Bool) → is_reply_to kept batch ≡ t → option_map Some (when t kept) ≡
    Some (Some reply) →
    IsNamed (Submitted batch (Ok kept)) reply
named_if batch kept reply true e h =
    let same : kept ≡ reply = cc in
    record {
      batch = batch;
      is = ap (λ (r : Replied). Submitted batch (Ok r)) same;
      named = subst (λ (r : Replied). Names r batch)
          same ((decides kept batch).0 e);
    }
named_if batch kept reply false e h = absurd cc

is_named : (m : Message) (reply : Replied) → keeps m ≡ Some (Some reply) → IsNamed m reply
is_named (Begun plan pairs) reply e = absurd cc
is_named (Submitted batch (Ok kept)) reply e = named_if batch kept reply (is_reply_to kept batch) refl e
is_named (Submitted batch (Err why)) reply e = absurd cc
is_named (Consulted huellas (Ok seen)) reply e = absurd cc
is_named (Consulted huellas (Err why)) reply e = absurd cc

-- what the last message that says something of the reply leaves
abbrev Found : Option (Option Replied) → List Message → Type 0
Found None messages = AllByRecursion (λ (m : Message). keeps m ≡ None) messages
Found (Some None) messages = Unit {0}
Found (Some (Some reply)) messages = IsKept messages reply

later : (m : Message) (messages : List Message) (reply : Replied) → IsKept messages reply → IsKept (m ∷ messages) reply
later m messages reply k = record {
  before = m ∷ k.before;
  batch = k.batch;
  after = k.after;
  is = ap (λ (ms : List Message). m ∷ ms) k.is;
  named = k.named;
  since = k.since;
}

found_behind : (m : Message) (messages : List Message) (x : Option Replied) → Found (Some x) messages →
    Found (Some x) (m ∷ messages)
found_behind m messages None f = tt
found_behind m messages (Some reply) f = later m messages reply f

found_still : (m : Message) (messages : List Message) (o : Option (Option Replied)) → keeps m ≡ None → Found o messages →
    Found o (m ∷ messages)
found_still m messages None e f = (e, f)
found_still m messages (Some x) e f = found_behind m messages x f

found_here : (m : Message) (messages : List Message) (x : Option Replied) → keeps m ≡ Some x → Found None messages →
    Found (Some x) (m ∷ messages)
found_here m messages None e f = tt
found_here m messages (Some reply) e f =
    let n = is_named m reply e in
    record {
      before = [];
      batch = n.batch;
      after = messages;
      is = ap (λ (k : Message). k ∷ messages) n.is;
      named = n.named;
      since = f;
    }

in_front : (m : Message) (messages : List Message) (x : Option Replied) (o : Option (Option Replied)) → keeps m ≡ Some x →
    last_of (filter_map keeps messages) ≡ o →
    last_of (filter_map keeps (m ∷ messages)) ≡ Some (unwrap_or o x)
in_front m messages x o e l =
    ap (λ (k : Option (Option Replied)). last_of (cons_option k (filter_map keeps messages))) e ∙
    last_after x (filter_map keeps messages)
    ∙ ap (λ (k : Option (Option Replied)). Some (unwrap_or k x)) l

found_step : (m : Message) (messages : List Message) (t o is : Option (Option Replied)) → keeps m ≡ t →
    last_of (filter_map keeps messages) ≡ o → Found o messages →
    last_of (filter_map keeps (m ∷ messages)) ≡ is → Found is (m ∷ messages)
found_step m messages None o is t l f e =
    let same : last_of (filter_map keeps (m ∷ messages)) ≡ last_of (filter_map keeps messages) =
    ap (λ (k : Option (Option Replied)). last_of (cons_option k (filter_map keeps messages))) t in
    subst (λ (k : Option (Option Replied)). Found k (m ∷ messages)) (sym l ∙ sym same ∙ e) (found_still m messages o t f)
found_step m messages (Some x) None is t l f e =
    subst (λ (k : Option (Option Replied)). Found k (m ∷ messages)) (sym (in_front m messages x None t l) ∙ e)
    (found_here m messages x t f)
found_step m messages (Some x) (Some y) is t l f e =
    subst (λ (k : Option (Option Replied)). Found k (m ∷ messages)) (sym (in_front m messages x (Some y) t l) ∙ e)
    (found_behind m messages y f)

found : (messages : List Message) (o : Option (Option Replied)) → last_of (filter_map keeps messages) ≡ o → Found o messages
found [] None e = tt
found [] (Some x) e = absurd cc
found (m ∷ messages) o e =
    let l = last_of (filter_map keeps messages) in found_step m messages (keeps m) l o refl refl (found messages l refl) e

kept_found : (messages : List Message) (reply : Replied) (o : Option (Option Replied)) → last_of (filter_map keeps messages) ≡ o →
    unwrap_or o None ≡ Some reply → IsKept messages reply
kept_found messages reply None l e = absurd cc
kept_found messages reply (Some None) l e = absurd cc
kept_found messages reply (Some (Some kept)) l e =
    let same : kept ≡ reply = cc in subst (λ (r : Replied). IsKept messages r) same (found messages (Some (Some kept)) l)

none_kept : (messages : List Message) → AllByRecursion (λ (m : Message). keeps m ≡ None) messages → filter_map keeps messages ≡ []
none_kept [] none = refl
none_kept (m ∷ messages) none = rw none.0 (none_kept messages none.1)

kept_there : (messages : List Message) (reply : Replied) → IsKept messages reply → kept_reply messages ≡ Some reply
kept_there messages reply k =
    let front = filter_map keeps k.before in
    let here : keeps (Submitted k.batch (Ok reply)) ≡ Some (Some reply) = rw (named reply k.batch k.named) refl in
    let back : filter_map keeps (Submitted k.batch (Ok reply) ∷ k.after) ≡ Some reply ∷ [] =
    ap (λ (t : Option (Option Replied)). cons_option t (filter_map keeps k.after)) here ∙
    ap (λ (xs : List (Option Replied)). Some reply ∷ xs) (none_kept k.after k.since) in
    ap (λ (xs : List (Option Replied)). unwrap_or (last_of xs) None)
    (ap (filter_map keeps) k.is ∙ filter_map-append keeps k.before (Submitted k.batch (Ok reply) ∷ k.after) ∙
    ap (λ (xs : List (Option Replied)). front ++ xs) back)
    ∙ ap (λ (o : Option (Option Replied)). unwrap_or o None) (get_last front (Some reply))

pub kept_is : KeptIsTheLastNamed
kept_is messages reply = (λ e. kept_found messages reply (last_of (filter_map keeps messages)) refl e, kept_there messages reply)

kept_by : (messages : List Message) (o : Option (Option Replied)) →
    unwrap_or (last_of (filter_map keeps messages ++ option_to_list o)) None ≡ unwrap_or o (kept_reply messages)
kept_by messages None = ap (λ (xs : List (Option Replied)). unwrap_or (last_of xs) None) (append-nil (filter_map keeps messages))
kept_by messages (Some x) = ap (λ (o : Option (Option Replied)). unwrap_or o None) (get_last (filter_map keeps messages) x)

pub kept_more : KeptByOneMore
kept_more messages m =
    ap (λ (xs : List (Option Replied)). unwrap_or (last_of xs) None)
    (filter_map-append keeps messages (m ∷ []) ∙ ap (λ (xs : List (Option Replied)). filter_map keeps messages ++ xs)
    (one_of keeps m (keeps m) refl))
    ∙ kept_by messages (keeps m)
