-- A log that goes on.
use Rattle.std.proofs.Common.{◌≡◌, ℕ, ◌<◌, ◌+◌, List, [], ◌∷◌, ◌++◌, refl, sym, ◌∙◌, ap, Option, Some, None}
use Rattle.std.proofs.Common.{option_to_list, length, filter_map, take, get_or, append-nil}
use Rattle.std.proofs.lemmas.List.{take_more, map-append}
use Rattle.std.proofs.lemmas.List.Elements.{filter_map-append}
use Rattle.record_fields.specs.Picks.{last_of}
use Rattle.record_fields.specs.declared.records.Sealed.{Sealed}
use Rattle.agency_rules.proofs.Pasts.{get_last}
use Rattle.agency_port.specs.Reply.{Replied}
use Rattle.agency_port.specs.Messages.{batch_in, batches_in}
use Rattle.agency_port.specs.Practice.{messages_of, sent_in, late_in, late_for, reply_in, last_reply}
use Rattle.agency_port.specs.declared.messages.Logged.{Logged}

pub one_of : {A B : Type 0} (f : A → Option B) (x : A) (o : Option B) → f x ≡ o → filter_map f (x ∷ []) ≡ option_to_list o
one_of f x None e = rw e refl
one_of f x (Some y) e = rw e refl

next_of : (log : List Logged) (i : ℕ) (l : Logged) → i < length log → l ≡ get_or log i l → take (i + 1) log ≡ take i log ++ l ∷ []
next_of log i l within is = take_more log i l within ∙ ap (λ (x : Logged). take i log ++ x ∷ []) (sym is)

pub messages-append : (a b : List Logged) → messages_of (a ++ b) ≡ messages_of a ++ messages_of b
messages-append a b = map-append (λ (l : Logged). l.message) a b

pub sent-append : (a b : List Logged) → sent_in (a ++ b) ≡ sent_in a ++ sent_in b
sent-append a b = ap batches_in (messages-append a b) ∙ filter_map-append batch_in (messages_of a) (messages_of b)

pub sent_more : (log : List Logged) (i : ℕ) (l : Logged) → i < length log → l ≡ get_or log i l →
    sent_in (take (i + 1) log) ≡ sent_in (take i log) ++ option_to_list (batch_in l.message)
sent_more log i l within is =
    ap sent_in (next_of log i l within is) ∙ sent-append (take i log) (l ∷ [])
    ∙ ap (λ (bs : List (List Sealed)). sent_in (take i log) ++ bs) (one_of batch_in l.message (batch_in l.message) refl)

pub late_more : (call : ℕ) (log : List Logged) (i : ℕ) (l : Logged) → i < length log → l ≡ get_or log i l →
    late_for call (take (i + 1) log) ≡ late_for call (take i log) ++ option_to_list (late_in call l)
late_more call log i l within is =
    ap (late_for call) (next_of log i l within is) ∙ filter_map-append (late_in call) (take i log) (l ∷ [])
    ∙ ap (λ (bs : List (List Sealed)). late_for call (take i log) ++ bs) (one_of (late_in call) l (late_in call l) refl)

-- the reply that was given last, from the end of the log
pub last_here : (log before : List Logged) (l : Logged) (reply : Replied) → log ≡ before ++ l ∷ [] → Some reply ≡ reply_in l →
    Some reply ≡ last_reply log
last_here log before l reply is said =
    sym (get_last (filter_map reply_in before) reply)
    ∙ ap last_of (ap (λ (rs : List Replied). filter_map reply_in before ++ rs) (sym (one_of reply_in l (Some reply) (sym said))) ∙
    sym (filter_map-append reply_in before (l ∷ [])) ∙ sym (ap (filter_map reply_in) is))

pub last_before : (log before : List Logged) (l : Logged) → log ≡ before ++ l ∷ [] → None ≡ reply_in l →
    last_reply before ≡ last_reply log
last_before log before l is said =
    ap last_of (sym (append-nil (filter_map reply_in before))
    ∙ ap (λ (rs : List Replied). filter_map reply_in before ++ rs) (sym (one_of reply_in l None (sym said))) ∙
    sym (filter_map-append reply_in before (l ∷ [])) ∙ sym (ap (filter_map reply_in) is))
