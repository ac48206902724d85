-- The fields past the kind of an invoice, read one after another.
use Rattle.std.proofs.Common.{◌≡◌, ◌∙◌, ℕ, List, [], ◌∷◌, ◌++◌, map, filter_map, refl, sym, ap, subst, append_assoc, Option, Some}
use Rattle.std.proofs.Common.{Result, Ok, Err}
use Rattle.std.specs.Result.{result_ok, result_err}
use Rattle.std.proofs.lemmas.List.{append-nil}
use Rattle.invoice_kinds.specs.declared.kind.Kind.{Kind}
use Rattle.parties.specs.declared.name.Party.{Party}
use Rattle.record_fields.specs.Picks.{first_of}
use Rattle.record_fields.specs.declared.drafts.Draft.{Draft}
use Rattle.shop_core.specs.declared.words.Word.{Word}
use Rattle.script.specs.Gathered.{IsGathered, gathered_said}
use Rattle.script.specs.SoFar.{IsSaid}
use Rattle.script.specs.declared.faults.Fault.{Fault}
use Rattle.script.specs.declared.faults.Fault.TheVariants.{Bad, NoMemory}
use Rattle.script.specs.Options.{each_said, item_said, seen_in, draft_said}
use Rattle.script.specs.declared.drafts.Gathered.{Gathered}
use Rattle.script.specs.declared.options.Item.{Item}
use Rattle.script.specs.declared.options.FieldsSeen.{FieldsSeen}

each_append : (p : List ℕ → Option Party) (before xs ys : List (List ℕ)) → each_said p before (xs ++ ys) ≡ each_said p before xs
    ++ each_said p (before ++ xs) ys
each_append p before [] ys = ap (λ (b : List (List ℕ)). each_said p b ys) (sym (append-nil before))
each_append p before (x ∷ xs) ys =
    ap (λ (t : List (Result Item Word)). item_said p (seen_in before) x ∷ t)
    (each_append p (before ++ x ∷ []) xs ys ∙ ap (λ (b : List (List ℕ)). each_said p (before ++ x ∷ []) xs ++ each_said p b ys)
    (append_assoc before (x ∷ []) xs))

abbrev all_ok : List Item → List (Result Item Word)
all_ok items = map Ok items

no_word : (items : List Item) (rest : List (Option Word)) → first_of (map result_err (all_ok items) ++ rest) ≡ first_of rest
no_word [] rest = refl
no_word (item ∷ items) rest = no_word items rest

ok_items : (items : List Item) → filter_map result_ok (all_ok items) ≡ items
ok_items [] = refl
ok_items (item ∷ items) = ap (λ (t : List Item). item ∷ t) (ok_items items)

first_word : (items : List Item) (word : Word) (more : List (Result Item Word)) (rest : List (Option Word))
    → first_of (map result_err (all_ok items ++ Err word ∷ more) ++ rest) ≡ Some word
first_word [] word more rest = refl
first_word (item ∷ items) word more rest = first_word items word more rest

ok_more : (items : List Item) (item : Item) → all_ok items ++ Ok item ∷ [] ≡ all_ok (items ++ item ∷ [])
ok_more [] item = refl
ok_more (x ∷ items) item = ap (λ (t : List (Result Item Word)). Ok x ∷ t) (ok_more items item)

-- all fields are those that were read and those to come; the items are those of the fields that were read
pub record IsHalfway (p : List ℕ → Option Party) (all front left : List (List ℕ)) (items : List Item) (seen : FieldsSeen)
    (gathered : Gathered) : Type 0 where
  pub split : all ≡ front ++ left
  pub said : each_said p [] front ≡ map Ok items
  pub shown : seen ≡ seen_in front
  pub together : IsGathered items gathered

pub next_field : (p : List ℕ → Option Party) (all front left after : List (List ℕ)) (field : List ℕ) (items : List Item)
    (item : Item) (seen more : FieldsSeen) (gathered new : Gathered)
    → IsHalfway p all front left items seen gathered → left ≡ field ∷ after → item_said p seen field ≡ Ok item
    → ((before : List (List ℕ)) → seen ≡ seen_in before → more ≡ seen_in (before ++ field ∷ [])) → IsGathered (items ++ item ∷ [])
    new
    → IsHalfway p all (front ++ field ∷ []) after (items ++ item ∷ []) more new
next_field p all front left after field items item seen more gathered new h e is onward g = record {
  split = h.split ∙ ap (λ (t : List (List ℕ)). front ++ t) e ∙ sym (append_assoc front (field ∷ []) after);
  said =
      let here : item_said p (seen_in front) field ≡ Ok item = subst (λ (s : FieldsSeen). item_said p s field ≡ Ok item) h.shown
      is in
      each_append p [] front (field ∷ []) ∙ ap (λ (t : List (Result Item Word)). t ++ item_said p (seen_in front) field ∷ [])
      h.said
      ∙ ap (λ (r : Result Item Word). all_ok items ++ r ∷ []) here ∙ ok_more items item;
  shown = onward front h.shown;
  together = g;
}

pub bad_field : (p : List ℕ → Option Party) (kind : Kind) (all front left after : List (List ℕ)) (field : List ℕ)
    (items : List Item) (word : Word) (seen : FieldsSeen) (gathered : Gathered)
    → IsHalfway p all front left items seen gathered → left ≡ field ∷ after → item_said p seen field ≡ Err word →
    draft_said p kind all ≡ Err word
bad_field p kind all front left after field items word seen gathered h e is =
    let here : item_said p (seen_in front) field ≡ Err word = subst (λ (s : FieldsSeen). item_said p s field ≡ Err word) h.shown
    is in
    let whole : all ≡ front ++ field ∷ after = h.split ∙ ap (λ (t : List (List ℕ)). front ++ t) e in
    let said : each_said p [] all ≡ all_ok items ++ Err word ∷ each_said p (front ++ field ∷ []) after =
    ap (λ (t : List (List ℕ)). each_said p [] t) whole ∙ each_append p [] front (field ∷ after)
    ∙ ap (λ (t : List (Result Item Word)). t ++ item_said p (seen_in front) field ∷ each_said p (front ++ field ∷ []) after)
    h.said
    ∙ ap (λ (r : Result Item Word). all_ok items ++ r ∷ each_said p (front ++ field ∷ []) after) here in
    rw (said, first_word) refl

pub all_read : (p : List ℕ → Option Party) (kind : Kind) (all front left : List (List ℕ)) (items : List Item) (seen : FieldsSeen)
    (gathered : Gathered)
    → IsHalfway p all front left items seen gathered → left ≡ [] → draft_said p kind all ≡ gathered_said kind items
all_read p kind all front left items seen gathered h e =
    let whole : all ≡ front = h.split ∙ ap (λ (t : List (List ℕ)). front ++ t) e ∙ append-nil front in
    let said : each_said p [] all ≡ all_ok items = ap (λ (t : List (List ℕ)). each_said p [] t) whole ∙ h.said in
    rw (said, ok_items, no_word) refl

pub bad_answer : (p : List ℕ → Option Party) (kind : Kind) (all front left after : List (List ℕ)) (field : List ℕ)
    (items : List Item) (fault : Fault) (seen : FieldsSeen) (gathered : Gathered)
    → IsHalfway p all front left items seen gathered → left ≡ field ∷ after → IsSaid {A = Item} (item_said p seen field)
    (Err fault)
    → IsSaid {A = Draft} (draft_said p kind all) (Err fault)
bad_answer p kind all front left after field items (Bad word) seen gathered h e is = bad_field p kind all front left after field
    items word seen gathered h e is
bad_answer p kind all front left after field items NoMemory seen gathered h e is = tt
