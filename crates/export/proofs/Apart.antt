-- No two entries of one issuer have one object.
use Rattle.std.proofs.Common.{◌≡◌, ℕ, ℤ, pos, negsuc, List, [], ◌∷◌, map, codes, Bool, cond, bytes_eq, Option, Some, None, Ok, refl, sym, ap, ap₂, ◌∙◌, arith}
use Rattle.std.specs.Prelude.{find}
use Rattle.std.specs.List.{AllByRecursion}
use Rattle.hex.specs.Hex.{decode_of, encode_upper}
use Rattle.hex.proofs.HexLemmas.{decode_of-encode_upper}
use Rattle.serde_json.specs.Data.{Data, boolean, number}
use Rattle.serde_json.specs.Find.{get, of_integer}
use Rattle.serde_json.specs.View.{items_of}
use Rattle.parties.specs.declared.name.Party.{Party}
use Rattle.invoice_kinds.specs.Kinds.{kinds, kind_text}
use Rattle.invoice_kinds.specs.declared.kind.Kind.{Kind}
use Rattle.invoice_kinds.specs.declared.kind.Kind.TheVariants.{F1}
use Rattle.invoice_kinds.specs.declared.kind.RectKind.{RectKind}
use Rattle.invoice_kinds.specs.declared.kind.RectKind.TheVariants as rect
use Rattle.series.specs.declared.numbers.InvoiceId.{InvoiceId}
use Rattle.stamps.specs.Stamp.{Moment}
use Rattle.stamps.specs.Text.{date_text_of}
use Rattle.stamps.proofs.TextLemmas.{date_text_of_injective}
use Rattle.tax_lines.specs.Breakdown.{HasKey}
use Rattle.tax_lines.specs.Keys.{key_text}
use Rattle.tax_lines.specs.declared.lines.TaxLine.{TaxLine}
use Rattle.record_fields.specs.Valid.{IsHuella, IsId}
use Rattle.record_fields.specs.declared.drafts.Draft.{Draft}
use Rattle.record_fields.specs.declared.lines.Cause.TheVariants.{Vet, Held, NotHeld, Gone}
use Rattle.record_fields.specs.declared.lines.Line.{Line}
use Rattle.record_fields.specs.declared.lines.Line.TheVariants.{Correcto, ConErrores, Incorrecto}
use Rattle.record_fields.specs.declared.records.Alta.{Alta}
use Rattle.record_fields.specs.declared.records.Anulacion.{Anulacion}
use Rattle.record_fields.specs.declared.records.Link.{Link}
use Rattle.record_fields.specs.declared.records.Link.TheVariants.{First, After}
use Rattle.record_fields.specs.declared.records.Previo.{Previo}
use Rattle.record_fields.specs.declared.records.Previo.TheVariants as previo
use Rattle.record_fields.specs.declared.records.Record.{Record}
use Rattle.record_fields.specs.declared.records.Record.TheVariants as record_of
use Rattle.record_fields.specs.declared.records.Sealed.{Sealed}
use Rattle.record_fields.specs.Records.{issuer_of}
use Rattle.record_fields.specs.declared.versions.Version.{Version}
use Rattle.record_codec.specs.Validity.{AreFields, HasIssuer, IsAlta, IsBody, IsLine, IsLink}
use Rattle.record_codec.specs.declared.entry.Entry.{Entry}
use Rattle.record_codec.specs.declared.entry.Entry.TheVariants.{Rec, Notes}
use Rattle.export.specs.Objects.{alta_fields, anulacion_fields, array_from, body_object, customer_value, day_value, id_value, line_code, line_value, line_word, link_value, number_of, object_from, object_of, previo_value, rect_value, tax_line_value, word}
use Rattle.export.proofs.Keys.{key_same}
use Rattle.export.proofs.ListLemmas.{items_of_injective}
use Rattle.export.proofs.ObjectLemmas.{body_sort, body_has_sort, has_till, has_serial, has_huella}

-- ---- values

word_same : (a b : List ℕ) → Some (word a) ≡ Some (word b) → a ≡ b
word_same a b e = cc

number_same : (a b : ℕ) → Some (number_of a) ≡ Some (number_of b) → a ≡ b
number_same a b e = cc

integer_same : (x y : ℤ) → of_integer x ≡ of_integer y → x ≡ y
integer_same (pos n) (pos m) e = let same : n ≡ m = cc in ap pos same
integer_same (pos n) (negsuc m) e = absurd cc
integer_same (negsuc n) (pos m) e = absurd cc
integer_same (negsuc n) (negsuc m) e = let same : negsuc n ≡ negsuc m = cc in same

huella_same : (h k : List ℕ) → IsHuella h → IsHuella k → encode_upper h ≡ encode_upper k → h ≡ k
huella_same h k is also e =
    let same : Ok h ≡ Ok k = sym (decode_of-encode_upper h is.bytes) ∙ ap decode_of e ∙ decode_of-encode_upper k also.bytes in cc

kind_named : List ℕ → Option Kind
kind_named t = find (λ k. bytes_eq (kind_text k) t) kinds

kind_named-kind_text : (k : Kind) → kind_named (kind_text k) ≡ Some k
unfolding kind_named
kind_named-kind_text F1 = refl
kind_named-kind_text other = refl

kind_same : (k l : Kind) → kind_text k ≡ kind_text l → k ≡ l
kind_same k l e =
    let same : Some k ≡ Some l = sym (kind_named-kind_text k) ∙ ap kind_named e ∙ kind_named-kind_text l in cc

line_named : List ℕ → ℕ → Option Line
line_named t code =
    cond (bytes_eq t (codes "correcto")) (Some Correcto) (
    cond (bytes_eq t (codes "con-errores")) (Some (ConErrores code)) (
    cond (bytes_eq t (codes "vet")) (Some (Incorrecto (Vet code))) (
    cond (bytes_eq t (codes "held")) (Some (Incorrecto Held)) (
    cond (bytes_eq t (codes "not-held")) (Some (Incorrecto NotHeld)) (Some (Incorrecto Gone))))))

line_named-line_word : (line : Line) → line_named (line_word line) (line_code line) ≡ Some line
unfolding line_named
line_named-line_word Correcto = refl
line_named-line_word (ConErrores code) = refl
line_named-line_word (Incorrecto (Vet code)) = refl
line_named-line_word (Incorrecto Held) = refl
line_named-line_word (Incorrecto NotHeld) = refl
line_named-line_word (Incorrecto Gone) = refl

line_same : (x y : Line) → line_value x ≡ line_value y → x ≡ y
line_same x y e =
    let words : line_word x ≡ line_word y = cc in
    let same_code : line_code x ≡ line_code y = cc in
    let same : Some x ≡ Some y = sym (line_named-line_word x) ∙ ap₂ line_named words same_code ∙ line_named-line_word y in cc

same_id : (x y : InvoiceId) → x.num ≡ y.num → x.day ≡ y.day → x ≡ y
same_id x y num day = let all : ◌≡◌ {A = InvoiceId} (record { num = x.num; day = x.day }) y = rw (num, day) refl in all

id_same : (x y : InvoiceId) → id_value x ≡ id_value y → x ≡ y
id_same x y e =
    let num : x.num ≡ y.num = cc in
    let text : date_text_of x.day ≡ date_text_of y.day = cc in
    same_id x y num (date_text_of_injective x.day y.day text)

tax_line_same : (x y : TaxLine) → HasKey x → HasKey y → tax_line_value x ≡ tax_line_value y → x ≡ y
tax_line_same x y is also e =
    let text : key_text x.key ≡ key_text y.key = cc in
    let amount : of_integer x.base ≡ of_integer y.base = cc in
    let key = key_same x.key y.key is also text in
    let base = integer_same x.base y.base amount in
    let all : ◌≡◌ {A = TaxLine} (record { key = x.key; base = x.base }) y = rw (key, base) refl in all

mapped_same : {A : Type 0} (f : A → Data) (P : A → Type 0) → ((x y : A) → P x → P y → f x ≡ f y → x ≡ y) → (xs ys : List A)
    → AllByRecursion P xs → AllByRecursion P ys → map f xs ≡ map f ys → xs ≡ ys
mapped_same f P same [] [] all too e = refl
mapped_same f P same [] (y ∷ ys) all too e = absurd cc
mapped_same f P same (x ∷ xs) [] all too e = absurd cc
mapped_same f P same (x ∷ xs) (y ∷ ys) all too e =
    let first : f x ≡ f y = cc in
    let rest : map f xs ≡ map f ys = cc in
    ap₂ (λ z zs. z ∷ zs) (same x y all.0 too.0 first) (mapped_same f P same xs ys all.1 too.1 rest)

array_same : {A : Type 0} (f : A → Data) (P : A → Type 0) → ((x y : A) → P x → P y → f x ≡ f y → x ≡ y) → (xs ys : List A)
    → AllByRecursion P xs → AllByRecursion P ys → Some (array_from f xs) ≡ Some (array_from f ys) → xs ≡ ys
array_same f P same xs ys all too e =
    let items : items_of (map f xs) ≡ items_of (map f ys) = cc in
    mapped_same f P same xs ys all too (items_of_injective (map f xs) (map f ys) items)

customer_same : (x y : Option Party) → Some (customer_value x) ≡ Some (customer_value y) → x ≡ y
customer_same None None e = refl
customer_same None (Some q) e = absurd cc
customer_same (Some p) None e = absurd cc
customer_same (Some p) (Some q) e =
    let name : p.name ≡ q.name = cc in
    let nif : p.nif ≡ q.nif = cc in
    let all : ◌≡◌ {A = Party} (record { nif = p.nif; name = p.name }) q = rw (nif, name) refl in
    let both : p ≡ q = all in ap (λ (r : Party). Some r) both

letter_same : (a b : ℕ) → Some (word (a ∷ [])) ≡ Some (word (b ∷ [])) → a ≡ b
letter_same a b e = cc

two_letters : (a b : ℕ) → (a ≡ b → ⊥) → Some (word (a ∷ [])) ≡ Some (word (b ∷ [])) → ⊥
two_letters a b other e = other (letter_same a b e)

rect_same : (x y : Option RectKind) → Some (rect_value x) ≡ Some (rect_value y) → x ≡ y
rect_same None None e = refl
rect_same None (Some rect.S) e = absurd cc
rect_same None (Some rect.I) e = absurd cc
rect_same (Some rect.S) None e = absurd cc
rect_same (Some rect.S) (Some rect.S) e = refl
rect_same (Some rect.S) (Some rect.I) e = absurd (two_letters 83 73 (λ q. omega arith) e)
rect_same (Some rect.I) None e = absurd cc
rect_same (Some rect.I) (Some rect.S) e = absurd (two_letters 73 83 (λ q. omega arith) e)
rect_same (Some rect.I) (Some rect.I) e = refl

previo_same : (x y : Previo) → Some (previo_value x) ≡ Some (previo_value y) → x ≡ y
previo_same previo.N previo.N e = refl
previo_same previo.N previo.S e = absurd (two_letters 78 83 (λ q. omega arith) e)
previo_same previo.N previo.X e = absurd (two_letters 78 88 (λ q. omega arith) e)
previo_same previo.S previo.N e = absurd (two_letters 83 78 (λ q. omega arith) e)
previo_same previo.S previo.S e = refl
previo_same previo.S previo.X e = absurd (two_letters 83 88 (λ q. omega arith) e)
previo_same previo.X previo.N e = absurd (two_letters 88 78 (λ q. omega arith) e)
previo_same previo.X previo.S e = absurd (two_letters 88 83 (λ q. omega arith) e)
previo_same previo.X previo.X e = refl

link_same : (x y : Link) → IsLink x → IsLink y → Some (link_value x) ≡ Some (link_value y) → x ≡ y
link_same First First is also e = refl
link_same First (After id huella) is also e = absurd cc
link_same (After id huella) First is also e = absurd cc
link_same (After id h) (After other k) is also e =
    let day : date_text_of id.day ≡ date_text_of other.day = cc in
    let digits : encode_upper h ≡ encode_upper k = cc in
    let num : id.num ≡ other.num = cc in
    ap₂ After (same_id id other num (date_text_of_injective id.day other.day day)) (huella_same h k is.1 also.1 digits)

moment_same : (x y : Moment) → Some (number_of x.seconds) ≡ Some (number_of y.seconds)
    → Some (number (of_integer x.offset_minutes)) ≡ Some (number (of_integer y.offset_minutes)) → x ≡ y
moment_same x y e f =
    let seconds : x.seconds ≡ y.seconds = cc in
    let minutes : of_integer x.offset_minutes ≡ of_integer y.offset_minutes = cc in
    let offset = integer_same x.offset_minutes y.offset_minutes minutes in
    let all : ◌≡◌ {A = Moment} (record { seconds = x.seconds; offset_minutes = x.offset_minutes }) y = rw (seconds, offset) refl in
    all

-- ---- records

same_draft : (x y : Draft) → x.kind ≡ y.kind → x.rect ≡ y.rect → x.customer ≡ y.customer → x.refs ≡ y.refs → x.lines ≡ y.lines → x ≡ y
same_draft x y kind rect customer refs lines =
    let all : ◌≡◌ {A = Draft} (record { kind = x.kind; rect = x.rect; customer = x.customer; refs = x.refs; lines = x.lines }) y =
    rw (kind, rect, customer, refs, lines) refl in all

same_alta : (x y : Alta) → x.issuer ≡ y.issuer → x.id ≡ y.id → x.draft ≡ y.draft → x.subsanacion ≡ y.subsanacion
    → x.rechazo ≡ y.rechazo → x.link ≡ y.link → x.moment ≡ y.moment → x ≡ y
same_alta x y issuer id draft subsanacion rechazo link moment =
    let all : ◌≡◌ {A = Alta} (record { issuer = x.issuer; id = x.id; draft = x.draft; subsanacion = x.subsanacion; rechazo = x.rechazo; link = x.link; moment = x.moment }) y =
    rw (issuer, id, draft, subsanacion, rechazo, link, moment) refl in all

same_anulacion : (x y : Anulacion) → x.issuer ≡ y.issuer → x.id ≡ y.id → x.sin_registro ≡ y.sin_registro
    → x.rechazo ≡ y.rechazo → x.link ≡ y.link → x.moment ≡ y.moment → x ≡ y
same_anulacion x y issuer id sin_registro rechazo link moment =
    let all : ◌≡◌ {A = Anulacion} (record { issuer = x.issuer; id = x.id; sin_registro = x.sin_registro; rechazo = x.rechazo; link = x.link; moment = x.moment }) y =
    rw (issuer, id, sin_registro, rechazo, link, moment) refl in all

flag_same : (a b : Bool) → Some (boolean a) ≡ Some (boolean b) → a ≡ b
flag_same a b e = cc

id_from : (x y : InvoiceId) → Some (word x.num) ≡ Some (word y.num) → Some (day_value x.day) ≡ Some (day_value y.day) → x ≡ y
id_from x y e f = same_id x y (word_same x.num y.num e) (date_text_of_injective x.day y.day (word_same (date_text_of x.day) (date_text_of y.day) f))

alta_same : (v w : Version) (t s u r : ℕ) (x y : Alta) (h k : List ℕ) → IsAlta v x → IsAlta w y → x.issuer ≡ y.issuer
    → object_from (alta_fields t s x h) ≡ object_from (alta_fields u r y k) → x ≡ y
alta_same v w t s u r x y h k is also issuer e =
    let kind = kind_same x.draft.kind y.draft.kind (word_same (kind_text x.draft.kind) (kind_text y.draft.kind) (ap (get (codes "kind")) e)) in
    let rectified = rect_same x.draft.rect y.draft.rect (ap (get (codes "rect")) e) in
    let customer = customer_same x.draft.customer y.draft.customer (ap (get (codes "customer")) e) in
    let refs = array_same id_value IsId (λ a b _ _. id_same a b) x.draft.refs y.draft.refs is.draft.valid.refs also.draft.valid.refs
    (ap (get (codes "refs")) e) in
    let lines = array_same tax_line_value HasKey tax_line_same x.draft.lines y.draft.lines is.draft.valid.lines.keys
    also.draft.valid.lines.keys (ap (get (codes "lines")) e) in
    same_alta x y issuer (id_from x.id y.id (ap (get (codes "num")) e) (ap (get (codes "day")) e))
    (same_draft x.draft y.draft kind rectified customer refs lines)
    (flag_same x.subsanacion y.subsanacion (ap (get (codes "fix")) e))
    (previo_same x.rechazo y.rechazo (ap (get (codes "rechazo")) e))
    (link_same x.link y.link is.link also.link (ap (get (codes "link")) e))
    (moment_same x.moment y.moment (ap (get (codes "seconds")) e) (ap (get (codes "offset")) e))

anulacion_same : (t s u r : ℕ) (x y : Anulacion) (h k : List ℕ) → IsLink x.link → IsLink y.link → x.issuer ≡ y.issuer
    → object_from (anulacion_fields t s x h) ≡ object_from (anulacion_fields u r y k) → x ≡ y
anulacion_same t s u r x y h k is also issuer e =
    same_anulacion x y issuer (id_from x.id y.id (ap (get (codes "num")) e) (ap (get (codes "day")) e))
    (flag_same x.sin_registro y.sin_registro (ap (get (codes "sin_registro")) e))
    (flag_same x.rechazo y.rechazo (ap (get (codes "rechazo")) e))
    (link_same x.link y.link is also (ap (get (codes "link")) e))
    (moment_same x.moment y.moment (ap (get (codes "seconds")) e) (ap (get (codes "offset")) e))

two_sorts : Some (word (codes "alta")) ≡ Some (word (codes "anulacion")) → ⊥
two_sorts e = cc

body_same : (v w : Version) (t s u r : ℕ) (x y : Record) (h k : List ℕ) → IsBody v x → IsBody w y → issuer_of x ≡ issuer_of y
    → body_object t s x h ≡ body_object u r y k → x ≡ y
body_same v w t s u r (record_of.Alta x) (record_of.Alta y) h k is also issuer e =
    ap (λ (a : Alta). record_of.Alta a) (alta_same v w t s u r x y h k is also issuer e)
body_same v w t s u r (record_of.Alta x) (record_of.Anulacion y) h k is also issuer e = absurd (two_sorts (ap (get (codes "t")) e))
body_same v w t s u r (record_of.Anulacion x) (record_of.Alta y) h k is also issuer e = absurd (two_sorts (sym (ap (get (codes "t")) e)))
body_same v w t s u r (record_of.Anulacion x) (record_of.Anulacion y) h k is also issuer e =
    ap (λ (a : Anulacion). record_of.Anulacion a) (anulacion_same t s u r x y h k is.link also.link issuer e)

same_sealed : (x y : Sealed) → x.body ≡ y.body → x.huella ≡ y.huella → x ≡ y
same_sealed x y body huella = let all : ◌≡◌ {A = Sealed} (record { body = x.body; huella = x.huella }) y = rw (body, huella) refl in all

same_rec : (t s u r : ℕ) (x y : Sealed) → t ≡ u → s ≡ r → x ≡ y → Rec t s x ≡ Rec u r y
same_rec t s u r x y e f g = rw (e, f, g) refl

no_notes : (body : Record) → Some (word (body_sort body)) ≡ Some (word (codes "notes")) → ⊥
no_notes (record_of.Alta alta) e = cc
no_notes (record_of.Anulacion anulacion) e = cc

pub objects_apart : (v w : Version) (issuer : List ℕ) (x y : Entry) → AreFields v x → AreFields w y → HasIssuer issuer x → HasIssuer issuer y
    → object_of x ≡ object_of y → x ≡ y
unfolding object_of
objects_apart v w issuer (Rec t s x) (Rec u r y) is also has too e =
    let till = number_same t u (sym (has_till t s x.body x.huella) ∙ ap (get (codes "till")) e ∙ has_till u r y.body y.huella) in
    let serial = number_same s r (sym (has_serial t s x.body x.huella) ∙ ap (get (codes "serial")) e ∙ has_serial u r y.body y.huella) in
    let digits = word_same (encode_upper x.huella) (encode_upper y.huella) (sym (has_huella t s x.body x.huella) ∙ ap (get (codes "huella")) e ∙ has_huella u r y.body y.huella) in
    let huella = huella_same x.huella y.huella is.huella also.huella digits in
    let body = body_same v w t s u r x.body y.body x.huella y.huella is.body also.body (has ∙ sym too) e in
    same_rec t s u r x y till serial (same_sealed x y body huella)
objects_apart v w issuer (Rec t s x) (Notes first lines) is also has too e =
    absurd (no_notes x.body (sym (body_has_sort t s x.body x.huella) ∙ ap (get (codes "t")) e))
objects_apart v w issuer (Notes first lines) (Rec t s x) is also has too e =
    absurd (no_notes x.body (sym (body_has_sort t s x.body x.huella) ∙ ap (get (codes "t")) (sym e)))
objects_apart v w issuer (Notes first lines) (Notes second others) is also has too e =
    ap₂ Notes (number_same first second (ap (get (codes "first")) e)) (array_same line_value IsLine (λ a b _ _. line_same a b) lines others is.lines
    also.lines (ap (get (codes "lines")) e))
