use Rattle.std.proofs.Common.{◌≡◌, ◌∙◌, List, ℕ, Result, Bor, IfOk, IsOk, All, flat_map, length, get_or, subst, sym}
use Rattle.ports.specs.declared.faults.NoMemory.{NoMemory}
use Rattle.link_check.specs.Checking.Chain.{begun}
use Rattle.file_commands.specs.Answering.{AreAnswered, text_in}
use Rattle.file_commands.proofs.Pieces.{lines_in, of_joined}
use Rattle.file_commands.proofs.answering.answered.Goals as goal

abbrev Piece : Type 0
Piece = Result (List ℕ) NoMemory

pub returns : goal.returns
returns g c =
    let chain = begun c.args.state.now.issuer c.args.state.now.entries in
    let pieces = c.in_ok-pieces.pieces.items in
    let texts = c.in_ok-texts.texts.items in
    let count : length texts ≡ length pieces =
    sym c.in_ok-texts.texts.ok.0 ∙ c.in_ok-texts.ensures.len ∙ c.in_ok-pieces.pieces.ok.0 in
    let whole : IfOk c.joined.result (AreAnswered chain (flat_map lines_in pieces)) =
    of_joined chain pieces texts c.joined.result count
    (λ k p d lt.
    let one = (c.in_ok-texts.ensures.each k d lt).1 in
    subst (λ (b : Bor (List ℕ)). IfOk (get_or texts k d) (AreAnswered chain (lines_in b))) (sym (one.job_is p)) one.call.met)
    (subst (λ (ts : List Piece). IfOk c.joined.result (λ text. All (λ (t : Piece). IsOk t) ts)) c.deref.ensures.value
    c.joined.ensures.each)
    (subst (λ (ts : List Piece). IfOk c.joined.result (λ text. text ≡ flat_map text_in ts)) c.deref.ensures.value
    c.joined.ensures.all) in
    subst (λ (ls : List (List ℕ)). IfOk c.joined.result (AreAnswered chain ls)) c.in_ok-pieces.ensures.lines whole
