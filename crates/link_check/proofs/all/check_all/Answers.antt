use Rattle.std.proofs.Common.{◌≡◌, ◌∙◌, ◌+◌, ◌/◌, ◌%◌, ◌<◌, min, List, ℕ, Result, Vec, Global, length, get_or, subst, sym, arith}
use Rattle.std.proofs.Common.{IfOk, IsOk, All, flat_map}
use Rattle.ports.specs.declared.faults.NoMemory.{NoMemory}
use Rattle.link_check.specs.Checking.{AreChecked}
use Rattle.link_check.specs.Checking.Chain.{begun}
use Rattle.link_check.specs.Pieces.{answers_in}
use Rattle.link_check.specs.declared.checked.Checked.{Checked}
use Rattle.link_check.proofs.Lines.{of_joined}
use Rattle.link_check.proofs.all.check_all.Goals as goal

abbrev Piece : Type 0
Piece = Result (Vec Checked Global) NoMemory

pub returns : goal.returns
returns g c =
    let chain = begun c.args.state.now.issuer c.args.state.now.entries in
    let lines = c.as_slice.result.now in
    let size = c.max-size.result in
    let pieces = c.in_ok-pieces.pieces.items in
    let some : 0 < size = omega (arith, c.max-size.ensures) in
    let count : length pieces ≡ length lines / size + min 1 (length lines % size) =
    sym c.in_ok-pieces.pieces.ok.0 ∙ c.in_ok-pieces.ensures.len in
    let whole : IfOk c.joined.result (AreChecked chain lines) =
    of_joined chain lines size pieces c.joined.result some count
    (λ k d lt.
    let one = (c.in_ok-pieces.ensures.each k d lt).1 in
    subst (λ (xs : List (List ℕ)). IfOk (get_or pieces k d) (λ (answers : Vec Checked Global). AreChecked chain xs answers.items))
    one.argument_is.value one.call)
    (subst (λ (ps : List Piece). IfOk c.joined.result (λ answers. All (λ (p : Piece). IsOk p) ps)) c.deref.ensures.value
    c.joined.ensures.each)
    (subst (λ (ps : List Piece). IfOk c.joined.result (λ answers. answers ≡ flat_map answers_in ps)) c.deref.ensures.value
    c.joined.ensures.all) in
    subst (λ (xs : List (List ℕ)). IfOk c.joined.result (AreChecked chain xs)) c.as_slice.ensures whole
