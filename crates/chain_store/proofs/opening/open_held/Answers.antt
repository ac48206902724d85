use Rattle.std.proofs.Common.{◌≡◌, List, ℕ, rules, sym, ap, subst, refl, None}
use Rattle.chain_disk.specs.OnDisk.{OnDisk, LeavesNow, LeavesOnly}
use Rattle.journal.specs.Journal.{end_of}
use Rattle.shop_core.specs.File.Files.{StandsFor}
use Rattle.chain_store.specs.Opening.{IsFound}
use Rattle.chain_store.specs.Ready.{IsReady}
use Rattle.chain_store.specs.declared.causes.OpenCause.TheVariants as cause
use Rattle.chain_store.proofs.Opens.{at_some, stays, holds_on}
use Rattle.chain_store.proofs.Readies.{ready_held}
use Rattle.chain_store.proofs.opening.open_held.Goals as goal

pub at-requires : goal.at-requires
at-requires g c tells =
    let h = c.requires.holds tells in
    at_some c.args.state.version c.args.state.issuer c.args.state.entries c.args.end _ h.0.0 h.0.1 h.1

pub returns-clause-every_crash : goal.returns-clause-every_crash
returns-clause-every_crash g c tells =
    let h = c.requires.holds tells in
    let s = c.args.state in
    let own : s.issuer ≡ c.args.issuer.now = search rules in
    let told = ap (λ d. g.D.Disk.on_disk d) c.at.ensures.parts.0 in
    subst (λ (t : OnDisk). LeavesNow t (StandsFor s.version c.args.issuer.now s.entries)) (sym told)
    (subst (λ (n : List ℕ). LeavesNow (g.D.Disk.on_disk c.args.disk) (StandsFor s.version n s.entries)) own
    (stays s.version s.issuer s.entries (g.D.Disk.on_disk c.args.disk) h.0.0 h.1))

pub returns-clause-any_moment : goal.returns-clause-any_moment
returns-clause-any_moment g c tells =
    let h = c.requires.holds tells in
    let s = c.args.state in
    let old = g.D.Disk.on_disk c.args.disk in
    let own : s.issuer ≡ c.args.issuer.now = search rules in
    let told = ap (λ d. g.D.Disk.on_disk d) c.at.ensures.parts.0 in
    subst (λ (t : OnDisk). LeavesOnly old t (IsFound c.args.created s.version c.args.issuer.now s.entries)) (sym told)
    (subst (λ (n : List ℕ). LeavesOnly old old (IsFound c.args.created s.version n s.entries)) own
    (holds_on c.args.created s.version s.issuer s.entries old h.0.0 h.1))

pub returns-then-ne-clause-other : goal.returns-then-ne-clause-other
returns-then-ne-clause-other g c =
    let apart : c.args.state.issuer ≡ c.args.issuer.now → ⊥ = search rules in
    (ap (λ (n : List ℕ). cause.OtherIssuer n) c.issuer.ensures, apart, refl)

pub returns-clause-ready : goal.returns-clause-ready
returns-clause-ready g c =
    let parts = c.at.ensures.parts in
    subst (λ (d : _). IsReady g.D.Disk.tells c.args.state None (end_of c.at.result) (g.D.Disk.on_disk d)) (sym parts.0)
    (subst (λ (n : ℕ). IsReady g.D.Disk.tells c.args.state None n (g.D.Disk.on_disk c.args.disk)) (sym parts.1)
    (ready_held g.D.Disk.tells c.args.state None c.args.end (g.D.Disk.on_disk c.args.disk) c.requires.near c.requires.holds))
