use Rattle.std.proofs.Common.{All, take, []}
use Rattle.chain_store.specs.Taking.{Along}
use Rattle.issuers.proofs.office.all_begin.Given as goal

abbrev pub invariant-loop-store : goal.invariant-loop-store
invariant-loop-store g l = All (λ store. Along g.D.Disk g.C.Clock store store [] []) (take l.store-index l.stores)
