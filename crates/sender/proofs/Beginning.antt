-- Where a session begins.
use Rattle.std.proofs.Common.{◌+◌, List, [], refl, sym, append-nil, length}
use Rattle.record_fields.specs.declared.records.Sealed.{Sealed}
use Rattle.shop_core.specs.History.{recs, noted}
use Rattle.once_world.specs.Agreement.{IsRun}
use Rattle.sender.specs.Dark.{IsRunBy}
use Rattle.sender.specs.Agreeing.{BeginsCareful, AgreedAreRuns, BeginsInSession, BeginsWithoutReply}
use Rattle.sender.proofs.Lists.{all_change}

pub begins_careful : BeginsCareful
begins_careful past seen legal runs = record {
  session = [];
  is = sym (append-nil past);
  never = tt;
  legal = legal;
  runs = runs;
  light = λ e. absurd cc;
}

pub agreed_runs : AgreedAreRuns
agreed_runs entries processed sent agree =
    all_change (λ (batch : List Sealed). IsRun (recs entries) batch (length processed) (length (noted entries) + 1000))
    (λ (batch : List Sealed). IsRunBy (recs entries) batch (length (noted entries) + 1000))
    (λ batch run. record { before = run.before; after = run.after; run = run.run; ends = run.ends }) sent agree.batches

pub begins_in_session : BeginsInSession
begins_in_session seen ledger agree = record { agree = agree; said_seen = tt }

pub begins_without_reply : BeginsWithoutReply
begins_without_reply past = record { session = []; is = sym (append-nil past); kept = refl }
