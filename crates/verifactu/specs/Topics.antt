-- The commands by their names.
use Rattle.std.specs.Prelude.{◌≡◌, ℕ, List, codes, Option, Some, None}
use Rattle.verifactu.specs.declared.topics.Topic.{Topic}
use Rattle.verifactu.specs.declared.topics.Topic.TheVariants.{Chain, Day, Serve, Drain, Audit, Link, Listing, Check, Statement}
use Rattle.verifactu.specs.declared.topics.Topic.TheVariants.{Export, Matches, Migrate, Follow, Guard, Many, Generate}

abbrev pub topic_name : Topic → List ℕ
topic_name Chain = codes "chain"
topic_name Day = codes "day"
topic_name Serve = codes "serve"
topic_name Drain = codes "drain"
topic_name Audit = codes "audit"
topic_name Link = codes "link"
topic_name Listing = codes "list"
topic_name Check = codes "check"
topic_name Statement = codes "statement"
topic_name Export = codes "export"
topic_name Matches = codes "matches"
topic_name Migrate = codes "migrate"
topic_name Follow = codes "follow"
topic_name Guard = codes "guard"
topic_name Many = codes "many"
topic_name Generate = codes "generate"

-- the command that a word names; none where it names none
abbrev pub IsTopic : List ℕ → Option Topic → Type 0
IsTopic word None = (topic : Topic) → word ≡ topic_name topic → ⊥
IsTopic word (Some topic) = word ≡ topic_name topic
