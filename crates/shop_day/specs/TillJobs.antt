-- The tills of a day as jobs, and the room for their answers.
use Rattle.std.specs.Prelude.{◌≡◌, ◌≤◌, ℕ, List, [], length, map, vec_capacity}
use Rattle.chain_lock.specs.Known.{Known}
use Rattle.shop_core.specs.Answer.Requests.{Asked}
use Rattle.shop_core.specs.declared.items.Item.{Item}
use Rattle.till_calls.specs.Root.{Root}
use Rattle.till_calls.specs.Shop.{till_knows, till_number}
use Rattle.sender_beside.specs.Days.{TillReplies}
use Rattle.sender_beside.specs.Tills.{asks_of}
use Rattle.shop_day.specs.declared.tills.TillJob.{TillJob}
use Rattle.shop_day.specs.declared.tills.TillDay.{TillDay}

-- what a till was told
abbrev pub told_in : TillDay → TillReplies
told_in day = record { till = day.till; replies = day.answers.items; saw = day.saw }

-- there is room for the answers to its asks, and none stands there yet
abbrev pub HasRoom : List Asked → TillDay → Type 0
HasRoom asks day = (length (asks_of day.till asks) ≤ vec_capacity day.answers) × (day.answers.items ≡ [])

-- the numbers of these tills
abbrev pub tills_in : List TillDay → List ℕ
tills_in days = map (λ (d : TillDay). d.till) days

-- a job as the day of its till
abbrev pub day_of : {D C : Type 0} → TillJob D C → TillDay
day_of job = record { till = till_number job.till; answers = job.answers; saw = job.saw }

-- what its till knows
abbrev pub job_knows : {D C : Type 0} → TillJob D C → Known Item (Root C)
job_knows job = till_knows job.till
