-- An ask as definitions see it, and what every ask keeps.
use Rattle.std.specs.Prelude.{ℕ, IsTrue}
use Rattle.std.specs.Int.{IsInRange}
use Rattle.record_fields.specs.Valid.{IsDraft}
use Rattle.record_codec.specs.declared.entry.TheConstants.{LAST_TILL}
use Rattle.series.specs.Numbers.{is_series, is_num_serie}
use Rattle.shop_core.specs.declared.answer.requests.Request.{Request}
use Rattle.shop_core.specs.declared.answer.requests.Request.TheVariants.{Sale, Fix, Cancel}

-- a till, its serial, and what it asks for
pub record Asked : Type 0 where
  pub till : ℕ
  pub serial : ℕ
  pub request : Request

-- the names, numbers and drafts of a request are of their forms
abbrev pub IsRequest : Request → Type 0
IsRequest (Sale series draft) = IsTrue (is_series series) × IsDraft draft
IsRequest (Fix num draft) = IsTrue (is_num_serie num) × IsDraft draft
IsRequest (Cancel num) = IsTrue (is_num_serie num)

-- tills are numbered from 1 to LAST_TILL, their serials from 1
pub record IsAsked (ask : Asked) : Type 0 where
  pub till : IsInRange 1 LAST_TILL ask.till
  pub serial : IsInRange 1 4_294_967_295 ask.serial
  pub request : IsRequest ask.request
