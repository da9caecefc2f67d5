-- What is visible of a source of chunks.
use Rattle.std.specs.Prelude.{◌≡◌, ℕ, ◌^◌, ◌<◌, Option, List}
use Rattle.arena_rules.specs.Causes.{counted, TellsRequests}

-- How often it has refused, up to the count's maximum 2 ^ 64 - 1; and all requests so far, as size and alignment, if it
-- reports them.
pub record Source : Type 0 where
  pub refusals : ℕ
  pub asked : Option (List (ℕ × ℕ))

-- These requests were made to it, and it refused k of them. After a refusal its count is below 2 ^ 64.
pub record IsAsked (before after : Source) (k : ℕ) (made : List (ℕ × ℕ)) : Type 0 where
  pub refusals : after.refusals ≡ counted before.refusals k
  pub bounded : 0 < k → after.refusals < 2 ^ 64
  pub requests : TellsRequests before.asked after.asked made
