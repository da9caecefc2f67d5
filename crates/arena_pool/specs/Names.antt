-- Names of pools.
use Rattle.std.specs.Prelude.{◌≡◌, ℕ}
use Rattle.std.specs.declared.sync.ledger.Blank.{Blank}
use Rattle.arena_pool.specs.Pool.{most_lent}

-- A blank that becomes the ledger of this name, with a part for each arena that can be lent.
pub record IsBlankOf (name parts : ℕ) (blank : Blank) : Type 0 where
  pub named : blank.name ≡ name
  pub cut : blank.parts ≡ parts
  pub most : parts ≡ most_lent
