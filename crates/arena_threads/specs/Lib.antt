pub use Rattle.arena_pool.specs.Kinds as PoolKinds
pub use Rattle.arena_pool.specs.Pool
pub use Rattle.arena_pool.specs.Names as PoolNames
pub use Rattle.arena_pool.specs.Lending
pub use Rattle.arena_pool.specs.Claiming
pub use Rattle.arena_pool.specs.Sharing
pub use Rattle.arena_pool.specs.GivingUp
pub use Rattle.arena_workers.specs.Working
pub use Rattle.arena_workers.specs.Starving
pub use Rattle.arena_workers.specs.Order
pub use Rattle.arena_pool.specs.declared.book.PoolErr as PoolErrType
pub use Rattle.arena_pool.specs.declared.kind.PoolKind as PoolKindType
pub use Rattle.arena_pool.specs.declared.claims.rule.ClaimView as ClaimViewType
pub use Rattle.arena_pool.specs.declared.owners.rule.OwnerView as OwnerViewType
