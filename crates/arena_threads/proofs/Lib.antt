pub use Rattle.arena_pool.proofs.Layers as PoolLayers
