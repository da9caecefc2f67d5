pub use Rattle.arena_chunks.proofs.Layers as BlockLayers
pub use Rattle.arena_items.proofs.Layers as ItemLayers
pub use Rattle.arena_vec.proofs.Layers as VecLayers
pub use Rattle.arena_hash.proofs.Layers as MapLayers
pub use Rattle.arena_clone.proofs.Layers as CopyLayers
pub use Rattle.arena_symbols.proofs.Layers as SymbolLayers
pub use Rattle.arena_ast.proofs.Layers as AstLayers
