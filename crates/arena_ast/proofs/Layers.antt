-- The lemmas that crates above cite: values that calls move, source's counts, and indices below a length.
pub use Rattle.arena_ast.proofs.MoveLemmas.{stays, new_then, moves_then, others_stay, below_more, below_pushed}
pub use Rattle.arena_ast.proofs.MoveLemmas.{moved_none, moved_then, built_then, built_others}
pub use Rattle.arena_ast.proofs.AstLemmas.{list_length, error_kept}
pub use Rattle.arena_ast.proofs.CountLemmas.{same_count, counts_then}
