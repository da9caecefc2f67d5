-- The lemmas that a layer above cites: numbers of texts, values in scopes, blocks apart in the other direction, and
-- what a call on an interner leaves of a table in the same arena, and the reverse.
pub use Rattle.arena_symbols.proofs.NumberLemmas.{number_push, number_there}
pub use Rattle.arena_symbols.proofs.ScopeLemmas.{value_push, lookup_put}
pub use Rattle.arena_symbols.proofs.InternLemmas.{InternerStays, interner_beside}
pub use Rattle.arena_symbols.proofs.NamedLemmas.{all_turned, scopes_moved, texts_moved, moves_then}
