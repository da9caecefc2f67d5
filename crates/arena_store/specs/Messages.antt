-- The text of an error.
use Rattle.std.specs.Prelude.{ℕ, List, codes}
use Rattle.arena_store.specs.declared.block.ArenaErr.{ArenaErr}
use Rattle.arena_store.specs.declared.block.ArenaErr.TheVariants.{AllocErr, OutOfMemory}

abbrev pub error_text : ArenaErr → List ℕ
error_text (AllocErr refused) = codes "memory allocation failed"
error_text OutOfMemory = codes "out of memory"
