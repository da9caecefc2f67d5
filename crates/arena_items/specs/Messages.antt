-- What an error says.
use Rattle.std.specs.Prelude.{ℕ, List, codes}
use Rattle.arena_items.specs.declared.placing.ItemErr.{ItemErr}
use Rattle.arena_items.specs.declared.placing.ItemErr.TheVariants.{AllocErr, OutOfMemory, TooFew}
use Rattle.arena_items.specs.declared.room.AllocError.{AllocError}
use Rattle.arena_items.specs.declared.room.AllocError.TheVariants.{AllocErr as NoRoom, CapacityOverflow, OutOfMemory as NoMemory}

abbrev pub error_text : ItemErr → List ℕ
error_text (AllocErr refused) = codes "memory allocation failed"
error_text OutOfMemory = codes "out of memory"
error_text (TooFew taken) = codes "the iterator ended early"

abbrev pub room_text : AllocError → List ℕ
room_text (NoRoom refused) = codes "memory allocation failed"
room_text CapacityOverflow = codes "capacity overflow"
room_text NoMemory = codes "out of memory"
