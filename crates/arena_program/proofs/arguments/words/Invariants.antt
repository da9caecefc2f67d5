use Rattle.std.proofs.Common.{◌≡◌, ◌++◌, map}
use Rattle.std.specs.Prelude.{string_bytes}
use Rattle.std.specs.Vec.Iter.{into_iter_items, into_iter_len}
use Rattle.arena_program.specs.Program.{words_of}
use Rattle.arena_program.proofs.arguments.words.Given as goal

abbrev pub invariant-words : goal.invariant-words
invariant-words l = l.words.items ++ map string_bytes (into_iter_items l.left) ≡ words_of l.fn.args

abbrev pub decreases-words : goal.decreases-words
decreases-words l = into_iter_len l.left
