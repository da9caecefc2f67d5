use Rattle.std.proofs.Common.{◌≡◌, ◌*◌, length}
use Rattle.arena_bits.specs.Edits.{JoinsWords}
use Rattle.arena_bits.specs.Walks.{words_in}
use Rattle.arena_bits.proofs.edits.JoinRowEdit.edit.Given as goal

abbrev pub invariant-words : goal.invariant-words
invariant-words g l = (length l.place ≡ g.row.N * 8) × JoinsWords 0 l.i (words_in l.fn.place) l.self.row (words_in l.place)
