use Rattle.std.proofs.Common.{◌≡◌}
use Rattle.arena_chunks.proofs.TextLemmas.{HasTexts}
use Rattle.arena_chunks.proofs.allocator.Allocator.write_strings.Given as goal

abbrev pub invariant-loop-s : goal.invariant-loop-s
invariant-loop-s g l = HasTexts g.T.AsStr.text l.fn.strings l.s-index l.fn.self.memory l.self.memory l.block l.at
    × (l.self.source ≡ l.fn.self.source)
