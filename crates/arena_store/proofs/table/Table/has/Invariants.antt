use Rattle.std.proofs.Common.{◌≡◌, false}
use Rattle.std.specs.List.{list_any}
use Rattle.arena_rules.specs.State.{is_used_by}
use Rattle.arena_store.specs.Stored.{stored_chunk, oldest}
use Rattle.arena_store.proofs.table.Table.has.Given as goal

-- none of those before has it
abbrev pub invariant-loop-i : goal.invariant-loop-i
invariant-loop-i l = list_any (λ c. is_used_by l.block.addr l.block.size (stored_chunk c)) (oldest l.i l.self.items) ≡ false
