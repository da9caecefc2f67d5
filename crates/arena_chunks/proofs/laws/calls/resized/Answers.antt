use Rattle.arena_chunks.proofs.Layers.{resizes_written, shrunk_placed}
use Rattle.arena_chunks.proofs.laws.calls.resized.Goals as goal

pub returns-clause-written : goal.returns-clause-written
returns-clause-written c way old mid new block b size align at list =
    resizes_written way old.memory mid.memory new old.source mid.source block size align b at list

pub returns-clause-shrunk : goal.returns-clause-shrunk
returns-clause-shrunk c = shrunk_placed
