-- A table that is read while another is filled.
use Rattle.std.proofs.lemmas.Bool.Decides.{nat_tests}
use Rattle.std.proofs.Common.{arith, ◌≡◌, [], ◌∷◌, ap}
use Rattle.arena_items.specs.Values.{bytes_of}
use Rattle.arena_chunks.specs.Memory.{Memory}
use Rattle.arena_chunks.specs.Frame.{Frame, Stays}
use Rattle.arena_store.specs.declared.block.Block.{Block}
use Rattle.arena_chunks.proofs.Layers.{frame_keeps}
use Rattle.arena_table.specs.Contents.{Kind}
use Rattle.arena_table.specs.Tables.{slots_of, slots_in, IsReadBeside, IsTableIn}
use Rattle.arena_table.specs.declared.table.Table.{Table}

module _ {K V S : Type 0} (k : Kind K V S) (old new : Memory) (block : Block) (t : Table K V) where
  -- It is unchanged while the block is written.
  module _ (frame : Frame old new (block ∷ []) (block ∷ [])) (beside : IsReadBeside k old block t) where
    own : Stays old new (block ∷ []) t.block
    own = frame_keeps old new (block ∷ []) (block ∷ []) t.block frame beside.handle.place.readable (beside.apart, tt)

    pub read-bytes : bytes_of new t.block ≡ bytes_of old t.block
    read-bytes = own.bytes

    read-same : slots_in k.keys k.values new t ≡ slots_in k.keys k.values old t
    read-same = ap (slots_of k.keys k.values t.slots) own.bytes

    pub read-stays : IsReadBeside k new block t
    read-stays = grind (arith, nat_tests, own, read-same, frame_keeps)

  -- A block that was placed is apart from all that could be read.
  module _ (hasher : S) (frame : Frame old new [] (block ∷ [])) (held : IsTableIn k old hasher t) where
    kept : Stays old new (block ∷ []) t.block
    kept = frame_keeps old new [] (block ∷ []) t.block frame held.handle.place.readable tt

    pub placed-same : slots_in k.keys k.values new t ≡ slots_in k.keys k.values old t
    placed-same = ap (slots_of k.keys k.values t.slots) kept.bytes

    pub placed-beside : IsReadBeside k new block t
    placed-beside = grind (arith, nat_tests, kept, frame_keeps)
