-- A new block with the bytes of another, and values of such blocks.
use Rattle.std.proofs.lemmas.Bool.Decides.{nat_tests}
use Rattle.std.proofs.Common.{arith, ◌≡◌, ℕ, ◌≤◌, ap, sym, ◌∙◌, List, [], ◌∷◌, length, IsTrue}
use Rattle.arena_chunks.specs.Memory.{Memory, image, bytes_from, is_readable}
use Rattle.arena_chunks.specs.Source.{View}
use Rattle.arena_chunks.specs.Answers.Answer.{Placed}
use Rattle.arena_chunks.specs.BlockCalls.{PlacesBlock, WritesBlock}
use Rattle.arena_store.specs.declared.block.Block.{Block}
use Rattle.arena_chunks.proofs.Layers.{length-bytes, places_written, wrote_whole}
use Rattle.arena_items.specs.Values.{bytes_of}
use Rattle.arena_items.proofs.Layers.{front_readable}
use Rattle.arena_clone.specs.Origins.{IsOrigin}

module _ (old mid new : View) (size align : ℕ) (b : Block) (list : List ℕ) (places : PlacesBlock old mid size align (Placed b))
    (writes : WritesBlock mid.memory new.memory b 0 list) where
  -- Placing a block and then writing it is placing it.
  pub copied_placed : new.source ≡ mid.source → PlacesBlock old new size align (Placed b)
  copied_placed source = grind (arith, nat_tests, places_written)

  -- It has the bytes that were written,
  pub written_bytes : length list ≡ size → bytes_of new.memory b ≡ list
  written_bytes sized = wrote_whole mid.memory new.memory b list writes (sized ∙ sym places.1.outcome.of_layout.of_size)

  pub copied_bytes : (f : ℕ → ℕ) (addr : ℕ) → list ≡ bytes_from f addr size → bytes_of new.memory b ≡ bytes_from f addr size
  copied_bytes f addr same = written_bytes (ap length same ∙ length-bytes f addr size) ∙ same

-- which are those of a block that was there before.
module _ {there : Memory → Memory} {is_beside : Block → List Block → Type 0} (origin : IsOrigin there is_beside) (old mid : View)
    (size align : ℕ) (b source : Block) (places : PlacesBlock old mid size align (Placed b))
    (readable : IsTrue (is_readable (there old.memory).state source)) where
  pub source_kept : IsTrue (is_readable (there mid.memory).state source)
  source_kept =
      (origin.kept old.memory mid.memory [] (b ∷ []) source places.1.outcome.frame readable (origin.none source)).readable

  pub front_kept : (n : ℕ) → n ≤ source.size
      → bytes_from (image (there mid.memory)) source.addr n ≡ bytes_from (image (there old.memory)) source.addr n
  front_kept n enough =
      let front = record source { size = n } in
      sym (origin.kept old.memory mid.memory [] (b ∷ []) front places.1.outcome.frame
      (front_readable (there old.memory).state source n readable enough) (origin.none front)).bytes
