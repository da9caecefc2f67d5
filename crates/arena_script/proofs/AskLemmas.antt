-- A copy that asks for one block, from what cloning promises.
use Rattle.std.proofs.Common.{◌≡◌, ℕ, refl, sym, subst, Some, None, List, [], ◌∷◌}
use Rattle.std.proofs.lemmas.Option.{none-some, same_Some}
use Rattle.arena_chunks.specs.Source.{View}
use Rattle.arena_chunks.specs.Answers.{Answer}
use Rattle.arena_chunks.specs.Answers.Answer.{Placed, Refused, Exhausted}
use Rattle.arena_chunks.specs.BlockCalls.{PlacesBlock}
use Rattle.arena_store.specs.declared.block.Block.{Block}
use Rattle.arena_items.specs.Asks.{Fresh, solid, Asked, TakesBlock, refusal}
use Rattle.arena_items.specs.Room.{SamePlaces}
use Rattle.arena_items.specs.declared.room.AllocError.{AllocError}
use Rattle.arena_items.specs.declared.room.AllocError.TheVariants.{AllocErr, OutOfMemory}
use Rattle.arena_items.proofs.Layers.{still}
use Rattle.arena_clone.specs.Asks.{AsksFor, Follows, Takes}

module _ (old new : View) (size align : ℕ) (blocks : List Block) where
  pub copy_taken : (b : Block) → blocks ≡ b ∷ []
      → Takes size align old new blocks None (λ between rest. AsksFor [] between new rest None)
      → TakesBlock (Fresh size align) None old new (solid b)
  copy_taken b only takes = (b, refl, by takes.answer takes.places takes.then)
    where
      by : (a : Answer) → PlacesBlock takes.start takes.between size align a
          → Follows a takes.between new blocks None (λ rest. AsksFor [] takes.between new rest None)
          → Asked (Fresh size align) old new (Placed b)
      by (Placed c) places (rest, is, (last, empties, same)) = record {
        start = takes.start;
        between = takes.between;
        written = takes.written;
        answers = let e : c ≡ b = cc in subst (λ x. PlacesBlock takes.start takes.between size align (Placed x)) e places;
        places = same;
      }
      by (Refused k) places (is, none, same) = absurd (none-some (AllocErr k) is)
      by Exhausted places (is, none, same) = absurd (none-some OutOfMemory is)

  pub copy_refused : (e : AllocError)
      → Takes size align old new blocks (Some e) (λ between rest. AsksFor [] between new rest (Some e))
      → Asked (Fresh size align) old new (refusal e)
  copy_refused e takes = by takes.answer takes.places takes.then
    where
      by : (a : Answer) → PlacesBlock takes.start takes.between size align a
          → Follows a takes.between new blocks (Some e) (λ rest. AsksFor [] takes.between new rest (Some e))
          → Asked (Fresh size align) old new (refusal e)
      by (Placed c) places (rest, is, (last, empties, same)) = absurd (none-some e (sym last))
      by (Refused k) places (is, none, same) = subst (λ x. Asked (Fresh size align) old new (refusal x)) (sym (same_Some e (AllocErr k) is))
          (record {
            start = takes.start;
            between = takes.between;
            written = takes.written;
            answers = places;
            places = subst (λ v. SamePlaces takes.between v) (sym same) (still takes.between);
          })
      by Exhausted places (is, none, same) = subst (λ x. Asked (Fresh size align) old new (refusal x)) (sym (same_Some e OutOfMemory is))
          (record {
            start = takes.start;
            between = takes.between;
            written = takes.written;
            answers = places;
            places = subst (λ v. SamePlaces takes.between v) (sym same) (still takes.between);
          })
