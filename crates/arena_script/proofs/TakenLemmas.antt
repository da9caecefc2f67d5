-- Copies that ask the arena for one block: what they cost.
use Rattle.std.proofs.Common.{IsPermutation, ◌≡◌, ℕ, ◌+◌, ◌-◌, ◌^◌, ◌≤◌, refl, sym, ap, ◌∙◌, subst, arith, IsTrue, Err, Some, None, List, [], ◌∷◌}
use Rattle.std.proofs.lemmas.Option.{none-some, same_Some}
use Rattle.std.proofs.lemmas.List.Elements.{recursion_from_All, All-from_recursion}
use Rattle.std.proofs.lemmas.List.Sorted.{All-permutation}
use Rattle.arena_rules.specs.Rounding.{is_layout}
use Rattle.arena_rules.specs.State.{State}
use Rattle.arena_chunks.specs.Source.{View}
use Rattle.arena_chunks.specs.Answers.{Answer}
use Rattle.arena_chunks.specs.Answers.Answer.{Placed, Exhausted, Refused}
use Rattle.arena_chunks.specs.BlockCalls.{PlacesBlock}
use Rattle.arena_store.specs.declared.block.Block.{Block}
use Rattle.arena_chunks.proofs.Layers.{placed_least}
use Rattle.arena_items.specs.Room.{RoomAnswer, SamePlaces}
use Rattle.arena_items.specs.declared.room.AllocError.{AllocError}
use Rattle.arena_items.specs.declared.room.AllocError.TheVariants.{AllocErr, OutOfMemory}
use Rattle.arena_items.proofs.Layers.{still}
use Rattle.arena_clone.specs.Asks.{Takes, Follows, AsksFor}
use Rattle.arena_script.specs.Acts.{used, far, CostsGiven, HasNoPlace}
use Rattle.arena_script.proofs.CostFacts.{IsRefused, same_used, costs_from, block_given, block_refused}

-- A list of one block is a permutation only of itself.
pub one_block : (b c : Block) → IsPermutation (b ∷ []) (c ∷ []) → c ≡ b
one_block b c same = let P : Block → Type 0 = λ x. x ≡ b in
    (recursion_from_All P (c ∷ []) (All-permutation P (b ∷ []) (c ∷ []) same (All-from_recursion P (b ∷ []) (refl, tt)))).0

same_as : (a b : View) → b ≡ a → SamePlaces a b
same_as a b same = subst (λ v. SamePlaces a v) (sym same) (still a)

module _ (old new : View) (size align : ℕ) (blocks : List Block) (cost : ℕ) (one : old.memory.state.min_align ≡ 1)
    (layout : IsTrue (is_layout size align)) (small : align ≤ 16) (bounded : size ≤ 2 ^ 60) where
  least_align : (start : View) → SamePlaces old start → start.memory.state.min_align ≡ 1
  least_align start written = ap (λ (s : State). s.min_align) written.state ∙ one

  -- The block that was placed.
  pub record IsTaken (after : ℕ) : Type 0 where
    pub block : Block
    pub is : blocks ≡ block ∷ []
    pub of_size : block.size ≡ size
    pub of_align : block.align ≡ align
    pub least : used old + size ≤ used new
    pub costs : CostsGiven cost 0 after old new

  pub taken : (after : ℕ) → size + (align - 1) + after ≤ cost + 0
      → Takes size align old new blocks None (λ between rest. AsksFor [] between new rest None) → IsTaken after
  taken after paid takes = by takes.answer takes.places takes.then
    where
      by : (a : Answer) → PlacesBlock takes.start takes.between size align a
          → Follows a takes.between new blocks None (λ rest. AsksFor [] takes.between new rest None) → IsTaken after
      by (Placed b) places (rest, is, (last, empties, same)) = record {
        block = b;
        is = is ∙ ap (λ (bs : List Block). b ∷ bs) empties;
        of_size = places.1.outcome.of_layout.of_size;
        of_align = places.1.outcome.of_layout.of_align;
        least = omega (
          arith,
          same_used old takes.start takes.written,
          same_used takes.between new same,
          placed_least takes.start takes.between size align b layout places,
          places.1.outcome.of_layout.of_size,
        );
        costs = costs_from far cost 0 after old takes.start new _ takes.written
            (block_given takes.start takes.between new size align cost 0 after (least_align takes.start takes.written) layout small
            bounded paid same b places);
      }
      by (Refused k) places (is, none, same) = absurd (none-some (AllocErr k) is)
      by Exhausted places (is, none, same) = absurd (none-some OutOfMemory is)

  pub not_taken : (e : AllocError) → size + (align - 1) ≤ cost + 0
      → Takes size align old new blocks (Some e) (λ between rest. AsksFor [] between new rest (Some e)) → IsRefused cost 0 old new e
  not_taken e paid takes = by takes.answer takes.places takes.then
    where
      refused : (f : AllocError) → RoomAnswer (λ (b : Block). b) (Err f) (PlacesBlock takes.start takes.between size align)
          → new ≡ takes.between → Some e ≡ Some f → IsRefused cost 0 old new e
      refused f places same is =
          let why = block_refused takes.start takes.between new size align cost 0 0 (least_align takes.start takes.written) layout small
          bounded (omega (arith, paid)) (same_as takes.between new same) (λ (b : Block). b) f places in
          subst (λ x. IsRefused cost 0 old new x) (sym (same_Some e f is)) (record {
            fits = why.fits;
            costs = costs_from far cost 0 0 old takes.start new _ takes.written why.costs;
            denied = λ k is. subst (λ n. HasNoPlace (n + (cost + 0)) new) (same_used old takes.start takes.written) (why.denied k is);
            same = why.same ∙ takes.written.state;
          })

      by : (a : Answer) → PlacesBlock takes.start takes.between size align a
          → Follows a takes.between new blocks (Some e) (λ rest. AsksFor [] takes.between new rest (Some e)) → IsRefused cost 0 old new e
      by (Placed b) places (rest, is, (last, empties, same)) = absurd (none-some e (sym last))
      by (Refused k) places (is, none, same) = refused (AllocErr k) places same is
      by Exhausted places (is, none, same) = refused OutOfMemory places same is
