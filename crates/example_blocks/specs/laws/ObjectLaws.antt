-- An object means the same wherever its blocks have the same bytes.
use Rattle.std.proofs.Common.{◌≡◌, ℕ, inl, inr}
use Rattle.arena_chunks.specs.Memory.{Memory}
use Rattle.arena_items.specs.declared.item.Item.{Ghosts}
use Rattle.arena_items.specs.Footprint.{AreReadable, Agree}
use Rattle.arena_items.specs.laws.FootprintLaws.{held_readable, held_again}
use Rattle.arena_items.specs.Values.{elements}
use Rattle.example_blocks.specs.declared.objects.Object.{Object}
use Rattle.example_blocks.specs.declared.objects.Object.TheVariants.{Number, Titled}
use Rattle.example_blocks.specs.Objects.{blocks, is_object, meaning}

module _ (number : Ghosts ℕ) where
  pub object_readable : (m : Memory) (v : Object) → is_object number m v → AreReadable m.state (blocks v)
  object_readable m (Number of) held = held_readable _ _ m.state of.block held
  object_readable m (Titled title of) held = (held.0, held_readable _ _ m.state of.block held.1)

  pub object_meaning : (a c : Memory) (v : Object) → Agree a c (blocks v) → meaning number a v ≡ meaning number c v
  object_meaning a c (Number of) agree = λ i. inl (number.decoded (agree.0 i))
  object_meaning a c (Titled title of) agree = λ i. inr (agree.0 i, elements number.SIZE number.decoded of.length (agree.1.0 i))

  pub object_again : (a c : Memory) (v : Object) → is_object number a v → AreReadable c.state (blocks v) → is_object number c v
  object_again a c (Number of) held readable = held_again _ _ a.state c.state of.block held readable.0
  object_again a c (Titled title of) held readable =
      (readable.0, held_again _ _ a.state c.state of.block held.1 readable.1.0)
