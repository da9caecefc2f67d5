-- A thing depends on the bytes of its blocks alone.
use Rattle.std.specs.Prelude.{◌≡◌, ℕ, refl, List, take, length}
use Rattle.std.specs.Int.{w32, w64, from_le_bytes}
use Rattle.std.proofs.Common.{ap, ◌∙◌}
use Rattle.arena_chunks.specs.Memory.{Memory}
use Rattle.arena_items.specs.Footprint.{AreReadable, Agree}
use Rattle.arena_items.specs.laws.FootprintLaws.{held_readable, held_again}
use Rattle.arena_items.specs.Values.{elements}
use Rattle.arena_bits.specs.Bits.{bits_of}
use Rattle.arena_hash.specs.laws.AgreeLaws.{footprint-agree, meaning-agree, held-agree}
use Rattle.arena_hash.specs.Finite.{Finite}
use Rattle.script_rules.specs.Objects.{bits_end, AList, AText, ASet, AMap, AValue}
use Rattle.arena_script.specs.Kinds.{pairs}
use Rattle.arena_script.specs.Things.{IsThingIn, bits_below, pairs_of, object_in, blocks_in}
use Rattle.arena_script.specs.declared.thing.Thing.{Thing}
use Rattle.arena_script.specs.declared.thing.Thing.TheVariants as thing

pub thing_readable : (m : Memory) (t : Thing) → IsThingIn m t → AreReadable m.state (blocks_in m t)
thing_readable m (thing.List v) held = held_readable _ 4 m.state v.raw.block held.place
thing_readable m (thing.Text t) held = held_readable t.cap 1 m.state t.block held.held.place
thing_readable m (thing.Bits s) held = held_readable _ 8 m.state s.words.block held.held.place
thing_readable m (thing.Map h) held = (held.held.handle.place.readable, held.held.texts)
thing_readable m (thing.Value b) held = held_readable 8 8 m.state b.block held

pub same_blocks : (a c : Memory) (t : Thing) → Agree a c (blocks_in a t) → blocks_in a t ≡ blocks_in c t
same_blocks a c (thing.List v) agree = refl
same_blocks a c (thing.Text t) agree = refl
same_blocks a c (thing.Bits s) agree = refl
same_blocks a c (thing.Map h) agree = footprint-agree pairs a c h agree
same_blocks a c (thing.Value b) agree = refl

pub same_object : (a c : Memory) (t : Thing) → Agree a c (blocks_in a t) → object_in a t ≡ object_in c t
same_object a c (thing.List v) agree = ap (λ bs. AList (elements 4 (from_le_bytes w32) v.raw.len bs)) agree.0
same_object a c (thing.Text t) agree = ap (λ (bs : List ℕ). AText (take t.len bs)) agree.0
same_object a c (thing.Bits s) agree =
    ap (λ bs. ASet s.capacity (bits_below (bits_end s.capacity) (bits_of (elements 8 (from_le_bytes w64) s.words.length bs)))) agree.0
same_object a c (thing.Map h) agree = ap (λ (is : Finite ℕ ℕ). AMap (pairs_of is)) (meaning-agree pairs a c h agree)
same_object a c (thing.Value b) agree = ap (λ bs. AValue (from_le_bytes w64 bs)) agree.0

pub thing_again : (a c : Memory) (t : Thing) → IsThingIn a t → Agree a c (blocks_in a t) → AreReadable c.state (blocks_in a t)
    → IsThingIn c t
thing_again a c (thing.List v) held agree readable = record {
  place = held_again _ 4 a.state c.state v.raw.block held.place readable.0;
  within = held.within;
  no_bytes = held.no_bytes;
}
thing_again a c (thing.Text t) held agree readable = record {
  held = record { place = held_again t.cap 1 a.state c.state t.block held.held.place readable.0; within = held.held.within };
  room = held.room;
}
thing_again a c (thing.Bits s) held agree readable = record {
  held = record { place = held_again _ 8 a.state c.state s.words.block held.held.place readable.0; count = held.held.count };
  small = held.small;
}
thing_again a c (thing.Map h) held agree readable = record {
  held = held-agree pairs a c h agree held.held readable;
  count = held.count ∙ ap (λ (is : Finite ℕ ℕ). length (pairs_of is)) (meaning-agree pairs a c h agree);
}
thing_again a c (thing.Value b) held agree readable = held_again 8 8 a.state c.state b.block held readable.0
