-- Copies of text builders: room is made for exactly the bytes, and then they are copied.
use Rattle.std.proofs.lemmas.Bool.Decides.{nat_tests}
use Rattle.std.proofs.Common.{◌≡◌, ap, sym, refl, ◌∙◌, arith, List, [], ◌∷◌, take, Ok, Err, IsTrue}
use Rattle.std.specs.Prelude.{Result}
use Rattle.std.proofs.lemmas.List.{take_all}
use Rattle.std.proofs.lemmas.List.Sorted.{IsPermutation-refl}
use Rattle.arena_chunks.specs.Memory.{Memory, image, bytes_from, is_readable}
use Rattle.arena_chunks.specs.Source.{View}
use Rattle.arena_chunks.specs.BlockCalls.{WritesBlock}
use Rattle.arena_store.specs.declared.block.Block.{Block}
use Rattle.arena_chunks.proofs.Layers.{frame_then, frame_reflexive, length-bytes, take_bytes, wrote_whole}
use Rattle.arena_items.specs.declared.room.AllocError.{AllocError}
use Rattle.arena_items.proofs.Layers.{written_held, wrote_same}
use Rattle.arena_text.specs.Builders.{IsBuilderIn}
use Rattle.arena_text.specs.Changes.{Makes}
use Rattle.arena_text.specs.declared.text.StringBuilder.{StringBuilder}
use Rattle.arena_clone.specs.Asks.{AsksFor, refusal}
use Rattle.arena_clone.specs.Kinds.{builder, text_ask}
use Rattle.arena_clone.specs.Copies.{Copies}
use Rattle.arena_clone.specs.Origins.{IsKept, IsOrigin}
use Rattle.arena_kinds.specs.declared.ids.CloneInSemanticIds.{CloneInSemanticIds}
use Rattle.arena_kinds.proofs.Layers.{block_of, asked_same}
use Rattle.arena_clone.proofs.VectorLemmas.{made_asked}

room_asked : {old mid : View} (t : StringBuilder) (result : Result StringBuilder AllocError) → Makes old mid t.len [] result
    → AsksFor (text_ask t.len ∷ []) old mid (block_of (λ (u : StringBuilder). u.block) result) (refusal result)
room_asked {old} {mid} t result makes = grind (arith, nat_tests, made_asked)

-- The room is refused,
pub builder_refused : (ids : CloneInSemanticIds) (source : Memory) (t : StringBuilder) {old new : View} {e : AllocError}
    → Makes old new t.len [] (Err e) → Copies builder ids source old new t (Err e)
builder_refused ids source t {old} {new} {e} makes = record {
  blocks = [];
  placed = record { asked = room_asked t (Err e) makes; apart = tt; frame = rw makes.err (frame_reflexive old.memory []) };
  made = tt;
}

module _ {there : Memory → Memory} {is_beside : Block → List Block → Type 0} (origin : IsOrigin there is_beside)
    (ids : CloneInSemanticIds) {old mid : View} (t : StringBuilder) {made : StringBuilder} (makes : Makes old mid t.len [] (Ok made))
    (held : IsBuilderIn (there old.memory) t) where
  -- or it is placed, and the bytes stay,
  block_kept : IsKept (there old.memory) (there mid.memory) (is_beside t.block (made.block ∷ [])) t.block
  block_kept =
      origin.kept old.memory mid.memory [] (made.block ∷ []) t.block makes.frame held.place.readable (origin.none t.block)

  pub source_readable : IsTrue (is_readable (there mid.memory).state t.block)
  source_readable = block_kept.readable

  -- and are written into it.
  pub builder_made : {new : View}
      → WritesBlock mid.memory new.memory made.block 0 (bytes_from (image (there mid.memory)) t.block.addr t.len)
      → new.source ≡ mid.source → Copies builder ids (there old.memory) old new t (Ok (record made { len = made.cap }))
  builder_made {new} writes kept =
      let list = bytes_from (image (there mid.memory)) t.block.addr t.len in
      let long = length-bytes (image (there mid.memory)) t.block.addr t.len in
      let place = written_held _ _ _ _ _ _ _ _ writes makes.held.place in
      let size : made.block.size ≡ t.len = makes.held.place.of_size ∙ makes.cap in
      let front = take_bytes (image (there mid.memory)) t.block.addr t.block.size t.len
      (omega (arith, held.within, held.place.of_size)) in
      record {
        blocks = made.block ∷ [];
        placed = record {
          asked = asked_same (text_ask t.len ∷ []) old _ _ (made.block ∷ []) (room_asked t _ makes) (wrote_same mid new _ _ _ writes kept);
          apart = (tt, tt);
          frame = frame_then _ _ _ _ _ _ makes.frame writes.frame;
        };
        made = record {
          held = record { place = place; within = omega arith };
          means = ap (take made.cap) (wrote_whole _ _ _ _ writes (long ∙ sym size))
              ∙ take_all made.cap list (omega (arith, long, makes.cap)) ∙ sym front ∙ ap (take t.len) (sym block_kept.bytes);
          trim = refl;
          deep = IsPermutation-refl (made.block ∷ []);
        };
      }
