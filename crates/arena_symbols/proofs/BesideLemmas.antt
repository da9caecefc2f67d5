-- What a call on other blocks leaves of maps, of vectors and of texts.
use Rattle.std.proofs.lemmas.Bool.Decides.{nat_tests}
use Rattle.std.proofs.Common.{arith, ◌≡◌, ℕ, List, [], ◌∷◌, map, sym, refl}
use Rattle.arena_chunks.specs.Memory.{Memory}
use Rattle.arena_chunks.specs.Frame.{Frame, IsApart, AreAllApart}
use Rattle.arena_store.specs.declared.block.Block.{Block}
use Rattle.arena_chunks.specs.declared.allocator.text.Str.{Str}
use Rattle.arena_chunks.proofs.Layers.{apart_empty, frame_keeps, frame_keeps_all}
use Rattle.arena_items.specs.Footprint.{AreReadable}
use Rattle.arena_items.specs.declared.item.Item.{Ghosts}
use Rattle.arena_items.proofs.Layers.{stays_readable, stays_agree, stays_apart}
use Rattle.arena_vec.specs.Vecs.{IsVecIn, vec_list}
use Rattle.arena_vec.specs.declared.vec.Vec.{Vec}
use Rattle.arena_hash.specs.Maps.{IsMapIn, StaysMap, pairs_in, footprint}
use Rattle.hash_ring.specs.declared.hasher.FxHasher.{FxHasher}
use Rattle.arena_hash.specs.declared.map.HashMap.{HashMap}
use Rattle.arena_hash.proofs.Layers.{map_stays}
use Rattle.arena_symbols.specs.laws.NameLaws.{contents_agree}
use Rattle.arena_symbols.specs.Names.{blocks_of, contents_of}
use Rattle.arena_symbols.specs.Tables.{id_kind}

-- A vector is held, with its list,
pub record VecStays {T : Type 0} (old new : Memory) (after : List Block) (item : Ghosts T) (v : Vec T) : Type 0 where
  pub held : IsVecIn item new v
  pub list_is : vec_list item new v ≡ vec_list item old v
  pub apart : IsApart v.raw.block.addr v.raw.block.size after

-- and texts are readable, with their contents.
pub record TextsStay (old new : Memory) (after : List Block) (list : List Str) : Type 0 where
  pub readable : AreReadable new.state (blocks_of list)
  pub contents : contents_of new list ≡ contents_of old list
  pub apart : AreAllApart (blocks_of list) after

-- The footprint of a map of numbers is apart if its table is: its keys have no texts.
pub plain_apart : (memory : Memory) (m : HashMap ℕ ℕ FxHasher) (others : List Block) → IsApart m.table.block.addr m.table.block.size others
    → AreAllApart (footprint id_kind memory m) others
plain_apart memory m others apart = (apart, go (pairs_in id_kind memory m))
  where
    go : (ps : List (ℕ × ℕ)) → AreAllApart (map (λ (p : ℕ × ℕ). id_kind.key.text p.0) ps) others
    go [] = tt
    go (p ∷ ps) = (apart_empty 1 0 others refl, go ps)

module _ {old new : Memory} {before after : List Block} (frame : Frame old new before after) where
  pub plain_beside : (m : HashMap ℕ ℕ FxHasher) → IsMapIn id_kind old m → IsApart m.table.block.addr m.table.block.size before
      → StaysMap id_kind old new after m
  plain_beside m held apart = map_stays id_kind m frame held (plain_apart old m before apart)

  pub vec_beside : {T : Type 0} (item : Ghosts T) (v : Vec T) → IsVecIn item old v → IsApart v.raw.block.addr v.raw.block.size before
      → VecStays old new after item v
  vec_beside item v held apart = grind (arith, nat_tests, frame_keeps)

  pub texts_beside : (list : List Str) → AreReadable old.state (blocks_of list) → AreAllApart (blocks_of list) before
      → TextsStay old new after list
  texts_beside list readable apart =
      let stays = frame_keeps_all old new before after (blocks_of list) frame readable apart in
      let same = contents_agree old new list (stays_agree old new after (blocks_of list) stays) in
      record { readable = stays_readable _ _ _ _ stays; contents = sym same; apart = stays_apart _ _ _ _ stays }
