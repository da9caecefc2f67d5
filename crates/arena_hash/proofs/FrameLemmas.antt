-- What a call on other blocks leaves of a map: the map, and the places where searches of it end.
use Rattle.std.proofs.lemmas.Bool.Decides.{nat_tests}
use Rattle.std.proofs.Common.{arith, ◌≡◌, ℕ, List, Option, sym, subst}
use Rattle.arena_chunks.specs.Memory.{Memory}
use Rattle.arena_chunks.specs.Frame.{Frame, AreAllApart}
use Rattle.arena_store.specs.declared.block.Block.{Block}
use Rattle.arena_chunks.proofs.Layers.{frame_keeps_all}
use Rattle.arena_items.specs.Footprint.{Agree}
use Rattle.arena_items.proofs.Layers.{stays_readable, stays_agree, stays_apart}
use Rattle.hash_ring.specs.Searches.{IsSpotFor, Ends}
use Rattle.hash_ring.specs.Slots.{Has}
use Rattle.hash_ring.specs.Marks.{home_of}
use Rattle.hash_ring.specs.declared.marks.Spot.{Spot}
use Rattle.arena_table.specs.Contents.{Kind, content_in}
use Rattle.arena_table.specs.Tables.{pair_hash, slots_in}
use Rattle.arena_hash.specs.laws.AgreeLaws.{slots-same, homes-same, content-same, footprint-agree, meaning-agree, held-agree}
use Rattle.arena_hash.specs.Maps.{IsMapIn, IsLookIn, StaysMap, footprint}
use Rattle.arena_hash.specs.declared.map.HashMap.{HashMap}
use Rattle.arena_hash.specs.declared.map.Look.{Look}

-- A search ends at the same slot under other homes and contents that agree on the items in slots.
module _ {X : Type 0} (one other : X → ℕ) (n : ℕ) (slots : List (Option X)) (homes : (x : X) → Has slots x → other x ≡ one x) where
  spot-agree : (hash at mark : ℕ) → IsSpotFor one n slots hash at mark → IsSpotFor other n slots hash at mark
  spot-agree hash at mark s = grind (arith, nat_tests)

  ends-agree : (was is : X → List ℕ) → ((x : X) → Has slots x → is x ≡ was x) → (q : List ℕ) (hash : ℕ) (end : Spot)
      → Ends one n slots was q hash end → Ends other n slots is q hash end
  ends-agree was is same q hash end e = grind (arith, nat_tests, spot-agree)

module _ {K V S : Type 0} (k : Kind K V S) where
  abbrev home_by : Memory → HashMap K V S → K × V → ℕ
  home_by memory m p = home_of m.table.slots (pair_hash k memory m.hasher p)

  abbrev content : Memory → K × V → List ℕ
  content memory p = content_in k.key memory p.0

  look-agree : (a c : Memory) (m : HashMap K V S) → Agree a c (footprint k a m) → (q : List ℕ) (look : Look) → IsLookIn k a m q look
      → IsLookIn k c m q look
  look-agree a c m agree q look is = record {
    hash = is.hash;
    ends = subst (λ s. Ends (home_by c m) m.table.slots s (content c) q look.hash look.spot) (slots-same k a c m agree)
        (ends-agree (home_by a m) (home_by c m) m.table.slots (slots_in k.keys k.values a m.table) (homes-same k a c m agree) (content a)
        (content c) (content-same k a c m agree) q look.hash look.spot is.ends);
  }

  pub map_stays : {old new : Memory} {before after : List Block} (m : HashMap K V S) → Frame old new before after → IsMapIn k old m
      → AreAllApart (footprint k old m) before → StaysMap k old new after m
  map_stays {old = old} {new = new} {before = before} {after = after} m frame held apart =
      let blocks = footprint k old m in
      let stays = frame_keeps_all old new before after blocks frame (held.handle.place.readable, held.texts) apart in
      let agree = stays_agree old new after blocks stays in
      let same = footprint-agree k old new m agree in
      record {
        held = held-agree k old new m agree held (stays_readable old new after blocks stays);
        blocks = sym same;
        means = sym (meaning-agree k old new m agree);
        apart = subst (λ (bs : List Block). AreAllApart bs after) same (stays_apart old new after blocks stays);
        looks = look-agree old new m agree;
      }
