-- The keys of a map, and their texts.
use Rattle.std.proofs.Common.{◌≡◌, ℕ, suc, zero, ◌<◌, List, [], ◌∷◌, map, length, refl, ap, subst, arith, Some}
use Rattle.std.proofs.lemmas.Option.{none-some, same_Some}
use Rattle.std.specs.Prelude.{slice_get, slice_index_or, ◌↔◌}
use Rattle.std.specs.List.{Contains}
use Rattle.arena_chunks.specs.Memory.{Memory}
use Rattle.arena_store.specs.declared.block.Block.{Block}
use Rattle.hash_ring.proofs.Under.{under-in, in-under}
use Rattle.arena_table.specs.Contents.{Kind, content_in}
use Rattle.arena_hash.specs.Maps.{IsMapIn, map_in, pairs_in, texts_in}
use Rattle.arena_hash.specs.declared.map.HashMap.{HashMap}

-- each item of a mapped list is the image of an item of the list,
of-mapped : {X Y : Type 0} (f : X → Y) (xs : List X) (y : Y) (i : ℕ) → i < length (map f xs) → slice_index_or (map f xs) i y ≡ y
    → (x : X) × (slice_get xs i ≡ Some x) × (f x ≡ y)
of-mapped f [] y i less at = absurd (omega (arith, less))
of-mapped f (x ∷ xs) y zero less at = (x, refl, at)
of-mapped f (x ∷ xs) y (suc i) less at = of-mapped f xs y i (omega (arith, less)) at

-- and conversely
in-mapped : {X Y : Type 0} (f : X → Y) (xs : List X) (i : ℕ) (x : X) → slice_get xs i ≡ Some x → Contains (map f xs) (f x)
in-mapped f [] i x s = absurd (none-some x s)
in-mapped f (z ∷ xs) zero x s = (0, omega arith, ap f (same_Some z x s))
in-mapped f (z ∷ xs) (suc i) x s = let r = in-mapped f xs i x s in (suc r.0, omega (arith, r.1), r.2)

module _ {K V S : Type 0} (k : Kind K V S) (memory : Memory) (m : HashMap K V S) where
  -- A key is stored under its content.
  pub stands-under : (q : List ℕ) (p : K × V) → map_in k memory m q ≡ Some p → content_in k.key memory p.0 ≡ q
  stands-under q p there = (under-in (content_in k.key memory) (pairs_in k memory m) q p there).2

  -- The texts of a map are those of its keys.
  pub texts-are : (b : Block) → IsMapIn k memory m → Contains (texts_in k memory m) b
      ↔ ((q : List ℕ) × (p : K × V) × (map_in k memory m q ≡ Some p) × (k.key.text p.0 ≡ b))
  texts-are b held = (
    λ within.
        let r = of-mapped (λ p. k.key.text p.0) (pairs_in k memory m) b within.0 within.1 within.2 in (
          content_in k.key memory r.0.0,
          r.0,
          in-under (content_in k.key memory) (pairs_in k memory m) within.0 r.0 held.once r.1,
          r.2,
        ),
    λ stands.
        let at = under-in (content_in k.key memory) (pairs_in k memory m) stands.0 stands.1 stands.2 in
        subst (Contains (texts_in k memory m)) stands.3 (in-mapped (λ p. k.key.text p.0) (pairs_in k memory m) at.0 stands.1 at.1),
  )
