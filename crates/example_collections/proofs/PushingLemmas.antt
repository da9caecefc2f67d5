-- The bytes for which calls that append a value together ask.
use Rattle.std.proofs.Common.{◌≡◌, ℕ, ◌+◌, ◌*◌, ◌^◌, ◌<◌, ◌≤◌, ◌++◌, [], ◌∷◌, refl, sym, subst, arith, Ok, add-one}
use Rattle.std.proofs.Math.Nat.{mul-le-mul_right}
use Rattle.arena_chunks.specs.Source.{View}
use Rattle.arena_items.specs.declared.item.Item.{Ghosts}
use Rattle.arena_vec.specs.Changes.{Grows}
use Rattle.arena_vec.specs.Credit.{asked_by, credit_of}
use Rattle.arena_vec.specs.Growth.{amortised_growth}
use Rattle.arena_vec.specs.Vecs.{vec_list}
use Rattle.arena_vec.specs.declared.vec.Vec.{Vec}
use Rattle.example_collections.specs.Pushing.{PushesInTurn}

module _ {T : Type 0} (item : Ghosts T) (value : T) where
  -- `n` calls in sequence, and their cost as long as twice as many values would fit
  abbrev pub CostsAtMost : ℕ → View → View → Vec T → Vec T → Type 0
  CostsAtMost n old new v w = (asked : ℕ) × PushesInTurn item value n old new v asked w
      × (0 < item.SIZE → (v.raw.len + n) * (2 * item.SIZE) ≤ 2 ^ 32
      → asked + credit_of item.SIZE w.raw.len w.raw.cap ≤ credit_of item.SIZE v.raw.len v.raw.cap + 4 * n * item.SIZE)

  pub none_asked : (old : View) (v : Vec T) → CostsAtMost 0 old old v v
  none_asked old v = (0, (refl, refl, refl), λ some few. omega arith)

  -- One more call adds the bytes for which it asks.
  pub one_more : (n : ℕ) (old mid new : View) (v u w : Vec T) → u.raw.len ≡ v.raw.len + n → CostsAtMost n old mid v u
      → Grows {X = Unit {0}} item mid new u (amortised_growth item.SIZE u.raw.cap (u.raw.len + 1))
      (vec_list item mid.memory u ++ value ∷ []) w (Ok tt)
      → (0 < item.SIZE → (u.raw.len + 1) * (2 * item.SIZE) ≤ 2 ^ 32
      → asked_by item.SIZE (amortised_growth item.SIZE u.raw.cap (u.raw.len + 1)) + credit_of item.SIZE w.raw.len w.raw.cap
      ≤ credit_of item.SIZE u.raw.len u.raw.cap + 4 * 1 * item.SIZE)
      → CostsAtMost (n + 1) old new v w
  one_more n old mid new v u w len (before, turns, cost) grows more = (
    before + asked_by item.SIZE (amortised_growth item.SIZE u.raw.cap (u.raw.len + 1)),
    subst (λ k. PushesInTurn item value k old new v (before + asked_by item.SIZE (amortised_growth item.SIZE u.raw.cap (u.raw.len + 1))) w)
        (sym (add-one n)) (mid, u, before, turns, grows, refl),
    λ some few.
        let fits : (u.raw.len + 1) * (2 * item.SIZE) ≤ 2 ^ 32 = rw len (omega (arith, few)) in
        let less : (v.raw.len + n) * (2 * item.SIZE) ≤ (v.raw.len + (n + 1)) * (2 * item.SIZE) =
        mul-le-mul_right (2 * item.SIZE) (let up : v.raw.len + n ≤ v.raw.len + (n + 1) = omega arith in up) in
        omega (arith, more some fits, cost some (omega (arith, less, few))),
  )
