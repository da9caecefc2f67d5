-- What a walk over a list requires of a closure: that it can be called at each value in turn, and no more.
use Rattle.std.specs.Prelude.{◌≡◌, Bool, cond, List}
use Rattle.std.specs.Array.{list_steps}
use Rattle.std.specs.Fn.{Mut, Takes, CalledAtMut}
use Rattle.std.specs.Iterator.{AfterFirst, CallableOnAllAt, CallableAtEachTurn}
use denote.Ref.{Bor, MutBor}

-- f can be called at a `&` to each value
abbrev pub CallableOnList : {F A R : Type 0} → Mut F (Bor A × Unit {0}) R → List A → F → Type 0
CallableOnList g list f = CallableOnAllAt list_steps g list f

module _ {F A R : Type 0} (g : Mut F (MutBor A × Unit {0}) (R × (MutBor A × Unit {0}))) where
  -- f can be called at a `&mut` to x,
  abbrev pub TakesAtMut : F → A → Type 0
  TakesAtMut f x = (y : MutBor A) → y.now ≡ x → Takes g f (y, tt)

  -- to each value,
  abbrev pub CallableOnListMut : List A → F → Type 0
  CallableOnListMut list f = CallableAtEachTurn list_steps (λ p x q. (r : R) × (y : A) × CalledAtMut g p x r q y) TakesAtMut list f

  -- and to x, and then to y
  abbrev pub TakesTwice : F → A → A → Type 0
  TakesTwice f x y = TakesAtMut f x × ((r : R) (between : F) (z : A) → CalledAtMut g f x r between z → TakesAtMut between y)

-- f can be called at a `&mut` to x and one to y
abbrev pub TakesAtPairMut : {F A R : Type 0} → Mut F (MutBor A × (MutBor A × Unit {0})) (R × (MutBor A × (MutBor A × Unit {0})))
    → F → A → A → Type 0
TakesAtPairMut {A = A} g f x y = (v w : MutBor A) → v.now ≡ x → w.now ≡ y → Takes g f (v, (w, tt))

module _ {F A : Type 0} (R : F → A → A → Bool → F → A → A → Type 0) where
  -- a turn of a walk that compares each value with the last one kept: f, and the last one kept then
  abbrev pub DedupTurn : F × A → A → F × A → Type 0
  DedupTurn p x q = (b : Bool) × (y : A) × (kept : A) × R p.0 x p.1 b q.0 y kept × (q.1 ≡ cond b kept y)

  -- f can be called at each value but the first, with the last one kept before it
  abbrev pub CallableInDedup : (F → A → A → Type 0) → List A → F → Type 0
  CallableInDedup Can list f = AfterFirst list_steps list
      (λ x rest. CallableAtEachTurn {P = F × A} list_steps DedupTurn (λ p y. Can p.0 y p.1) rest (f, x))
