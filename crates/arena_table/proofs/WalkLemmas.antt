-- Walks over the pairs of a table.
use Rattle.std.proofs.lemmas.Bool.Decides.{nat_tests}
use Rattle.std.proofs.Common.{◌≡◌, ℕ, ◌+◌, ◌-◌, ◌%◌, ◌^◌, ◌<◌, ◌≤◌, ◌⊎◌, inl, inr, List, [], ◌∷◌, take, length, get_or, sym, ap, ◌∙◌, arith, Some, None, pow-add, pow_mono}
use Rattle.std.proofs.Math.Nat.{mul-mod_left}
use Rattle.std.proofs.Math.Path.{ap₂}
use Rattle.std.proofs.lemmas.Bool.{cases_lt}
use Rattle.std.proofs.lemmas.List.{get_or-take}
use Rattle.std.specs.Prelude.{slice_get, slice_index}
use Rattle.arena_chunks.specs.Memory.{Memory}
use Rattle.arena_items.specs.declared.item.Item.{Ghosts}
use Rattle.arena_items.specs.Values.{bytes_of}
use Rattle.hash_ring.specs.Slots.{items}
use Rattle.hash_ring.specs.Marks.{IsRing}
use Rattle.hash_ring.specs.Walks.{front_of, AreFree, GoesOn, IsByGroups, IsScan}
use Rattle.hash_ring.specs.declared.scan.Scan.{Scan}
use Rattle.hash_ring.proofs.Scanning.{left-clear, left-end, left-goes}
use Rattle.arena_table.specs.Tables.{slots_of, IsShape, IsTableHandle}
use Rattle.arena_table.specs.Walks.{left_in, IsWalk}
use Rattle.arena_table.specs.declared.table.Table.{Table}
use Rattle.arena_table.proofs.HandleLemmas.{handle-shape}
use Rattle.arena_table.proofs.SlotLemmas.{slots-long, slot-free, slot-taken}

-- the number of a ring's slots is a multiple of 64, or less than 64
pub ring-groups : (n : ℕ) → IsRing n → IsByGroups n
ring-groups n r = elim (cases_lt r.0.0 6) [
  | inl l ↦ let low : r.0.0 ≤ 5 = omega arith in let most : 2 ^ r.0.0 ≤ 2 ^ 5 = pow_mono low in inl (omega (arith, r.0.1, most))
  | inr l ↦
      let split : r.0.0 ≡ r.0.0 - 6 + 6 = omega arith in
      inr (ap (λ m. m % 64) (r.0.1 ∙ (ap (λ k. 2 ^ k) split ∙ pow-add 2 (r.0.0 - 6) 6)) ∙ mul-mod_left (2 ^ (r.0.0 - 6)) 64)
]

module _ {K V : Type 0} (keys : Ghosts K) (values : Ghosts V) (n : ℕ) (bytes : List ℕ) where
  -- what a walk needs of a table's shape
  pub walk-groups : (n ≡ 0) ⊎ IsShape keys values n bytes → IsByGroups n
  walk-groups shape = elim shape [ inl e ↦ inl (omega arith) | inr s ↦ ring-groups n s.ring ]

  pub walk-long : (n ≡ 0) ⊎ IsShape keys values n bytes → n ≤ length bytes
  walk-long shape = elim shape [ inl e ↦ omega arith | inr s ↦ omega (arith, s.long) ]

  module _ (shape : (n ≡ 0) ⊎ IsShape keys values n bytes) where
    -- it has its slots, of which those are free that have no mark
    pub walk-slots : length (slots_of keys values n bytes) ≡ n
    unfolding slots_of
    walk-slots = grind (arith, nat_tests, slots-long)

    pub walk-free : (i : ℕ) → i < n → slice_index (take n bytes) i ≡ 0 → slice_get (slots_of keys values n bytes) i ≡ Some None
    walk-free i h e = grind (arith, nat_tests, slot-free, get_or-take)

    -- at the start all pairs are left
    pub walk-start : (s : Scan) → AreFree (take n bytes) 0 (front_of s)
        → left_in keys values n bytes s ≡ items (slots_of keys values n bytes)
    walk-start s none = sym (left-clear n (take n bytes) (slots_of keys values n bytes) walk-slots walk-free 0 (front_of s) (omega arith)
        none)

    -- at the end none is
    pub walk-end : (s : Scan) → AreFree (take n bytes) (front_of s) n → left_in keys values n bytes s ≡ []
    walk-end s none = left-end n (take n bytes) (slots_of keys values n bytes) walk-slots walk-free (front_of s) none

    -- if the walk continues, the pair of the slot comes first
    pub walk-goes : (s t : Scan) (at : ℕ) → GoesOn n (take n bytes) s at t
        → (x : K × V) × (slice_get (slots_of keys values n bytes) at ≡ Some (Some x)) × (left_in keys values n bytes s
        ≡ x ∷ left_in keys values n bytes t)
    walk-goes s t at g = elim shape [
      | inl z ↦ absurd (omega (arith, g.less))
      | inr sh ↦
          let some : 0 < get_or bytes at 0 = omega (arith, g.taken, get_or-take n bytes at 0 g.less) in
          let x = slot-taken keys values n bytes sh at g.less some in
          (x.0, x.1, left-goes n (take n bytes) (slots_of keys values n bytes) walk-slots walk-free s t at x.0 g x.1)
    ]

-- ---- A step of a walk

module _ {K V : Type 0} (keys : Ghosts K) (values : Ghosts V) (n : ℕ) (bytes : List ℕ) (s : Scan) (left : ℕ)
    (walk : IsWalk keys values n bytes s left)
    (t : Scan) (scan : IsScan n (take n bytes) t) where
  -- nothing is left
  pub walk-ended : AreFree (take n bytes) (front_of s) n → n ≤ front_of t
      → IsWalk keys values n bytes t left × (left_in keys values n bytes s ≡ []) × (left_in keys values n bytes t ≡ [])
  walk-ended none end =
      let old : left_in keys values n bytes s ≡ [] = walk-end keys values n bytes walk.shape s none in
      let new : left_in keys values n bytes t ≡ [] = walk-end keys values n bytes walk.shape t (λ i a b. absurd (omega arith)) in
      (record { shape = walk.shape; scan = scan; count = walk.count ∙ ap length (old ∙ sym new) }, old, new)

  module _ (at : ℕ) (goes : GoesOn n (take n bytes) s at t) where
    -- a pair is
    pub walk-pair : (x : K × V) × (slice_get (slots_of keys values n bytes) at ≡ Some (Some x))
        × (left_in keys values n bytes s ≡ x ∷ left_in keys values n bytes t)
    walk-pair = walk-goes keys values n bytes walk.shape s t at goes

    pub walk-some : 1 ≤ left
    walk-some = omega (arith, walk.count, ap length walk-pair.2)

    -- and the walk goes on with one less
    pub walk-less : IsWalk keys values n bytes t (left - 1)
    walk-less = record { shape = walk.shape; scan = scan; count = omega (arith, walk.count, ap length walk-pair.2) }

    -- this is the pair whose parts are read there
    pub walk-read : (key : K) (value : V) → ((x : K × V) → slice_get (slots_of keys values n bytes) at ≡ Some (Some x) → key ≡ x.0)
        → ((x : K × V) → slice_get (slots_of keys values n bytes) at ≡ Some (Some x) → value ≡ x.1)
        → left_in keys values n bytes s ≡ (key, value) ∷ left_in keys values n bytes t
    walk-read key value one two =
        walk-pair.2 ∙ ap₂ (λ k v. (k, v) ∷ left_in keys values n bytes t) (sym (one walk-pair.0 walk-pair.1))
        (sym (two walk-pair.0 walk-pair.1))

-- a table's shape, as a walk reads it
pub walk-shape : {K V : Type 0} (keys : Ghosts K) (values : Ghosts V) (memory : Memory) (t : Table K V) (bytes : List ℕ)
    → keys.SIZE ≤ 2 ^ 24
    → values.SIZE ≤ 2 ^ 24 → IsTableHandle keys values memory t → bytes ≡ bytes_of memory t.block
    → (t.slots ≡ 0) ⊎ IsShape keys values t.slots bytes
walk-shape keys values memory t bytes small few handle is = grind (arith, nat_tests, cases_lt, handle-shape)

module _ {K V : Type 0} (keys : Ghosts K) (values : Ghosts V) (memory : Memory) (t : Table K V) (bytes : List ℕ)
    (small : keys.SIZE ≤ 2 ^ 24)
    (few : values.SIZE ≤ 2 ^ 24) (handle : IsTableHandle keys values memory t) (is : bytes ≡ bytes_of memory t.block) where
  -- the number of its marks is a multiple of 64, or less than 64
  pub table-groups : IsByGroups t.slots
  table-groups = walk-groups keys values t.slots bytes (walk-shape keys values memory t bytes small few handle is)

  -- and all are there
  pub table-long : t.slots ≤ length bytes
  table-long = walk-long keys values t.slots bytes (walk-shape keys values memory t bytes small few handle is)

-- for automatic proof
pub ruleset walk_laws = (table-groups, table-long, handle-shape)
