-- Slots of a table's bytes: read, put and freed.
use Rattle.std.proofs.Common.{◌≡◌, ℕ, zero, suc, ◌+◌, ◌-◌, ◌*◌, ◌<◌, ◌≤◌, ◌⊎◌, List, [], ◌∷◌, ◌++◌, length, take, drop, set, get_or, refl, sym, ap, subst, ◌∙◌, take-add, arith, Some, None, Option, false, length-append, append_assoc}
use lib.Seq.{set-get_or}
use Rattle.std.specs.Prelude.{slice_get, if◌then◌else◌, ◌==◌}
use Rattle.std.proofs.lemmas.Grind.{common_steps}
use Rattle.std.proofs.lemmas.Bool.Decides.{nat_tests}
use Rattle.std.proofs.lemmas.List.{length-set, length-take, length-drop, take_at, drop_at, drop-drop, drop-take, drop-set-lt, get_or-set_same, get_or-set_other}
use Rattle.std.proofs.lemmas.Option.{none-some, same_Some, slice_get_within}
use borrow.Rule.Slice.PartMut.{put_mid}
use Rattle.arena_rules.specs.Lists.{splice}
use Rattle.arena_items.specs.Values.{elements}
use Rattle.arena_items.specs.declared.item.Item.{Ghosts}
use Rattle.arena_items.proofs.Layers.{elements-get, elements-set, length-elements, rows_before}
use Rattle.hash_ring.specs.Policy.{slot_size}
use Rattle.hash_ring.specs.Marks.{marked}
use Rattle.arena_table.specs.Edits.{SetsSlot}
use Rattle.arena_table.specs.Tables.{pair_of, slots_of, IsShape}

-- ---- A list with its marks

-- what a slot with this mark holds
abbrev held : {X : Type 0} → ℕ → X → Option X
held m x = if m == 0 then None else Some x

held-none : {X : Type 0} (m : ℕ) (x : X) → m ≡ 0 → held m x ≡ None
held-none m x e = rw e refl

held-some : {X : Type 0} (m : ℕ) (x : X) → 0 < m → held m x ≡ Some x
held-some m x h = let e : (m == 0) ≡ false = grind (arith, nat_tests) in rw e refl

zero-or : (m : ℕ) → (m ≡ 0) ⊎ (0 < m)
zero-or m = grind arith

held-is : {X : Type 0} (m : ℕ) (x y : X) → held m x ≡ Some y → (0 < m) × (x ≡ y)
held-is m x y e = grind (arith, nat_tests, zero-or, none-some, held-none, same_Some, held-some)

module _ {X : Type 0} where
  length-marked : (marks : List ℕ) (xs : List X) → length marks ≡ length xs → length (marked marks xs) ≡ length xs
  length-marked [] (x ∷ xs) e = absurd (omega arith)
  length-marked (m ∷ marks) (x ∷ xs) e = ap suc (length-marked marks xs (omega arith))
  length-marked _ _ e = refl

  marked-get : (marks : List ℕ) (xs : List X) (i : ℕ) (x : X) → i < length marks → slice_get xs i ≡ Some x
      → slice_get (marked marks xs) i ≡ Some (held (get_or marks i 0) x)
  marked-get [] xs i x h s = absurd (omega arith)
  marked-get (m ∷ marks) [] i x h s = absurd (none-some x s)
  marked-get (m ∷ marks) (y ∷ xs) zero x h s = ap (λ z. Some (held m z)) (same_Some y x s)
  marked-get (m ∷ marks) (y ∷ xs) (suc i) x h s = marked-get marks xs i x (omega arith) s

  marked-put : (marks : List ℕ) (xs : List X) (i m : ℕ) (x : X) → marked (set marks i m) (set xs i x) ≡ set (marked marks xs) i (held m x)
  marked-put (k ∷ marks) (y ∷ xs) (suc i) m x = ap (λ r. held k y ∷ r) (marked-put marks xs i m x)
  marked-put (k ∷ marks) [] (suc i) m x = refl
  marked-put _ _ _ m x = refl

  marked-free : (marks : List ℕ) (xs : List X) (i : ℕ) → marked (set marks i 0) xs ≡ set (marked marks xs) i None
  marked-free (k ∷ marks) (y ∷ xs) (suc i) = ap (λ r. held k y ∷ r) (marked-free marks xs i)
  marked-free (k ∷ marks) [] (suc i) = refl
  marked-free _ _ _ = refl

-- ---- Lists of bytes

-- a write within a list keeps its length
pub length-splice : (bs : List ℕ) (at : ℕ) (ys : List ℕ) → at + length ys ≤ length bs → length (splice bs at ys) ≡ length bs
length-splice bs at ys h = grind (arith, common_steps)

-- the bytes in the front of a list
front-get : (xs ys : List ℕ) (i : ℕ) → i < length xs → get_or (xs ++ ys) i 0 ≡ get_or xs i 0
front-get xs ys i h = grind (arith, common_steps)

front-take : (n : ℕ) (xs : List ℕ) (i : ℕ) → i < n → get_or (take n xs) i 0 ≡ get_or xs i 0
front-take n xs i h = grind (arith, common_steps)

-- a place of the front is set
set-take : (n : ℕ) (xs : List ℕ) (i y : ℕ) → i < n → take n (set xs i y) ≡ set (take n xs) i y
set-take (suc n) (x ∷ xs) (suc i) y h = ap (λ zs. x ∷ zs) (set-take n xs i y (omega arith))
set-take _ _ _ y h = refl

-- the same write, as a write to a part that was borrowed
pub mid-splice : (at n : ℕ) (xs ys : List ℕ) → length ys ≡ n → put_mid at (at + n - at) xs ys ≡ splice xs at ys
mid-splice at n xs ys h = grind (arith, nat_tests, drop-drop, append_assoc)

-- a write into a list is one into its second part,
splice-split : (n at : ℕ) (xs ys : List ℕ) → splice xs (n + at) ys ≡ take n xs ++ splice (drop n xs) at ys
splice-split n at xs ys = grind (arith, nat_tests, drop-drop, take-add, append_assoc)

-- and one that begins earlier, with the bytes that are there
splice-behind : (at n : ℕ) (xs ys : List ℕ) → at + n ≤ length xs → splice xs (at + n) ys ≡ splice xs at (take n (drop at xs) ++ ys)
splice-behind at n xs ys h = grind (arith, nat_tests, length-take, length-drop, length-append, take-add, append_assoc)

-- ---- Slots of bytes

-- a slot's bytes are within
pub slot-within : (i n key value : ℕ) → i < n → n + i * (key + value) + (key + value) ≤ n * slot_size key value
slot-within i n key value h = omega (arith, rows_before i n (key + value) h)

-- the bytes of a pair decode to the pair
pub pair-back : {K V : Type 0} (keys : Ghosts K) (values : Ghosts V) (k : K) (v : V) → length (keys.encoded k) ≡ keys.SIZE
    → keys.decoded (keys.encoded k) ≡ k → values.decoded (values.encoded v) ≡ v
    → pair_of keys values (keys.encoded k ++ values.encoded v) ≡ (k, v)
pair-back keys values k v long one two = grind (arith, nat_tests, take_at, drop_at)

module _ {K V : Type 0} (keys : Ghosts K) (values : Ghosts V) (n : ℕ) (bytes : List ℕ) (shape : IsShape keys values n bytes) where
  -- there are as many as marks
  marks-within : n ≤ length bytes
  marks-within = omega (arith, shape.long)

  marks-long : length (take n bytes) ≡ n
  marks-long = omega (arith, length-take n bytes, marks-within)

  pairs-fit : n * (keys.SIZE + values.SIZE) ≤ length (drop n bytes)
  pairs-fit = omega (arith, shape.long, length-drop n bytes)

  -- the pair in the bytes of a slot
  pair_at : ℕ → K × V
  pair_at i = pair_of keys values (take (keys.SIZE + values.SIZE) (drop (i * (keys.SIZE + values.SIZE)) (drop n bytes)))

  pub slots-long : length (slots_of keys values n bytes) ≡ n
  unfolding slots_of
  slots-long = grind (arith, nat_tests, length-elements, length-marked, marks-long)

  slot-is : (i : ℕ) → i < n → slice_get (slots_of keys values n bytes) i ≡ Some (held (get_or bytes i 0) (pair_at i))
  unfolding slots_of pair_at
  slot-is i h =
      let mark : get_or (take n bytes) i 0 ≡ get_or bytes i 0 = grind (arith, common_steps) in
      marked-get (take n bytes) (elements (keys.SIZE + values.SIZE) (pair_of keys values) n (drop n bytes)) i (pair_at i)
      (omega (arith, marks-long))
      (elements-get (keys.SIZE + values.SIZE) (pair_of keys values) n (drop n bytes) i h)
      ∙ ap (λ m. Some (held m (pair_at i))) mark

  -- a slot that holds a pair has a mark, and the pair is in its bytes
  holds : (i : ℕ) (x : K × V) → i < n → slice_get (slots_of keys values n bytes) i ≡ Some (Some x)
      → (0 < get_or bytes i 0) × (pair_at i ≡ x)
  holds i x h s = held-is (get_or bytes i 0) _ _ (same_Some (held (get_or bytes i 0) (pair_at i)) (Some x) (sym (slot-is i h) ∙ s))

  pub slot-within-long : (i : ℕ) (x : K × V) → slice_get (slots_of keys values n bytes) i ≡ Some (Some x) → i < n
  slot-within-long i x s = omega (arith, slots-long, slice_get_within (slots_of keys values n bytes) i (Some x) s)

  pub slot-marked : (i : ℕ) (x : K × V) → slice_get (slots_of keys values n bytes) i ≡ Some (Some x) → 0 < get_or bytes i 0
  slot-marked i x s = (holds i x (slot-within-long i x s) s).0

  -- by its mark a slot is free or not
  pub slot-free : (i : ℕ) → i < n → get_or bytes i 0 ≡ 0 → slice_get (slots_of keys values n bytes) i ≡ Some None
  slot-free i h e = slot-is i h ∙ ap Some (held-none (get_or bytes i 0) (pair_at i) e)

  pub slot-taken : (i : ℕ) → i < n → 0 < get_or bytes i 0 → (x : K × V) × (slice_get (slots_of keys values n bytes) i ≡ Some (Some x))
  slot-taken i h e = (pair_at i, slot-is i h ∙ ap Some (held-some (get_or bytes i 0) (pair_at i) e))

  -- the key and the value that are read there
  pub key-is : (i : ℕ) (x : K × V) → i < n → slice_get (slots_of keys values n bytes) i ≡ Some (Some x)
      → keys.decoded (take keys.SIZE (drop (n + i * (keys.SIZE + values.SIZE)) bytes)) ≡ x.0
  unfolding pair_at
  key-is i x h s =
      let at : drop (i * (keys.SIZE + values.SIZE)) (drop n bytes) ≡ drop (n + i * (keys.SIZE + values.SIZE)) bytes = grind
      (arith, common_steps) in
      let one : take keys.SIZE (take (keys.SIZE + values.SIZE) (drop (i * (keys.SIZE + values.SIZE)) (drop n bytes)))
      ≡ take keys.SIZE (drop (i * (keys.SIZE + values.SIZE)) (drop n bytes)) = grind (arith, common_steps) in
      ap keys.decoded (sym (one ∙ ap (take keys.SIZE) at)) ∙ ap (λ p. p.0) (holds i x h s).1

  pub value-is : (i : ℕ) (x : K × V) → i < n → slice_get (slots_of keys values n bytes) i ≡ Some (Some x)
      → values.decoded (take values.SIZE (drop (n + i * (keys.SIZE + values.SIZE) + keys.SIZE) bytes)) ≡ x.1
  unfolding pair_at
  value-is i x h s = grind (arith, nat_tests, common_steps, drop-take, holds)

  -- a mark and a pair are written
  pub slot-set : (i m : ℕ) (ys : List ℕ) (x : K × V) → i < n → 0 < m → length ys ≡ keys.SIZE + values.SIZE → pair_of keys values ys ≡ x
      → SetsSlot keys values n bytes (set (take n bytes) i m ++ splice (drop n bytes) (i * (keys.SIZE + values.SIZE)) ys) i m (Some x)
  unfolding slots_of
  slot-set i m ys x h some long back =
      grind (arith, nat_tests, set, length-set, marks-long, pairs-fit, rows_before, length-splice, length-append, length-drop, marks-within, take_at, drop_at, elements-set, marked-put, held-some, front-get, get_or-set_same, get_or-set_other, front-take)

  -- a value is written after its key
  pub value-set : (i : ℕ) (ys : List ℕ) (x : K × V) (v : V) → slice_get (slots_of keys values n bytes) i ≡ Some (Some x)
      → length ys ≡ values.SIZE → values.decoded ys ≡ v
      → SetsSlot keys values n bytes (splice bytes (n + i * (keys.SIZE + values.SIZE) + keys.SIZE) ys) i (get_or bytes i 0)
      (Some (x.0, v))
  value-set i ys x v there long back =
      let h : i < n = slot-within-long i x there in
      let at : ℕ = n + i * (keys.SIZE + values.SIZE) in
      let fits : at + (keys.SIZE + values.SIZE) ≤ length bytes = omega (arith, slot-within i n keys.SIZE values.SIZE h, shape.long) in
      let key : List ℕ = take keys.SIZE (drop at bytes) in
      let size : length key ≡ keys.SIZE = omega (arith, length-take keys.SIZE (drop at bytes), length-drop at bytes, fits) in
      let one : keys.decoded (take keys.SIZE (key ++ ys)) ≡ x.0 = ap keys.decoded (take_at key ys keys.SIZE size) ∙ key-is i x h there in
      let two : values.decoded (drop keys.SIZE (key ++ ys)) ≡ v = ap values.decoded (drop_at key ys keys.SIZE size) ∙ back in
      let pair : pair_of keys values (key ++ ys) ≡ (x.0, v) = λ p. (one p, two p) in
      let kept : set (take n bytes) i (get_or bytes i 0) ≡ take n bytes =
      ap (set (take n bytes) i) (sym (front-take n bytes i h)) ∙ set-get_or (take n bytes) i 0 in
      let same : set (take n bytes) i (get_or bytes i 0) ++ splice (drop n bytes) (i * (keys.SIZE + values.SIZE)) (key ++ ys)
      ≡ splice bytes (at + keys.SIZE) ys =
      ap (λ marks. marks ++ splice (drop n bytes) (i * (keys.SIZE + values.SIZE)) (key ++ ys)) kept
      ∙ sym (splice-behind at keys.SIZE bytes ys (omega (arith, fits))
      ∙ splice-split n (i * (keys.SIZE + values.SIZE)) bytes (key ++ ys)) in
      let whole : length (key ++ ys) ≡ keys.SIZE + values.SIZE = omega (arith, length-append key ys, size, long) in
      subst (λ b. SetsSlot keys values n bytes b i (get_or bytes i 0) (Some (x.0, v))) same
      (slot-set i (get_or bytes i 0) (key ++ ys) (x.0, v) h (slot-marked i x there) whole pair)

  -- a mark is cleared
  pub slot-clear : (i : ℕ) → i < n → SetsSlot keys values n bytes (set bytes i 0) i 0 None
  unfolding slots_of
  slot-clear i h =
      grind (arith, nat_tests, length-set, set-take, drop-set-lt, marked-free, get_or-set_same, marks-within, get_or-set_other)

-- for automatic proof
pub ruleset slot_laws = (slot-within)
