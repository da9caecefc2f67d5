-- Walks over a list in which the values that stay are moved to the front.
use Rattle.std.proofs.Common.{◌≡◌, ℕ, ◌+◌, ◌-◌, ◌*◌, ◌<◌, ◌≤◌, refl, sym, ap, ◌∙◌, arith, suc, Some, Bool, true, false, cond, List, [], ◌∷◌, ◌++◌, take, drop, set, append_assoc}
use Rattle.std.proofs.lemmas.List.{drop_all, drop-set-lt, take-set, take_more_set}
use Rattle.std.proofs.lemmas.Option.{slice_get_within}
use Rattle.std.specs.Prelude.{slice_get}
use Rattle.std.specs.Array.{list_steps}
use Rattle.std.specs.Iterator.{CallableAtEachTurn}
use Rattle.std.specs.List.Retain.{IsFiltered, RetainsInTurn}
use mir.Val.{bool_byte}
use Rattle.arena_items.specs.Values.{elements}
use Rattle.arena_items.proofs.Layers.{drop_item, length-elements, elements-cut, elements-drop}
use Rattle.arena_vec.proofs.TurnLemmas.{turn_on}

-- ---- The walk

-- A walk over the list has come to the value k, and the first `kept` stay. With what it keeps of the rest they are the
-- whole.
pub record IsSifting {S X : Type 0} (Leaves : S → List X → List X → Type 0) (IsWhole : List X → Type 0) (s : S) (kept k : ℕ)
    (xs : List X) : Type 0 where
  pub onward : (zs : List X) → Leaves s (drop k xs) zs → IsWhole (take kept xs ++ zs)
  pub order : kept ≤ k

module _ {S X : Type 0} {Leaves : S → List X → List X → Type 0} {IsWhole : List X → Type 0} {s t : S} {kept k : ℕ} {x : X} {xs : List X}
    (sifts : IsSifting Leaves IsWhole s kept k xs) (got : slice_get xs k ≡ Some x) where
  -- The next value is removed,
  pub sift_drops : ((ys zs : List X) → Leaves t ys zs → Leaves s (x ∷ ys) zs) → IsSifting Leaves IsWhole t kept (k + 1) xs
  sift_drops step = record {
    onward = λ zs left. sifts.onward zs (rw (drop_item xs k x got) (step _ zs left));
    order = omega (arith, sifts.order);
  }

  -- or one is put after those that stay,
  pub sift_keeps : (y : X) → ((ys zs : List X) → Leaves t ys zs → Leaves s (x ∷ ys) (y ∷ zs))
      → IsSifting Leaves IsWhole t (kept + 1) (k + 1) (set xs kept y)
  sift_keeps y step =
      let front = take_more_set xs kept y (omega (arith, sifts.order, slice_get_within xs k x got)) in
      let rest = drop-set-lt (k + 1) xs kept y (omega (arith, sifts.order)) in
      record {
        onward = λ zs left. rw (front, append_assoc (take kept xs) (y ∷ []) zs)
            (sifts.onward (y ∷ zs) (rw (drop_item xs k x got) (step _ zs (rw rest at left))));
        order = omega (arith, sifts.order);
      }

  -- or one is written there, which stays or not.
  pub sift_writes : (b : Bool) (y : X) → ((ys zs : List X) → Leaves t ys zs → Leaves s (x ∷ ys) (cond b (y ∷ zs) zs))
      → IsSifting Leaves IsWhole t (kept + bool_byte b) (k + 1) (set xs kept y)
  sift_writes true y step = sift_keeps y step
  sift_writes false y step =
      let same : kept + 0 ≡ kept = omega arith in
      let rest = drop-set-lt (k + 1) xs kept y (omega (arith, sifts.order)) in
      record {
        onward = λ zs left. rw (same, take-set xs kept y) ((sift_drops step).onward zs (rw rest at left));
        order = omega (arith, sifts.order);
      }

-- A closure that can be called at each value from an index on can then be called at those after it, even if one was
-- written in front.
pub turn_sifts : {X P : Type 0} {R : P → X → P → Type 0} {Q : P → X → Type 0} {p q : P} {kept k : ℕ} {x : X} (xs : List X) (y : X)
    → CallableAtEachTurn list_steps R Q (drop k xs) p → slice_get xs k ≡ Some x → kept ≤ k → R p x q
    → CallableAtEachTurn list_steps R Q (drop (k + 1) (set xs kept y)) q
turn_sifts {kept = kept} {k} {x} xs y h got order r =
    rw (drop-set-lt (k + 1) xs kept y (omega (arith, order))) (turn_on (drop_item xs k x got) h _ r)

-- ---- Values of bytes

module _ {T : Type 0} (size : ℕ) (dec : List ℕ → T) (n : ℕ) where
  -- the values from an index on
  pub values_drop : (bs : List ℕ) (k : ℕ) → k ≤ n → elements size dec (n - k) (drop (k * size) bs) ≡ drop k (elements size dec n bs)
  values_drop bs k h =
      let whole : k + (n - k) ≡ n = omega arith in
      elements-drop size dec k (n - k) bs ∙ ap (λ m. drop k (elements size dec m bs)) whole

  -- What comes after a value that is written is as it was.
  pub behind_put : (k f : ℕ) (old new : List ℕ) (y : T) → k < f → f ≤ n → elements size dec n new ≡ set (elements size dec n old) k y
      → elements size dec (n - f) (drop (f * size) new) ≡ elements size dec (n - f) (drop (f * size) old)
  behind_put k f old new y less within put =
      values_drop new f within ∙ ap (drop f) put ∙ drop-set-lt f (elements size dec n old) k y less ∙ sym (values_drop old f within)

  -- No value is left.
  pub sift_ends : {S : Type 0} {Leaves : S → List T → List T → Type 0} {IsWhole : List T → Type 0} {s : S} {kept k : ℕ} {list : List T}
      (bs : List ℕ) (zs : List T) → IsSifting Leaves IsWhole s kept k (elements size dec n bs) → k ≡ n → Leaves s [] zs
      → list ≡ elements size dec kept bs ++ zs → IsWhole list
  sift_ends {kept = kept} {k} bs zs sifts all left is =
      let none = drop_all k (elements size dec n bs) (omega (arith, all, length-elements size dec n bs)) in
      rw (is, elements-cut size dec kept n bs (omega (arith, all, sifts.order))) (sifts.onward zs (rw none left))

-- ---- Steps

-- One that picks the values that stay,
pub filtered : {S X : Type 0} (R : S → X → Bool → S → Type 0) {s t : S} {x : X} (b : Bool) → R s x b t
    → (ys zs : List X) → IsFiltered R t ys zs → IsFiltered R s (x ∷ ys) (cond b (x ∷ zs) zs)
filtered R {t = t} {x = x} true told ys zs rest = (true ∷ rest.0, rest.1, ap suc rest.2, (t, told, rest.3), ap (λ l. x ∷ l) rest.4)
filtered R {t = t} false told ys zs rest = (false ∷ rest.0, rest.1, ap suc rest.2, (t, told, rest.3), rest.4)

-- and one that changes them too.
pub retained : {S X : Type 0} (R : S → X → Bool → S → X → Type 0) {s t : S} {x y : X} (b : Bool) → R s x b t y
    → (ys zs : List X) → RetainsInTurn R t ys zs → RetainsInTurn R s (x ∷ ys) (cond b (y ∷ zs) zs)
retained R {t = t} {y = y} b told ys zs rest = (b, t, y, told, zs, rest, refl)
