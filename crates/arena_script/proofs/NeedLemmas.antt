-- Things have the bytes that their objects need.
use Rattle.std.proofs.Common.{◌≡◌, ℕ, ◌+◌, ◌*◌, ◌≤◌, refl, sym, subst, arith, true, false, cond, Some, [], ◌∷◌, length-take, IsTrue, nat_cmp}
use Rattle.std.specs.Prelude.{IfSome}
use Rattle.std.specs.Ordering.{eq_by_cmp}
use Rattle.std.specs.List.{AllByRecursion}
use Rattle.std.specs.FinMap.{is_sorted}
use Rattle.std.specs.FinMap.Entries.{below_all}
use Rattle.std.proofs.lemmas.Bool.Decides.{nat_tests}
use Rattle.arena_chunks.specs.Memory.{Memory}
use Rattle.arena_items.proofs.Layers.{length-elements}
use Rattle.arena_hash.specs.Maps.{IsMapIn}
use Rattle.arena_hash.specs.declared.map.HashMap.{HashMap}
use Rattle.hash_ring.specs.declared.hasher.FxHasher.{FxHasher}
use Rattle.script_rules.specs.Objects.{Entries, get, are_rising, need, need_of}
use Rattle.script_rules.proofs.EntryLemmas.{both_true, none_below}
use Rattle.arena_script.specs.Kinds.{pairs}
use Rattle.arena_script.specs.Things.{Things, IsThingIn, object_in, objects_in, size_of, AreThings}
use Rattle.arena_script.specs.Serves.{sizes_of}
use Rattle.arena_script.specs.declared.thing.Thing.{Thing}
use Rattle.arena_script.proofs.EntryFacts.{tied}

tied_same : (x y : ℕ) → eq_by_cmp nat_cmp x y ≡ true → x ≡ y
tied_same x y t = grind (arith, nat_tests)

-- what holds of each that is found holds of each
each_of : {X : Type 0} (P : X → Type 0) (es : Entries X) → IsTrue (are_rising es) → ((n : ℕ) → IfSome (get es n) P)
    → AllByRecursion (λ (e : ℕ × X). P e.1) es
each_of P [] rising found = tt
each_of {X} P (e ∷ es) rising found =
    let both = both_true (below_all nat_cmp e.0 es) (is_sorted nat_cmp es) rising in
    (subst (λ b. IfSome (cond b (Some e.1) (get es e.0)) P) (tied e.0) (found e.0), each_of P es both.1 (λ n. rest n both.0))
  where
    rest : (n : ℕ) → IsTrue (below_all nat_cmp e.0 es) → IfSome (get es n) P
    rest n below = elim (eq_by_cmp nat_cmp n e.0) as
        (λ b. eq_by_cmp nat_cmp n e.0 ≡ b → IfSome (cond b (Some e.1) (get es n)) P → IfSome (get es n) P) [
          | true ↦ λ t f. subst (λ o. IfSome o P) (sym (none_below n e.0 es (omega (arith, tied_same n e.0 t)) below)) tt
          | false ↦ λ t f. f
        ] refl (found n)

-- ---- One thing

module _ (maps : (m : Memory) (h : HashMap ℕ ℕ FxHasher) → IsMapIn pairs m h → (4 + 4) * h.len ≤ h.table.block.size) (m : Memory) where
  needs_less : (t : Thing) → IsThingIn m t → need_of (object_in m t) ≤ size_of t
  needs_less t held = grind (arith, nat_tests, length-elements, length-take)

  all_need : (things : Things) → AllByRecursion (λ (e : ℕ × Thing). IsThingIn m e.1) things → need (objects_in m things) ≤ sizes_of things
  all_need [] all = omega arith
  all_need (e ∷ es) all = omega (arith, needs_less e.1 all.0, all_need es all.1)

  pub needed : (things : Things) → AreThings m things → need (objects_in m things) ≤ sizes_of things
  needed things are = all_need things (each_of (IsThingIn m) things are.rising are.held)
