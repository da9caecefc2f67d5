-- The blocks of the items in slots, one by one and as a list.
use Rattle.std.proofs.lemmas.Bool.Decides.{nat_tests}
use Rattle.std.proofs.Common.{arith, ◌≡◌, ℕ, suc, zero, List, [], ◌∷◌, map, refl, sym, subst, Some, None, Option}
use Rattle.std.proofs.lemmas.Option.{none-some}
use Rattle.std.specs.Prelude.{slice_get, IsTrue}
use Rattle.arena_chunks.specs.Memory.{Memory, is_readable}
use Rattle.arena_chunks.specs.Frame.{IsApart, AreAllApart}
use Rattle.arena_store.specs.declared.block.Block.{Block}
use Rattle.arena_items.specs.Footprint.{AreReadable}
use Rattle.hash_ring.specs.Slots.{items, Has}
use Rattle.hash_ring.proofs.Places.{same_item, not_free}
use Rattle.hash_ring.specs.laws.AgreeLaws.{has-items}
use Rattle.hash_ring.proofs.Once.{all-items}
use Rattle.arena_table.specs.Contents.{Kind}
use Rattle.arena_table.specs.Tables.{slots_in, IsTextBeside}
use Rattle.arena_hash.specs.Maps.{texts_in}
use Rattle.arena_hash.specs.declared.map.HashMap.{HashMap}

-- each is apart from the others
pub apart-items : {X : Type 0} (f : X → Block) (others : List Block) (slots : List (Option X))
    → ((x : X) → Has slots x → IsApart (f x).addr (f x).size others) → AreAllApart (map f (items slots)) others
apart-items f others [] each = tt
apart-items f others (None ∷ xs) each = apart-items f others xs (λ x h. each x (suc h.0, h.1))
apart-items f others (Some z ∷ xs) each = (each z (0, refl), apart-items f others xs (λ x h. each x (suc h.0, h.1)))

pub has-apart : {X : Type 0} (f : X → Block) (others : List Block) (slots : List (Option X)) (i : ℕ) (x : X)
    → slice_get slots i ≡ Some (Some x)
    → AreAllApart (map f (items slots)) others → IsApart (f x).addr (f x).size others
has-apart f others [] i x s all = absurd (none-some (Some x) s)
has-apart f others (None ∷ xs) zero x s all = absurd (not_free x (sym s))
has-apart f others (None ∷ xs) (suc i) x s all = has-apart f others xs i x s all
has-apart f others (Some z ∷ xs) zero x s all = subst (λ w. IsApart (f w).addr (f w).size others) (same_item z x s) all.0
has-apart f others (Some z ∷ xs) (suc i) x s all = has-apart f others xs i x s all.1

-- ---- The texts of a map's keys

module _ {K V S : Type 0} (k : Kind K V S) (memory : Memory) (m : HashMap K V S) where
  -- one by one they are apart from the table
  pub texts-beside : AreReadable memory.state (texts_in k memory m) → AreAllApart (texts_in k memory m) (m.table.block ∷ []) → (x : K × V)
      → Has (slots_in k.keys k.values memory m.table) x → IsTextBeside k.key memory m.table.block x.0
  texts-beside readable apart x h = record {
    readable =
        has-items (λ b. IsTrue (is_readable memory.state b)) (λ p. k.key.text p.0) (slots_in k.keys k.values memory m.table) h.0 x h.1
        readable;
    apart = (has-apart (λ p. k.key.text p.0) (m.table.block ∷ []) (slots_in k.keys k.values memory m.table) h.0 x h.1 apart).0;
  }

  -- and as lists
  module _ (beside : (x : K × V) → Has (slots_in k.keys k.values memory m.table) x → IsTextBeside k.key memory m.table.block x.0) where
    pub texts-readable : AreReadable memory.state (texts_in k memory m)
    texts-readable =
        all-items (λ b. IsTrue (is_readable memory.state b)) (λ p. k.key.text p.0) (slots_in k.keys k.values memory m.table)
        (λ x h. (beside x h).readable)

    pub texts-apart : AreAllApart (texts_in k memory m) (m.table.block ∷ [])
    texts-apart = grind (arith, nat_tests, apart-items)
