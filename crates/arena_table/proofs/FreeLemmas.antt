-- Tables with all slots free.
use Rattle.std.proofs.lemmas.Bool.Decides.{nat_tests}
use Rattle.std.proofs.Common.{◌≡◌, ℕ, zero, suc, ◌*◌, ◌≤◌, List, [], ◌∷◌, length, replicate, take, refl, sym, ap, ◌∙◌, arith, None}
use Rattle.std.proofs.lemmas.List.{length-replicate}
use Rattle.std.proofs.Math.Nat.{mul-le-mul_left}
use Rattle.std.specs.Prelude.{slice_get}
use Rattle.arena_chunks.specs.Memory.{Memory, image, bytes_from}
use Rattle.arena_chunks.specs.BlockCalls.{WritesBlock}
use Rattle.arena_chunks.proofs.Layers.{take_bytes, wrote_first}
use Rattle.arena_items.specs.Values.{bytes_of}
use Rattle.arena_items.specs.declared.item.Item.{Ghosts}
use Rattle.arena_items.proofs.Layers.{length-elements}
use Rattle.hash_ring.specs.Policy.{slot_size}
use Rattle.hash_ring.specs.Marks.{marked}
use Rattle.hash_ring.proofs.Count.{none-there}
use Rattle.hash_ring.proofs.Fill.{ordered-none}
use Rattle.arena_table.specs.Contents.{Kind}
use Rattle.arena_table.specs.Tables.{slots_of, slots_in, IsTable, IsTableHandle}
use Rattle.arena_table.specs.declared.table.Table.{Table}

-- A slot with mark 0 is free.
marked-none : {X : Type 0} (n : ℕ) (xs : List X) → length xs ≡ n → marked (replicate n 0) xs ≡ replicate n None
marked-none zero xs long = refl
marked-none (suc n) [] long = absurd (omega arith)
marked-none (suc n) (x ∷ xs) long = ap (λ ys. None ∷ ys) (marked-none n xs (omega arith))

pub free-slots : {K V : Type 0} (keys : Ghosts K) (values : Ghosts V) (n : ℕ) (bytes : List ℕ) → take n bytes ≡ replicate n 0
    → slots_of keys values n bytes ≡ replicate n None
unfolding slots_of
free-slots keys values n bytes zeros = grind (arith, nat_tests, marked-none, length-elements)

-- If a table's marks were cleared, its slots are free.
pub freed-slots : {K V : Type 0} (keys : Ghosts K) (values : Ghosts V) (old new : Memory) (t : Table K V) → IsTableHandle keys values old t
    → WritesBlock old new t.block 0 (replicate t.slots 0) → slots_in keys values new t ≡ replicate t.slots None
freed-slots keys values old new t handle writes =
    let more : t.slots * 1 ≤ t.slots * slot_size keys.SIZE values.SIZE = mul-le-mul_left t.slots
    (let le : 1 ≤ slot_size keys.SIZE values.SIZE = omega arith in le) in
    let within : t.slots ≤ t.block.size = omega (arith, handle.place.of_size, more) in
    let front : bytes_from (image new) t.block.addr t.slots ≡ replicate t.slots 0 =
    ap (λ n. bytes_from (image new) t.block.addr n) (sym (length-replicate t.slots 0)) ∙ wrote_first _ _ _ _ writes in
    free-slots keys values t.slots (bytes_of new t.block) (take_bytes (image new) t.block.addr t.block.size t.slots within ∙ front)

-- Free slots are in order,
pub free-table : {K V S : Type 0} (k : Kind K V S) (hash : K × V → ℕ) (n : ℕ) (bytes : List ℕ)
    → slots_of k.keys k.values n bytes ≡ replicate n None → IsTable k.keys k.values hash n bytes
free-table {K} {V} k hash n bytes free = record {
  ordered = rw free (ordered-none _ n);
  marks = λ i d p away. absurd (none-there n i p (ap (λ s. slice_get s i) (sym free) ∙ away.there));
}
