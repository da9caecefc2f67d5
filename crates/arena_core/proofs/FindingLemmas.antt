-- The number of the chunk that has an address.
use Rattle.std.proofs.Common.{◌≡◌, ℕ, ◌+◌, ◌-◌, ◌<◌, ◌≤◌, ap, sym, refl, subst, ◌∙◌, arith, Option, Some, None, List, [], ◌∷◌, length, true, false, Bool, inl, inr, leb-true}
use Rattle.std.specs.Prelude.{nat_le, ◌==◌, if◌then◌else◌}
use Rattle.std.proofs.lemmas.Bool.{and_right}
use Rattle.std.proofs.lemmas.Bool.Decides.{nat_tests}
use Rattle.std.proofs.lemmas.List.{length-map}
use Rattle.arena_rules.specs.State.{AreChunks, floor_of}
use Rattle.arena_core.specs.Finding.{has_address, chunk_number}
use Rattle.arena_store.specs.Memory.{Memory}
use Rattle.arena_store.specs.Stored.{stored_chunk}
use Rattle.arena_store.specs.Table.{number_in}
use Rattle.arena_store.specs.declared.chunk.StoredChunk.{StoredChunk}
use Rattle.arena_core.specs.declared.arena.Arena.TheInside.{Inside}
use Rattle.arena_store.proofs.TableLemmas.{chunks_in}
use Rattle.arena_core.proofs.StoredLemmas.{kind, view_of, Stands, differs}

-- none of those that end below an address has it
none_under : (m addr : ℕ) (chunks : List StoredChunk) → AreChunks m (chunks_in chunks) → floor_of (chunks_in chunks) ≤ addr
    → chunk_number addr (chunks_in chunks) ≡ None
none_under m addr [] valid over = refl
none_under m addr (c ∷ older) valid over =
    let past : nat_le addr (c.base + length c.bytes.items) ≡ false = grind (arith, nat_tests) in
    let none : has_address addr (stored_chunk c) ≡ false = and_right (nat_le c.base addr) _ past in
    rw none (none_under m addr older valid.2 (omega (arith, valid.1, over)))

-- so the first that begins at or below an address decides
number_same : (m addr : ℕ) (chunks : List StoredChunk) → AreChunks m (chunks_in chunks)
    → number_in addr chunks ≡ chunk_number addr (chunks_in chunks)
number_same m addr [] valid = refl
number_same m addr (c ∷ older) valid =
    go (number_same m addr older valid.2) (nat_le c.base addr) refl (nat_le addr (c.base + length c.bytes.items)) refl
  where
    go : number_in addr older ≡ chunk_number addr (chunks_in older) → (from : Bool) → nat_le c.base addr ≡ from → (to : Bool) → nat_le addr (c.base + length c.bytes.items) ≡ to
        → number_in addr (c ∷ older) ≡ chunk_number addr (chunks_in (c ∷ older))
    go rest false from to upto = rw from rest
    go rest true from true upto = rw (from, upto) (ap Some (sym (length-map older stored_chunk)))
    go rest true from false upto =
        let low = leb-true _ _ from in
        rw (from, upto) (sym (none_under m addr older valid.2 (omega (arith, low, valid.1))))

module _ (m : ℕ) (a : Inside m) (memory : Memory) where
  pub older_number : (addr : ℕ) (answer : Option ℕ) → Stands m a → view_of m a ≡ memory → addr < a.newest.base
      → answer ≡ number_in addr a.older.items → answer ≡ chunk_number addr memory.state.chunks
  older_number addr answer stands view below is = subst (λ (w : Memory). answer ≡ chunk_number addr w.state.chunks) view
      (elim (kind m a stands) [
        | inl none ↦ rw none.0 (is ∙ ap (number_in addr) none.2.older)
        | inr some ↦
            let valid = rw some at stands.valid in
            let test : nat_le a.newest.base addr ≡ false = grind (arith, nat_tests) in
            rw (some, test) (is ∙ number_same m addr a.older.items valid.chunks.2)
      ])

  -- the newest chunk has what is within its bounds, and no chunk has what is above them
  pub newest_number : (addr : ℕ) (b : Bool) → Stands m a → view_of m a ≡ memory → a.newest.base ≤ addr → (a.newest.base == 16) ≡ false
      → nat_le (addr - a.newest.base) (length a.newest.bytes.items) ≡ b
      → (if b then Some (length a.older.items) else None) ≡ chunk_number addr memory.state.chunks
  newest_number addr b stands view low some is =
      subst (λ (w : Memory). (if b then Some (length a.older.items) else None) ≡ chunk_number addr w.state.chunks) view
      (let valid = rw some at stands.valid in
      let from : nat_le a.newest.base addr ≡ true = grind (arith, nat_tests) in
      let test : nat_le addr (a.newest.base + length a.newest.bytes.items) ≡ b = shifted ∙ is in
      rw some (sym (rw (from, test) refl) ∙ number_same m addr (a.newest ∷ a.older.items) valid.chunks))
    where
      shifted : nat_le addr (a.newest.base + length a.newest.bytes.items) ≡ nat_le (addr - a.newest.base) (length a.newest.bytes.items)
      shifted = grind (arith, nat_tests)

  pub no_number : (addr : ℕ) → Stands m a → view_of m a ≡ memory → a.newest.base ≡ 16 → None ≡ chunk_number addr memory.state.chunks
  no_number addr stands view none = grind (arith, nat_tests, kind, differs)
