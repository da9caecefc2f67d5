-- An arena that goes back to a mark.
use Rattle.std.proofs.Common.{◌≡◌, ℕ, zero, suc, ◌+◌, ◌-◌, ◌<◌, ◌≤◌, ap, sym, refl, subst, ◌∙◌, arith, IsTrue, List, [], ◌∷◌, length, map, drop, true, false, inl, inr}
use Rattle.std.specs.Prelude.{◌==◌, nat_le}
use Rattle.std.specs.List.{All}
use Rattle.std.proofs.lemmas.List.{length-map, drop-map}
use Rattle.std.proofs.lemmas.List.Elements.{All-head, All-tail, All-drop}
use Rattle.std.proofs.lemmas.Bool.Decides.{nat_tests}
use Rattle.arena_rules.specs.State.{State, Chunk, AreChunks, IsValid, floor_of, start_of, top_of}
use Rattle.arena_rules.specs.Back.{first_chunks, raised, back, accepts}
use Rattle.std.proofs.lemmas.Bool.{and_parts}
use Rattle.arena_rules.proofs.BackLemmas.{first_valid, floor_after, floor_raised, back_valid, back_fewer}
use Rattle.arena_rules.proofs.UsedLemmas.{floor_least, used_under}
use Rattle.arena_store.specs.Memory.{Memory, byte_in, image, bytes_from, is_readable}
use Rattle.arena_core.specs.Checkpoints.{with_first, first_bytes, mark_at, is_accepted, sent_back, GoesBack}
use Rattle.arena_core.specs.declared.rewind.Checkpoint.{Checkpoint}
use Rattle.arena_store.specs.Stored.{stored_chunk, stored_bytes, oldest, IsOldest, IsReady, IsStored}
use Rattle.arena_store.specs.declared.chunk.StoredChunk.{StoredChunk}
use Rattle.arena_core.specs.declared.arena.Arena.TheInside.{Inside}
use Rattle.arena_store.specs.declared.block.Block.{Block}
use Rattle.arena_core.proofs.WrittenLemmas.{bytes_same}
use Rattle.arena_core.proofs.ReadableLemmas.{readable_part}
use Rattle.arena_store.proofs.TableLemmas.{chunks_in}
use Rattle.arena_core.proofs.StoredLemmas.{kind, view_with, view_of, Stands}

module _ (m : ℕ) (a : Inside m) (memory : Memory) where
  -- if there are chunks, they are the newest and those of the table
  counted : (n : ℕ) → Stands m a → view_of m a ≡ memory → 0 < n → n ≤ length memory.state.chunks
      → ((a.newest.base == 16) ≡ false) × (length memory.state.chunks ≡ suc (length a.older.items))
  counted n stands view some within =
      let same = ap (λ (w : Memory). length w.state.chunks) view in
      elim (kind m a stands) [
        | inl none ↦ absurd (omega (arith, some, within, same, empty none.0))
        | inr chunk ↦ (chunk, sym same ∙ rw chunk (length-map (a.newest ∷ a.older.items) stored_chunk))
      ]
    where
      empty : (a.newest.base == 16) ≡ true → length (view_of m a).state.chunks ≡ 0
      empty none = rw none refl

  pub record IsFirst (n : ℕ) (newest : StoredChunk) (older : List StoredChunk) : Type 0 where
    pub view : view_with m a newest older ≡ with_first n memory
    pub stored : IsStored (view_with m a newest older) newest older
    pub high : 4096 ≤ newest.base

  -- an older chunk is the newest
  pub first_kept : (n : ℕ) (newest : StoredChunk) (older : List StoredChunk) → Stands m a → view_of m a ≡ memory → 0 < n
      → n ≤ length memory.state.chunks → (n ≡ length memory.state.chunks → ⊥)
      → oldest n a.older.items ≡ newest ∷ older → IsFirst n newest older
  first_kept n newest older stands view some within other is =
      let all : List StoredChunk = a.newest ∷ a.older.items in
      let here = counted n stands view some within in
      let chunk = here.0 in
      let count = here.1 in
      let fits : n ≤ length a.older.items = omega (arith, within, count, far count) in
      let back : length all - n ≡ suc (length a.older.items - n) = omega (arith, fits) in
      let split : drop (length all - n) all ≡ newest ∷ older = ap (λ (k : ℕ). drop k all) back ∙ is in
      let ready : All IsReady (newest ∷ older) = subst (All IsReady) is
      (All-drop IsReady (length a.older.items - n) a.older.items stands.older_ready) in
      let state : IsValid (view_of m a).state = stands.valid in
      let first = first_valid n (view_of m a).state state (λ none. absurd (omega (arith, some, none))) in
      let chunks : first_chunks n (view_of m a).state.chunks ≡ chunks_in (newest ∷ older) =
      rw chunk (ap (λ (k : ℕ). drop (k - n) (map stored_chunk all)) (length-map all stored_chunk)
      ∙ drop-map stored_chunk (length all - n) all ∙ ap (map stored_chunk) split) in
      let lists : first_bytes n (view_of m a).bytes ≡ map stored_bytes (newest ∷ older) =
      rw chunk (ap (λ (k : ℕ). drop (k - n) (map stored_bytes all)) (length-map all stored_bytes)
      ∙ drop-map stored_bytes (length all - n) all ∙ ap (map stored_bytes) split) in
      let fine : AreChunks m (chunks_in (newest ∷ older)) = subst (AreChunks m) chunks first.chunks in
      let high : 4096 ≤ newest.base = omega (arith, fine.1, floor_least m (chunks_in older) fine.2) in
      let test : (newest.base == 16) ≡ false = grind (arith, nat_tests) in
      let same : view_with m a newest older ≡ with_first n (view_of m a) = rw test (λ i. record {
        state = record (view_of m a).state { chunks = sym chunks i };
        statistics = (view_of m a).statistics;
        bytes = sym lists i;
      }) in
      record {
        high = high;
        view = subst (λ (w : Memory). view_with m a newest older ≡ with_first n w) view same;
        stored = record {
          valid = subst (λ (w : Memory). IsValid w.state) (sym same) first;
          none = λ is. absurd (omega (arith, is, high));
          ready = All-head IsReady newest older ready;
          older_ready = All-tail IsReady newest older ready;
        };
      }
    where
      far : length memory.state.chunks ≡ suc (length a.older.items) → n ≡ suc (length a.older.items) → ⊥
      far count same = other (same ∙ sym count)

  pub record AreEnds (n : ℕ) (chunk : StoredChunk) : Type 0 where
    pub start : start_of (first_chunks n memory.state.chunks) ≡ chunk.base
    pub top : top_of (first_chunks n memory.state.chunks) ≡ chunk.base + length chunk.bytes.items

  -- the bounds of the last of the first chunks, if it is in the table
  pub ends_in : (n : ℕ) (c : StoredChunk) → Stands m a → view_of m a ≡ memory → 0 < n → n ≤ length a.older.items
      → n ≤ length memory.state.chunks → IsOldest a.older.items (n - 1) c → AreEnds n c
  ends_in n c stands view some fits within is =
      let count = (counted n stands view some within).1 in
      let first : IsFirst n c (oldest (n - 1) a.older.items) = first_kept n c _ stands view some within
      (λ same. absurd (omega (arith, same, count, fits))) (ap (λ (k : ℕ). oldest k a.older.items) (omega (arith, some)) ∙ is) in
      let test : (c.base == 16) ≡ false = grind (arith, nat_tests, first.high) in
      record {
        start = ap (λ (w : Memory). start_of w.state.chunks) (sym first.view) ∙ rw test refl;
        top = ap (λ (w : Memory). top_of w.state.chunks) (sym first.view) ∙ rw test refl;
      }

-- ---- What stays as it was

byte_after : (m k p : ℕ) (chunks : List Chunk) (bytes : List (List ℕ)) → AreChunks m chunks → p < floor_of (drop k chunks)
    → byte_in (drop k chunks) (drop k bytes) p ≡ byte_in chunks bytes p
byte_after m zero p chunks bytes valid under = refl
byte_after m (suc k) p [] bytes valid under = refl
byte_after m (suc k) p (newest ∷ older) [] valid under = none (drop k older)
  where
    none : (l : List Chunk) → byte_in l [] p ≡ 0
    none [] = refl
    none (x ∷ l) = refl
byte_after m (suc k) p (newest ∷ older) (list ∷ bytes) valid under =
    let below : p < newest.base = omega (arith, under, floor_after m k older valid.2, valid.1) in
    let test : nat_le newest.base p ≡ false = grind (arith, nat_tests) in
    rw test (byte_after m k p older bytes valid.2 under)

byte_raised : (c p : ℕ) (chunks : List Chunk) (bytes : List (List ℕ)) → byte_in (raised c chunks) bytes p ≡ byte_in chunks bytes p
byte_raised c p chunks bytes = grind (arith, nat_tests)

-- a checkpoint that is accepted has a mark that the state accepts
pub accepted : (c : Checkpoint) (state : State) → IsTrue (is_accepted c state) → IsTrue (accepts (mark_at c) state)
accepted c state holds = (and_parts (c.generation == state.generation) (accepts (mark_at c) state) holds).1

pub goes_back : (old : Memory) (c : Checkpoint) → IsValid old.state → IsTrue (accepts (mark_at c) old.state)
    → length old.bytes ≡ length old.state.chunks → GoesBack old (sent_back c old)
goes_back old c valid holds paired = record {
  valid = record { entry = valid; exit = back_valid (mark_at c) old.state valid holds };
  generation = refl;
  min_align = refl;
  is_growing = refl;
  fewer = back_fewer (mark_at c) old.state;
  bytes = λ p used.
      let k : ℕ = length old.state.chunks - c.chunks in
      let under : p < floor_of (drop k old.state.chunks) = omega (
        arith,
        used_under old.state.min_align p 1 (raised c.addr (drop k old.state.chunks)) (back_valid (mark_at c) old.state valid holds).chunks
            (omega arith) used,
        floor_raised c.addr (drop k old.state.chunks),
      ) in
      byte_raised c.addr p (drop k old.state.chunks) (first_bytes c.chunks old.bytes)
      ∙ ap (λ (j : ℕ). byte_in (drop k old.state.chunks) (drop (j - c.chunks) old.bytes) p) paired
      ∙ byte_after old.state.min_align k p old.state.chunks old.bytes valid.chunks under;
}

-- A block that is still readable has its bytes.
pub went_back : (old new : Memory) (b : Block) → GoesBack old new → IsTrue (is_readable new.state b)
    → bytes_from (image new) b.addr b.size ≡ bytes_from (image old) b.addr b.size
went_back old new b back readable = grind (arith, nat_tests, bytes_same, readable_part)
