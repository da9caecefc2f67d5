-- The chunk that has a range in use.
use Rattle.std.proofs.Common.{◌≡◌, ℕ, ◌+◌, ◌-◌, ◌<◌, ◌≤◌, ◌^◌, ap, sym, refl, subst, ◌∙◌, arith, IsTrue, List, [], ◌∷◌, true, false, length, map, inl, inr}
use Rattle.std.specs.Prelude.{nat_le, nat_lt, ◌==◌, ◌&&◌, slice_index}
use Rattle.std.specs.List.{All}
use Rattle.std.proofs.lemmas.Bool.{cases_Bool, cases_lt, or_cases}
use Rattle.std.proofs.lemmas.Bool.Decides.{nat_tests}
use Rattle.std.proofs.lemmas.Grind.{common_steps}
use Rattle.std.proofs.lemmas.List.Elements.{All-cons, All-head, All-tail}
use Rattle.arena_rules.specs.State.{Chunk, IsValid, AreChunks, floor_of, is_used_by, is_range_used, start_of}
use Rattle.arena_rules.proofs.UsedLemmas.{used_under}
use Rattle.arena_region.specs.Bytes.{written_from}
use Rattle.arena_store.specs.Memory.{Memory, image, is_readable, bytes_from, written, Writes}
use Rattle.arena_store.specs.Lends.{bytes_with}
use Rattle.arena_store.specs.Stored.{stored_chunk, stored_bytes, IsReady, IsStored, part_of, with_part, HasPart, HasPartIn, part_in, with_part_in}
use Rattle.arena_store.specs.declared.block.Block.{Block}
use Rattle.arena_store.specs.declared.chunk.StoredChunk.{StoredChunk}
use Rattle.arena_core.specs.BlockCalls.{WritesBlock}
use Rattle.arena_core.specs.BlockLends.{with_range}
use Rattle.arena_core.specs.declared.arena.Arena.TheInside.{Inside}
use Rattle.arena_store.proofs.BytesLemmas.{bytes_part, splice_index, length-bytes, written_none}
use Rattle.arena_store.proofs.TableLemmas.{chunks_in, bytes_in, first_has, first_part, first_with, others_have, others_part, others_with}
use Rattle.arena_store.proofs.WrittenFrom.{length-written, written_spliced}
use Rattle.arena_core.proofs.BlockCallLemmas.{writes_block}
use Rattle.arena_core.proofs.ReadableLemmas.{readable_part}
use Rattle.arena_core.proofs.StoredLemmas.{view_with, view_of, Stands, differs, start_stored}
use Rattle.arena_core.proofs.WrittenLemmas.{bytes_same}

-- After the last byte there is no room.
written_behind : (xs list : List ℕ) (at : ℕ) → at ≡ length xs → written_from xs at list ≡ xs
written_behind xs list at end = grind (arith, common_steps)

-- ---- In a list of chunks

-- below a chunk the bytes are those of the older ones
pub byte_below : (c : StoredChunk) (older : List StoredChunk) (p : ℕ) → p < c.base → bytes_in (c ∷ older) p ≡ bytes_in older p
byte_below c older p below = let test : nat_le c.base p ≡ false = grind (arith, nat_tests) in rw test refl

-- and in it they are its own
pub byte_here : (c : StoredChunk) (older : List StoredChunk) (p : ℕ) → c.base ≤ p
    → bytes_in (c ∷ older) p ≡ slice_index c.bytes.items (p - c.base)
byte_here c older p here = let test : nat_le c.base p ≡ true = grind (arith, nat_tests) in rw test refl

-- what a list written in a chunk leaves
pub record IsRewritten (chunks new : List StoredChunk) (addr : ℕ) (list : List ℕ) : Type 0 where
  pub places : chunks_in new ≡ chunks_in chunks
  pub bytes : map stored_bytes new ≡ bytes_with (chunks_in chunks) (map stored_bytes chunks) addr list
  pub ready : All IsReady new

module _ (m addr n : ℕ) where
  pub has_part : (chunks : List StoredChunk) → AreChunks m (chunks_in chunks) → All IsReady chunks → 0 < n
      → IsTrue (is_range_used (chunks_in chunks) addr n) → HasPartIn chunks addr n
  has_part [] valid ready some used = absurd cc
  has_part (c ∷ older) valid ready some used =
      elim (or_cases (is_used_by addr n (stored_chunk c)) (is_range_used (chunks_in older) addr n) used) [
        | inl here ↦
            let from : c.cursor ≤ addr = grind (arith, nat_tests) in
            inl (
              omega (arith, from, valid.0.cursor_low),
              record {
                ready = All-head IsReady c older ready;
                used = from;
                high = grind (arith, nat_tests);
              },
            )
        | inr there ↦ inr (
          omega (arith, used_under m addr n (chunks_in older) valid.2 some there, valid.1),
          has_part older valid.2 (All-tail IsReady c older ready) some there,
        )
      ]

  pub part_under : (chunks : List StoredChunk) → AreChunks m (chunks_in chunks) → HasPartIn chunks addr n
      → addr + n ≤ floor_of (chunks_in chunks)
  part_under [] valid has = absurd has
  part_under (c ∷ older) valid has = elim has [
    | inl here ↦ omega (arith, here.1.high)
    | inr there ↦ omega (arith, part_under older valid.2 there.1, valid.1)
  ]

  pub part_bytes : (chunks : List StoredChunk) → AreChunks m (chunks_in chunks) → HasPartIn chunks addr n
      → part_in chunks addr n ≡ bytes_from (bytes_in chunks) addr n
  part_bytes [] valid has = absurd has
  part_bytes (c ∷ older) valid has = elim has [
    | inl here ↦
        let low = here.0 in
        first_part c older addr low n
        ∙ bytes_part (bytes_in (c ∷ older)) c.bytes.items addr (addr - c.base) n (omega (arith, low, here.1.high)) (λ i below.
        byte_here c older (addr + i) (omega (arith, low)) ∙ ap (slice_index c.bytes.items) (omega (arith, low)))
    | inr there ↦
        let under = part_under older valid.2 there.1 in
        others_part c older addr there.0 n ∙ part_bytes older valid.2 there.1
        ∙ bytes_same (bytes_in older) (bytes_in (c ∷ older)) addr n (λ i below.
        sym (byte_below c older (addr + i) (omega (arith, under, valid.1, below))))
  ]

  pub rewritten : (chunks : List StoredChunk) (list : List ℕ) → All IsReady chunks → HasPartIn chunks addr n
      → IsRewritten chunks (with_part_in chunks addr list) addr list
  rewritten [] list ready has = absurd has
  rewritten (c ∷ older) list ready has = elim has [
    | inl here ↦
        let low = here.0 in
        let test : nat_le c.base addr ≡ true = grind (arith, nat_tests) in
        let sized = length-written c.bytes.items list (addr - c.base) (omega (arith, low, here.1.high)) in
        rw test (record {
          places = rw sized refl;
          bytes = rw test refl;
          ready = All-cons IsReady (with_part c addr list) older (All-head IsReady c older ready) (All-tail IsReady c older ready);
        })
    | inr there ↦
        let high = there.0 in
        let test : nat_le c.base addr ≡ false = grind (arith, nat_tests) in
        let rest = rewritten older list (All-tail IsReady c older ready) there.1 in
        rw test (record {
          places = ap (λ (l : List Chunk). stored_chunk c ∷ l) rest.places;
          bytes = rw test (ap (λ (l : List (List ℕ)). c.bytes.items ∷ l) rest.bytes);
          ready = All-cons IsReady c (with_part_in older addr list) (All-head IsReady c older ready) rest.ready;
        })
  ]

  pub byte_written : (chunks : List StoredChunk) (list : List ℕ) (p : ℕ) → AreChunks m (chunks_in chunks) → HasPartIn chunks addr n
      → length list ≡ n → bytes_in (with_part_in chunks addr list) p ≡ written (bytes_in chunks) addr list p
  byte_written [] list p valid has sized = absurd has
  byte_written (c ∷ older) list p valid has sized = elim has [
    | inl here ↦
        let low = here.0 in
        let test : nat_le c.base addr ≡ true = grind (arith, nat_tests) in
        let at : ℕ = addr - c.base in
        let fits : at + length list ≤ length c.bytes.items = omega (arith, low, here.1.high, sized) in
        elim (cases_lt p c.base) [
          | inl below ↦
              let beside : (nat_le addr p && nat_lt p (addr + length list)) ≡ false = grind (arith, nat_tests) in
              rw (test, beside) (byte_below (with_part c addr list) older p below ∙ sym (byte_below c older p below))
          | inr reach ↦
              let left : nat_le at (p - c.base) ≡ nat_le addr p = grind (arith, nat_tests) in
              let right : nat_lt (p - c.base) (at + length list) ≡ nat_lt p (addr + length list) = grind (arith, nat_tests) in
              let index : p - c.base - at ≡ p - addr = omega (arith, low) in
              rw test (byte_here (with_part c addr list) older p reach
              ∙ ap (λ (l : List ℕ). slice_index l (p - c.base)) (written_spliced c.bytes.items list at fits)
              ∙ splice_index c.bytes.items list at (p - c.base) fits ∙ rw (left, right, index, byte_here c older p reach) refl)
        ]
    | inr there ↦
        let high = there.0 in
        let test : nat_le c.base addr ≡ false = grind (arith, nat_tests) in
        let under = part_under older valid.2 there.1 in
        elim (cases_lt p c.base) [
          | inl below ↦
              rw (test, byte_below c older p below)
              (byte_below c (with_part_in older addr list) p below ∙ byte_written older list p valid.2 there.1 sized)
          | inr reach ↦
              let past : addr + length list ≤ p = omega (arith, under, valid.1, sized, reach) in
              let beside : (nat_le addr p && nat_lt p (addr + length list)) ≡ false = grind (arith, nat_tests) in
              rw (test, beside) (byte_here c (with_part_in older addr list) p reach ∙ sym (byte_here c older p reach))
        ]
  ]

module _ (m : ℕ) (a : Inside m) (memory : Memory) where
  -- ---- A range in use in an open arena

  pub record IsRange (addr n : ℕ) : Type 0 where
    pub some : 0 < n
    pub stands : Stands m a
    pub view : view_of m a ≡ memory
    pub chunk : (a.newest.base == 16) ≡ false
    pub valid : AreChunks m (chunks_in (a.newest ∷ a.older.items))
    pub has : HasPartIn (a.newest ∷ a.older.items) addr n

  ready_all : Stands m a → All IsReady (a.newest ∷ a.older.items)
  ready_all stands = All-cons IsReady a.newest a.older.items stands.ready stands.older_ready

  pub is_range : (addr n : ℕ) → Stands m a → view_of m a ≡ memory → 0 < n → IsTrue (is_range_used memory.state.chunks addr n)
      → IsRange addr n
  is_range addr n stands view some used =
      let here = subst (λ (w : Memory). IsTrue (is_range_used w.state.chunks addr n)) (sym view) used in
      elim (cases_Bool (a.newest.base == 16)) [
        | inl none ↦ absurd (let no_way : IsTrue false = rw none at here in cc)
        | inr chunk ↦
            let valid : AreChunks m (chunks_in (a.newest ∷ a.older.items)) = rw chunk at stands.valid.chunks in
            record {
              some = some;
              stands = stands;
              view = view;
              chunk = chunk;
              valid = valid;
              has = has_part m addr n (a.newest ∷ a.older.items) valid (ready_all stands) some (rw chunk at here);
            }
      ]

  pub block_range : (block : Block) (at n : ℕ) → Stands m a → view_of m a ≡ memory → IsTrue (is_readable memory.state block)
      → at + n ≤ block.size → (n ≡ 0 → ⊥) → IsRange (block.addr + at) n
  block_range block at n stands view readable within some =
      let more : 0 < n = omega (arith, some) in
      is_range (block.addr + at) n stands view more
      (readable_part memory.state block (block.addr + at) n readable (omega arith) (omega (arith, within)) more)

  pub whole_range : (block : Block) → Stands m a → view_of m a ≡ memory → IsTrue (is_readable memory.state block) → (block.size ≡ 0 → ⊥)
      → IsRange block.addr block.size
  whole_range block stands view readable some =
      let first : block.addr + 0 ≡ block.addr = omega arith in
      rw first at (block_range block 0 block.size stands view readable (omega arith) some)

  pub range_fits : (addr n : ℕ) → IsRange addr n → addr < 2 ^ 64
  range_fits addr n range = grind (arith, nat_tests, chunks_in)

  by_image : (addr n : ℕ) → IsRange addr n → bytes_in (a.newest ∷ a.older.items) ≡ image memory
  by_image addr n range = subst (λ (w : Memory). bytes_in (a.newest ∷ a.older.items) ≡ image w) range.view (rw range.chunk refl)

  pub range_bytes : (addr n : ℕ) → IsRange addr n → part_in (a.newest ∷ a.older.items) addr n ≡ bytes_from (image memory) addr n
  range_bytes addr n range = part_bytes m addr n (a.newest ∷ a.older.items) range.valid range.has
      ∙ ap (λ (f : ℕ → ℕ). bytes_from f addr n) (by_image addr n range)

  -- in the newest chunk
  pub newest_part : (addr n : ℕ) → IsRange addr n → a.newest.base ≤ addr → HasPart a.newest addr n
  newest_part addr n range above = first_has a.newest a.older.items addr above n range.has

  pub newest_bytes : (addr n : ℕ) → IsRange addr n → a.newest.base ≤ addr → part_of a.newest addr n ≡ bytes_from (image memory) addr n
  newest_bytes addr n range above = sym (first_part a.newest a.older.items addr above n) ∙ range_bytes addr n range

  -- in an older one
  pub older_part : (addr n : ℕ) → IsRange addr n → addr < a.newest.base → HasPartIn a.older.items addr n
  older_part addr n range below = others_have a.newest a.older.items addr below n range.has

  pub older_bytes : (addr n : ℕ) → IsRange addr n → addr < a.newest.base → part_in a.older.items addr n ≡ bytes_from (image memory) addr n
  older_bytes addr n range below = sym (others_part a.newest a.older.items addr below n) ∙ range_bytes addr n range

  -- a part of a block is where the block begins
  module _ (block : Block) (at n : ℕ) (stands : Stands m a) (view : view_of m a ≡ memory) (readable : IsTrue (is_readable memory.state block))
      (within : at + n ≤ block.size) (some : n ≡ 0 → ⊥) where
    pub newest_range : a.newest.base ≤ block.addr → IsRange (block.addr + at) n × (a.newest.base ≤ block.addr + at)
    newest_range above = (block_range block at n stands view readable within some, omega (arith, above))

    pub older_range : block.addr < a.newest.base → IsRange (block.addr + at) n × (block.addr + at < a.newest.base)
    older_range below =
        let whole = whole_range block stands view readable (λ none. some (omega (arith, none, within))) in
        let part = block_range block at n stands view readable within some in (
          part,
          omega (
            arith,
            part_under m block.addr block.size a.older.items whole.valid.2 (older_part block.addr block.size whole below),
            whole.valid.1,
            part.some,
            within,
          ),
        )

  -- ---- Writing in a range

  -- with this newest chunk and this table the arena has a list in place of a range
  pub record IsLent (addr n : ℕ) (list : List ℕ) (newest : StoredChunk) (older : List StoredChunk) : Type 0 where
    pub stored : IsStored (view_with m a newest older) newest older
    pub view : view_with m a newest older ≡ with_range memory addr n list
    pub image : length list ≡ n → Writes memory (view_with m a newest older) addr list

  lent : (addr n : ℕ) (list : List ℕ) (newest : StoredChunk) (older : List StoredChunk) → IsRange addr n
      → newest ∷ older ≡ with_part_in (a.newest ∷ a.older.items) addr list → IsLent addr n list newest older
  lent addr n list newest older range split =
      let is = subst (λ (l : List StoredChunk). IsRewritten (a.newest ∷ a.older.items) l addr list) (sym split)
      (rewritten m addr n (a.newest ∷ a.older.items) list (ready_all range.stands) range.has) in
      let test : (newest.base == 16) ≡ false = ap (λ (chunks : List Chunk). start_of chunks == 16) is.places ∙ range.chunk in
      let filled = range.some in
      let some : (n == 0) ≡ false = grind (arith, nat_tests) in
      let view : view_with m a newest older ≡ with_range (view_of m a) addr n list = rw (test, range.chunk, some) (λ i. record {
        state = record { min_align = m; is_growing = a.is_growing; generation = a.generation; chunks = is.places i };
        statistics = (view_of m a).statistics;
        bytes = is.bytes i;
      }) in
      record {
        stored = record {
          valid = subst (λ (w : Memory). IsValid w.state) (sym view) range.stands.valid;
          none = λ same. absurd (differs newest.base test same);
          ready = All-head IsReady newest older is.ready;
          older_ready = All-tail IsReady newest older is.ready;
        };
        view = subst (λ (w : Memory). view_with m a newest older ≡ with_range w addr n list) range.view view;
        image = λ sized p. rw test (ap (λ (l : List StoredChunk). bytes_in l p) split
            ∙ byte_written m addr n (a.newest ∷ a.older.items) list p range.valid range.has sized
            ∙ ap (λ (f : ℕ → ℕ). written f addr list p) (by_image addr n range));
      }

  pub newest_lent : (addr n : ℕ) (list : List ℕ) → IsRange addr n → a.newest.base ≤ addr
      → IsLent addr n list (with_part a.newest addr list) a.older.items
  newest_lent addr n list range above =
      lent addr n list (with_part a.newest addr list) a.older.items range (sym (first_with a.newest a.older.items addr above list))

  pub older_lent : (addr n : ℕ) (list : List ℕ) → IsRange addr n → addr < a.newest.base
      → IsLent addr n list a.newest (with_part_in a.older.items addr list)
  older_lent addr n list range below =
      lent addr n list a.newest (with_part_in a.older.items addr list) range (sym (others_with a.newest a.older.items addr below list))

  -- no bytes, at the end of the newest chunk
  pub none_lent : (addr end n : ℕ) (list : List ℕ) → Stands m a → view_of m a ≡ memory → n ≡ 0
      → end ≡ a.newest.base + length a.newest.bytes.items → IsLent addr n list (with_part a.newest end list) a.older.items
  none_lent addr end n list stands view none at = grind (arith, nat_tests, written_behind, written_none)

  pub lent_writes : (block : Block) (at n : ℕ) (list : List ℕ) (newest : StoredChunk) (older : List StoredChunk) → Stands m a
      → view_of m a ≡ memory → at + n ≤ block.size → IsLent (block.addr + at) n list newest older → length list ≡ n
      → WritesBlock memory (with_range memory (block.addr + at) n list) block at list
  lent_writes block at n list newest older stands view within is sized = grind (arith, nat_tests, writes_block)

  -- ---- Bytes moved into a range

  pub record IsMoved (from to n : ℕ) (newest : StoredChunk) (older : List StoredChunk) : Type 0 where
    pub stored : IsStored (view_with m a newest older) newest older
    pub state : (view_with m a newest older).state ≡ memory.state
    pub image : Writes memory (view_with m a newest older) to (bytes_from (image memory) from n)

  pub moved : (from to n : ℕ) (list : List ℕ) (newest : StoredChunk) (older : List StoredChunk) → list ≡ bytes_from (image memory) from n
      → IsLent to n list newest older → IsMoved from to n newest older
  moved from to n list newest older is made = grind (arith, nat_tests, view_with, length-bytes)

  -- from any chunk to any chunk
  pub copied : (from to n : ℕ) (newest : StoredChunk) (older : List StoredChunk) → IsRange from n → IsRange to n
      → newest ∷ older ≡ with_part_in (a.newest ∷ a.older.items) to (part_in (a.newest ∷ a.older.items) from n) → IsMoved from to n newest older
  copied from to n newest older source target is =
      moved from to n (part_in (a.newest ∷ a.older.items) from n) newest older (range_bytes from n source)
      (lent to n (part_in (a.newest ∷ a.older.items) from n) newest older target is)

  -- within the newest chunk
  pub record IsMove (from to n : ℕ) : Type 0 where
    pub source : IsRange from n
    pub target : IsRange to n
    pub low : a.newest.base ≤ from
    pub above : a.newest.base ≤ to

  pub is_move : (from to n : ℕ) → Stands m a → view_of m a ≡ memory → (0 < n → IsTrue (is_range_used memory.state.chunks from n))
      → (0 < n → IsTrue (is_range_used memory.state.chunks to n))
      → (0 < n → (start_of memory.state.chunks ≤ from) × (start_of memory.state.chunks ≤ to)) → (n ≡ 0 → ⊥) → IsMove from to n
  is_move from to n stands view source target newest some =
      let more : 0 < n = omega (arith, some) in
      record {
        source = is_range from n stands view more (source more);
        target = is_range to n stands view more (target more);
        low = omega (arith, (newest more).0, start_stored m a memory stands view);
        above = omega (arith, (newest more).1, start_stored m a memory stands view);
      }
