-- The block at the cursor, and its return.
use Rattle.std.proofs.lemmas.Bool.Decides.{nat_tests}
use Rattle.std.proofs.Common.{◌≡◌, ℕ, ◌+◌, ◌-◌, ◌<◌, ◌≤◌, ◌^◌, ◌∙◌, ap, sym, subst, arith, IsTrue}
use Rattle.std.proofs.lemmas.Bool.{cases_eq}
use Rattle.arena_rules.specs.Rounding.{up}
use Rattle.arena_rules.specs.State.{State, IsValid, cursor_of, top_of}
use Rattle.arena_rules.proofs.RoundingLemmas.{min_align_le}
use Rattle.arena_rules.proofs.CursorLemmas.{top_le}
use Rattle.arena_rules.specs.Moves.{dealloc}
use Rattle.arena_rules.proofs.ReturnLemmas.{IsReturn, is_return, block_end, dealloc_at, dealloc_elsewhere, dealloc_valid}
use Rattle.arena_store.specs.Memory.{Memory, is_readable, image}
use Rattle.arena_core.specs.BlockCalls.{place_of, GivesBack}
use Rattle.arena_store.specs.declared.block.Block.{Block}
use Rattle.arena_core.specs.declared.arena.Arena.TheInside.{Inside}
use Rattle.arena_core.proofs.StoredLemmas.{view_of, Stands, cursor_stored}
use Rattle.arena_core.proofs.FrameLemmas.{byte_moved, frame_dealloc}
use Rattle.arena_core.proofs.ReadableLemmas.{readable_used}

-- a block at the cursor
pub record IsLast (m : ℕ) (memory : Memory) (block : Block) : Type 0 where
  pub valid : IsValid memory.state
  pub at : block.addr ≡ cursor_of memory.state.chunks
  pub ends : block.addr + block.size ≤ top_of memory.state.chunks
  pub fits : block.addr + block.size + (m - 1) < 2 ^ 64
  pub unit : m ≡ memory.state.min_align

pub last_ends : (state : State) (block : Block) → IsValid state → IsTrue (is_readable state block) → block.addr ≡ cursor_of state.chunks
    → block.addr + block.size ≤ top_of state.chunks
last_ends state block valid readable at =
    block_end state (place_of block) valid (readable_used state block readable) at

pub is_last : (m : ℕ) (a : Inside m) (memory : Memory) (block : Block) → Stands m a → view_of m a ≡ memory
    → IsTrue (is_readable memory.state block) → block.addr ≡ a.newest.cursor
    → IsLast m memory block
is_last m a memory block stands view readable here =
    let valid = subst (λ (w : Memory). IsValid w.state) view stands.valid in
    let at = here ∙ cursor_stored m a memory stands view in
    let ends = last_ends memory.state block valid readable at in
    record {
      valid = valid;
      at = at;
      ends = ends;
      fits = omega (arith, ends, top_le memory.state valid, min_align_le m stands.valid.min_align);
      unit = ap (λ (w : Memory). w.state.min_align) view;
    }

-- the cursor moves to where it is after the block was given back
pub last_returned : (m : ℕ) (memory : Memory) (block : Block) (q : ℕ) → IsLast m memory block → q ≡ up (block.addr + block.size) m
    → IsReturn memory.state block.addr block.size q
last_returned m memory block q last is = is_return memory.state block.addr block.size q last.valid last.at last.ends
    (is ∙ ap (up (block.addr + block.size)) last.unit)

-- No byte changes when a block is given back.
pub dealloc_bytes : (old : Memory) (block : Block) (p : ℕ)
    → image (record old { state = dealloc old.state block.addr block.size }) p ≡ image old p
dealloc_bytes old block p = grind (arith, nat_tests, cases_eq, dealloc_at, byte_moved, dealloc_elsewhere)

-- The effects of giving a block back by the rule.
pub gives_back : (old new : Memory) (block : Block) → IsValid old.state → IsTrue (is_readable old.state block)
    → new ≡ record old { state = dealloc old.state block.addr block.size }
    → GivesBack old new block
gives_back old new block valid readable is = record {
  valid = record {
    entry = valid;
    exit = subst (λ (w : Memory). IsValid w.state) (sym is)
        (dealloc_valid old.state (place_of block) valid (readable_used old.state block readable));
  };
  memory = is;
  frame = frame_dealloc old new block is (λ p. ap (λ (w : Memory). image w p) is ∙ dealloc_bytes old block p);
}
