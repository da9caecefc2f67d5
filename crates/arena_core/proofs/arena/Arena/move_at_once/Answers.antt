use Rattle.std.proofs.lemmas.Bool.Decides.{nat_tests}
use Rattle.std.proofs.Common.{◌≡◌, ℕ, ◌∙◌, ap, subst, arith}
use Rattle.arena_rules.specs.Causes.{counted}
use Rattle.arena_rules.specs.Statistics.{one_reallocation}
use Rattle.arena_rules.proofs.CursorLemmas.{start_set}
use Rattle.arena_store.specs.Memory.{Memory, image, bytes_from, written}
use Rattle.arena_store.specs.declared.chunk.StoredChunk.{StoredChunk}
use Rattle.arena_core.proofs.FrameLemmas.{bytes_moved}
use Rattle.arena_core.proofs.StoredLemmas.{view_with, start_stored, cursor_stored, cursor_moved, cursor_view}
use Rattle.arena_core.proofs.CursorMoveLemmas.{is_below, below_used}
use Rattle.arena_core.proofs.arena.Arena.move_at_once.Goals as goal

pub set_cursor-requires : goal.set_cursor-requires
set_cursor-requires g c = grind (arith, nat_tests, start_stored)

pub invariant_of-self : goal.invariant_of-self
invariant_of-self g c = grind (arith, nat_tests, cursor_moved, is_below)

pub move_in_newest-requires : goal.move_in_newest-requires
move_in_newest-requires g c = grind (arith, nat_tests, below_used, start_set, cursor_view, cursor_stored)

pub returns : goal.returns
returns g c =
    let moved = c.set_cursor.ensures in
    let view = cursor_view g.row.MIN_ALIGN c.self.inside c.args.self.now c.args.addr moved.low c.self.view_is in
    let count : c.saturating_add-self-inside.result ≡ counted c.self.inside.reallocations 1 =
    omega (arith, c.saturating_add-self-inside.ensures) in
    record {
      state = c.move_in_newest.ensures.state ∙ rw moved.chunk (ap (λ (w : Memory). w.state) view);
      statistics = c.move_in_newest.ensures.statistics
          ∙ rw count (ap (λ (w : Memory). one_reallocation w.statistics) c.self.view_is);
      bytes = rw (← cursor_stored g.row.MIN_ALIGN c.self.inside c.args.self.now c.self.invariant c.self.view_is)
          (subst (λ (f : ℕ → ℕ). (p : ℕ) → image c.move_in_newest.new.self p
          ≡ written f c.args.addr (bytes_from f c.self.inside.newest.cursor c.args.n) p)
          (ap (λ (chunk : StoredChunk). image (view_with g.row.MIN_ALIGN c.self.inside chunk c.self.inside.older.items)) moved.chunk
          ∙ ap image view ∙ bytes_moved c.args.addr c.args.self.now.state.chunks c.args.self.now.bytes)
          c.move_in_newest.ensures.bytes);
    }
