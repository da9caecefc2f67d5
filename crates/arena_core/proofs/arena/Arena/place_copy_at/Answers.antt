use Rattle.std.proofs.lemmas.Bool.Decides.{nat_tests}
use Rattle.std.proofs.Common.{◌≡◌, ℕ, ◌∙◌, ap, subst, length, arith}
use Rattle.arena_rules.proofs.CursorLemmas.{start_set}
use Rattle.arena_store.specs.Memory.{image, bytes_from, written}
use Rattle.arena_core.specs.Adding.{placed_at}
use Rattle.arena_store.proofs.BytesLemmas.{length-bytes}
use Rattle.arena_core.proofs.FrameLemmas.{bytes_moved}
use Rattle.arena_core.proofs.AllocationLemmas.{place_cursor}
use Rattle.arena_core.proofs.StoredLemmas.{start_stored}
use Rattle.arena_core.proofs.PartLemmas.{newest_part, older_part, older_bytes}
use Rattle.arena_core.proofs.CopiedLemmas.{placed_used, copying, IsCopied, copied}
use Rattle.arena_core.proofs.arena.Arena.place_copy_at.Given.{Over}
use Rattle.arena_core.proofs.arena.Arena.place_copy_at.Goals as goal

-- ---- From the newest chunk

pub move_in_newest-requires : goal.move_in_newest-requires
move_in_newest-requires g c = grind (arith, nat_tests, place_cursor, start_set, placed_used, start_stored)

pub returns-then-n-eq0-clause-bytes : goal.returns-then-n-eq0-clause-bytes
returns-then-n-eq0-clause-bytes g c =
    subst (λ (f : ℕ → ℕ). (p : ℕ) → image c.move_in_newest.new.self p ≡ written f c.args.addr (bytes_from f c.args.from c.args.n) p)
    (ap image c.place_at.ensures ∙ bytes_moved c.args.addr c.args.self.now.state.chunks c.args.self.now.bytes) c.move_in_newest.ensures.bytes

-- ---- From an older one

pub bytes-bytes-requires : goal.bytes-bytes-requires
bytes-bytes-requires g c =
    let is = copying g.row.MIN_ALIGN c.self.inside c.args.self.now _ _ c.args.addr c.args.from c.args.n c.self.invariant c.self.view_is c.args.layout.valid c.requires.place
    c.requires.source c.requires.fits c.if-n-eq0.false in
    older_part _ _ _ _ _ is.source c.if-from-newest.false

pub make_ready_with-requires-clause-high : goal.make_ready_with-requires-clause-high
make_ready_with-requires-clause-high g c =
    let is = copying g.row.MIN_ALIGN c.self.inside c.args.self.now _ _ c.args.addr c.args.from c.args.n c.self.invariant c.self.view_is c.args.layout.valid c.requires.place
    c.requires.source c.requires.fits c.if-n-eq0.false in
    omega (
      arith,
      (newest_part _ _ _ _ _ is.target is.above).high,
      is.above,
      ap length (c.bytes-bytes.ensures ∙ older_bytes _ _ _ _ _ is.source c.if-from-newest.false)
          ∙ length-bytes (image (placed_at c.args.self.now c.args.addr)) c.args.from c.args.n,
    )

made : (g : Over) (c : goal.After-count_one g)
    → IsCopied g.row.MIN_ALIGN c.self.inside c.args.self.now c.args.addr c.args.from c.args.n c.bytes-bytes.result.now
made g c =
    let is = copying g.row.MIN_ALIGN c.self.inside c.args.self.now _ _ c.args.addr c.args.from c.args.n c.self.invariant c.self.view_is c.args.layout.valid c.requires.place
    c.requires.source c.requires.fits c.if-n-eq0.false in
    copied _ _ _ _ _ _ _ is (c.bytes-bytes.ensures ∙ older_bytes _ _ _ _ _ is.source c.if-from-newest.false)

pub invariant_of-self : goal.invariant_of-self
invariant_of-self g c = rw (c.make_ready_with.ensures, c.count_one.ensures) (made g c).stored

pub returns-clause-state : goal.returns-clause-state
returns-clause-state g c = rw c.make_ready_with.ensures (made g c).state

pub returns-clause-bytes : goal.returns-clause-bytes
returns-clause-bytes g c = rw c.make_ready_with.ensures (made g c).bytes
