use Rattle.std.proofs.lemmas.Bool.Decides.{nat_tests}
use Rattle.std.proofs.Common.{sym, ap, subst, ◌∙◌, arith, None, replicate}
use Rattle.std.specs.Prelude.{slice_get}
use Rattle.std.proofs.lemmas.Result.{err_from_is_err_and}
use Rattle.arena_chunks.proofs.Layers.{frame_then}
use Rattle.hash_ring.specs.Slots.{Moved}
use Rattle.hash_ring.proofs.Count.{items-most, none-there}
use Rattle.hash_ring.proofs.PolicyLemmas.{next-ring}
use Rattle.arena_table.specs.Contents.{kind}
use Rattle.arena_table.specs.Tables.{slots_in}
use Rattle.arena_table.proofs.FreeLemmas.{free-table}
use Rattle.arena_table.proofs.ReadLemmas.{placed-same, placed-beside}
use Rattle.arena_hash.proofs.GrowLemmas.{made-placed, next-above}
use Rattle.arena_hash.proofs.map.HashMap.grown.Goals as goal

pub place-requires-clause-ring : goal.place-requires-clause-ring
place-requires-clause-ring g c = grind (arith, nat_tests, next-ring)

pub returns-in_err-table-clause-made : goal.returns-in_err-table-clause-made
returns-in_err-table-clause-made g c = grind (arith, nat_tests, err_from_is_err_and, made-placed)

pub carry_all-requires-clause-held : goal.carry_all-requires-clause-held
carry_all-requires-clause-held g c =
    let k = kind g.K.Item g.K.ArenaKey.key g.V.Item g.S.KeyHasher.hash_of in
    let t = c.in_ok-table.table in
    let made = c.in_ok-table.ensures in
    let free = made.free ∙ ap (λ n. replicate n None) (sym made.slots) in
    record {
      handle = made.held;
      table = free-table k _ _ _ free;
      texts = λ x h. absurd (none-there t.slots h.0 x (ap (λ s. slice_get s h.0) (sym free) ∙ h.1));
    }

pub carry_all-requires-clause-room : goal.carry_all-requires-clause-room
carry_all-requires-clause-room g c =
    let t = c.in_ok-table.table in
    let made = c.in_ok-table.ensures in
    let old = c.args.a.now.memory in
    let same = placed-same _ _ _ t.block _ _ made.frame c.requires.held in
    let most = items-most (slots_in g.K.Item g.V.Item old c.args.self.now.table) in
    let next = next-above c.args.self.now.table.slots in
    rw (same, made.slots, c.next_slots.ensures) (omega (arith, most, c.requires.held.table.ordered.long, next))

pub carry_all-requires-clause-from : goal.carry_all-requires-clause-from
carry_all-requires-clause-from g c =
    placed-beside _ _ _ _ _ _ c.in_ok-table.ensures.frame c.requires.held

pub returns-clause-moved : goal.returns-clause-moved
returns-clause-moved g c =
    let same = placed-same _ _ _ c.in_ok-table.table.block _ _ c.in_ok-table.ensures.frame c.requires.held in
    subst (λ s. Moved s (slots_in g.K.Item g.V.Item c.carry_all.new.a.memory c.in_ok-table.table)) same c.carry_all.ensures.moved

pub returns-clause-frame : goal.returns-clause-frame
returns-clause-frame g c = grind (arith, nat_tests, frame_then)
