use Rattle.std.proofs.lemmas.Bool.Decides.{nat_tests}
use Rattle.std.proofs.Common.{◌≡◌, ◌-◌, ap, arith, ◌∙◌, sym, length, drop, ℕ}
use Rattle.std.specs.List.{list_any}
use Rattle.arena_rules.specs.State.{is_used_by}
use Rattle.arena_store.specs.Stored.{stored_chunk}
use Rattle.arena_store.specs.declared.chunk.StoredChunk.{StoredChunk}
use Rattle.arena_store.proofs.KeptLemmas.{items_length, one_has}
use Rattle.arena_store.proofs.table.Table.has.Goals as goal

pub chunk_has-requires-clause-index : goal.chunk_has-requires-clause-index
chunk_has-requires-clause-index c =
    omega (arith, c.loop-i-test.true, c.len-i-end.ensures, c.self.inside.kept.ok.0, items_length _ _ _ _ c.self.invariant c.self.view_is)

pub returns-then-chunk_has : goal.returns-then-chunk_has
returns-then-chunk_has c = grind (arith, nat_tests, one_has)

pub returns : goal.returns
returns c =
    let all : length c.args.self.now.items - c.loop-i.i ≡ 0 =
    omega (arith, c.loop-i-test.false, c.len-i-end.ensures, c.self.inside.kept.ok.0, items_length _ _ _ _ c.self.invariant c.self.view_is) in
    sym (ap (λ (j : ℕ). list_any (λ (x : StoredChunk). is_used_by c.args.block.addr c.args.block.size (stored_chunk x))
    (drop j c.args.self.now.items)) (sym all) ∙ c.loop-i.invariant)
