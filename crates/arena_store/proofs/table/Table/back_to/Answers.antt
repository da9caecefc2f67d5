use Rattle.std.proofs.Common.{◌≡◌, ◌+◌, ◌-◌, ◌∷◌, ap, arith, ◌∙◌, ℕ, List}
use Rattle.arena_store.specs.Stored.{oldest}
use Rattle.arena_store.specs.Table.{chunk_of}
use Rattle.arena_store.specs.declared.chunk.StoredChunk.{StoredChunk}
use Rattle.arena_store.proofs.KeptLemmas.{items_length, oldest_is, is_row, table_take}
use Rattle.arena_store.proofs.table.Table.back_to.Goals as goal

pub base-base-requires : goal.base-base-requires
base-base-requires c = omega (arith, c.requires.some, c.requires.within, c.self.invariant.pairs, items_length _ _ _ _ c.self.invariant c.self.view_is)

pub last_of-bytes-requires-clause-within : goal.last_of-bytes-requires-clause-within
last_of-bytes-requires-clause-within c = omega (arith, c.requires.within, items_length _ _ _ _ c.self.invariant c.self.view_is)

pub overflow_sub-cursor : goal.overflow_sub-cursor
overflow_sub-cursor c =
    let row = is_row _ _ _ _ c.self.invariant c.self.view_is (c.args.n - 1) _ _ c.requires.ordered (omega (arith, c.requires.some, c.requires.within))
    c.base-base.ensures (c.last_of-bytes.ensures.last c.last_of-bytes.result) in
    omega (arith, row.used, c.len.ensures.value)

pub overflow_add-cursor : goal.overflow_add-cursor
overflow_add-cursor c =
    let row = is_row _ _ _ _ c.self.invariant c.self.view_is (c.args.n - 1) _ _ c.requires.ordered (omega (arith, c.requires.some, c.requires.within))
    c.base-base.ensures (c.last_of-bytes.ensures.last c.last_of-bytes.result) in
    omega (arith, row.ordered.fits, c.len.ensures.value)

pub invariant_of-self : goal.invariant_of-self
invariant_of-self c =
    rw (c.truncate.ensures.items, c.last_of-bytes.ensures.items) (table_take (c.args.n - 1) _ _ c.self.invariant)

pub returns : goal.returns
returns c =
    let row = is_row _ _ _ _ c.self.invariant c.self.view_is (c.args.n - 1) _ _ c.requires.ordered (omega (arith, c.requires.some, c.requires.within))
    c.base-base.ensures (c.last_of-bytes.ensures.last c.last_of-bytes.result) in
    let next : c.args.n ≡ c.args.n - 1 + 1 = omega (arith, c.requires.some) in
    ap (λ (j : ℕ). oldest j c.args.self.now.items) next ∙ row.chunk
    ∙ rw (c.len.ensures.value, c.truncate.ensures.items, c.last_of-bytes.ensures.items)
    (ap (λ (l : List StoredChunk). chunk_of c.base-base.result c.last_of-bytes.result ∷ l)
    (oldest_is _ _ _ _ c.self.invariant c.self.view_is (c.args.n - 1)
    (omega (arith, c.requires.within, items_length _ _ _ _ c.self.invariant c.self.view_is))))
