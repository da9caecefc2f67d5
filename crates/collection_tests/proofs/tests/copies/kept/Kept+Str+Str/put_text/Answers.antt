use Rattle.collection_tests.proofs.HeldLemmas.{placed_beside}
use Rattle.collection_tests.proofs.tests.copies.kept.Kept+Str+Str.put_text.Goals as goal

pub insert-requires-clause-held : goal.insert-requires-clause-held
insert-requires-clause-held g c =
    let first = rw c.expect-value.ensures at c.alloc_str.ensures.placed in
    let second = rw c.expect-key.ensures at c.alloc_str-2.ensures.placed in
    let kept = (placed_beside _ c.self.inside.map c.self.inside.a c.alloc_str.new.self _ _ c.expect-value.result.block first
    c.self.invariant).0 in
    (placed_beside _ c.self.inside.map c.alloc_str.new.self c.alloc_str-2.new.self _ _ c.expect-key.result.block second kept).0.held
