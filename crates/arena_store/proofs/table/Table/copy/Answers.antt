use Rattle.std.proofs.Common.{arith, ap, refl, ◌∙◌}
use Rattle.std.proofs.lemmas.List.{with_items_is}
use Rattle.arena_store.specs.Stored.{with_part_in}
use Rattle.arena_store.proofs.LookupLemmas.{has_below_in, found_bytes, found_part, found_with, found_table}
use Rattle.arena_store.proofs.table.Table.copy.Goals as goal

pub last_below-i-requires : goal.last_below-i-requires
last_below-i-requires c = has_below_in _ _ _ _ c.self.invariant c.self.view_is c.args.from c.args.n c.requires.source

pub last_below-j-requires : goal.last_below-j-requires
last_below-j-requires c = has_below_in _ _ _ _ c.self.invariant c.self.view_is c.args.to c.args.n c.requires.target

pub copy_kept-requires-clause-source : goal.copy_kept-requires-clause-source
copy_kept-requires-clause-source c = rw c.deref_mut.ensures.value (found_bytes _ _ _ _ c.self.invariant c.self.view_is _ _ _ c.last_below-i.ensures.last c.last_below-i.ensures.offset c.args.n c.requires.source)

pub copy_kept-requires-clause-target : goal.copy_kept-requires-clause-target
copy_kept-requires-clause-target c = rw c.deref_mut.ensures.value (found_bytes _ _ _ _ c.self.invariant c.self.view_is _ _ _ c.last_below-j.ensures.last c.last_below-j.ensures.offset c.args.n c.requires.target)

pub invariant_of-self : goal.invariant_of-self
invariant_of-self c =
    let new = with_items_is c.self.inside.kept c.copy_kept.new.kept (omega (arith, c.copy_kept.auto.kept, c.deref_mut.ensures.len)) in
    let copies = rw c.deref_mut.ensures.value at c.copy_kept.ensures in
    rw (new, copies.table) (found_table _ _ _ _ c.self.invariant c.self.view_is _ _ _ c.last_below-j.ensures.last c.last_below-j.ensures.offset c.args.n c.requires.target copies.target _ copies.at_target)

pub returns : goal.returns
returns c =
    let new = with_items_is c.self.inside.kept c.copy_kept.new.kept (omega (arith, c.copy_kept.auto.kept, c.deref_mut.ensures.len)) in
    let copies = rw c.deref_mut.ensures.value at c.copy_kept.ensures in
    rw (new, copies.table) (found_with _ _ _ _ c.self.invariant c.self.view_is _ _ _ c.last_below-j.ensures.last c.last_below-j.ensures.offset c.args.n c.requires.target copies.target _ copies.at_target
    ∙ ap (with_part_in c.args.self.now.items c.args.to) (found_part _ _ _ _ c.self.invariant c.self.view_is _ _ _ c.last_below-i.ensures.last c.last_below-i.ensures.offset c.args.n c.requires.source copies.source _ copies.at_source refl))
