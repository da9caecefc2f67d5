use Rattle.arena_rules.proofs.MarkLemmas.{alloc_keeps, resize_keeps, dealloc_keeps_mark, back_keeps}
use Rattle.arena_rules.proofs.laws.back.kept_marks.Goals as goal

pub returns : goal.returns
returns c = record { alloc = alloc_keeps; resize = resize_keeps; dealloc = dealloc_keeps_mark; back = back_keeps }
