use Rattle.std.specs.List.{flat_map}
use Rattle.arena_text.proofs.TextLemmas.{made_full, not_made}
use Rattle.arena_text.proofs.text.StringBuilder.from_strs_array_in.Goals as goal

pub returns-clause-made : goal.returns-clause-made
returns-clause-made g c =
    made_full c.args.a.now c.with_capacity_in.new.a c.write_all.new.a c.in_ok-text.text (flat_map g.T.AsStr.text c.args.strings)
    (rw c.in-Some.ensures.some at c.in_ok-text.ensures) c.write_all.ensures.writes c.write_all.ensures.source

pub returns-clause-utf8 : goal.returns-clause-utf8
returns-clause-utf8 g c = rw (returns-clause-made g c).bytes_are c.write_all.ensures.utf8

pub returns-in_default-clause-made : goal.returns-in_default-clause-made
returns-in_default-clause-made g c = not_made c.args.a.now _ _ c.in_default.ensures.none
