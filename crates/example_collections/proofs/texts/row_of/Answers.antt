use Rattle.std.proofs.Common.{rules}
use Rattle.example_collections.proofs.RowLemmas.{row_len, row_next, row_more}
use Rattle.example_collections.proofs.texts.row_of.Goals as goal

pub loop-i-preserved : goal.loop-i-preserved
loop-i-preserved g c =
    let loop = c.loop-i.invariant in
    let len = row_len _ _ _ _ _ loop.row in
    let rule = c.pushed_rule.ensures.text c.loop-i.a c.push_ascii_byte.new.a c.loop-i.text c.push_ascii_byte.new.self in
    let room = rule 1 _ loop.row.held loop.row.room len in
    record {
      row = row_next _ _ _ _ _ loop.row c.push_ascii_byte.new.a c.push_ascii_byte.new.self (search rules) (room (search rules));
      pushes = row_more _ _ _ _ _ _ _ loop.pushes (search rules);
    }
