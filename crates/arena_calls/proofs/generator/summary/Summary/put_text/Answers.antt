use Rattle.arena_calls.specs.Tallies.{numbers}
use Rattle.arena_calls.proofs.ReplyLemmas.{summary_put}
use Rattle.arena_calls.proofs.generator.summary.Summary.put_text.Goals as goal

pub returns : goal.returns
returns c =
    summary_put (numbers c.args.self.now) c.args.out.now.items c.put_line.new.out.items c.put_line-2.new.out.items
    c.put_line-3.new.out.items c.put_line-4.new.out.items
    c.put_line-5.new.out.items c.put_line-6.new.out.items c.put_line-7.new.out.items c.put_line-8.new.out.items
    (rw c.from.ensures at c.put_line.ensures.items) (rw c.from-2.ensures at c.put_line-2.ensures.items)
    (rw c.from-3.ensures at c.put_line-3.ensures.items)
    (rw c.from-4.ensures at c.put_line-4.ensures.items) c.put_line-5.ensures.items c.put_line-6.ensures.items
    (rw c.from-5.ensures at c.put_line-7.ensures.items)
    (rw c.from-6.ensures at c.put_line-8.ensures.items)
