use Rattle.std.proofs.Common.{arith, sym, subst, Err}
use Rattle.arena_tree.specs.Parsing.{ParsesInOnePass}
use Rattle.arena_tree.proofs.GivenLemmas.{built_given}
use Rattle.arena_tree.proofs.LineLemmas.{all_read}
use Rattle.arena_tree.proofs.ParseLemmas.{spends_takes, stopped_parses}
use Rattle.arena_tree.proofs.tree.Tree.parse_in_one_pass.Goals as goal

pub returns-in-Ok-clause-parses : goal.returns-in-Ok-clause-parses
returns-in-Ok-clause-parses g c =
    let src = c.args.src.now in
    let r = c.some_reading.ensures src in
    all_read src c.args.a.now.memory c.program.new.a.memory c.in-Ok.stmts r.0 c.one_program.ensures r.1
    (c.machine.ensures.same src r.0 r.1) c.in-Ok.ensures.trees

pub returns-in-Ok-clause-tree : goal.returns-in-Ok-clause-tree
returns-in-Ok-clause-tree g c =
    let read = returns-in-Ok-clause-parses g c in
    built_given read.0 c.args.a.now.memory c.program.new.a.memory (record { stmts = c.in-Ok.stmts })
    (c.well_formed-2.ensures c.args.src.now read.0 read.1).0 read.2

pub returns-in-Ok-clause-lean : goal.returns-in-Ok-clause-lean
returns-in-Ok-clause-lean g c = (returns-in-Ok-clause-parses g c).2.lean

pub returns-in-Ok-clause-bytes : goal.returns-in-Ok-clause-bytes
returns-in-Ok-clause-bytes g c = spends_takes _ c.in-Ok.ensures.spends (omega arith)

pub returns-in-Err-clause-parses : goal.returns-in-Err-clause-parses
returns-in-Err-clause-parses g c =
    let src = c.args.src.now in
    let r = c.some_reading.ensures src in
    subst (λ e. ParsesInOnePass src c.args.a.now c.program.new.a (Err e)) (sym c.unplaced.ensures) (stopped_parses src c.args.a.now
    c.program.new.a r.0 r.1 (c.machine.ensures.same src r.0 r.1) c.in-Err.stop c.in-Err.ensures.text c.in-Err.ensures.spends
    c.in-Err.ensures.ends)

pub returns-in-Err-clause-bytes : goal.returns-in-Err-clause-bytes
returns-in-Err-clause-bytes g c = spends_takes _ c.in-Err.ensures.spends.0 (omega arith)
