use Rattle.std.proofs.Common.{Some, arith}
use Rattle.std.proofs.lemmas.Bool.Decides.{nat_tests}
use Rattle.tree_rules.proofs.NameLemmas.{name_text}
use Rattle.arena_lint.proofs.SpendingLemmas.{err_takes, takes_exhausted}
use Rattle.arena_lint.proofs.StoppingLemmas.{err_goes, goes_out}
use Rattle.arena_lint.proofs.StatementLemmas.{name_comes, let_read}
use Rattle.arena_lint.proofs.WalkLemmas.{let_finds, let_takes, let_goes}
use Rattle.arena_lint.proofs.walk.let_line.Goals as goal

pub unreachable-requires : goal.unreachable-requires
unreachable-requires g c = name_comes c.requires.line c.requires.next c.requires.key c.in_default.ensures.none

pub use_names-requires-clause-names : goal.use_names-requires-clause-names
use_names-requires-clause-names g c = (let_read c.requires.line c.requires.next c.requires.key c.in-Some.ensures.some).names

pub define-requires : goal.define-requires
define-requires g c = let r = let_read c.requires.line c.requires.next c.requires.key c.in-Some.ensures.some in
    record { known = c.requires.known; utf8 = name_text _ r.plain; short = grind (arith, nat_tests) }

pub returns-in_err-end-clause-takes : goal.returns-in_err-end-clause-takes
returns-in_err-end-clause-takes g c t = err_takes c.from_residual.result c.from_residual.ensures
    (takes_exhausted c.args.a.now c.args.known.now (Some _) c.in_err-end.ensures.exhausted)

pub returns-in_err-end-clause-goes : goal.returns-in_err-end-clause-goes
returns-in_err-end-clause-goes g c t =
    err_goes c.from_residual.result c.from_residual.ensures (goes_out c.in_err-end.ensures.exhausted)

pub returns-in_err-define-clause-takes : goal.returns-in_err-define-clause-takes
returns-in_err-define-clause-takes g c t = err_takes c.from_residual-in_err-define.result c.from_residual-in_err-define.ensures
    (let_takes (let_read t c.requires.next c.requires.key c.in-Some.ensures.some) c.in_err-define.ensures.takes)

pub returns-in_err-define-clause-goes : goal.returns-in_err-define-clause-goes
returns-in_err-define-clause-goes g c t = err_goes c.from_residual-in_err-define.result c.from_residual-in_err-define.ensures
    (let_goes (let_read t c.requires.next c.requires.key c.in-Some.ensures.some) c.in_err-define.ensures.goes)

pub returns-clause-finds : goal.returns-clause-finds
returns-clause-finds g c t =
    let_finds g.F.TakesFindings.taking (let_read t c.requires.next c.requires.key c.in-Some.ensures.some) c.args.a.now.memory
    c.define.new.a.memory c.args.known.now c.define.new.known c.args.found.now c.use_names.new.found c.define.new.found
    (λ u sets knows. c.in_ok-end.ensures.gains u sets knows) (λ sets knows. c.in_ok-define.ensures.finds sets knows)

pub returns-clause-takes : goal.returns-clause-takes
returns-clause-takes g c t = let_takes (let_read t c.requires.next c.requires.key c.in-Some.ensures.some) c.in_ok-define.ensures.takes

pub returns-clause-goes : goal.returns-clause-goes
returns-clause-goes g c t = let_goes (let_read t c.requires.next c.requires.key c.in-Some.ensures.some) c.in_ok-define.ensures.goes

pub returns-clause-behind : goal.returns-clause-behind
returns-clause-behind g c t = let r = let_read t c.requires.next c.requires.key c.in-Some.ensures.some in
    rw (← r.last) (c.in_ok-end.ensures.behind r.names)
