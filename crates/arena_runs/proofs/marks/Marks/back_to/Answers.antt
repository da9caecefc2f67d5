use Rattle.std.proofs.lemmas.Bool.Decides.{nat_tests}
use Rattle.std.proofs.Common.{◌≡◌, ◌-◌, List, false, refl, sym, ◌∙◌, ap, subst, arith, IsTrue, length, reverse, get_or, eq-eqb, ne_eqb}
use Rattle.std.specs.Prelude.{◌==◌}
use Rattle.std.specs.Option.{is_some}
use Rattle.std.proofs.lemmas.List.{get_or_read, get_or-take}
use Rattle.call_rules.specs.Machine.{mark_named}
use Rattle.arena_runs.specs.Marks.{Noted, named, marks_from}
use Rattle.arena_runs.specs.declared.marks.Mark.{Mark}
use Rattle.arena_runs.proofs.Known.{IsEnding, ending_first, ending_next, ending_over, newest_first}
use Rattle.arena_runs.proofs.marks.Marks.back_to.Goals as goal

pub loop-count-init : goal.loop-count-init
loop-count-init c =
    let all : c.len-count.result ≡ length c.self.inside.list.items = omega (arith, c.len-count.ensures, c.self.inside.list.ok.0) in
    let ending : IsEnding c.self.inside.known c.self.inside.list.items c.len-count.result c.args.name = rw all (ending_first _ _ _
    c.self.invariant (subst (λ (n : Noted). IsTrue (is_some (mark_named (named n.marks) c.args.name))) (sym c.self.view_is) c.requires))
    in record { list = refl; log = refl; some = ending.some; within = ending.within; ending = ending }

pub loop-count-preserved : goal.loop-count-preserved
loop-count-preserved c =
    let ending = c.loop-count.invariant.ending in
    let m : Mark = c.index-in-loop-count.result.now in
    let same : m ≡ c.index.result.now =
    get_or_read c.loop-count.self-inside.list.items (c.loop-count.count - 1) m
    (omega (arith, ending.some, ending.within)) c.index-in-loop-count.ensures c.index.result.now
    ∙ sym c.index.ensures in
    let other : (m.name == c.args.name) ≡ false =
    ne_eqb m.name c.args.name (λ own. c.loop-count-test.true (ap (λ (x : Mark). x.name) (sym same) ∙ own)) in
    let next = ending_next _ _ _ _ _ m c.index-in-loop-count.ensures other c.remove.ensures.updates ending in
    record {
      list = c.loop-count.invariant.list;
      log = c.loop-count.invariant.log;
      some = next.some;
      within = next.within;
      ending = next;
    }

pub invariant_of-self : goal.invariant_of-self
invariant_of-self c = rw c.truncate.ensures.items c.loop-count.invariant.ending.knows

pub returns-clause-marks : goal.returns-clause-marks
returns-clause-marks c =
    ap reverse c.truncate.ensures.items
    ∙ ending_over _ _ _ _ c.index.result.now c.index.ensures (eq-eqb _ _ c.loop-count-test.false) c.loop-count.invariant.ending
    ∙ ap (λ (items : List Mark). marks_from c.args.name (reverse items)) c.loop-count.invariant.list
    ∙ ap (λ (n : Noted). marks_from c.args.name n.marks) c.self.view_is

pub returns-clause-newest : goal.returns-clause-newest
returns-clause-newest c = grind (arith, nat_tests, get_or, get_or-take, reverse, newest_first)

pub returns-clause-log : goal.returns-clause-log
returns-clause-log c = c.loop-count.invariant.log ∙ ap (λ (n : Noted). n.log) c.self.view_is
