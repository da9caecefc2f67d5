use Rattle.std.proofs.Common.{◌≡◌, sym, ◌∙◌, codes}
use Rattle.std.proofs.lemmas.Result.{on_ok_weaker, on_err_weaker}
use Rattle.line_parts.specs.Numbers.{number}
use Rattle.line_parts.proofs.NumberLemmas.{number-decimal}
use Rattle.arena_calls.proofs.StreamLemmas.{writes_both, part_of_first, part_of_second, on_err}
use Rattle.arena_calls.proofs.messages.explain_line.Goals as goal

pub returns-in_err-write_all-clause-part : goal.returns-in_err-write_all-clause-part
returns-in_err-write_all-clause-part g c =
    on_err c.from_residual.result (part_of_first _ _ (codes "line ") _ c.in_err-write_all.ensures.part)

pub returns-in_err-write_all-2-clause-part : goal.returns-in_err-write_all-2-clause-part
returns-in_err-write_all-2-clause-part g c =
    let digits : c.as_bytes.result.now ≡ number c.args.n = c.as_bytes.ensures.value ∙ c.format.ensures.text
    ∙ sym (number-decimal c.args.n c.ranges.n.fits) in
    let front = part_of_first _ _ (number c.args.n) _ (rw digits at c.in_err-write_all-2.ensures.part) in
    on_err c.from_residual-in_err-write_all-2.result (part_of_second _ _ _ (codes "line ") _ c.in_ok-write_all.ensures.ok front)

pub returns-clause-ok : goal.returns-clause-ok
returns-clause-ok g c =
    let digits : c.as_bytes.result.now ≡ number c.args.n = c.as_bytes.ensures.value ∙ c.format.ensures.text
    ∙ sym (number-decimal c.args.n c.ranges.n.fits) in
    on_ok_weaker c.write_all-3.result
    (λ last. writes_both _ _ _ (codes "line ") _ c.in_ok-write_all.ensures.ok
    (writes_both _ _ _ (number c.args.n) _ (rw digits at c.in_ok-write_all-2.ensures.ok) last))
    c.write_all-3.ensures.ok

pub returns-clause-part : goal.returns-clause-part
returns-clause-part g c =
    let digits : c.as_bytes.result.now ≡ number c.args.n = c.as_bytes.ensures.value ∙ c.format.ensures.text
    ∙ sym (number-decimal c.args.n c.ranges.n.fits) in
    on_err_weaker c.write_all-3.result
    (λ last. part_of_second _ _ _ (codes "line ") _ c.in_ok-write_all.ensures.ok
    (part_of_second _ _ _ (number c.args.n) _ (rw digits at c.in_ok-write_all-2.ensures.ok) last))
    c.write_all-3.ensures.part
