use Rattle.std.proofs.Common.{true, refl, sym, ◌∙◌, arith}
use Rattle.std.proofs.lemmas.Bool.Decides.{nat_tests}
use Rattle.std.specs.Prelude.{slice_range}
use Rattle.tree_rules.specs.Reading.{state}
use Rattle.tree_rules.specs.declared.machine.Mode.TheVariants.{AtFactor}
use Rattle.arena_tree.proofs.TokenLemmas.{only_number, sign_token, no_start, no_keyword, word_token, none_at}
use Rattle.arena_tree.proofs.look.start_at.Goals as goal

pub returns-in_err-here-clause-none : goal.returns-in_err-here-clause-none
returns-in_err-here-clause-none c = none_at _ _ (state AtFactor) (λ x. refl) c.in_err-here.ensures.none _

pub returns-in-45-clause-some : goal.returns-in-45-clause-some
returns-in-45-clause-some c =
    rw c.in-45.is at (sign_token c.in_ok-here.ensures.some (rw c.in-45.is refl) (rw c.in-45.is refl))

pub returns-in-40-clause-some : goal.returns-in-40-clause-some
returns-in-40-clause-some c =
    rw c.in-40.is at (sign_token c.in_ok-here.ensures.some (rw c.in-40.is refl) (rw c.in-40.is refl))

pub returns-in_default-seen : goal.returns-in_default-seen
returns-in_default-seen c =
    let l = c.number_next-l.ensures in
    record { some = tt; none = λ opens p. only_number l.next opens p l.number c.in_default-seen.not-Number }

pub returns-then-is_let-clause-none : goal.returns-then-is_let-clause-none
returns-then-is_let-clause-none c =
    let end = c.word_end-end in
    no_keyword (word_token (slice_range c.args.src.now c.in_ok-here.here end.result) true (sym c.if-is_let.true ∙ c.is_let.ensures) (record {
      place = c.in_ok-here.here;
      tokens_are = end.ensures.tokens;
      later = omega (arith, c.in_ok-here.ensures.some.behind, end.ensures.some);
      within = end.ensures.within;
    }))

pub returns-in_default-3-clause-none : goal.returns-in_default-3-clause-none
returns-in_default-3-clause-none c = grind (arith, nat_tests, no_start)
