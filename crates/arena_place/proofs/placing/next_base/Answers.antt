use Rattle.std.proofs.Common.{ℕ, ◌+◌, ◌<◌, ◌^◌, ◌≡◌, max, arith, subst}
use Rattle.std.specs.Option.{SomeIff}
use Rattle.arena_rules.specs.Rounding.{up}
use Rattle.arena_rules.proofs.RoundingLemmas.{up_ge, some_up}
use Rattle.arena_place.proofs.placing.next_base.Goals as goal
use Rattle.arena_place.proofs.placing.next_base.Goals.{in-None, in-Some+in_ok-floor-in-Some}

pub returns-in_err-floor-in-Some : goal.returns-in_err-floor-in-Some
returns-in_err-floor-in-Some c = rw (c.from_residual.ensures, c.in-Some.is)
    (λ small. c.in_err-floor-in-Some.ensures (omega (arith, up_ge (c.in-Some.end + 48) (max c.args.align 16) (omega arith))))

pub returns : goal.returns
returns c =
    let floor = c.match-end.floor in
    let wide : c.args.align ≡ max c.args.align 16 = omega (arith, c.requires.chunk) in
    let at = subst (λ (a : ℕ). SomeIff c.round_up_to.result (up floor a < 2 ^ 64) (up floor a)) wide
    (some_up c.round_up_to.result floor c.args.align c.requires.power c.round_up_to.ensures) in
    elim c.match-end.branch [
      | in-None w ↦ rw (w.in-None.is, ← w.floor-is) at
      | in-Some+in_ok-floor-in-Some w ↦ rw (w.in-Some.is, ← w.in_ok-floor-in-Some.ensures.1, ← w.floor-is) at
    ]
