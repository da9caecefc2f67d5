use Rattle.std.proofs.Common.{◌≡◌, ◌∙◌, ap, refl, subst, sym}
use Rattle.arena_rules.specs.State.{State, allocated_bytes}
use Rattle.arena_rules.specs.Moves.{reset}
use Rattle.arena_chunks.specs.Memory.{Memory}
use Rattle.arena_script.specs.Running.{IsRun}
use Rattle.thread_tests.proofs.two.run_two.Goals as goal

pub returns-clause-twice : goal.returns-clause-twice
returns-clause-twice g c = λ equal other another.
    let one = c.run_script-one in
    let two = c.run_script-two in
    let mid = one.new.a in
    let next = c.reset.new.self in
    let kind = one.ensures.kind in
    let states : next.memory.state ≡ reset mid.memory.state = ap (λ (m : Memory). m.state) c.reset.ensures.memory in
    let still = kind.is_growing ∙ c.requires.still in
    let region = ap (λ (s : State). allocated_bytes s) states
    ∙ c.used_by_giving_back.ensures.reset_keeps mid.memory.state c.known.ensures.valid still ∙ kind.allocated c.requires.still in
    (c.fixed_outcome.ensures (allocated_bytes c.args.a.now.memory.state) c.args.first.now c.args.a.now mid next two.new.a one.result two.result
    (record { still = c.requires.still; region = refl })
    (record { still = ap (λ (s : State). s.is_growing) states ∙ still; region = region }) one.ensures
    (subst (λ script. IsRun script next two.new.a two.result) (sym equal) two.ensures) other another).0
