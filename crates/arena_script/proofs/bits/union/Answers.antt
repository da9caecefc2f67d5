use Rattle.std.proofs.Common.{◌∙◌, sym, refl}
use Rattle.arena_script.proofs.BitActs.{first_wrong, second_wrong, one_or_apart, union_gives}
use Rattle.arena_script.proofs.ThingLemmas.{holds}
use Rattle.arena_script.proofs.bits.union.Goals as goal

pub returns-in-Err : goal.returns-in-Err
returns-in-Err g c = (
  first_wrong c.args.things.now c.args.a.now.memory c.args.name c.args.other c.in-Some._other
      (sym c.get-2.ensures ∙ c.in-Some.is) c.in-Err.ensures,
  refl,
)

pub returns-in-Err-set_of : goal.returns-in-Err-set_of
returns-in-Err-set_of g c = (second_wrong (holds c.requires c.args.name c.in-Ok.ensures) c.args.other c.in-Err-set_of.ensures, refl)

pub union-requires-clause-apart : goal.union-requires-clause-apart
union-requires-clause-apart g c =
    one_or_apart c.requires (holds c.requires c.args.name c.in-Ok.ensures) (holds c.requires c.args.other c.in-Ok-set_of.ensures)

pub returns : goal.returns
returns g c = rw c.union.ensures.handle
    (union_gives (holds c.requires c.args.name c.in-Ok.ensures) (holds c.requires c.args.other c.in-Ok-set_of.ensures) c.union.ensures.becomes)
