use Rattle.std.proofs.Common.{refl}
use Rattle.arena_cursor.proofs.GrowingLemmas.{request_is}
use Rattle.arena_cursor.proofs.growing.request_for.Goals as goal

pub returns-in-Some-clause-request : goal.returns-in-Some-clause-request
returns-in-Some-clause-request c =
    request_is c.args.tried c.args.layout.size c.args.layout.align c.in-Some.size _ c.requires c.args.layout.valid c.in-Some.ensures refl refl
    c.max.ensures
