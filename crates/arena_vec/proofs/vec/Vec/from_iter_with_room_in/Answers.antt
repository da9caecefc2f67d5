use Rattle.std.proofs.Common.{ap, ◌∙◌, ◌++◌, refl, Ok, Err}
use Rattle.std.proofs.lemmas.Result.{err_from_is_err_and}
use Rattle.arena_vec.proofs.vec.Vec.from_iter_with_room_in.Goals as goal

pub returns-in_err-vec-clause-builds : goal.returns-in_err-vec-clause-builds
returns-in_err-vec-clause-builds g c =
    let e = err_from_is_err_and c.from_residual.result c.from_residual.ensures.1 in
    rw (e.1, e.2) (record { between = c.with_capacity_in.new.a; empty = Err _; makes = c.in_err-vec.ensures; taken = (refl, refl) })

pub returns-in_err-extend-clause-builds : goal.returns-in_err-extend-clause-builds
returns-in_err-extend-clause-builds g c =
    let e = err_from_is_err_and c.from_residual-in_err-extend.result c.from_residual-in_err-extend.ensures.1 in
    rw (e.1, e.2) (record {
      between = c.with_capacity_in.new.a;
      empty = Ok c.in_ok-vec.vec;
      makes = c.in_ok-vec.ensures;
      taken = (c.extend.new.self, c.in_err-extend.ensures.err);
    })

pub returns-clause-builds : goal.returns-clause-builds
returns-clause-builds g c =
    let takes = c.in_ok-extend.ensures.ok in
    let made = c.in_ok-vec.ensures in
    record {
      between = c.with_capacity_in.new.a;
      empty = Ok c.in_ok-vec.vec;
      makes = made;
      taken = (takes, takes.list_is ∙ ap (λ l. l ++ takes.items) made.list_is);
    }
