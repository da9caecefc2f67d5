use Rattle.std.proofs.lemmas.Bool.Decides.{nat_tests}
use Rattle.std.proofs.Common.{arith, subst, Some, None}
use Rattle.std.proofs.lemmas.Result.{err_from_is_err_and}
use Rattle.arena_rules.specs.State.{IsValid}
use Rattle.arena_store.specs.Memory.{Memory}
use Rattle.arena_store.proofs.AskedLemmas.{asked_none}
use Rattle.arena_core.proofs.StoredLemmas.{place_stored}
use Rattle.arena_core.proofs.AllocationLemmas.{placing_here, added_place, placing_in_new, all_refused}
use Rattle.arena_core.proofs.arena.Arena.find_place.Goals as goal

pub returns-in-Some-clause-found : goal.returns-in-Some-clause-found
returns-in-Some-clause-found g c =
    let at = place_stored g.row.MIN_ALIGN c.self.inside c.args.self.now c.args.layout.size c.args.layout.align
    (Some c.in-Some.addr) c.self.invariant c.self.view_is c.in-Some.ensures in
    record {
      valid = subst (λ (w : Memory). IsValid w.state) c.self.view_is c.self.invariant.valid;
      place = at;
      placing = placing_here c.args.self.now c.args.layout.size c.args.layout.align c.in-Some.addr at;
      asked = rw at (asked_none _);
    }

pub returns-in_ok-added-in-None-clause-found : goal.returns-in_ok-added-in-None-clause-found
returns-in_ok-added-in-None-clause-found g c =
    let none = place_stored g.row.MIN_ALIGN c.self.inside c.args.self.now c.args.layout.size c.args.layout.align None c.self.invariant
    c.self.view_is c.in-None.ensures in
    let added = c.in_ok-added-in-None.ensures.added.added in
    record {
      valid = added.valid;
      place = added_place c.args.self.now c.add_chunk.new.self c.args.layout.size c.args.layout.align c.in_ok-added-in-None.added.1 c.in_ok-added-in-None.added.0
          c.args.layout.valid none added;
      placing = placing_in_new c.args.self.now c.add_chunk.new.self c.args.layout.size c.args.layout.align c.in_ok-added-in-None.added.1 c.in_ok-added-in-None.added.0
          c.args.layout.valid none added;
      asked = rw none c.in_ok-added-in-None.ensures.added.asked;
    }

pub returns-in_err-added-in-None-clause-refused : goal.returns-in_err-added-in-None-clause-refused
returns-in_err-added-in-None-clause-refused g c = grind (arith, nat_tests, place_stored, err_from_is_err_and, all_refused)
