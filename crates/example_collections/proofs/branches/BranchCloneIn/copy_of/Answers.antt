use Rattle.std.proofs.lemmas.Result.{err_from_is_err_and}
use Rattle.arena_clone.specs.Kinds.{vec_of}
use Rattle.arena_clone.specs.laws.KindLaws.{vec_lawful}
use Rattle.example_collections.proofs.BranchLemmas.{name_refused, leaves_refused, branch_made, leaves_held, leaves_copied}
use Rattle.example_collections.proofs.branches.BranchCloneIn.copy_of.Goals as goal

pub returns-in_err-name : goal.returns-in_err-name
returns-in_err-name g c =
    let p = err_from_is_err_and c.from_residual.result c.from_residual.ensures.1 in
    rw (p.1, p.2) (name_refused (vec_of g.L.Item g.L.CloneIn.kind) c.args.ids (g.O.Origin.there c.args.from.now c.args.to.now.memory)
    c.args.self.now c.in_err-name.ensures)

pub copy_of-requires-3-clause-held : goal.copy_of-requires-3-clause-held
copy_of-requires-3-clause-held g c =
    leaves_held (g.met.O.Origin.is_origin c.args.from.now) (vec_lawful g.L.Item g.L.CloneIn.kind g.met.L.CloneIn.lawful) c.args.self.now
    c.args.ids c.in_ok-name.ensures c.in_ok-id.ensures c.requires.held.1.1

pub returns-in_err-leaves : goal.returns-in_err-leaves
returns-in_err-leaves g c =
    let p = err_from_is_err_and c.from_residual-in_err-leaves.result c.from_residual-in_err-leaves.ensures.1 in
    rw (p.1, p.2) (leaves_refused (vec_of g.L.Item g.L.CloneIn.kind) c.args.ids (g.O.Origin.there c.args.from.now c.args.to.now.memory)
    c.args.self.now c.in_ok-name.ensures c.in_ok-id.ensures
    (leaves_copied (g.met.O.Origin.is_origin c.args.from.now) (vec_lawful g.L.Item g.L.CloneIn.kind g.met.L.CloneIn.lawful) c.args.self.now
    c.args.ids c.in_ok-name.ensures c.in_ok-id.ensures c.requires.held.1.1 c.in_err-leaves.ensures))

pub returns : goal.returns
returns g c =
    branch_made (vec_of g.L.Item g.L.CloneIn.kind) c.args.ids (g.O.Origin.there c.args.from.now c.args.to.now.memory) c.args.self.now
    c.in_ok-name.ensures c.in_ok-id.ensures
    (leaves_copied (g.met.O.Origin.is_origin c.args.from.now) (vec_lawful g.L.Item g.L.CloneIn.kind g.met.L.CloneIn.lawful) c.args.self.now
    c.args.ids c.in_ok-name.ensures c.in_ok-id.ensures c.requires.held.1.1 c.in_ok-leaves.ensures)
