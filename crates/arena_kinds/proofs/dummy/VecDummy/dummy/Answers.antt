use Rattle.std.proofs.Common.{◌≡◌, ℕ, ◌<◌, arith}
use Rattle.std.proofs.lemmas.Bool.Decides.{nat_tests}
use Rattle.arena_vec.specs.Growth.{empty_capacity}
use Rattle.arena_vec.specs.Vecs.{IsVecIn, vec_list}
use Rattle.arena_kinds.specs.Asks.{vector_ask}
use Rattle.arena_kinds.proofs.MadeLemmas.{makes_no_values}
use Rattle.arena_kinds.proofs.dummy.VecDummy.dummy.Goals as goal

no_room : (size : ℕ) → 0 < size → empty_capacity size ≡ 0
no_room size some = grind (arith, nat_tests)

pub returns : goal.returns
returns g c =
    let empty = c.new_in.ensures in
    makes_no_values g.T.Item (λ v. v.raw.block) (IsVecIn g.T.Item) (vec_list g.T.Item) (λ v. 0 < g.T.Item.SIZE → v.raw.cap ≡ v.raw.len)
    (λ v. vector_ask g.T.Item.SIZE g.T.Item.ALIGN v.raw.len) g.T.Item.ALIGN _ c.new_in.result (empty.held c.args._a.now.memory) empty.block
    (empty.list c.args._a.now.memory) (λ some. let none = no_room g.T.Item.SIZE some in cc (empty.cap, empty.len, none))
