-- Where blocks in use are shown.
use Rattle.std.proofs.Common.{◌≡◌, ℕ, ◌+◌, ◌-◌, ◌<◌, ◌≤◌, true, false, List, [], ◌∷◌, map, refl, ap, subst, arith, inl, inr, IsTrue}
use Rattle.std.specs.Prelude.{◌==◌}
use Rattle.std.proofs.lemmas.Bool.{or_cases}
use Rattle.std.proofs.lemmas.Bool.Decides.{nat_tests}
use Rattle.arena_rules.specs.State.{State, Chunk, AreChunks, data_end, is_used_by, is_range_used, is_place_used}
use Rattle.arena_rules.specs.declared.place.Place.{Place}
use Rattle.arena_rules.proofs.UsedLemmas.{used_under}
use Rattle.arena_chunks.specs.Walks.{told_chunk}
use Rattle.arena_store.specs.declared.block.Block.{Block}
use Rattle.arena_drawing.specs.Shapes.{has_block, place_from, StandsIn}

pub stands_in : (m row : ℕ) (chunks : List Chunk) (block : Block) → AreChunks m chunks → 0 < block.size
    → IsTrue (is_range_used chunks block.addr block.size)
    → StandsIn row (map told_chunk chunks) block (place_from row (map told_chunk chunks) block)
stands_in m row [] block valid some used = absurd (cc)
stands_in m row (chunk ∷ older) block valid some used =
    elim (or_cases (is_used_by block.addr block.size chunk) (is_range_used older block.addr block.size) used) [
      | inl here ↦
          let begins = valid.0.cursor_low in
          let has : has_block (told_chunk chunk) block ≡ true = grind (arith, nat_tests) in
          let low : chunk.cursor ≤ block.addr = grind (arith, nat_tests) in
          let high : block.addr + block.size ≤ data_end chunk = grind (arith, nat_tests) in
          let place : (row, block.addr - chunk.base) ≡ place_from row (map told_chunk (chunk ∷ older)) block = rw has refl in
          subst (StandsIn row (map told_chunk (chunk ∷ older)) block) place (record {
            newer = [];
            chunk = told_chunk chunk;
            older = map told_chunk older;
            split = refl;
            row = omega arith;
            begins = omega (arith, low, valid.0.cursor_low);
            ends = omega (arith, low, high, valid.0.cursor_low);
            used = low;
          })
      | inr there ↦
          let under = used_under m block.addr block.size older valid.2 some there in
          let above : block.addr < chunk.base = omega (arith, under, valid.1, some) in
          let lacks : has_block (told_chunk chunk) block ≡ false = grind (arith, nat_tests) in
          let rest = stands_in m (row + 1) older block valid.2 some there in
          let place : place_from (row + 1) (map told_chunk older) block ≡ place_from row (map told_chunk (chunk ∷ older)) block
          = rw lacks refl in
          subst (StandsIn row (map told_chunk (chunk ∷ older)) block) place (record {
            newer = told_chunk chunk ∷ rest.newer;
            chunk = rest.chunk;
            older = rest.older;
            split = ap (λ cs. told_chunk chunk ∷ cs) rest.split;
            row = omega (arith, rest.row);
            begins = rest.begins;
            ends = rest.ends;
            used = rest.used;
          })
    ]

-- a place of some bytes that is used is a range that is
pub range_used : (state : State) (p : Place) → 0 < p.size → IsTrue (is_place_used state p)
    → IsTrue (is_range_used state.chunks p.addr p.size)
range_used state p some used = elim (or_cases (p.size == 0) (is_range_used state.chunks p.addr p.size) used) [
  | inl none ↦ absurd (grind (arith, nat_tests))
  | inr there ↦ there
]
