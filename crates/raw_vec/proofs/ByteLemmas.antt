-- Values in bytes, one after another.
use Rattle.std.proofs.Common.{◌≡◌, ℕ, ◌+◌, ◌-◌, ◌*◌, ◌<◌, ◌≤◌, ap, ◌∙◌, arith, List, length, set}
use Rattle.std.proofs.Math.Nat.{mul-le-mul_right}
use Rattle.std.proofs.lemmas.Grind.{common_steps}
use Rattle.arena_rules.specs.Lists.{splice}
use Rattle.arena_chunks.proofs.Layers.{frame_reflexive}
use Rattle.arena_items.specs.Values.{elements}
use borrow.Rule.Slice.PartMut.{put_mid}
use Rattle.arena_items.proofs.Layers.{rows_before, length-elements, elements-get, elements-set, elements-empty, written_held, wrote_same}

pub put_sets : {T : Type 0} (size : ℕ) (dec : List ℕ → T) (n i : ℕ) (bs ys : List ℕ) (v : T) → length ys ≡ size → dec ys ≡ v
    → i < n → n * size ≤ length bs
    → elements size dec n (put_mid (i * size) (i * size + size - i * size) bs ys) ≡ set (elements size dec n bs) i v
put_sets size dec n i bs ys v long back less room =
    let inner = rows_before i n size less in
    let spliced : put_mid (i * size) (i * size + size - i * size) bs ys ≡ splice bs (i * size) ys = grind (arith, common_steps) in
    ap (elements size dec n) spliced ∙ elements-set size dec n bs i ys less room long ∙ ap (set (elements size dec n bs) i) back

-- for automatic proof: the values of bytes,
pub ruleset list_laws = (rows_before, elements-get, length-elements, elements-empty, put_sets)

-- and of a block
pub ruleset block_laws = (rows_before, length-elements, elements-empty, frame_reflexive, written_held, wrote_same, mul-le-mul_right)
