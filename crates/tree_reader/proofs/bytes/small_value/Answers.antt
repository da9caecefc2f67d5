use Rattle.std.proofs.Common.{ℕ, ◌+◌, ◌*◌, ◌^◌, ◌≤◌, arith}
use Rattle.std.proofs.Math.Nat.{pow-le-pow_right}
use Rattle.tree_reader.proofs.bytes.small_value.Goals as goal

room : (n i : ℕ) → n + 23 ≤ 23 * 10 ^ i → i ≤ 16 → n + 23 ≤ 23 * 10 ^ 16
room n i small few = let most : 10 ^ i ≤ 10 ^ 16 = pow-le-pow_right (omega arith) few in omega (arith, small, most)

pub overflow_mul-n : goal.overflow_mul-n
overflow_mul-n c = omega (arith, room c.loop-d.n c.loop-d.d-index c.loop-d.invariant.small (omega (arith, c.loop-d-test.true, c.requires)))

pub overflow_add-n : goal.overflow_add-n
overflow_add-n c = omega (arith, room c.loop-d.n c.loop-d.d-index c.loop-d.invariant.small (omega (arith, c.loop-d-test.true, c.requires)))
