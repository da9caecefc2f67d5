use Rattle.std.proofs.Common.{ℕ, eqb, not, sym, subst, arith, w8}
use Rattle.std.proofs.lemmas.Simd.{bitmask_splat, length-chunk}
use Rattle.std.specs.Simd.Lanes.{chunk}
use Rattle.hash_ring.specs.Walks.{AreTaken}
use Rattle.hash_ring.proofs.Lanes.{taken-mask}
use Rattle.hash_ring.proofs.scan.taken_of_many.Goals as goal

pub returns : goal.returns
returns c =
    let bytes = c.args.bytes.now in
    subst (AreTaken bytes c.args.base)
    (sym (bitmask_splat w8 (λ (x y : ℕ). not (eqb x y)) (chunk c.args.base 64 bytes) 64 0 (length-chunk c.args.base 64 bytes c.requires)
    (omega arith)))
    (taken-mask bytes c.args.base c.requires)
