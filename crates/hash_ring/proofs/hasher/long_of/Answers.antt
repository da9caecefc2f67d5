use Rattle.std.proofs.lemmas.Bool.Decides.{nat_tests}
use Rattle.std.proofs.Common.{◌≡◌, ◌+◌, ◌-◌, ◌*◌, ◌/◌, ◌<◌, ℕ, suc, List, take, drop, length, refl, sym, ap, ◌∙◌, arith}
use Rattle.std.proofs.lemmas.List.{drop-drop, take_rest}
use Rattle.hash_ring.specs.Fx.{spread, joined, folded}
use Rattle.hash_ring.proofs.hasher.long_of.Goals as goal

-- one word more
folded-step : (hash words i next : ℕ) (bytes : List ℕ) → i < words → next ≡ joined hash (take 8 (drop (8 * i) bytes))
    → folded next (words - (i + 1)) (drop (8 * (i + 1)) bytes) ≡ folded hash (words - i) (drop (8 * i) bytes)
unfolding folded
folded-step hash words i next bytes less next_is =
    let left : words - i ≡ suc (words - (i + 1)) = omega arith in
    let behind : drop (8 * (i + 1)) bytes ≡ drop 8 (drop (8 * i) bytes) =
    ap (λ n. drop n bytes) (let sum : 8 * (i + 1) ≡ 8 * i + 8 = omega arith in sum) ∙ sym (drop-drop 8 (8 * i) bytes) in
    rw (left, behind, next_is) refl

-- the last eight bytes
last-word : (bytes : List ℕ) → 8 < length bytes → take 8 (drop (length bytes - 8) bytes) ≡ drop (length bytes - 8) bytes
last-word bytes long =
    let eight : 8 ≡ length bytes - (length bytes - 8) = omega arith in
    ap (λ n. take n (drop (length bytes - 8) bytes)) eight ∙ take_rest bytes (length bytes - 8)

pub loop-i-init : goal.loop-i-init
loop-i-init c =
    let words : ℕ = (length c.args.content.now - 1) / 8 in
    let some : 0 < words = omega arith in
    let all : words - 0 ≡ words = omega arith in
    folded-step (spread (length c.args.content.now)) words 0 c.joined-hash.result c.args.content.now some
    (c.joined-hash.ensures ∙ ap (λ h. joined h (take 8 c.args.content.now)) c.spread.ensures)
    ∙ ap (λ n. folded (spread (length c.args.content.now)) n c.args.content.now) all

pub loop-i-preserved : goal.loop-i-preserved
loop-i-preserved c =
    folded-step c.loop-i.hash _ c.loop-i.i _ c.args.content.now c.loop-i-test.true c.joined-hash-in-loop-i.ensures ∙ c.loop-i.invariant

pub returns : goal.returns
unfolding folded
returns c = grind (arith, nat_tests)
