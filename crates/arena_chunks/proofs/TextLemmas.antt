-- Strings that are written one after another.
use Rattle.std.proofs.Common.{◌≡◌, ℕ, ◌+◌, ◌-◌, ◌^◌, ◌<◌, ◌≤◌, List, [], ◌∷◌, ◌++◌, length, take, get_or, true, false, ap, refl, sym, subst, ◌∙◌, arith}
use Rattle.std.specs.Prelude.{nat_le}
use Rattle.std.specs.List.{flat_map}
use Rattle.std.proofs.lemmas.Bool.Decides.{nat_tests}
use Rattle.std.proofs.lemmas.List.{length-append, take_more, flat_map_more}
use Rattle.arena_rules.specs.Rounding.{up, is_power_among, is_layout}
use Rattle.arena_rules.proofs.RoundingLemmas.{up_same}
use Rattle.arena_store.specs.Memory.{Memory, bytes_from}
use Rattle.arena_core.specs.BlockCalls.{WritesBlock}
use Rattle.arena_store.specs.declared.block.Block.{Block}
use Rattle.arena_core.proofs.LayerLemmas.{writes_more}

bytes_layout : (size : ℕ) → is_layout size 1 ≡ nat_le size (2 ^ 63 - 1)
unfolding is_power_among
bytes_layout size = let same : up size 1 ≡ size = up_same size 1 (omega arith) (omega arith) in rw same refl

-- Bytes are a valid layout of alignment 1 up to the largest size.
pub few_bytes : (size : ℕ) → size ≤ 2 ^ 63 - 1 → is_layout size 1 ≡ true
few_bytes size few = bytes_layout size ∙ grind (arith, nat_tests)

pub many_bytes : (size : ℕ) → 2 ^ 63 - 1 < size → is_layout size 1 ≡ false
many_bytes size many = bytes_layout size ∙ grind (arith, nat_tests)

-- The first i strings are in a block, one after another from its first byte on, and end at this index.
pub record HasTexts {X : Type 0} (f : X → List ℕ) (xs : List X) (i : ℕ) (old new : Memory) (block : Block) (at : ℕ) : Type 0 where
  pub writes : WritesBlock old new block 0 (flat_map f (take i xs))
  pub reached : at ≡ length (flat_map f (take i xs))

-- One more string is written.
pub one_more_text : {X : Type 0} (f : X → List ℕ) (xs : List X) (i : ℕ) (x : X) (old mid new : Memory) (block : Block) (at : ℕ)
    → i < length xs → x ≡ get_or xs i x
    → HasTexts f xs i old mid block at → WritesBlock mid new block at (f x) → HasTexts f xs (i + 1) old new block (at + length (f x))
one_more_text f xs i x old mid new block at below is has writes =
    let list : List ℕ = flat_map f (take i xs) in
    let more : list ++ f x ≡ flat_map f (take (i + 1) xs) = flat_map_more f [] (take i xs) x ∙ rw (take_more xs i x below, ← is) refl in
    record {
      writes = subst (WritesBlock old new block 0) more
          (writes_more old mid new block 0 list (f x) has.writes
          (subst (λ (n : ℕ). WritesBlock mid new block n (f x)) (omega (arith, has.reached)) writes));
      reached = ap (λ (n : ℕ). n + length (f x)) has.reached ∙ sym (length-append list (f x)) ∙ ap length more;
    }

-- An empty string has no bytes at its address.
pub empty_text : (bytes : ℕ → ℕ) (addr : ℕ) (text : List ℕ) → length text ≡ 0 → bytes_from bytes addr (length text) ≡ text
unfolding bytes_from
empty_text bytes addr [] none = refl
empty_text bytes addr (x ∷ xs) none = absurd (omega arith)
