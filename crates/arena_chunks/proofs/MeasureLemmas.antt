-- Blocks that are apart together have at most as many bytes as are in use.
use Rattle.std.proofs.Common.{◌≡◌, ℕ, ◌+◌, ◌-◌, ◌<◌, ◌≤◌, ◌⊎◌, List, [], ◌∷◌, map, sum, inl, inr, arith, IsTrue, true}
use Rattle.std.specs.Prelude.{if◌then◌else◌}
use Rattle.std.specs.List.{AllByRecursion}
use Rattle.std.proofs.lemmas.Bool.{cases_lt, cases_Bool, or_cases, or_left, or_right}
use Rattle.std.proofs.lemmas.Bool.Decides.{nat_tests}
use Rattle.std.proofs.lemmas.List.Sums.{sum_by-cons}
use Rattle.arena_rules.specs.State.{State, Chunk, data_end, used_length, used_bytes, is_used_by, is_range_used}
use Rattle.arena_store.specs.Memory.{is_readable}
use Rattle.arena_core.specs.Frame.{IsApart, ArePairwiseApart}
use Rattle.arena_store.specs.declared.block.Block.{Block}
use Rattle.arena_core.proofs.FrameRules.{is_filled}

-- what is used of a chunk below an address, and from it on
abbrev below : Chunk → ℕ → Chunk
below c addr = record { base = c.cursor; size = addr - c.cursor; cursor = c.cursor }

abbrev above : Chunk → ℕ → Chunk
above c addr = record { base = addr; size = data_end c - addr; cursor = addr }

-- the used parts without the n addresses from this one on: the first part that has them is split in two
abbrev without : List Chunk → ℕ → ℕ → List Chunk
without [] addr n = []
without (c ∷ chunks) addr n =
    if is_used_by addr n c then below c addr ∷ above c (addr + n) ∷ chunks else c ∷ without chunks addr n

abbrev lengths : List Chunk → ℕ
lengths [] = 0
lengths (c ∷ chunks) = used_length c + lengths chunks

all_lengths : (chunks : List Chunk) → lengths chunks ≡ sum (map used_length chunks)
all_lengths [] = omega arith
all_lengths (c ∷ chunks) = omega (arith, all_lengths chunks, sum_by-cons (λ (n : ℕ). n) (used_length c) (map used_length chunks))

-- the bounds of a range that is used
low_in : (c : Chunk) (addr n : ℕ) → is_used_by addr n c ≡ true → c.cursor ≤ addr
low_in c addr n used = grind (arith, nat_tests)

high_in : (c : Chunk) (addr n : ℕ) → is_used_by addr n c ≡ true → addr + n ≤ data_end c
high_in c addr n used = grind (arith, nat_tests)

lies_in : (c : Chunk) (addr n : ℕ) → c.cursor ≤ addr → addr + n ≤ data_end c → is_used_by addr n c ≡ true
lies_in c addr n low high = grind (arith, nat_tests)

-- They have n fewer.
without_fewer : (chunks : List Chunk) (addr n : ℕ) → IsTrue (is_range_used chunks addr n)
    → lengths (without chunks addr n) + n ≡ lengths chunks
without_fewer [] addr n used = absurd cc
without_fewer (c ∷ chunks) addr n used = elim (cases_Bool (is_used_by addr n c)) [
  | inl here ↦ rw here (omega (arith, low_in c addr n here, high_in c addr n here))
  | inr away ↦ elim (or_cases (is_used_by addr n c) (is_range_used chunks addr n) used) [
    | inl here ↦ absurd cc
    | inr there ↦ rw away (omega (arith, without_fewer chunks addr n there))
  ]
]

-- A range apart from them is used as before.
without_other : (chunks : List Chunk) (addr n p m : ℕ) → (addr + n ≤ p) ⊎ (p + m ≤ addr) → IsTrue (is_range_used chunks p m)
    → IsTrue (is_range_used (without chunks addr n) p m)
without_other [] addr n p m apart used = used
without_other (c ∷ chunks) addr n p m apart used = elim (cases_Bool (is_used_by addr n c)) [
  | inl cut ↦ rw cut (elim (or_cases (is_used_by p m c) (is_range_used chunks p m) used) [
    | inr there ↦ or_right (is_used_by p m (below c addr)) _ (or_right (is_used_by p m (above c (addr + n))) _ there)
    | inl here ↦ elim apart [
      | inr before ↦ or_left _ _ (lies_in (below c addr) p m (low_in c p m here) (omega (arith, before, low_in c addr n cut)))
      | inl behind ↦ or_right (is_used_by p m (below c addr)) _
          (or_left _ _ (lies_in (above c (addr + n)) p m behind (omega (arith, high_in c p m here, high_in c addr n cut))))
    ]
  ])
  | inr whole ↦ rw whole (elim (or_cases (is_used_by p m c) (is_range_used chunks p m) used) [
    | inl here ↦ or_left _ _ here
    | inr there ↦ or_right (is_used_by p m c) _ (without_other chunks addr n p m apart there)
  ])
]

-- The blocks that aren't empty are used in these chunks.
abbrev AreUsed : List Chunk → List Block → Type 0
AreUsed chunks bs = AllByRecursion (λ (b : Block). 0 < b.size → IsTrue (is_range_used chunks b.addr b.size)) bs

others_used : (chunks : List Chunk) (b : Block) → 0 < b.size → (bs : List Block) → IsApart b.addr b.size bs → AreUsed chunks bs
    → AreUsed (without chunks b.addr b.size) bs
others_used chunks b some [] apart used = tt
others_used chunks b some (c ∷ bs) apart used = (
  (λ more. without_other chunks b.addr b.size c.addr c.size (apart.0 some more) (used.0 more)),
  others_used chunks b some bs apart.1 used.1,
)

used_together : (chunks : List Chunk) (bs : List Block) → AreUsed chunks bs → ArePairwiseApart bs
    → sum (map (λ (b : Block). b.size) bs) ≤ lengths chunks
used_together chunks [] used apart = omega arith
used_together chunks (b ∷ bs) used apart =
    let more = sum_by-cons (λ (n : ℕ). n) b.size (map (λ (b : Block). b.size) bs) in
    elim (cases_lt 0 b.size) [
      | inr none ↦ omega (arith, more, used_together chunks bs used.1 apart.1)
      | inl some ↦ omega (
        arith,
        more,
        without_fewer chunks b.addr b.size (used.0 some),
        used_together (without chunks b.addr b.size) bs (others_used chunks b some bs apart.0 used.1) apart.1,
      )
    ]

all_used : (state : State) (bs : List Block) → AllByRecursion (λ (b : Block). IsTrue (is_readable state b)) bs → AreUsed state.chunks bs
all_used state [] readable = tt
all_used state (b ∷ bs) readable = ((λ some. (is_filled state b some readable.0).used), all_used state bs readable.1)

-- Readable blocks that are pairwise apart.
pub readable_together : (state : State) (bs : List Block) → AllByRecursion (λ (b : Block). IsTrue (is_readable state b)) bs
    → ArePairwiseApart bs
    → sum (map (λ (b : Block). b.size) bs) ≤ used_bytes state
readable_together state bs readable apart = grind (arith, nat_tests, used_together, all_used, all_lengths)
