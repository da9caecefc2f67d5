-- The bytes of a range after some of them were written.
use Rattle.std.proofs.Common.{◌≡◌, ℕ, zero, suc, ◌+◌, ◌-◌, ◌<◌, ◌≤◌, ap, refl, ◌∙◌, arith, List, [], ◌∷◌, ◌++◌, length, take, drop, replicate, append-nil}
use Rattle.std.proofs.lemmas.Bool.{cases_Bool}
use Rattle.std.proofs.lemmas.Bool.Decides.{nat_tests}
use Rattle.std.proofs.lemmas.Grind.{same_number_lists}
use Rattle.std.proofs.lemmas.List.{length-replicate, drop_all}
use Rattle.arena_rules.specs.Lists.{splice}
use Rattle.arena_store.specs.Memory.{bytes_from, written}
use Rattle.arena_store.proofs.BytesLemmas.{length-bytes, byte-bytes, bytes_part, length-splice, splice_index}

pub bytes_same : (f g : ℕ → ℕ) (addr n : ℕ) → ((i : ℕ) → i < n → f (addr + i) ≡ g (addr + i)) → bytes_from f addr n ≡ bytes_from g addr n
bytes_same f g addr n same = grind (arith, nat_tests, length-bytes, same_number_lists, byte-bytes)

-- A list that is written is there afterwards.
pub bytes_written : (f g : ℕ → ℕ) (addr : ℕ) (list : List ℕ) → ((a : ℕ) → g a ≡ written f addr list a)
    → bytes_from g addr (length list) ≡ list
bytes_written f g addr list writes = grind (arith, nat_tests, length-bytes, same_number_lists, byte-bytes)

-- The bytes of a range that has a written one within.
pub bytes_spliced : (f g : ℕ → ℕ) (addr n at : ℕ) (list : List ℕ) → at + length list ≤ n → ((a : ℕ) → g a ≡ written f (addr + at) list a)
    → bytes_from g addr n ≡ splice (bytes_from f addr n) at list
bytes_spliced f g addr n at list within writes =
    grind (arith, nat_tests, length-bytes, length-splice, same_number_lists, byte-bytes, splice_index)

pub take_bytes : (f : ℕ → ℕ) (addr n k : ℕ) → k ≤ n → take k (bytes_from f addr n) ≡ bytes_from f addr k
unfolding bytes_from
take_bytes f addr n zero within = refl
take_bytes f addr zero (suc k) within = absurd (omega arith)
take_bytes f addr (suc n) (suc k) within = ap (λ (rest : List ℕ). f addr ∷ rest) (take_bytes f (addr + 1) n k (omega arith))

-- The bytes of a range whose last bytes were set.
pub bytes_filled : (f g : ℕ → ℕ) (addr n at value : ℕ) → at ≤ n → ((a : ℕ) → g a ≡ written f (addr + at) (replicate (n - at) value) a)
    → bytes_from g addr n ≡ bytes_from f addr at ++ replicate (n - at) value
bytes_filled f g addr n at value within writes =
    let list : List ℕ = replicate (n - at) value in
    let sized : length list ≡ n - at = length-replicate (n - at) value in
    let old = length-bytes f addr n in
    let none : drop (at + length list) (bytes_from f addr n) ≡ [] = drop_all (at + length list) (bytes_from f addr n) (omega arith) in
    bytes_spliced f g addr n at list (omega arith) writes
    ∙ rw (none, take_bytes f addr n at within) (append-nil (bytes_from f addr at ++ list))

-- A part of the bytes in a range.
pub bytes_within : (f : ℕ → ℕ) (addr n from k : ℕ) → from + k ≤ n → take k (drop from (bytes_from f addr n)) ≡ bytes_from f (addr + from) k
bytes_within f addr n from k within = grind (arith, nat_tests, bytes_part, length-bytes, byte-bytes)

-- The bytes of a range, written there again with another list in their midst: that list alone is written.
pub written_within : (f : ℕ → ℕ) (addr n at p : ℕ) (list : List ℕ) → at + length list ≤ n
    → written f addr (splice (bytes_from f addr n) at list) p ≡ written f (addr + at) list p
written_within f addr n at p list within =
    grind (arith, nat_tests, length-bytes, length-splice, cases_Bool, splice_index, byte-bytes)
