-- Many values at once: copies, cuts, and vectors that other calls leave alone.
use Rattle.std.proofs.Common.{◌≡◌, ℕ, ◌+◌, ◌-◌, ◌^◌, ◌<◌, ◌≤◌, List, ◌++◌, take, drop, replicate, ap, ◌∙◌, arith, Ok, inl, inr, append-nil}
use Rattle.std.proofs.lemmas.Grind.{common_steps}
use Rattle.std.proofs.lemmas.Bool.{cases_lt}
use Rattle.std.proofs.lemmas.Bool.Decides.{nat_tests}
use Rattle.std.specs.Prelude.{min}
use Rattle.arena_chunks.specs.Memory.{Memory}
use Rattle.arena_chunks.specs.Source.{View}
use Rattle.arena_chunks.specs.Frame.{Stays}
use Rattle.arena_store.specs.declared.block.Block.{Block}
use Rattle.arena_items.specs.declared.item.Item.{Ghosts}
use Rattle.arena_items.specs.Values.{elements, bytes_of}
use Rattle.arena_items.proofs.Layers.{length-elements, elements-all, elements-cut}
use Rattle.raw_vec.specs.Growth.{fits, growth_to, amortised_growth}
use Rattle.arena_vec.specs.Vecs.{IsVecIn, vec_list}
use Rattle.arena_vec.specs.Changes.{Grows, IsNow}
use Rattle.arena_items.specs.declared.room.Growth.TheVariants.{Stays as RoomStays}
use Rattle.arena_vec.specs.declared.vec.Vec.{Vec}
use Rattle.arena_vec.proofs.VecLemmas.{shortened}

-- As long as its block stays a vector may be cut to its first n values.
pub now_cut : {T : Type 0} (item : Ghosts T) (old new : Memory) (after : List Block) (v : Vec T) (n : ℕ) → IsVecIn item old v
    → Stays old new after v.raw.block → n ≤ v.raw.len
    → IsNow item new v (take n (vec_list item old v)) (record {
      raw =
          record { block = v.raw.block; len = n; cap = v.raw.cap; of = v.raw.of };
    })
now_cut item old new after v n held stays fewer =
    let list : elements item.SIZE item.decoded n (bytes_of new v.raw.block) ≡ take n (vec_list item old v) =
    ap (elements item.SIZE item.decoded n) stays.bytes ∙ elements-cut item.SIZE item.decoded n v.raw.len (bytes_of old v.raw.block) fewer in
    grind (arith, list, stays.readable, length-elements item.SIZE item.decoded n (bytes_of new v.raw.block))

-- If there is room nothing grows.
pub no_growth : (size cap required wanted : ℕ) → required ≤ cap → growth_to size cap required wanted ≡ RoomStays
unfolding growth_to
no_growth size cap required wanted room = grind arith

-- To cut a vector is to give it another length and append nothing.
pub cut_grows : {T : Type 0} (item : Ghosts T) (view : View) (v : Vec T) (n : ℕ) (value : T) → IsVecIn item view.memory v → n ≤ v.raw.len
    → Grows {X = Unit {0}} item view view v (amortised_growth item.SIZE v.raw.cap n)
    (take n (vec_list item view.memory v) ++ replicate (n - v.raw.len) value)
    (record { raw = record { block = v.raw.block; len = n; cap = v.raw.cap; of = v.raw.of } }) (Ok tt)
cut_grows item view v n value held fewer =
    let cut = shortened item view v n held fewer in
    let none : n - v.raw.len ≡ 0 = omega arith in
    let stays : amortised_growth item.SIZE v.raw.cap n ≡ RoomStays = no_growth item.SIZE v.raw.cap n _ (omega (arith, held.within)) in
    rw (stays, none, append-nil (take n (vec_list item view.memory v))) (grind (arith, cut))

-- A value was appended until there are m.
pub filled : {T : Type 0} (size : ℕ) (dec : List ℕ → T) (list : List T) (k m : ℕ) (value : T) (old new : List ℕ) → k ≤ m
    → elements size dec k old ≡ list → elements size dec (k + (m - k)) new ≡ elements size dec k old ++ replicate (m - k) value
    → elements size dec m new ≡ take m list ++ replicate (m - k) value
filled size dec list k m value old new more first put =
    let all : k + (m - k) ≡ m = omega arith in
    grind (arith, common_steps, rw all at put, length-elements size dec k old)

-- The values of another vector were appended.
pub appended : {T : Type 0} (size : ℕ) (dec : List ℕ → T) (list : List T) (k n : ℕ) (between other old new : List ℕ) → between ≡ other
    → elements size dec k old ≡ list
    → elements size dec (k + n) new ≡ elements size dec k old ++ drop 0 (elements size dec (0 + n) between)
    → elements size dec (k + n) new ≡ list ++ elements size dec n other
appended size dec list k n between other old new same first put = let sum : 0 + n ≡ n = omega arith in rw (sum, same, first) at put

-- The values from an index on were put into new storage.
pub split : {T : Type 0} (size : ℕ) (dec : List ℕ → T) (at n : ℕ) (between old fresh new : List ℕ) → at ≤ n → between ≡ old
    → elements size dec (0 + (n - at)) new ≡ elements size dec 0 fresh ++ drop at (elements size dec (at + (n - at)) between)
    → elements size dec (n - at) new ≡ drop at (elements size dec n old)
split size dec at n between old fresh new within same put =
    let all : at + (n - at) ≡ n = omega arith in
    elements-all size dec (n - at) new fresh (drop at (elements size dec n old)) (rw (all, same) at put)

-- A count that is capped at 2 ^ 64 - 1 grows a vector as the whole count does.
pub cut_growth : (size cap len n : ℕ) → cap < 2 ^ 32 → amortised_growth size cap (len + min n (2 ^ 64 - 1))
    ≡ amortised_growth size cap (len + n)
unfolding growth_to fits
cut_growth size cap len n few = elim (cases_lt n (2 ^ 64)) [
  | inl some ↦ (let same : min n (2 ^ 64 - 1) ≡ n = omega (arith, some) in ap (λ k. amortised_growth size cap (len + k)) same)
  | inr many ↦ grind (arith, nat_tests, many)
]
