-- What calls ask for, one after another.
use Rattle.std.proofs.Common.{◌≡◌, ℕ, zero, suc, ◌+◌, ◌*◌, ◌<◌, refl, sym, ap, ◌∙◌, subst, arith, inl, inr, Option, Some, None, List, [], ◌∷◌, ◌++◌, length, length-append, append-nil}
use Rattle.std.specs.Prelude.{slice_get}
use Rattle.arena_chunks.specs.Source.{View}
use Rattle.arena_chunks.specs.Answers.{Answer}
use Rattle.arena_chunks.specs.Answers.Answer.{Placed}
use Rattle.arena_store.specs.declared.block.Block.{Block}
use Rattle.arena_items.specs.Asks.{Ask, NoBlock, Fresh, Larger, first_or_larger, room_ask, meant, Runs, EndsAt, Asked, TakesBlock, solid}
use Rattle.arena_items.specs.Room.{SamePlaces, capacity_after}
use Rattle.arena_items.specs.declared.room.Growth.{Growth}
use Rattle.arena_items.specs.declared.room.Growth.TheVariants.{Stays, GrowsTo, Overflows}
use Rattle.arena_items.proofs.Layers.{still, by_size, runs_then}
use Rattle.arena_vec.specs.declared.vec.Vec.{Vec}
use Rattle.tree_nodes.specs.declared.node.Node.{Node}
use Rattle.arena_tree.specs.Asking.{placed_by, Row, no_row, one_more, block_after, appended, Ran, IsBlockAt, IsRow}

-- ---- How many are placed

pub placed_then : (asks more : List (Ask ℕ)) → placed_by (asks ++ more) ≡ placed_by asks + placed_by more
placed_then [] more = omega arith
placed_then (NoBlock ∷ asks) more = placed_then asks more
placed_then (Fresh size align ∷ asks) more = omega (arith, placed_then asks more)
placed_then (Larger at size align ∷ asks) more = omega (arith, placed_then asks more)

one_later : (blocks later : List Block) (b : Block) (n : ℕ) → length later ≡ length (blocks ++ b ∷ []) + n → length later ≡ length blocks + suc n
one_later blocks later b n is = omega (arith, is, length-append blocks (b ∷ []))

pub runs_length : (asks : List (Ask ℕ)) (blocks later : List Block) (old new : View) → Runs asks blocks old later new
    → length later ≡ length blocks + placed_by asks
unfolding Runs
runs_length [] blocks later old new (is, same) = omega (arith, ap (λ (bs : List Block). length bs) is)
runs_length (NoBlock ∷ asks) blocks later old new runs = runs_length asks blocks later old new runs
runs_length (Fresh size align ∷ asks) blocks later old new (b, mid, asked, rest) =
    one_later blocks later b _ (runs_length asks (blocks ++ b ∷ []) later mid new rest)
runs_length (Larger at size align ∷ asks) blocks later old new (b, mid, asked, rest) =
    one_later blocks later b _ (runs_length asks (blocks ++ b ∷ []) later mid new rest)

get_front : (blocks more : List Block) (at : ℕ) (b : Block) → slice_get blocks at ≡ Some b → slice_get (blocks ++ more) at ≡ Some b
get_front [] more at b is = absurd (let no = is in cc)
get_front (c ∷ blocks) more zero b is = is
get_front (c ∷ blocks) more (suc at) b is = get_front blocks more at b is

get_end : (blocks : List Block) (b : Block) → slice_get (blocks ++ b ∷ []) (length blocks) ≡ Some b
get_end [] b = refl
get_end (c ∷ blocks) b = get_end blocks b

-- A block that was placed is still the same one.
pub runs_keep : (asks : List (Ask ℕ)) (blocks later : List Block) (old new : View) (at : ℕ) (b : Block) → Runs asks blocks old later new
    → slice_get blocks at ≡ Some b → slice_get later at ≡ Some b
unfolding Runs
runs_keep [] blocks later old new at b (same, places) is = ap (λ (bs : List Block). slice_get bs at) same ∙ is
runs_keep (NoBlock ∷ asks) blocks later old new at b runs is = runs_keep asks blocks later old new at b runs is
runs_keep (Fresh size align ∷ asks) blocks later old new at b (c, mid, asked, rest) is =
    runs_keep asks (blocks ++ c ∷ []) later mid new at b rest (get_front blocks (c ∷ []) at b is)
runs_keep (Larger n size align ∷ asks) blocks later old new at b (c, mid, asked, rest) is =
    runs_keep asks (blocks ++ c ∷ []) later mid new at b rest (get_front blocks (c ∷ []) at b is)

runs_same : (asks : List (Ask ℕ)) (blocks later : List Block) (old mid new : View) → Runs asks blocks old later mid → SamePlaces mid new
    → Runs asks blocks old later new
unfolding Runs
runs_same asks blocks later old mid new runs same =
    subst (λ list. Runs list blocks old later new) (append-nil asks) (runs_then asks [] blocks later later old mid new runs (refl, same))

-- ---- Parts

pub ran_nothing : {old new : View} → SamePlaces old new → Ran (λ n. []) old new
unfolding Runs
ran_nothing same = record { later = λ blocks. blocks; runs = λ blocks. (refl, same) }

pub ran_block : (old new : View) (before after : Option Block) (size align : ℕ) → TakesBlock (Fresh size align) before old new after
    → Ran (λ n. Fresh size align ∷ []) old new
unfolding Runs
ran_block old new before after size align (b, is, asked) = record {
  later = λ blocks. blocks ++ b ∷ [];
  runs = λ blocks. (b, new, asked, (refl, still new));
}

runs_next : {old mid new : View} (one two : ℕ → List (Ask ℕ)) (first : Ran one old mid) (second : Ran two mid new) (blocks : List Block)
    → Runs (one (length blocks) ++ two (length blocks + placed_by (one (length blocks)))) blocks old (second.later (first.later blocks)) new
runs_next {old} {mid} {new} one two first second blocks =
    let asks = one (length blocks) in
    let many : length (first.later blocks) ≡ length blocks + placed_by asks = runs_length asks blocks (first.later blocks) old mid (first.runs blocks) in
    let rest : Runs (two (length blocks + placed_by asks)) (first.later blocks) mid (second.later (first.later blocks)) new
    = subst (λ n. Runs (two n) (first.later blocks) mid (second.later (first.later blocks)) new) many (second.runs (first.later blocks)) in
    runs_then asks (two (length blocks + placed_by asks)) blocks (first.later blocks) (second.later (first.later blocks)) old mid new
    (first.runs blocks) rest

pub ran_then : {old mid new : View} (one two : ℕ → List (Ask ℕ)) → Ran one old mid → Ran two mid new
    → Ran (λ n. one n ++ two (n + placed_by (one n))) old new
ran_then one two first second = record {
  later = λ blocks. second.later (first.later blocks);
  runs = runs_next one two first second;
}

-- the same in other words, and where nothing is asked for afterwards
pub ran_as : {old new : View} (asks others : ℕ → List (Ask ℕ)) → ((n : ℕ) → asks n ≡ others n) → Ran asks old new → Ran others old new
ran_as {old} {new} asks others same k = subst (λ (f : ℕ → List (Ask ℕ)). Ran f old new) (λ i n. same n i) k

pub ran_same : {old mid new : View} (asks : ℕ → List (Ask ℕ)) → Ran asks old mid → SamePlaces mid new → Ran asks old new
ran_same {old} {mid} {new} asks k same = record {
  later = k.later;
  runs = λ blocks. runs_same (asks (length blocks)) blocks (k.later blocks) old mid new (k.runs blocks) same;
}

-- one that has no place
pub one_ends : {old new : View} {answer : Answer} (ask : Ask ℕ) (blocks : List Block) → Asked (meant blocks ask) old new answer
    → EndsAt (ask ∷ []) blocks old new answer
unfolding Runs
one_ends {old} ask blocks asked =
    record { n = 0; ask = ask; next = refl; later = blocks; mid = old; ran = (refl, still old); asked = asked }

-- ---- Lists

pub row_none : {a : View} {list : Vec Node} → solid list.raw.block ≡ None → list.raw.len ≡ 0 → list.raw.cap ≡ 0 → IsRow (λ n. no_row) a a list 0
unfolding Runs
row_none {a} none len cap = record {
  later = λ blocks. blocks;
  runs = λ blocks. (refl, still a);
  block = λ blocks. none;
  len = λ n. sym len;
  cap = λ n. sym cap;
  few_is = λ n. refl;
}

-- one child more
pub row_child : {old mid new : View} {list : Vec Node} {few : ℕ} (row : ℕ → Row) (child : ℕ → List (Ask ℕ)) → IsRow row old mid list few
    → Ran child mid new → IsRow (λ n. one_more (row n) (child (n + placed_by (row n).asks))) old new list (few + 1)
row_child {old} {mid} {new} {list} row child r c =
    record {
      later = λ blocks. c.later (r.later blocks);
      runs = runs_next (λ n. (row n).asks) child (record { later = r.later; runs = r.runs }) c;
      block = λ blocks. kept (row (length blocks)).block (child (length (r.later blocks))) (r.later blocks) (c.later (r.later blocks))
          list.raw.block (c.runs (r.later blocks)) (r.block blocks);
      len = r.len;
      cap = r.cap;
      few_is = λ n. ap (λ (k : ℕ). k + 1) (r.few_is n);
    }
  where
    kept : (o : Option ℕ) (asks : List (Ask ℕ)) (blocks later : List Block) (b : Block) → Runs asks blocks mid later new
        → IsBlockAt blocks o b → IsBlockAt later o b
    kept None asks blocks later b runs is = is
    kept (Some at) asks blocks later b runs is = (is.0, runs_keep asks blocks later mid new at b runs is.1)

pub row_same : {old mid new : View} {list : Vec Node} {few : ℕ} (row : ℕ → Row) → IsRow row old mid list few → SamePlaces mid new
    → IsRow row old new list few
row_same {old} {mid} {new} row r same = record {
  later = r.later;
  runs = λ blocks. runs_same (row (length blocks)).asks blocks (r.later blocks) old mid new (r.runs blocks) same;
  block = r.block;
  len = r.len;
  cap = r.cap;
  few_is = r.few_is;
}

same_block : (b c : Block) → 0 < c.size → solid c ≡ solid b → (solid c ≡ Some c) × (b ≡ c)
same_block b c some is = elim (by_size c) [
  | inl none ↦ absurd (omega (arith, some, none.0))
  | inr whole ↦ (
    whole.1,
    elim (by_size b) [
      | inl none ↦ absurd (cc (is, none.1, whole.1))
      | inr other ↦ cc (is, other.1, whole.1)
    ],
  )
]

-- The block of a list after its ask.
put_one : (growth : Growth) (o : Option ℕ) (blocks : List Block) (mid new : View) (v w : Block) → IsBlockAt blocks o v
    → TakesBlock (room_ask 88 8 (solid v) growth) (solid v) mid new (solid w) → 0 < w.size
    → (later : List Block) × Runs (room_ask 88 8 o growth ∷ []) blocks mid later new × IsBlockAt later (block_after growth (length blocks) o) w
unfolding Runs
put_one Stays None blocks mid new v w at took some = (blocks, (refl, took.1), took.0 ∙ at)
put_one Stays (Some n) blocks mid new v w at took some =
    let same = same_block v w some took.0 in (blocks, (refl, took.1), (same.0, at.1 ∙ ap (λ (b : Block). Some b) same.1))
put_one (GrowsTo more) None blocks mid new v w at took some =
    let first = subst (λ o. TakesBlock (first_or_larger o (more * 88) 8) o mid new (solid w)) at took in
    let same = same_block first.0 w some first.1 in
    (blocks ++ first.0 ∷ [], (first.0, new, first.2, (refl, still new)), (same.0, get_end blocks first.0 ∙ ap (λ (b : Block). Some b) same.1))
put_one (GrowsTo more) (Some n) blocks mid new v w at took some =
    let larger = subst (λ o. TakesBlock (first_or_larger o (more * 88) 8) o mid new (solid w)) at.0 took in
    let same = same_block larger.0 w some larger.1 in
    let asked = subst (λ o. Asked (first_or_larger o (more * 88) 8) mid new (Placed larger.0)) (sym at.1) larger.2 in
    (blocks ++ larger.0 ∷ [], (larger.0, new, asked, (refl, still new)), (same.0, get_end blocks larger.0 ∙ ap (λ (b : Block). Some b) same.1))
put_one Overflows None blocks mid new v w at took some = (blocks, (refl, took.1), took.0 ∙ at)
put_one Overflows (Some n) blocks mid new v w at took some =
    let same = same_block v w some took.0 in (blocks, (refl, took.1), (same.0, at.1 ∙ ap (λ (b : Block). Some b) same.1))

-- The nodes that were read are appended.
pub row_put : {old mid new : View} {list longer : Vec Node} {few : ℕ} (row : ℕ → Row) (growth_of : Row → Growth) (growth : Growth)
    → IsRow row old mid list few → ((n : ℕ) → growth_of (row n) ≡ growth)
    → TakesBlock (room_ask 88 8 (solid list.raw.block) growth) (solid list.raw.block) mid new (solid longer.raw.block)
    → 0 < longer.raw.block.size → longer.raw.len ≡ list.raw.len + few → longer.raw.cap ≡ capacity_after growth list.raw.cap
    → IsRow (λ n. appended n (growth_of (row n)) (row n)) old new longer 0
row_put {old} {mid} {new} {list} {longer} {few} row growth_of growth r is took some len cap = record {
  later = λ blocks. (one blocks).0;
  runs = λ blocks.
      let n = length blocks in
      runs_then (row n).asks (room_ask 88 8 (row n).block (growth_of (row n)) ∷ []) blocks (r.later blocks) (one blocks).0 old mid new
      (r.runs blocks) (one blocks).1;
  block = λ blocks.
      let n = length blocks in
      let many = runs_length (row n).asks blocks (r.later blocks) old mid (r.runs blocks) in
      subst (λ k. IsBlockAt (one blocks).0 (block_after (growth_of (row n)) k (row n).block) longer.raw.block) many (one blocks).2;
  len = λ n. omega (arith, len, r.len n, r.few_is n);
  cap = λ n. ap (λ (g : Growth). capacity_after g (row n).cap) (is n) ∙ ap (capacity_after growth) (r.cap n) ∙ sym cap;
  few_is = λ n. refl;
}
  where
    one : (blocks : List Block) → (later : List Block)
        × Runs (room_ask 88 8 (row (length blocks)).block (growth_of (row (length blocks))) ∷ []) (r.later blocks) mid later new
        × IsBlockAt later (block_after (growth_of (row (length blocks))) (length (r.later blocks)) (row (length blocks)).block) longer.raw.block
    one blocks = put_one (growth_of (row (length blocks))) (row (length blocks)).block (r.later blocks) mid new list.raw.block longer.raw.block
        (r.block blocks)
        (subst (λ g. TakesBlock (room_ask 88 8 (solid list.raw.block) g) (solid list.raw.block) mid new (solid longer.raw.block))
        (sym (is (length blocks))) took) some
