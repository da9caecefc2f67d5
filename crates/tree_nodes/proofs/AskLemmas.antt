-- Which blocks calls that place nodes ask for.
use Rattle.std.proofs.lemmas.Bool.Decides.{nat_tests}
use Rattle.std.proofs.Common.{◌≡◌, ◌≢◌, ℕ, ◌+◌, ◌*◌, ◌<◌, ◌≤◌, refl, sym, ap, ◌∙◌, subst, arith, Result, Ok, Err, Option, None, List}
use Rattle.arena_chunks.specs.Memory.{Memory}
use Rattle.arena_chunks.specs.Source.{View}
use Rattle.arena_chunks.specs.Answers.{Answer}
use Rattle.arena_chunks.specs.Answers.Answer.{Placed, Refused, Exhausted}
use Rattle.arena_chunks.specs.BlockCalls.{PlacesBlock}
use Rattle.arena_store.specs.declared.block.Block.{Block}
use Rattle.arena_items.specs.Asks.{Ask, NoBlock, Fresh, Larger, room_ask, solid, Asked, TakesBlock, refusal}
use Rattle.std.specs.Prelude.{IfOk}
use Rattle.arena_items.specs.Room.{SamePlaces, capacity_after}
use Rattle.arena_items.specs.declared.room.AllocError.{AllocError}
use Rattle.arena_items.specs.declared.room.AllocError.TheVariants.{AllocErr, CapacityOverflow, OutOfMemory}
use Rattle.arena_items.specs.declared.room.Growth.{Growth}
use Rattle.arena_items.specs.declared.room.Growth.TheVariants.{GrowsTo}
use Rattle.arena_items.proofs.Layers.{empty_solid, block_taken, block_asked, growth_taken, growth_asked, asked_before, same_then}
use Rattle.arena_vec.specs.Changes.{Grows}
use Rattle.arena_vec.specs.Growth.{amortised_growth, growth_to, amortised, fits}
use Rattle.arena_vec.specs.Vecs.{IsVecIn}
use Rattle.arena_vec.specs.declared.vec.Vec.{Vec}
use Rattle.tree_nodes.specs.TreesAt.{node_item}
use Rattle.tree_nodes.specs.Asking.{AsksFor, list_ask, list_growth}
use Rattle.tree_nodes.specs.declared.node.Node.{Node}
use Rattle.tree_nodes.proofs.SpendingLemmas.{IsHandedOn, handed_on}

-- ---- One block

pub placed_asks : {old new : View} {size align : ℕ} (b : Block) → PlacesBlock old new size align (Placed b)
    → AsksFor {X = Block} (Fresh size align) None (λ b. b) old new (Ok b)
placed_asks {old} {new} {size} {align} b places = block_taken old new size align None b places

pub refused_asks : {old new : View} {size align : ℕ} (k : ℕ) → PlacesBlock old new size align (Refused k)
    → Asked (Fresh size align) old new (Refused k)
refused_asks {old} {new} {size} {align} k places = block_asked {X = Block} old new size align (λ b. b) (AllocErr k) places

pub exhausted_asks : {old new : View} {size align : ℕ} → PlacesBlock old new size align Exhausted
    → Asked (Fresh size align) old new Exhausted
exhausted_asks {old} {new} {size} {align} places = block_asked {X = Block} old new size align (λ b. b) OutOfMemory places

-- ---- What is written afterwards takes no place

pub taken_before : (ask : Ask Block) (before after : Option Block) (old mid new : View) → TakesBlock ask before old mid after → SamePlaces mid new
    → TakesBlock ask before old new after
taken_before NoBlock before after old mid new taken same = (taken.0, same_then old mid new taken.1 same)
taken_before (Fresh size align) before after old mid new (b, is, asked) same =
    (b, is, asked_before (Fresh size align) old mid new (Placed b) asked same)
taken_before (Larger c size align) before after old mid new (b, is, asked) same =
    (b, is, asked_before (Larger c size align) old mid new (Placed b) asked same)

-- ---- Lists

-- the block of a list of this capacity
pub list_block : {m : Memory} {v : Vec Node} → IsVecIn node_item m v
    → (v.raw.block.size ≡ 0 → v.raw.cap ≡ 0) × (0 < v.raw.block.size → 0 < v.raw.cap)
list_block held = (λ none. omega (arith, held.place.of_size, none), λ some. omega (arith, held.place.of_size, some))

pub no_block : {m : Memory} {v : Vec Node} → IsVecIn node_item m v → v.raw.cap ≡ 0 → solid v.raw.block ≡ None
no_block {v = v} held none = empty_solid v.raw.block (omega (arith, held.place.of_size, none))

-- nodes that are appended
pub grows_asks : {old new : View} {v w : Vec Node} {list : List Node} (growth : Growth) → IsVecIn node_item old.memory v
    → (result : Result (Unit {0}) AllocError) → (result ≡ Err CapacityOverflow → ⊥) → Grows node_item old new v growth list w result
    → AsksFor (room_ask 88 8 (solid v.raw.block) growth) (solid v.raw.block) (λ (u : Unit {0}). w.raw.block) old new result
grows_asks {old} {new} {v} {w} growth held (Ok u) fits grows =
    growth_taken old new v.raw.block 88 8 v.raw.cap (λ (u : Unit {0}). w.raw.block) (list_block held).0 (list_block held).1 growth u grows.made
grows_asks {old} {new} {v} {w} growth held (Err e) fits grows =
    growth_asked old new v.raw.block 88 8 v.raw.cap (λ (u : Unit {0}). w.raw.block) (list_block held).0 (list_block held).1 growth e
    (λ is. fits (ap (λ (x : AllocError). Err x) is)) grows.made

-- a first list with this room
pub first_asks : (old new : View) (o : Option Block) (cap room required : ℕ) → o ≡ None → cap ≡ 0 → 1 ≤ room
    → (result : Result (Vec Node) AllocError) → AsksFor (list_ask room) None (λ (u : Vec Node). u.raw.block) old new result
    → AsksFor (room_ask 88 8 o (list_growth cap required room)) o (λ (u : Vec Node). u.raw.block) old new result
first_asks old new o cap room required none empty some result asks =
    let grows : list_growth cap required room ≡ GrowsTo room = grind (arith, nat_tests) in
    let asked : list_ask {B = Block} room ≡ Fresh (room * 88) 8 = grind (arith, nat_tests) in
    subst (λ o. AsksFor (room_ask 88 8 o (list_growth cap required room)) o (λ (u : Vec Node). u.raw.block) old new result) (sym none)
    (subst (λ g. AsksFor (room_ask 88 8 None g) None (λ (u : Vec Node). u.raw.block) old new result) (sym grows)
    (subst (λ a. AsksFor a None (λ (u : Vec Node). u.raw.block) old new result) asked asks))

pub later_growth : (cap required room : ℕ) → cap ≢ 0 → list_growth cap required room ≡ amortised_growth 88 cap required
later_growth cap required room some = grind (arith, nat_tests)

-- the list of one node
one_growth : amortised_growth 88 0 (0 + 1) ≡ GrowsTo 1
unfolding growth_to amortised fits
one_growth = refl

one_ask : (b : Block) (cap len : ℕ) → b.size ≡ 0 → cap ≡ 0 → len ≡ 0 → room_ask 88 8 (solid b) (amortised_growth 88 cap (len + 1)) ≡ Fresh 88 8
one_ask b cap len empty none few =
    ap (λ (o : Option Block). room_ask 88 8 o (amortised_growth 88 cap (len + 1))) (empty_solid b empty)
    ∙ ap (λ (g : Growth). room_ask 88 8 None g) (ap (λ (n : ℕ). amortised_growth 88 n (len + 1)) none
    ∙ ap (λ (n : ℕ). amortised_growth 88 0 (n + 1)) few ∙ one_growth)

pub one_taken : (old new : View) (after : Option Block) (b : Block) (cap len : ℕ) → b.size ≡ 0 → cap ≡ 0 → len ≡ 0
    → TakesBlock (room_ask 88 8 (solid b) (amortised_growth 88 cap (len + 1))) (solid b) old new after → TakesBlock (Fresh 88 8) None old new after
one_taken old new after b cap len empty none few took =
    subst (λ (o : Option Block). TakesBlock (Fresh 88 8) o old new after) (empty_solid b empty)
    (subst (λ (ask : Ask Block). TakesBlock ask (solid b) old new after) (one_ask b cap len empty none few) took)

pub one_asked : {old new : View} {answer : Answer} (b : Block) (cap len : ℕ) → b.size ≡ 0 → cap ≡ 0 → len ≡ 0
    → Asked (room_ask 88 8 (solid b) (amortised_growth 88 cap (len + 1))) old new answer → Asked (Fresh 88 8) old new answer
one_asked {old} {new} {answer} b cap len empty none few asked =
    subst (λ (ask : Ask Block). Asked ask old new answer) (one_ask b cap len empty none few) asked

-- What `?` passes on.
pub err_asks : {X : Type 0} (ask : Ask Block) (before : Option Block) (block : X → Block) (old new : View) (result : Result X AllocError)
    (e : AllocError) → IsHandedOn result e → Asked ask old new (refusal e) → AsksFor ask before block old new result
err_asks ask before block old new = handed_on (λ r. AsksFor ask before block old new r)

pub first_grown : (cap room required : ℕ) → cap ≡ 0 → (result : Result (Vec Node) AllocError) → IfOk result (λ v. v.raw.cap ≡ room)
    → IfOk result (λ v. v.raw.cap ≡ capacity_after (list_growth cap required room) cap)
first_grown cap room required none (Ok v) is =
    let grows : list_growth cap required room ≡ GrowsTo room = grind (arith, nat_tests) in
    is ∙ ap (λ (g : Growth). capacity_after g cap) (sym grows)
first_grown cap room required none (Err e) is = tt
