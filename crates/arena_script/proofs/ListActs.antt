-- What commands on lists do.
use Rattle.std.proofs.Common.{◌≡◌, refl, ap, ◌∙◌, IsTrue, ℕ, ◌+◌, ◌-◌, ◌*◌, ◌<◌, ◌≤◌, arith, false, Ok, Err, Option, Some, List, [], ◌∷◌, ◌++◌, length, take, set, length-append, length-take, length-set, slice_get}
use Rattle.std.specs.Prelude.{nat_lt}
use Rattle.std.specs.List.{insert, remove}
use Rattle.std.proofs.lemmas.Bool.Decides.{nat_tests}
use Rattle.std.proofs.lemmas.Option.{slice_get-get_or}
use Rattle.std.proofs.lemmas.List.Edits.{length-insert, length-remove}
use Rattle.arena_chunks.specs.Memory.{Memory}
use Rattle.arena_chunks.specs.Source.{View}
use Rattle.arena_items.specs.Room.{capacity_after}
use Rattle.arena_items.specs.Asks.{NoBlock, capacity_of, room_ask, solid}
use Rattle.arena_items.specs.declared.room.AllocError.{AllocError}
use Rattle.arena_items.proofs.Layers.{capacity_is, growth_taken, growth_asked}
use Rattle.arena_items.specs.declared.room.Growth.{Growth}
use Rattle.arena_items.proofs.Layers.{length-elements}
use Rattle.arena_vec.specs.Changes.{Grows, Becomes}
use Rattle.arena_vec.specs.Credit as vectors
use Rattle.arena_vec.specs.Growth.{amortised_growth}
use Rattle.arena_vec.specs.Vecs.{vec_list}
use Rattle.arena_vec.specs.declared.vec.Vec.{Vec}
use Rattle.script_rules.specs.Objects.{AList, most_items}
use Rattle.script_rules.specs.Effects.{Gives, number_or_nothing, effect}
use Rattle.script_rules.specs.declared.commands.Command.{Command}
use Rattle.script_rules.specs.declared.commands.Command.TheVariants.{Push, Insert, Pop, Remove, Put, Truncate}
use Rattle.script_rules.specs.declared.commands.ScriptReply.{ScriptReply}
use Rattle.script_rules.specs.declared.commands.ScriptReply.TheVariants.{Done, Number}
use Rattle.arena_script.specs.Kinds.{short}
use Rattle.arena_script.specs.Things.{Things, object_in, block_of, seen, credit_of}
use Rattle.arena_script.specs.Wants.{takes_room}
use Rattle.arena_script.specs.Asks.{asks, longer_list}
use Rattle.arena_script.specs.Places.{block_at}
use Rattle.std.specs.Option.{option_map, option_and_then}
use Rattle.arena_script.specs.Acts.{GivesThing, GivesNothing}
use Rattle.arena_script.specs.declared.thing.Thing.TheVariants as thing
use Rattle.arena_script.proofs.CostFacts.{IsPaid, same_used, nothing_given, grown_least, grown_costs, grown_refused}
use Rattle.arena_script.proofs.GivingLemmas.{exchanged, kept}
use Rattle.arena_script.proofs.ListLemmas.{GrowthRule, Paid, one_paid}
use Rattle.arena_script.proofs.ThingLemmas.{Holds}

module _ {things : Things} {m : Memory} {name : ℕ} {v : Vec ℕ} (h : Holds things m name (thing.List v)) where
  abbrev items : List ℕ
  items = vec_list short m v

  counted : length items ≡ v.raw.len
  counted = length-elements 4 short.decoded v.raw.len _

  inside_told : (at : ℕ) → at ≤ v.raw.len → nat_lt (length items) at ≡ false
  inside_told at inside = grind (arith, nat_tests, counted)

  -- ---- A list that grows by one

  -- It has this list afterwards.
  pub record GrowsTo (command : Command) (list : List ℕ) : Type 0 where
    pub taken : IsTrue (takes_room command)
    pub asks_is : asks command (seen m things) (block_at things) ≡ longer_list (seen m things name) (block_at things name)
    pub few : v.raw.len < most_items
    pub longer : length list ≡ v.raw.len + 1
    pub given : effect command (seen m things) ≡ Gives name (AList list) Done 24

  pub push_grows : (value : ℕ) → v.raw.len < most_items → GrowsTo (Push name value) (items ++ value ∷ [])
  unfolding effect
  push_grows value less = grind (arith, nat_tests, counted, length-append)

  pub insert_grows : (at value : ℕ) → at ≤ v.raw.len → v.raw.len < most_items → GrowsTo (Insert name at value) (insert items at value)
  unfolding effect
  insert_grows at value inside less = grind (arith, nat_tests, counted, length-insert, inside_told)

-- What the arena does then.
module _ (rule : GrowthRule) (paid : Paid) (old new : View) (w : Vec ℕ) {things : Things} {name : ℕ} {v : Vec ℕ}
    (h : Holds things old.memory name (thing.List v)) (one : old.memory.state.min_align ≡ 1) {command : Command} {list : List ℕ}
    (to : GrowsTo h command list) where
  abbrev growth : Growth
  growth = amortised_growth 4 v.raw.cap (v.raw.len + 1)

  abbrev later : ℕ
  later = vectors.credit_of 4 (v.raw.len + 1) (capacity_after growth v.raw.cap)

  afforded : IsPaid 4 4 v.raw.cap growth 24 (credit_of (thing.List v)) later
  afforded = one_paid rule paid v.raw.len v.raw.cap h.held.within to.few

  none : v.raw.block.size ≡ 0 → v.raw.cap ≡ 0
  none is = omega (arith, h.held.place.of_size, is)

  some : 0 < v.raw.block.size → 0 < v.raw.cap
  some is = omega (arith, h.held.place.of_size, is)

  capacity : capacity_of 4 (solid v.raw.block) ≡ v.raw.cap
  capacity = capacity_is 4 v.raw.cap v.raw.block none (omega (arith, h.held.place.of_size))

  asks_room : asks command (seen old.memory things) (block_at things) ≡ room_ask 4 4 (solid v.raw.block) growth
  asks_room = to.asks_is ∙ ap (λ o. longer_list (option_map (object_in old.memory) o) (option_and_then (λ t. solid (block_of t)) o)) h.found
      ∙ (λ i. room_ask 4 4 (solid v.raw.block) (amortised_growth 4 (capacity i) (counted h i + 1)))

  pub list_gives : Grows {X = Unit {0}} short old new v growth list w (Ok tt) → GivesThing command things old new name (thing.List w) Done
  list_gives grows = exchanged {cost = 24} h (rw grows.list_is to.given) asks_room (record {
    held = grows.held;
    takes = growth_taken old new v.raw.block 4 4 v.raw.cap (λ (u : Unit {0}). w.raw.block) none some growth tt grows.made;
    least = grown_least old new v.raw.block 4 4 v.raw.cap (λ (u : Unit {0}). w.raw.block) 24 (credit_of (thing.List v)) later one
        h.held.place (omega arith) growth tt afforded (grows.held.place.of_size ∙ ap (λ n. n * 4) grows.cap) grows.made;
    costs = rw (grows.cap, grows.len, to.longer) (grown_costs old new v.raw.block 4 4 v.raw.cap (λ (u : Unit {0}). w.raw.block) 24
        (credit_of (thing.List v)) later one h.held.place (omega arith) growth tt afforded grows.made);
    frame = grows.frame;
  })

  pub list_gives_nothing : {e : AllocError} → Grows {X = Unit {0}} short old new v growth list w (Err e)
      → GivesNothing command things old new e
  list_gives_nothing {e} grows =
      let refused = grown_refused old new v.raw.block 4 4 v.raw.cap
      (λ (u : Unit {0}). w.raw.block) 24 (credit_of (thing.List v)) later one h.held.place (omega arith) growth e afforded
      (ap (λ m. m.state) grows.err.1) grows.made in
      kept h.found to.taken to.given asks_room
      (growth_asked old new v.raw.block 4 4 v.raw.cap (λ (u : Unit {0}). w.raw.block) none some growth e refused.fits grows.made) refused

-- ---- A list that doesn't grow

module _ {things : Things} {old new : View} {name : ℕ} {v w : Vec ℕ} (h : Holds things old.memory name (thing.List v)) where
  becomes : {list : List ℕ} {command : Command} {reply : ScriptReply} → length list ≤ v.raw.len
      → effect command (seen old.memory things) ≡ Gives name (AList list) reply 0
      → asks command (seen old.memory things) (block_at things) ≡ NoBlock → Becomes short old new v list w
      → GivesThing command things old new name (thing.List w) reply
  becomes fewer given idle is = grind (arith, nat_tests, exchanged, same_used, nothing_given)

  pub pop_gives : {last : Option ℕ} → slice_get (items h) (v.raw.len - 1) ≡ last
      → Becomes short old new v (take (v.raw.len - 1) (items h)) w
      → GivesThing (Pop name) things old new name (thing.List w) (number_or_nothing last)
  unfolding effect
  pop_gives is = becomes (omega (arith, length-take (v.raw.len - 1) (items h))) (rw (h.found, counted h, is) refl) refl

  pub remove_gives : (at : ℕ) {number : ℕ} → at < v.raw.len → slice_get (items h) at ≡ Some number
      → Becomes short old new v (remove (items h) at) w → GivesThing (Remove name at) things old new name (thing.List w) (Number number)
  unfolding effect
  remove_gives at inside is = grind (arith, nat_tests, becomes, counted, length-remove)

  pub put_gives : (at value : ℕ) → at < v.raw.len → Becomes short old new v (set (items h) at value) w
      → GivesThing (Put name at value) things old new name (thing.List w) Done
  unfolding effect
  put_gives at value inside = becomes (omega (arith, counted h, length-set (items h) at value))
      (rw (h.found, slice_get-get_or (items h) at 0 (omega (arith, counted h))) refl) refl

  pub truncate_gives : (len : ℕ) → Becomes short old new v (take len (items h)) w
      → GivesThing (Truncate name len) things old new name (thing.List w) Done
  unfolding effect
  truncate_gives len = becomes (omega (arith, counted h, length-take len (items h))) (rw h.found refl) refl
