-- What commands on maps do.
use Rattle.std.proofs.Common.{◌≡◌, ℕ, ◌+◌, ◌-◌, ◌^◌, ◌<◌, ◌≤◌, refl, sym, ap, ◌∙◌, subst, arith, Bool, true, false, is_some, Ok, Err, inl, inr, Option, Some, None, [], ◌∷◌, length, cond, IsTrue}
use Rattle.std.specs.Prelude.{nat_le, nat_lt, if◌then◌else◌}
use Rattle.std.proofs.lemmas.Bool.{cases_lt, false≢true}
use Rattle.std.proofs.lemmas.Bool.Decides.{nat_tests}
use Rattle.arena_rules.specs.Rounding.{is_layout, is_power_among}
use Rattle.arena_rules.proofs.RoundingLemmas.{up_close}
use Rattle.arena_chunks.specs.Memory.{Memory}
use Rattle.arena_chunks.specs.Source.{View}
use Rattle.arena_store.specs.declared.block.Block.{Block}
use Rattle.arena_chunks.proofs.Layers.{empty_after, frame_reflexive, placed_least}
use Rattle.arena_items.specs.Room.{SamePlaces}
use Rattle.arena_items.specs.Asks.{capacity_of, table_ask, solid}
use Rattle.arena_items.specs.declared.room.AllocError.{AllocError}
use Rattle.arena_items.proofs.Layers.{still, empty_solid, capacity_is, table_taken, table_asked}
use Rattle.arena_hash.specs.Accounts.{spare_of}
use Rattle.arena_hash.specs.Changes.{Puts, TakesOut, IsNew, is_value}
use Rattle.arena_hash.specs.Finite.{Finite, has, value_of}
use Rattle.arena_hash.specs.Policy.{limit, growth_for}
use Rattle.arena_items.specs.declared.room.Growth.TheVariants.{Stays}
use Rattle.arena_hash.specs.Maps.{map_in}
use Rattle.arena_hash.specs.declared.map.HashMap.{HashMap}
use Rattle.arena_table.specs.declared.table.Table.{Table}
use Rattle.arena_chunks.specs.Frame.{Frame}
use Rattle.hash_ring.specs.declared.hasher.FxHasher.{FxHasher}
use Rattle.script_rules.specs.Objects.{Entries, get, bind, unbind, AMap, most_pairs}
use Rattle.script_rules.specs.Effects.{Tells, Gives, binds, number_or_nothing, effect}
use Rattle.script_rules.specs.declared.commands.Command.TheVariants.{MakeMap, Bind, Unbind}
use Rattle.script_rules.specs.declared.commands.ScriptReply.TheVariants.{Done, CapacityOverflow as Overflow}
use Rattle.script_rules.proofs.EntryLemmas.{length_bind, length_unbind}
use Rattle.arena_script.specs.Kinds.{pairs}
use Rattle.arena_script.specs.Things.{Things, object_in, block_of, seen, content, pairs_of, credit_of, IsPairsIn}
use Rattle.arena_script.specs.Asks.{larger_map, asks}
use Rattle.arena_script.specs.Places.{block_at}
use Rattle.std.specs.Option.{option_map, option_and_then}
use Rattle.arena_script.specs.Acts.{used, GivesThing, GivesNothing, CostsGiven}
use Rattle.arena_script.specs.declared.thing.Thing.TheVariants as thing
use Rattle.arena_script.proofs.GivingLemmas.{exchanged, kept, made}
use Rattle.arena_script.proofs.ThingLemmas.{Holds}
use Rattle.arena_script.proofs.PairFacts.{rising, get_pair, has_pair, pairs_with, pairs_without, pairs_none}
use Rattle.arena_script.proofs.CostFacts.{IsRefused, same_used, nothing_given, block_given, block_refused}

-- ---- A new map

pub made_map : {things : Things} {name : ℕ} → (old : View) → get things name ≡ None → {h : HashMap ℕ ℕ FxHasher} → IsNew pairs h.hasher h
    → GivesThing (MakeMap name) things old old name (thing.Map h) Done
unfolding effect
made_map old none {h} is =
    let no_pairs = ap pairs_of (is.map_is old.memory) ∙ pairs_none in made none refl (rw (none, no_pairs) refl) refl (record {
      takes = (empty_solid h.table.block is.block, still old);
      held = record { held = is.held old.memory; count = is.len ∙ sym (ap (λ (es : Entries ℕ). length es) no_pairs) };
      least = omega (arith, is.block);
      costs = nothing_given 0 0 (credit_of (thing.Map h)) old old (still old) (omega (arith, is.credit));
      frame = (empty_after old.memory old.memory [] [] [] h.table.block is.block).1 (frame_reflexive old.memory []);
    })

-- ---- A map that a name holds

module _ {things : Things} {m : Memory} {name : ℕ} {h : HashMap ℕ ℕ FxHasher} (holds : Holds things m name (thing.Map h)) where
  abbrev is : Finite ℕ ℕ
  is = map_in pairs m h

  abbrev es : Entries ℕ
  es = pairs_of is

  pub unbind_given : (key : ℕ) → key < 2 ^ 32
      → effect (Unbind name key) (seen m things) ≡ Gives name (AMap (unbind es key)) (number_or_nothing (value_of (is (content key)))) 0
  unfolding effect
  unbind_given key small = rw (holds.found, get_pair is key small) refl

  pub bind_full : (key value : ℕ) → key < 2 ^ 32 → has is (content key) ≡ false → most_pairs ≤ h.len
      → effect (Bind name key value) (seen m things) ≡ Tells Overflow
  unfolding effect
  bind_full key value small none full = rw holds.found (by (get es key) (has_pair is key small ∙ none))
    where
      by : (o : Option ℕ) → is_some o ≡ false → binds name es key value o ≡ Tells Overflow
      by None test =
          let full_test : nat_le most_pairs (length es) ≡ true = grind (arith, nat_tests, holds.held.count) in rw full_test refl
      by (Some old) test = absurd (cc)

  -- the cost of a pair, by whether its key is there
  abbrev cost_by : Bool → ℕ
  cost_by there = if there then 0 else 256

  pub bind_given : (key value : ℕ) → key < 2 ^ 32 → (has is (content key) ≡ false → h.len < most_pairs)
      → effect (Bind name key value) (seen m things)
      ≡ Gives name (AMap (bind es key value)) (number_or_nothing (value_of (is (content key)))) (cost_by (has is (content key)))
  unfolding effect
  bind_given key value small room =
      rw holds.found (by (get es key) (has is (content key)) (has_pair is key small) room)
      ∙ ap (λ o. Gives name (AMap (bind es key value)) (number_or_nothing o) (cost_by (has is (content key)))) (get_pair is key small)
    where
      by : (o : Option ℕ) (there : Bool) → is_some o ≡ there → (there ≡ false → h.len < most_pairs)
          → binds name es key value o ≡ Gives name (AMap (bind es key value)) (number_or_nothing o) (cost_by there)
      by None false test room =
          let less = room refl in
          let test : nat_le most_pairs (length es) ≡ false = grind (arith, nat_tests, holds.held.count) in rw test refl
      by None true test room = absurd (cc)
      by (Some x) true test room = refl
      by (Some x) false test room = absurd (cc)

-- ---- What the arena does: a key less

pub unbind_gives : {things : Things} {old new : View} {name : ℕ} {h w : HashMap ℕ ℕ FxHasher} {key : ℕ} {old_value : Option ℕ}
    → Holds things old.memory name (thing.Map h) → key < 2 ^ 32 → TakesOut pairs old new h key is_value w old_value
    → GivesThing (Unbind name key) things old new name (thing.Map w) (number_or_nothing old_value)
unbind_gives {things} {old} {new} {name} {h} {w} {key} {old_value} holds small out =
    let same : pairs_of (map_in pairs new.memory w) ≡ unbind (es holds) key = ap pairs_of out.becomes.map_is
    ∙ pairs_without (is holds) key small in
    let count : w.len ≡ length (unbind (es holds) key) = out.len ∙ fewer (has (is holds) (content key)) (has_pair (is holds) key small) in
    let given = unbind_given holds key small in exchanged holds (rw (same, out.says) given) refl (record {
      takes = (ap (λ (t : Table ℕ ℕ). solid t.block) out.becomes.table, out.becomes.places);
      held = record { held = out.becomes.held; count = count ∙ sym (ap (λ (fs : Entries ℕ). length fs) same) };
      least = omega (arith, out.becomes.costs.bytes, ap (λ (t : Table ℕ ℕ). t.block.size) out.becomes.table);
      costs = nothing_given 0 (credit_of (thing.Map h)) (credit_of (thing.Map w)) old new out.becomes.places
          (omega (arith, out.becomes.costs.credit));
      frame = subst (λ (t : Table ℕ ℕ). Frame old.memory new.memory (h.table.block ∷ []) (t.block ∷ [])) (sym out.becomes.table)
          out.becomes.frame;
    })
  where
    fewer : (there : Bool) → is_some (get (es holds) key) ≡ there → (if there then h.len - 1 else h.len) ≡ length (unbind (es holds) key)
    fewer there is_there = rw holds.held.count (sym (length_unbind (es holds) key (rising (is holds))
        ∙ ap (λ b. cond b (length (es holds) - 1) (length (es holds))) is_there))

-- the layout of a table of `size` bytes
pub slots_layout : (size : ℕ) → size ≤ 2 ^ 62 → IsTrue (is_layout size 8)
unfolding is_power_among
slots_layout size bounded = grind (arith, nat_tests, up_close)

-- ---- A pair more

module _ (old new : View) (w : HashMap ℕ ℕ FxHasher) (value : ℕ) {things : Things} {name : ℕ} {h : HashMap ℕ ℕ FxHasher} {key : ℕ}
    (holds : Holds things old.memory name (thing.Map h)) (small : key < 2 ^ 32)
    (room : has (is holds) (content key) ≡ false → h.len < most_pairs) (one : old.memory.state.min_align ≡ 1) where
  few : h.len < 2 ^ 32
  few = omega (arith, holds.is.0, holds.held.count)

  abbrev es_old : Entries ℕ
  es_old = es holds

  abbrev there : Bool
  there = has (is holds) (content key)

  abbrev credit : ℕ
  credit = credit_of (thing.Map h)

  slots_are : capacity_of 9 (solid h.table.block) ≡ h.table.slots
  slots_are = capacity_is 9 h.table.slots h.table.block (λ none. omega (arith, holds.held.held.handle.place.of_size, none))
      (omega (arith, holds.held.held.handle.place.of_size))

  asks_table : asks (Bind name key value) (seen old.memory things) (block_at things) ≡ table_ask 9 8 (growth_for there h.table.slots h.len)
  asks_table = ap (λ o. larger_map key (option_map (object_in old.memory) o) (option_and_then (λ t. solid (block_of t)) o)) holds.found
      ∙ (λ i. table_ask 9 8 (growth_for (has_pair (is holds) key small i) (slots_are i) (sym holds.held.count i)))

  credit_small : credit ≤ 2 ^ 40
  credit_small = omega (arith, few)

  -- ---- The pair is put.

  module _ {old_value : Option ℕ} (puts : Puts pairs old new h key value is_value w (Ok old_value)) where
    same_pairs : pairs_of (map_in pairs new.memory w) ≡ bind es_old key value
    same_pairs = ap pairs_of puts.map_is ∙ pairs_with (is holds) key value small

    put_held : IsPairsIn new.memory w
    put_held = record {
      held = puts.held;
      count = puts.len ∙ counts there (has_pair (is holds) key small) ∙ sym (ap (λ (fs : Entries ℕ). length fs) same_pairs);
    }
      where
        counts : (b : Bool) → is_some (get es_old key) ≡ b → (if b then h.len else h.len + 1) ≡ length (bind es_old key value)
        counts b test = rw holds.held.count
            (sym (length_bind es_old key value (rising (is holds)) ∙ ap (λ b. cond b (length es_old) (length es_old + 1)) test))

    -- the table stays
    table_stays : growth_for there h.table.slots h.len ≡ Stays → (w.table.block ≡ h.table.block) × SamePlaces old new
    table_stays stays = rw stays at puts.made

    record IsPut (cost : ℕ) : Type 0 where
      least : used old + w.table.block.size ≤ used new + h.table.block.size
      costs : CostsGiven cost credit (credit_of (thing.Map w)) old new

    kept_table : (cost : ℕ) → credit_of (thing.Map w) ≤ cost + credit → (w.table.block ≡ h.table.block) × SamePlaces old new → IsPut cost
    kept_table cost paid table = record {
      least = omega (arith, same_used old new table.1, ap (λ (b : Block). b.size) table.0);
      costs = nothing_given cost credit (credit_of (thing.Map w)) old new table.1 paid;
    }

    by_there : (b : Bool) → there ≡ b → IsPut (cost_by holds b)
    by_there true is_there = kept_table 0 (omega (arith, (puts.costs.there is_there).1.credit)) (table_stays (rw is_there refl))
    by_there false none = elim (cases_lt 0 (spare_of h)) [
      | inl spare ↦ (
          let less : nat_lt h.len (limit h.table.slots) ≡ true = grind (arith, nat_tests) in
          kept_table 256 (omega (arith, (puts.costs.room none spare).1.credit)) (table_stays (rw (none, less) refl)))
      | inr spent ↦ (
          let asks = puts.costs.asks none (omega arith) (omega (arith, room none, few)) in
          let layout = slots_layout asks.size asks.bounded in
          let places = asks.took.took in
          let base = block_given old asks.took.between new asks.size 8 256 credit 0 one layout (omega arith)
          (omega (arith, asks.within, credit_small)) (omega (arith, asks.within)) asks.took.places w.table.block places in record {
            least = omega (
              arith,
              placed_least old asks.took.between asks.size 8 w.table.block layout places,
              same_used asks.took.between new asks.took.places,
              places.1.outcome.of_layout.of_size,
            );
            costs = record {
              takes = omega (arith, puts.costs.grows none (omega arith));
              asks = base.asks;
              starved = base.starved;
              full = base.full;
            };
          })
    ]

    pub bind_gives : GivesThing (Bind name key value) things old new name (thing.Map w) (number_or_nothing old_value)
    bind_gives = let put = by_there there refl in exchanged holds (rw (same_pairs, puts.says) (bind_given holds key value small room)) asks_table
        (record {
          held = put_held;
          takes = table_taken old new h.table.block 9 8 (λ (x : Option ℕ). w.table.block) (growth_for there h.table.slots h.len) old_value
              puts.made;
          least = put.least;
          costs = put.costs;
          frame = puts.frame;
        })

  -- ---- It isn't.

  pub bind_gives_nothing : {e : AllocError} → Puts {X = Option ℕ} pairs old new h key value is_value w (Err e)
      → GivesNothing (Bind name key value) things old new e
  bind_gives_nothing {e} puts = let refused = by there refl in
      kept holds.found refl (bind_given holds key value small room) asks_table
      (table_asked old new h.table.block 9 8 (λ (x : Option ℕ). w.table.block) (growth_for there h.table.slots h.len) e refused.fits puts.made)
      refused
    where
      by : (b : Bool) → there ≡ b → IsRefused (cost_by holds b) credit old new e
      by true is_there = absurd (false≢true (puts.costs.there is_there).0)
      by false none = elim (cases_lt 0 (spare_of h)) [
        | inl spare ↦ absurd (false≢true (puts.costs.room none spare).0)
        | inr spent ↦ (
            let asks = puts.costs.asks none (omega arith) (omega (arith, room none, few)) in
            block_refused old asks.took.between new asks.size 8 256 credit 0 one (slots_layout asks.size asks.bounded) (omega arith)
            (omega (arith, asks.within, credit_small)) (omega (arith, asks.within)) asks.took.places (λ (x : Option ℕ). w.table.block) e
            asks.took.took)
      ]
