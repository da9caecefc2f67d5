-- What commands on sets do.
use Rattle.std.proofs.Common.{◌≡◌, ℕ, zero, suc, cond, ◌+◌, ◌-◌, ◌*◌, ◌^◌, ◌<◌, ◌≤◌, min, refl, sym, ap, ◌∙◌, arith, Bool, true, false, ◌&&◌, Ok, Err, Option, Some, None, ◌∷◌, IsTrue, inl, inr, eqb-true}
use Rattle.std.specs.Prelude.{nat_le, nat_lt, ◌==◌}
use Rattle.std.specs.List.{filter, range_with_len}
use Rattle.std.specs.Option.{option_map_or}
use Rattle.std.proofs.lemmas.Bool.Decides.{nat_tests}
use Rattle.arena_rules.specs.Bits.{Set, nothing, with_bit, without_bit, joined, below, members, words_for}
use Rattle.arena_rules.specs.Rounding.{is_layout}
use Rattle.std.proofs.Math.Path.{fun_ext}
use Rattle.arena_rules.specs.PrintedBits.{printed}
use Rattle.arena_chunks.specs.Source.{View}
use Rattle.arena_chunks.specs.Memory.{Memory}
use Rattle.arena_chunks.proofs.Layers.{placed_least}
use Rattle.arena_items.specs.laws.LayoutLaws.{plain_8}
use Rattle.arena_items.specs.declared.room.AllocError.{AllocError}
use Rattle.arena_items.specs.Asks.{NoBlock, Fresh}
use Rattle.arena_items.proofs.Layers.{row_is_layout, still, block_taken, block_asked}
use Rattle.arena_bits.specs.Sets.{IsSetIn, set_of, AreOneOrApart, BecomesSet, PlacesSet}
use Rattle.arena_bits.specs.declared.set.BitSet.{BitSet}
use Rattle.script_rules.specs.Objects.{get, has, Bits, bits_end, ASet}
use Rattle.script_rules.specs.declared.commands.Command.{Command}
use Rattle.script_rules.specs.Effects.{Effect, Tells, Gives, effect}
use Rattle.script_rules.specs.Effects as effects
use Rattle.script_rules.specs.declared.commands.Command.TheVariants.{MakeBits, SetBit, UnsetBit, Union, Ones}
use Rattle.script_rules.specs.declared.commands.ScriptReply.{ScriptReply}
use Rattle.script_rules.specs.declared.commands.ScriptReply.TheVariants.{Done, Numbers}
use Rattle.arena_script.specs.Things.{Things, object_in, seen, bits_below, AreThings, block_of}
use Rattle.arena_script.specs.declared.thing.Thing.{Thing}
use Rattle.arena_script.specs.Wants.{takes_room}
use Rattle.arena_script.specs.Asks.{asks}
use Rattle.arena_script.specs.Places.{block_at}
use Rattle.arena_script.specs.Acts.{GivesThing, GivesNothing}
use Rattle.arena_script.specs.declared.thing.Thing.TheVariants as thing
use Rattle.arena_script.proofs.CostFacts.{same_used, nothing_given, block_given, block_refused}
use Rattle.arena_script.proofs.GivingLemmas.{exchanged, made, kept}
use Rattle.arena_script.proofs.ThingLemmas.{Holds, other_name}
use Rattle.arena_script.proofs.BitFacts.{has_below, bits_with, bits_without, bits_joined, bits_none}

-- ---- A set that a name holds

module _ {things : Things} {m : Memory} {name : ℕ} {s : BitSet} (h : Holds things m name (thing.Bits s)) where
  abbrev here : Set
  here = set_of m s

  abbrev end : ℕ
  end = bits_end s.capacity

  abbrev bits : Bits
  bits = bits_below end here

  low : (bit : ℕ) → bit < 64 * s.words.length → nat_le end bit ≡ false
  low bit inside = grind (arith, nat_tests, inside, h.held.held.count)

-- ---- A set that becomes another

module _ {things : Things} {old new : View} {name : ℕ} {s : BitSet} (h : Holds things old.memory name (thing.Bits s)) where
  becomes : {set : Set} {all : Bits} {command : Command} → bits_below (end h) set ≡ all
      → effect command (seen old.memory things) ≡ Gives name (ASet s.capacity all) Done 0
      → asks command (seen old.memory things) (block_at things) ≡ NoBlock → BecomesSet old new s set
      → GivesThing command things old new name (thing.Bits s) Done
  becomes same given idle is = grind (arith, nat_tests, exchanged, same_used, nothing_given)

  pub set_gives : (bit : ℕ) → bit < 64 * s.words.length → BecomesSet old new s (with_bit (here h) bit)
      → GivesThing (SetBit name bit) things old new name (thing.Bits s) Done
  unfolding effect
  set_gives bit inside = becomes (bits_with (end h) (here h) bit (omega (arith, inside, h.held.held.count)))
      (rw (h.found, low h bit inside) refl) refl

  pub unset_gives : (bit : ℕ) → bit < 64 * s.words.length → BecomesSet old new s (without_bit (here h) bit)
      → GivesThing (UnsetBit name bit) things old new name (thing.Bits s) Done
  unfolding effect
  unset_gives bit inside = becomes (bits_without (end h) (here h) bit) (rw (h.found, low h bit inside) refl) refl

  pub union_gives : {other : ℕ} {t : BitSet} → Holds things old.memory other (thing.Bits t)
      → BecomesSet old new s (joined (here h) (below (64 * min s.words.length t.words.length) (set_of old.memory t)))
      → GivesThing (Union name other) things old new name (thing.Bits s) Done
  unfolding effect
  union_gives {other} {t} there is =
      let limit : 64 * min s.words.length t.words.length ≡ min (end h) (bits_end t.capacity)
      = omega (arith, h.held.held.count, there.held.held.count) in
      becomes (bits_joined (end h) (bits_end t.capacity) (here h) (set_of old.memory t)) (rw (h.found, there.found) refl) refl (rw limit at is)

-- ---- A new set

pub made_given : (things : Things) (m : Memory) (name capacity : ℕ) → get things name ≡ None
    → effect (MakeBits name capacity) (seen m things) ≡ Gives name (ASet capacity (bits_below (bits_end capacity) nothing)) Done
    (8 * words_for capacity + 7)
unfolding effect
made_given things m name capacity none = rw (none, bits_none (bits_end capacity)) refl

set_layout : (capacity : ℕ) → capacity < 2 ^ 32 → IsTrue (is_layout (words_for capacity * 8) 8)
set_layout capacity small = row_is_layout (words_for capacity) 8 8 plain_8 (omega arith) (omega arith)

-- any command that gives a name a set
module _ {command : Command} {things : Things} {old new : View} {name capacity : ℕ} {set : Set}
    (taken : IsTrue (takes_room command)) (none : get things name ≡ None) (small : capacity < 2 ^ 32) (one : old.memory.state.min_align ≡ 1)
    (given : effect command (seen old.memory things) ≡ Gives name (ASet capacity (bits_below (bits_end capacity) set)) Done
    (8 * words_for capacity + 7))
    (asks_is : asks command (seen old.memory things) (block_at things) ≡ Fresh (words_for capacity * 8) 8) where
  pub made_gives : {s : BitSet} → PlacesSet old new capacity set (Ok s) → GivesThing command things old new name (thing.Bits s) Done
  made_gives {s} places = made none taken (given ∙ ap (λ o. Gives name o Done (8 * words_for capacity + 7)) (sym is)) asks_is (record {
    takes = block_taken old new (words_for capacity * 8) 8 None s.words.block places.placed;
    held = record { held = places.held; small = omega (arith, places.capacity, small) };
    least = omega (
      arith,
      placed_least old new (words_for capacity * 8) 8 s.words.block (set_layout capacity small) places.placed,
      places.placed.1.outcome.of_layout.of_size,
    );
    costs = block_given old new new (words_for capacity * 8) 8 (8 * words_for capacity + 7) 0 0 one (set_layout capacity small)
        (omega arith)
        (omega (arith, small)) (omega arith) (still new) s.words.block places.placed;
    frame = places.frame;
  })
    where
      is : object_in new.memory (thing.Bits s) ≡ ASet capacity (bits_below (bits_end capacity) set)
      is = ap (λ (t : Set). ASet s.capacity (bits_below (bits_end s.capacity) t)) places.set_is
          ∙ ap (λ c. ASet c (bits_below (bits_end c) set)) places.capacity

  pub made_gives_nothing : {e : AllocError}
      → PlacesSet old new capacity set (Err e) → GivesNothing command things old new e
  made_gives_nothing {e} places = kept none taken given asks_is
      (block_asked old new (words_for capacity * 8) 8 (λ (s : BitSet). s.words.block) e places.placed)
      (block_refused old new new (words_for capacity * 8) 8 (8 * words_for capacity + 7) 0 0 one (set_layout capacity small) (omega arith)
      (omega (arith, small)) (omega arith) (still new) (λ (s : BitSet). s.words.block) e places.placed)

-- ---- Two sets

-- the first isn't a set, and the other name holds something
pub first_wrong : (things : Things) (m : Memory) (name other : ℕ) (y : Thing) {reply : ScriptReply} → get things other ≡ Some y
    → ((m : Memory) (go : ℕ → Bits → Effect) → effects.held (seen m things name) (λ o. effects.a_set o go) ≡ Tells reply)
    → effect (Union name other) (seen m things) ≡ Tells reply
unfolding effect
first_wrong things m name other y there wrong = rw there (wrong m _)

-- the second isn't a set
pub second_wrong : {things : Things} {m : Memory} {name : ℕ} {s : BitSet} {reply : ScriptReply} → Holds things m name (thing.Bits s)
    → (other : ℕ)
    → ((m : Memory) (go : ℕ → Bits → Effect) → effects.held (seen m things other) (λ o. effects.a_set o go) ≡ Tells reply)
    → effect (Union name other) (seen m things) ≡ Tells reply
unfolding effect
second_wrong {things} {m} h other wrong = rw h.found (wrong m _)

-- The sets of two names are apart, and those of one name are equal.
pub one_or_apart : {m : Memory} {things : Things} {name other : ℕ} {s t : BitSet} → AreThings m things
    → Holds things m name (thing.Bits s) → Holds things m other (thing.Bits t) → AreOneOrApart t.words.block s.words.block
one_or_apart {m} {things} {name} {other} {s} {t} are h there = by (name == other) refl
  where
    by : (b : Bool) → (name == other) ≡ b → AreOneOrApart t.words.block s.words.block
    by true test = inl (ap (λ (o : Option Thing). option_map_or block_of o t.words.block)
        (sym there.found ∙ ap (get things) (sym (eqb-true name other test)) ∙ h.found))
    by false test = inr (rw (there.found, h.found) at (are.apart other name (λ e. other_name name other test (sym e))))

-- ---- The numbers of a set

-- sets that agree below an end have the same members there
filter_same : (f g : Set) (n from : ℕ) → ((q : ℕ) → from ≤ q → q < from + n → f q ≡ g q) → filter f (range_with_len from n) ≡ filter g
    (range_with_len from n)
filter_same f g zero from same = refl
filter_same f g (suc n) from same =
    ap (λ b. cond b (from ∷ filter f (range_with_len (from + 1) n)) (filter f (range_with_len (from + 1) n)))
    (same from (omega arith) (omega arith))
    ∙ ap (λ rest. cond (g from) (from ∷ rest) rest) (filter_same f g n (from + 1) (λ q low high. same q (omega arith) (omega arith)))

pub ones_told : {things : Things} {m : Memory} {name : ℕ} {s : BitSet} → Holds things m name (thing.Bits s)
    → effect (Ones name) (seen m things) ≡ Tells (Numbers (members (set_of m s) 0 s.capacity))
unfolding effect members
ones_told {things} {m} {name} {s} h =
    rw h.found (ap (λ l. Tells (Numbers l)) (filter_same (has (bits h)) (here h) (s.capacity - 0) 0 same))
  where
    same : (q : ℕ) → 0 ≤ q → q < 0 + (s.capacity - 0) → has (bits h) q ≡ here h q
    same q low high = let t : nat_lt q (end h) ≡ true = grind (arith, nat_tests) in
        has_below (end h) (here h) q ∙ ap (λ b. b && here h q) t

-- ---- The printed form of a set

pub printed_same : (m : Memory) (s : BitSet) → IsSetIn m s → below (64 * s.words.length) (set_of m s) ≡ set_of m s
    → printed s.words.length (set_of m s) ≡ printed (words_for s.capacity) (has (bits_below (bits_end s.capacity) (set_of m s)))
printed_same m s held all = grind (arith, nat_tests, fun_ext, has_below)
