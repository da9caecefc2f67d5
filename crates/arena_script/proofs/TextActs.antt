-- What commands on texts do.
use Rattle.std.proofs.Common.{IsTrue, Result, ◌≡◌, ℕ, ◌+◌, ◌*◌, ◌^◌, ◌<◌, ◌≤◌, refl, sym, ap, ◌∙◌, arith, true, false, Ok, Err, None, List, [], ◌∷◌, ◌++◌, length, length-append}
use Rattle.std.specs.Prelude.{nat_lt}
use Rattle.std.specs.List.{list_any}
use Rattle.std.proofs.lemmas.Bool.Decides.{nat_tests}
use Rattle.arena_chunks.specs.Memory.{Memory}
use Rattle.arena_chunks.specs.Source.{View}
use Rattle.arena_items.specs.Asks.{capacity_of, room_ask, solid}
use Rattle.arena_items.specs.Room.{capacity_after}
use Rattle.arena_items.specs.declared.room.AllocError.{AllocError}
use Rattle.arena_items.specs.declared.room.Growth.{Growth}
use Rattle.arena_items.proofs.Layers.{still, empty_solid, capacity_is, growth_taken, growth_asked}
use Rattle.arena_text.specs.Builders.{IsBuilderIn, builder_bytes, no_block}
use Rattle.arena_store.specs.declared.block.Block.{Block}
use Rattle.arena_chunks.proofs.Layers.{empty_after, frame_reflexive}
use Rattle.arena_text.specs.Changes.{Grows}
use Rattle.arena_text.specs.Growth.{amortised_growth, IsRoomFor}
use Rattle.arena_text.specs.declared.text.StringBuilder.{StringBuilder}
use Rattle.script_rules.specs.Objects.{get, AText, most_bytes}
use Rattle.script_rules.specs.Effects.{Effect, Tells, Gives, joins, not_ascii, effect}
use Rattle.script_rules.specs.declared.commands.Command.{Command}
use Rattle.script_rules.specs.declared.commands.Command.TheVariants.{MakeText, Byte, Front, Append}
use Rattle.script_rules.specs.declared.commands.ScriptReply.TheVariants.{Done, CapacityOverflow}
use Rattle.arena_script.specs.Things.{Things, object_in, block_of, seen, credit_of}
use Rattle.arena_script.specs.Wants.{takes_room}
use Rattle.arena_script.specs.Asks.{asks, longer_text}
use Rattle.arena_script.specs.Places.{block_at}
use Rattle.std.specs.Option.{option_map, option_and_then}
use Rattle.arena_script.specs.Acts.{Acts, GivesThing, GivesNothing}
use Rattle.arena_script.specs.declared.act.Act.{Act}
use Rattle.arena_script.specs.declared.thing.Thing.TheVariants as thing
use Rattle.arena_script.proofs.CostFacts.{IsPaid, nothing_given, grown_least, grown_costs, grown_refused}
use Rattle.arena_script.proofs.GivingLemmas.{exchanged, kept, made}
use Rattle.arena_script.proofs.ThingLemmas.{Holds}
use Rattle.arena_script.proofs.TextLemmas.{GrowthRule, later, text_paid, text_place}

-- ---- What the plain machine does with more bytes

joins_past : (more : List ℕ) (len : ℕ) (go : Effect) → list_any not_ascii more ≡ false → most_bytes < len + length more
    → joins more len go ≡ Tells CapacityOverflow
joins_past more len go low past =
    let test : nat_lt most_bytes (len + length more) ≡ true = grind (arith, nat_tests) in rw (low, test) refl

joins_all : (more : List ℕ) (len : ℕ) (go : Effect) → list_any not_ascii more ≡ false → len + length more ≤ most_bytes
    → joins more len go ≡ go
joins_all more len go low fits =
    let test : nat_lt most_bytes (len + length more) ≡ false = grind (arith, nat_tests) in rw (low, test) refl

-- A text has as many bytes as its length says.
abbrev pub HaveLengths : Type 0
HaveLengths = (m : Memory) (t : StringBuilder) → IsBuilderIn m t → t.len ≡ length (builder_bytes m t)

-- A command that adds bytes to a text, and the text after it.
pub record Puts {things : Things} {m : Memory} {name : ℕ} {t : StringBuilder} (h : Holds things m name (thing.Text t))
    (command : Command) (more list : List ℕ) : Type 0 where
  pub taken : IsTrue (takes_room command)
  pub asks_is : asks command (seen m things) (block_at things) ≡ longer_text (length more) (seen m things name) (block_at things name)
  pub effect_is : effect command (seen m things)
      ≡ joins more (length (builder_bytes m t)) (Gives name (AText list) Done (4 * length more))
  pub longer : length list ≡ length (builder_bytes m t) + length more
  pub low : list_any not_ascii more ≡ false

module _ {things : Things} {m : Memory} {name : ℕ} {t : StringBuilder} (h : Holds things m name (thing.Text t)) where
  pub front_puts : (byte : ℕ) → list_any not_ascii (byte ∷ []) ≡ false → Puts h (Front name byte) (byte ∷ []) (byte ∷ builder_bytes m t)
  unfolding effect
  front_puts byte low = record { taken = refl; asks_is = refl; effect_is = rw h.found refl; longer = omega arith; low = low }

  pub append_puts : (more : List ℕ) → list_any not_ascii more ≡ false → Puts h (Append name more) more (builder_bytes m t ++ more)
  unfolding effect
  append_puts more low = grind (arith, nat_tests, length-append)

  module _ (lengths : HaveLengths) {command : Command} {more list : List ℕ} (puts : Puts h command more list) where
    counted : t.len ≡ length (builder_bytes m t)
    counted = lengths m t h.held.held

    pub put_past : most_bytes < t.len + length more → effect command (seen m things) ≡ Tells CapacityOverflow
    put_past past = puts.effect_is ∙ joins_past more _ _ puts.low (omega (arith, counted))

    put_given : t.len + length more ≤ most_bytes → effect command (seen m things) ≡ Gives name (AText list) Done (4 * length more)
    put_given fits = puts.effect_is ∙ joins_all more _ _ puts.low (omega (arith, counted))

-- ---- What the arena does

module _ (rule : GrowthRule) (lengths : HaveLengths) (old new : View) (u : StringBuilder) {things : Things} {name : ℕ} {t : StringBuilder}
    (h : Holds things old.memory name (thing.Text t)) (one : old.memory.state.min_align ≡ 1) {command : Command} {more list : List ℕ}
    (puts : Puts h command more list) (fits : t.len + length more ≤ most_bytes) where
  has : t.len ≡ length (builder_bytes old.memory t)
  has = lengths old.memory t h.held.held

  abbrev n : ℕ
  n = length more

  abbrev change : Growth
  change = amortised_growth t.cap t.len n

  small : t.len + n < 2 ^ 32
  small = omega (arith, fits)

  abbrev credit : ℕ
  credit = later rule t n h.held small

  paid : IsPaid 1 1 t.cap change (4 * n) (credit_of (thing.Text t)) credit × IsRoomFor (t.len + n) (capacity_after change t.cap)
  paid = text_paid rule t n h.held small

  sized : t.block.size ≡ t.cap
  sized = h.held.held.place.of_size

  none : t.block.size ≡ 0 → t.cap ≡ 0
  none is = omega (arith, sized, is)

  some : 0 < t.block.size → 0 < t.cap
  some is = omega (arith, sized, is)

  capacity : capacity_of 1 (solid t.block) ≡ t.cap
  capacity = capacity_is 1 t.cap t.block none (omega (arith, sized))

  asks_room : asks command (seen old.memory things) (block_at things) ≡ room_ask 1 1 (solid t.block) change
  asks_room = puts.asks_is ∙ ap (λ o. longer_text n (option_map (object_in old.memory) o) (option_and_then (λ u. solid (block_of u)) o)) h.found
      ∙ (λ i. room_ask 1 1 (solid t.block) (amortised_growth (capacity i) (sym has i) n))

  pub put_gives : Grows old new t change list u (Ok tt) → GivesThing command things old new name (thing.Text u) Done
  put_gives grows =
      let place = text_place rule t n h.held small in
      let longer : length list ≡ t.len + n = omega (arith, puts.longer, has) in
      exchanged {cost = 4 * n} h (rw grows.bytes_are (put_given h lengths puts fits)) asks_room (record {
        takes = growth_taken old new t.block 1 1 t.cap (λ (x : Unit {0}). u.block) none some change tt grows.made;
        held = record { held = grows.held; room = rw (grows.cap, grows.len, longer) paid.1 };
        least = grown_least old new t.block 1 1 t.cap (λ (x : Unit {0}). u.block) (4 * n) (credit_of (thing.Text t)) credit one place
            (omega arith) change tt paid.0 (omega (arith, grows.held.place.of_size, grows.cap)) grows.made;
        costs = rw (grows.cap, grows.len, longer) (grown_costs old new t.block 1 1 t.cap (λ (x : Unit {0}). u.block) (4 * n)
            (credit_of (thing.Text t)) credit one place (omega arith) change tt paid.0 grows.made);
        frame = grows.frame;
      })

  pub put_gives_nothing : {e : AllocError} → Grows old new t change list u (Err e) → GivesNothing command things old new e
  put_gives_nothing {e} grows =
      let refused = grown_refused old new t.block 1 1 t.cap
      (λ (x : Unit {0}). u.block) (4 * n) (credit_of (thing.Text t)) credit one (text_place rule t n h.held small) (omega arith) change e
      paid.0 (ap (λ m. m.state) grows.err.1) grows.made in
      kept h.found puts.taken (put_given h lengths puts fits) asks_room
      (growth_asked old new t.block 1 1 t.cap (λ (x : Unit {0}). u.block) none some change e refused.fits grows.made) refused

-- ---- One byte

-- Adding a byte at the end is adding the text of that byte there.
pub byte_acts : (name byte : ℕ) (things : Things) (old new : View) (result : Result Act AllocError)
    → Acts (Append name (byte ∷ [])) things old new result → Acts (Byte name byte) things old new result
unfolding effect
byte_acts name byte things old new result acts = grind (arith, nat_tests)

-- ---- A new text

module _ (things : Things) (old : View) (name : ℕ) (none : get things name ≡ None) (t : StringBuilder) (held : IsBuilderIn old.memory t)
    (empty : builder_bytes old.memory t ≡ []) (block : t.block ≡ no_block) (len : t.len ≡ 0) (cap : t.cap ≡ 0) where
  pub made_text : GivesThing (MakeText name) things old old name (thing.Text t) Done
  unfolding effect
  made_text = let no_bytes : t.block.size ≡ 0 = ap (λ (b : Block). b.size) block in made none refl (rw (none, empty) refl) refl (record {
    takes = (empty_solid t.block no_bytes, still old);
    held = record { held = held; room = omega (arith, len, cap) };
    least = omega (arith, no_bytes);
    costs = nothing_given 32 0 _ old old (still old) (rw (len, cap) (omega arith));
    frame = (empty_after old.memory old.memory [] [] [] t.block no_bytes).1 (frame_reflexive old.memory []);
  })
