-- Texts that grow, and texts that are made: the one call of the arena, and the handle then.
use Rattle.std.proofs.Common.{◌≡◌, ℕ, ◌*◌, ◌^◌, ◌<◌, ◌≤◌, ◌+◌, IsTrue, Ok, arith}
use Rattle.std.proofs.lemmas.Bool.Decides.{nat_tests}
use Rattle.arena_rules.specs.Rounding.{is_layout, is_power_among}
use Rattle.arena_rules.proofs.RoundingLemmas.{up_same}
use Rattle.arena_chunks.specs.Source.{View}
use Rattle.arena_chunks.specs.Answers.Answer.{Placed}
use Rattle.arena_store.specs.declared.block.Block.{Block}
use Rattle.arena_chunks.proofs.Layers.{empty_before, frame_reflexive}
use Rattle.arena_items.specs.Room.{TakesRoom, MakesRoom, capacity_after}
use Rattle.arena_items.specs.declared.room.Growth.{Growth}
use Rattle.arena_items.specs.declared.room.Growth.TheVariants.{Stays, GrowsTo, Overflows}
use Rattle.arena_items.proofs.Layers.{taken_held, taken_frame, taken_front}
use Rattle.arena_text.specs.Growth.{growth_to, amortised_growth, new_growth, Suffices}
use Rattle.arena_text.specs.Builders.{IsBuilderIn}
use Rattle.arena_text.specs.Changes.{IsGrown}
use Rattle.arena_text.specs.declared.text.StringBuilder.{StringBuilder}

-- n bytes have a layout.
pub bytes_layout : (n : ℕ) → n < 2 ^ 63 → IsTrue (is_layout n 1)
unfolding is_power_among
bytes_layout n few = grind (arith, nat_tests, up_same n 1)

-- A block was taken for more bytes: the text has the bytes that it had.
pub grown_text : (old new : View) (t : StringBuilder) (c : Block) (more : ℕ) → IsBuilderIn old.memory t → t.cap < more
    → TakesRoom old new t.block t.cap (more * 1) 1 (Placed c)
    → IsGrown old.memory new.memory t (GrowsTo more) (record { block = c; len = t.len; cap = more })
grown_text old new t c more held less takes = grind (
  arith,
  taken_held old new t.block c t.cap (more * 1) 1 takes,
  taken_front old new t.block c t.cap (more * 1) 1 takes,
  taken_frame old new t.block c t.cap (more * 1) 1 takes,
)

-- After a growth that succeeded there is room for what is required.
pub enough : (old new : View) (b : Block) (cap required : ℕ) (growth : Growth) (f : StringBuilder → Block) (t : StringBuilder)
    → MakesRoom 1 1 old new b cap growth f (Ok t) → Suffices cap required growth → required ≤ capacity_after growth cap
enough old new b cap required growth f t made suffices = grind arith

-- A text that was made has the room that was asked for.
pub new_capacity : (old new : View) (b : Block) (room : ℕ) (f : StringBuilder → Block) (t : StringBuilder)
    → MakesRoom 1 1 old new b 0 (new_growth room) f (Ok t) → capacity_after (new_growth room) 0 ≡ room
unfolding growth_to
new_capacity old new b room f t made = grind (arith, nat_tests)

-- If there is room nothing grows.
pub room_there : (cap len n : ℕ) → len + n ≤ cap → amortised_growth cap len n ≡ Stays
unfolding growth_to
room_there cap len n fits = grind (arith, nat_tests)

-- More than the greatest capacity overflows.
pub too_many : (n : ℕ) → 2 ^ 63 ≤ n → new_growth n ≡ Overflows
unfolding growth_to
too_many n many = grind (arith, nat_tests)

-- for a growth
pub ruleset growths = (grown_text, frame_reflexive, enough)
