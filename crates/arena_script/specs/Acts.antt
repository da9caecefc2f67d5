-- What calls on commands do to things in an arena.
use Rattle.std.specs.Prelude.{◌≡◌, ◌≢◌, ℕ, ◌+◌, ◌-◌, ◌^◌, ◌≤◌, ◌⊎◌, Result, Ok, Err, None, [], ◌∷◌, IsTrue}
use Rattle.arena_rules.specs.Rounding.{is_layout}
use Rattle.arena_rules.specs.Search.{place}
use Rattle.arena_chunks.specs.Source.{View}
use Rattle.arena_chunks.specs.Frame.{Frame}
use Rattle.arena_items.specs.Asks.{solid, Asked, TakesBlock, refusal}
use Rattle.arena_items.specs.Costs.{Costs, used as used_in}
use Rattle.arena_items.specs.declared.room.AllocError.{AllocError}
use Rattle.arena_items.specs.declared.room.AllocError.TheVariants.{AllocErr, CapacityOverflow, OutOfMemory}
use Rattle.script_rules.specs.Objects.{get, Object}
use Rattle.script_rules.specs.Effects.{effect}
use Rattle.script_rules.specs.Effects as effects
use Rattle.script_rules.specs.declared.commands.Command.{Command}
use Rattle.script_rules.specs.declared.commands.ScriptReply.{ScriptReply}
use Rattle.arena_script.specs.Things.{Things, block_of, blocks_of, IsThingIn, object_in, seen, size_of, size_held, credit_of, credit_held}
use Rattle.arena_script.specs.Asks.{asks}
use Rattle.arena_script.specs.Places.{block_at}
use Rattle.arena_script.specs.Wants.{tells_much, takes_room}
use Rattle.arena_script.specs.declared.thing.Thing.{Thing}
use Rattle.arena_script.specs.declared.act.Act.{Act}
use Rattle.arena_script.specs.declared.act.Act.TheVariants.{Tells, Gives, LetsGo}

abbrev pub used : View → ℕ
used a = used_in a

-- a command's calls are starved only if the newest data end is at least this far up, or because of their source
abbrev pub far : ℕ
far = 2 ^ 62 + 2 ^ 61

-- A block has no place, though its size, its padding and the bytes in use are at most `bytes` together.
pub record HasNoPlace (bytes : ℕ) (a : View) : Type 0 where
  pub size : ℕ
  pub align : ℕ
  pub layout : IsTrue (is_layout size align)
  pub within : used a + size + (align - 1) ≤ bytes
  pub none : place a.memory.state size align ≡ None

-- what a call on a command costs, where it gives something, and where it is refused
abbrev pub CostsGiven : (cost before after : ℕ) (old new : View) → Type 0
CostsGiven cost before after old new = Costs {X = Unit {0}} far cost before after old new (Ok tt)

abbrev pub CostsRefused : (cost before after : ℕ) (old new : View) → AllocError → Type 0
CostsRefused cost before after old new e = Costs {X = Unit {0}} far cost before after old new (Err e)

-- A call does what the plain machine does: a name gets a thing that represents the object, in a block of its own that
-- replaces the one before. It takes exactly the block that the command asks for. Its bytes come into use, and with its
-- credit they are at most the cost and the credit before. A new name takes room.
pub record GivesThing (command : Command) (things : Things) (old new : View) (name : ℕ) (thing : Thing) (reply : ScriptReply) : Type 0 where
  pub cost : ℕ
  pub effect_is : effect command (seen old.memory things) ≡ effects.Gives name (object_in new.memory thing) reply cost
  pub taken : get things name ≡ None → IsTrue (takes_room command)
  pub held : IsThingIn new.memory thing
  pub takes : TakesBlock (asks command (seen old.memory things) (block_at things)) (block_at things name) old new (solid (block_of thing))
  pub least : used old + size_of thing ≤ used new + size_held (get things name)
  pub costs : CostsGiven cost (credit_held (get things name)) (credit_of thing) old new
  pub frame : Frame old.memory new.memory (blocks_of (get things name)) (block_of thing ∷ [])

-- A call gives nothing where the plain machine would give an object at a cost: the arena was asked for the command's
-- block, for which the cost and the credit would have paid, and refused it, or memory ran out. No collection overflows,
-- since the plain machine refuses before that.
pub record GivesNothing (command : Command) (things : Things) (old new : View) (e : AllocError) : Type 0 where
  pub name : ℕ
  pub object : Object
  pub reply : ScriptReply
  pub cost : ℕ
  pub effect_is : effect command (seen old.memory things) ≡ effects.Gives name object reply cost
  pub taken : IsTrue (takes_room command)
  pub fits : e ≢ CapacityOverflow
  pub costs : CostsRefused cost (credit_held (get things name)) (credit_held (get things name)) old new e
  pub asked : Asked (asks command (seen old.memory things) (block_at things)) old new (refusal e)
  pub denied : (k : ℕ) → e ≡ AllocErr k → HasNoPlace (used old + (cost + credit_held (get things name))) new
  pub same : new.memory.state ≡ old.memory.state

-- Memory ran out for the reply of a command. Nothing changed.
pub record TellsNothing (command : Command) (old new : View) (e : AllocError) : Type 0 where
  pub much : IsTrue (tells_much command)
  pub exhausted : e ≡ OutOfMemory
  pub same : new ≡ old

-- What a call on a command does.
abbrev pub Acts : Command → Things → View → View → Result Act AllocError → Type 0
Acts command things old new (Ok (Tells reply)) = (effect command (seen old.memory things) ≡ effects.Tells reply) × (new ≡ old)
Acts command things old new (Ok (Gives name thing reply)) = GivesThing command things old new name thing reply
Acts command things old new (Ok (LetsGo name)) = (effect command (seen old.memory things) ≡ effects.LetsGo name) × (new ≡ old)
Acts command things old new (Err e) = GivesNothing command things old new e ⊎ TellsNothing command old new e
