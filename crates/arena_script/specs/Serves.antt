-- What serving commands leaves: things that represent the plain machine's objects, and bytes within their cost.
use Rattle.std.specs.Prelude.{◌≡◌, ◌≢◌, ℕ, ◌+◌, ◌≤◌, Result, Ok, Err, None, IsTrue, List, [], take}
use Rattle.arena_chunks.specs.Memory.{Memory}
use Rattle.arena_chunks.specs.Source.{View}
use Rattle.arena_items.specs.Costs.{KeepsKind}
use Rattle.arena_items.specs.declared.room.AllocError.{AllocError}
use Rattle.arena_items.specs.declared.room.AllocError.TheVariants.{AllocErr, CapacityOverflow, OutOfMemory}
use Rattle.script_rules.specs.Objects.{get, total, bind, unbind}
use Rattle.script_rules.specs.Effects.{effect}
use Rattle.script_rules.specs.Machine.{step, run, cost_of}
use Rattle.script_rules.specs.declared.commands.Command.{Command}
use Rattle.script_rules.specs.declared.commands.ScriptReply.{ScriptReply}
use Rattle.script_rules.specs.declared.commands.ScriptReply.TheVariants.{Done}
use Rattle.arena_script.specs.Things.{Things, AreThings, objects_in, seen, size_of, credit_of}
use Rattle.arena_script.specs.Asks.{asks}
use Rattle.arena_script.specs.Places.{Places, DeniedBlock, RunsOut, AreServed, block_at, no_blocks}
use Rattle.arena_script.specs.Acts.{used, CostsGiven, CostsRefused, HasNoPlace}
use Rattle.arena_script.specs.Wants.{takes_memory}
use Rattle.arena_script.specs.declared.act.Act.{Act}
use Rattle.arena_script.specs.declared.act.Act.TheVariants.{Tells, Gives, LetsGo}
use Rattle.arena_script.specs.declared.thing.Thing.{Thing}

-- the bytes of all blocks, and all credits
abbrev pub sizes_of : Things → ℕ
sizes_of things = total (λ (e : ℕ × Thing). size_of e.1) things

abbrev pub credits_of : Things → ℕ
credits_of things = total (λ (e : ℕ × Thing). credit_of e.1) things

-- A command was served as by the plain machine, and took the block that it asks for. At least the bytes of its block came
-- into use, and with all credits they are at most the credits before and its cost.
pub record Serves (command : Command) (old new : View) (things later : Things) (reply : ScriptReply) : Type 0 where
  pub reply_is : reply ≡ (step command (objects_in old.memory things)).reply
  pub objects : objects_in new.memory later ≡ (step command (objects_in old.memory things)).objects
  pub are : AreThings new.memory later
  pub places : Places (effect command (seen old.memory things)) (asks command (seen old.memory things) (block_at things)) (block_at things)
      old (block_at later) new
  pub least : used old + sizes_of later ≤ used new + sizes_of things
  pub costs : CostsGiven (step command (objects_in old.memory things)).cost (credits_of things) (credits_of later) old new
  pub kind : KeepsKind old.memory new.memory

-- A command that takes memory wasn't served: the arena was asked for its block, for which the credits and the cost
-- would have paid, and refused it; or memory ran out. Nothing was freed.
pub record Stops (command : Command) (old new : View) (things : Things) (e : AllocError) : Type 0 where
  pub fits : e ≢ CapacityOverflow
  pub taken : IsTrue (takes_memory command)
  pub least : used old ≤ used new
  pub costs : CostsRefused (step command (objects_in old.memory things)).cost (credits_of things) 0 old new e
  pub asked : (k : ℕ) → e ≡ AllocErr k
      → DeniedBlock (effect command (seen old.memory things)) (asks command (seen old.memory things) (block_at things)) old new k
  pub left : RunsOut (effect command (seen old.memory things)) (asks command (seen old.memory things) (block_at things)) old new
  pub denied : (k : ℕ) → e ≡ AllocErr k
      → HasNoPlace (used old + ((step command (objects_in old.memory things)).cost + credits_of things)) new
  pub kind : KeepsKind old.memory new.memory

abbrev pub ServesOrStops : Command → View → View → Things → Things → Result ScriptReply AllocError → Type 0
ServesOrStops command old new things later (Ok reply) = Serves command old new things later reply
ServesOrStops command old new things later (Err e) = Stops command old new things e

-- The names after a command. Memory can run out for a name that held nothing.
abbrev pub Settles : Act → Things → Things → Result ScriptReply AllocError → Type 0
Settles (Tells reply) old new result = (result ≡ Ok reply) × (new ≡ old)
Settles (Gives name thing reply) old new (Ok told) = (told ≡ reply) × (new ≡ bind old name thing)
Settles (Gives name thing reply) old new (Err e) = (e ≡ OutOfMemory) × (get old name ≡ None)
Settles (LetsGo name) old new result = (result ≡ Ok Done) × (new ≡ unbind old name)

-- After the first `i` commands of a script, things represent the plain machine's objects, in the blocks that the commands
-- took one after another. Their bytes are in use, and the bytes in use and the credits are at most what the commands cost.
pub record IsAfter (script : List Command) (start now : View) (things : Things) (i : ℕ) : Type 0 where
  pub are : AreThings now.memory things
  pub objects : objects_in now.memory things ≡ (run (take i script)).objects
  pub served : AreServed (take i script) [] no_blocks start (block_at things) now
  pub least : sizes_of things ≤ used now
  pub costs : CostsGiven (cost_of (take i script)) 0 (credits_of things) start now
  pub kind : KeepsKind start.memory now.memory
