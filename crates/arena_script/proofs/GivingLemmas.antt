-- How a command gives a name a thing, and what it leaves where it doesn't.
use Rattle.std.proofs.lemmas.Bool.Decides.{nat_tests}
use Rattle.std.proofs.Common.{arith, ◌≡◌, ℕ, ◌+◌, ◌≤◌, IsTrue, Option, Some, None, [], ◌∷◌}
use Rattle.std.specs.Option.{option_and_then}
use Rattle.arena_chunks.specs.Frame.{Frame}
use Rattle.arena_chunks.specs.Source.{View}
use Rattle.arena_store.specs.declared.block.Block.{Block}
use Rattle.arena_items.specs.Asks.{Ask, solid, Asked, TakesBlock, refusal}
use Rattle.arena_items.specs.declared.room.AllocError.{AllocError}
use Rattle.script_rules.specs.Objects.{get, Object}
use Rattle.script_rules.specs.Effects.{Gives, effect}
use Rattle.script_rules.specs.declared.commands.Command.{Command}
use Rattle.script_rules.specs.declared.commands.ScriptReply.{ScriptReply}
use Rattle.arena_script.specs.Asks.{asks}
use Rattle.arena_script.specs.Places.{block_at}
use Rattle.arena_script.specs.Acts.{used, CostsGiven, GivesThing, GivesNothing}
use Rattle.arena_script.specs.Things.{Things, IsThingIn, object_in, seen, block_of, blocks_of, size_of, size_held, credit_of, credit_held}
use Rattle.arena_script.specs.Wants.{takes_room}
use Rattle.arena_script.specs.declared.thing.Thing.{Thing}
use Rattle.arena_script.proofs.CostFacts.{IsRefused}
use Rattle.arena_script.proofs.ThingLemmas.{Holds}

-- A thing replaces the one before, if any, at a cost and with its credit, and takes the block that is asked for.
pub record IsGiven (cost : ℕ) (ask : Ask Block) (old new : View) (o : Option Thing) (w : Thing) : Type 0 where
  pub held : IsThingIn new.memory w
  pub takes : TakesBlock ask (option_and_then (λ t. solid (block_of t)) o) old new (solid (block_of w))
  pub least : used old + size_of w ≤ used new + size_held o
  pub costs : CostsGiven cost (credit_held o) (credit_of w) old new
  pub frame : Frame old.memory new.memory (blocks_of o) (block_of w ∷ [])

module _ {command : Command} {things : Things} {old new : View} {name cost : ℕ} {ask : Ask Block} {reply : ScriptReply} where
  given : {o : Option Thing} {w : Thing} → get things name ≡ o → (o ≡ None → IsTrue (takes_room command))
      → effect command (seen old.memory things) ≡ Gives name (object_in new.memory w) reply cost
      → asks command (seen old.memory things) (block_at things) ≡ ask → IsGiven cost ask old new o w
      → GivesThing command things old new name w reply
  given at taken effect_is asks_is is = grind (arith, nat_tests)

  -- a name that holds a thing, and one that holds none
  pub exchanged : {t w : Thing} → Holds things old.memory name t
      → effect command (seen old.memory things) ≡ Gives name (object_in new.memory w) reply cost
      → asks command (seen old.memory things) (block_at things) ≡ ask → IsGiven cost ask old new (Some t) w
      → GivesThing command things old new name w reply
  exchanged h effect_is asks_is is = given h.found (λ no. absurd (cc)) effect_is asks_is is

  pub made : {w : Thing} → get things name ≡ None → IsTrue (takes_room command)
      → effect command (seen old.memory things) ≡ Gives name (object_in new.memory w) reply cost
      → asks command (seen old.memory things) (block_at things) ≡ ask → IsGiven cost ask old new None w
      → GivesThing command things old new name w reply
  made none taken effect_is asks_is is = given none (λ _. taken) effect_is asks_is is

  -- Nothing is given.
  pub kept : {o : Option Thing} {object : Object} {e : AllocError} → get things name ≡ o → IsTrue (takes_room command)
      → effect command (seen old.memory things) ≡ Gives name object reply cost
      → asks command (seen old.memory things) (block_at things) ≡ ask → Asked ask old new (refusal e)
      → IsRefused cost (credit_held o) old new e → GivesNothing command things old new e
  kept {o} {object} at taken effect_is asks_is asked refused = grind (arith, nat_tests)
