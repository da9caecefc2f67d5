-- What commands do to the places of their arena: each takes the block that it asks for, and nothing else.
use Rattle.std.specs.Prelude.{◌≡◌, ℕ, ◌⊎◌, ◌==◌, if◌then◌else◌, Option, None, List, [], ◌∷◌}
use Rattle.std.specs.Option.{option_and_then}
use Rattle.arena_chunks.specs.Source.{View}
use Rattle.arena_chunks.specs.Answers.Answer.{Placed, Refused}
use Rattle.arena_store.specs.declared.block.Block.{Block}
use Rattle.arena_items.specs.Asks.{Ask, Asked, TakesBlock, solid}
use Rattle.script_rules.specs.Objects.{get, Objects}
use Rattle.script_rules.specs.Effects.{Effect, Tells, Gives, LetsGo, effect}
use Rattle.script_rules.specs.Machine.{step}
use Rattle.script_rules.specs.declared.commands.Command.{Command}
use Rattle.arena_script.specs.Asks.{Blocks, asks}
use Rattle.arena_script.specs.Things.{Things, block_of}

-- ---- One command

-- the blocks, where this name has another
abbrev pub with_block : Blocks → ℕ → Option Block → Blocks
with_block blocks name block = λ q. if q == name then block else blocks q

-- What a command with this effect does, which asks for this: only one that gives a name an object takes a block.
abbrev pub Places : Effect → Ask Block → Blocks → View → Blocks → View → Type 0
Places (Tells reply) ask blocks old later new = (later ≡ blocks) × (new ≡ old)
Places (Gives name object reply cost) ask blocks old later new =
    (block : Option Block) × (later ≡ with_block blocks name block) × TakesBlock ask (blocks name) old new block
Places (LetsGo name) ask blocks old later new = (later ≡ with_block blocks name None) × (new ≡ old)

-- A command with this effect wasn't served since the arena refused its block, after `k` refused requests.
abbrev pub DeniedBlock : Effect → Ask Block → View → View → ℕ → Type 0
DeniedBlock (Tells reply) ask old new k = ⊥
DeniedBlock (Gives name object reply cost) ask old new k = Asked ask old new (Refused k)
DeniedBlock (LetsGo name) ask old new k = ⊥

-- A command with this effect wasn't served: no cursor moved, or just its block was taken.
abbrev pub RunsOut : Effect → Ask Block → View → View → Type 0
RunsOut (Tells reply) ask old new = new.memory.state ≡ old.memory.state
RunsOut (Gives name object reply cost) ask old new =
    (new.memory.state ≡ old.memory.state) ⊎ ((block : Block) × Asked ask old new (Placed block))
RunsOut (LetsGo name) ask old new = new.memory.state ≡ old.memory.state

-- ---- Commands, one after another

-- They were served from these objects and blocks on.
unfoldable pub AreServed : List Command → Objects → Blocks → View → Blocks → View → Type 0
AreServed [] objects blocks old later new = (later ≡ blocks) × (new ≡ old)
AreServed (command ∷ commands) objects blocks old later new =
    (between : Blocks) × (mid : View)
    × Places (effect command (get objects)) (asks command (get objects) blocks) blocks old between mid
    × AreServed commands (step command objects).objects between mid later new

-- A script begins with no blocks.
abbrev pub no_blocks : Blocks
no_blocks = λ name. None

-- ---- Of things

abbrev pub block_at : Things → Blocks
block_at things = λ name. option_and_then (λ t. solid (block_of t)) (get things name)
