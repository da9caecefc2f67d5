-- What a call does to an arena and its names.
use Rattle.std.specs.Prelude.{◌≡◌, ◌≢◌, ℕ, ◌-◌, nat_lt, Bool, false, Option, Some, None, replicate, IsTrue}
use Rattle.std.specs.FinMap as finite
use Rattle.arena_rules.specs.State.{State, IsValid, is_used, AreApart}
use Rattle.arena_rules.specs.Back.{Point, accepts, KeepsMark}
use Rattle.arena_rules.specs.Blocks.{IsBlock, padded_size}
use Rattle.call_rules.specs.Machine.{Machine, Held, Contents, Marks, step, refused_of, is_reset}
use Rattle.call_rules.specs.Requests.{call_requests, takes_memory}
use Rattle.call_rules.specs.Counts.{call_statistics}
use Rattle.arena_rules.specs.Moves.{Resizing, growing, shrinking}
use Rattle.arena_rules.specs.declared.place.Place.{Place}
use Rattle.call_rules.specs.declared.calls.Call.{Call}
use Rattle.call_rules.specs.declared.calls.Call.TheVariants.{Grow, Shrink}
use Rattle.call_rules.specs.declared.calls.Reply.{Reply}
use Rattle.arena_store.specs.Memory.{Memory, KeepsUsed, block_at}
use Rattle.arena_store.specs.Source.{View, view, IsAsked}
use Rattle.arena_core.specs.Answers.{Answer, OnAnswer}
use Rattle.arena_core.specs.BlockCalls.{ResizesAfter, WritesBlock}
use Rattle.arena_runs.specs.Runs.{HoldsBytes}
use Rattle.arena_store.specs.declared.block.Block.{Block}
use Rattle.arena_runs.specs.Marks.{Noted, named, Tracks, KeepEntry, Notes}

-- the machine of an arena, its names, their bytes and some marks
abbrev pub machine_of : Memory → Held → Marks → Contents → Machine
machine_of memory names marks bytes = record { state = memory.state; held = names; bytes = bytes; marks = marks }

-- The names' blocks are aligned and in use, and no two have an address in common. They are also at multiples of the
-- least alignment, so that a cursor that moves up passes none.
pub record Holds (state : State) (names : Held) : Type 0 where
  pub valid : IsValid state
  pub each : (name : ℕ) (p : Place) → finite.get names name ≡ Some p → IsBlock state p
  pub apart : (m n : ℕ) (p q : Place) → m ≢ n → finite.get names m ≡ Some p → finite.get names n ≡ Some q
      → AreApart p.addr p.size q.addr q.size

-- the n addresses from this one on are apart from a padded place
abbrev pub IsBeside : ℕ → Place → ℕ → ℕ → Type 0
IsBeside min_align p addr n = AreApart p.addr (padded_size min_align p.addr p.size) addr n

-- Since entry no used byte was lost, and all of them are apart from the names' blocks.
pub record Keeps (entry memory : Memory) (names : Held) : Type 0 where
  pub kept : KeepsUsed entry memory
  pub beside : (name : ℕ) (p : Place) → finite.get names name ≡ Some p → (addr : ℕ) → IsTrue (is_used entry.state addr)
      → IsBeside memory.state.min_align p addr 1

-- In a call the source refused k requests, and was asked for what the rules ask for, and the arena counted what they
-- count, whatever the names' bytes and the marks are.
pub record Asks (call : Call) (reply : Reply) (old new : View) (names : Held) : Type 0 where
  pub asked : (marks : Marks) (bytes : Contents)
      → IsAsked old.source new.source (refused_of reply) (call_requests call (refused_of reply) (machine_of old.memory names marks bytes))
  pub statistics : (marks : Marks) (bytes : Contents)
      → new.memory.statistics ≡ call_statistics call reply (machine_of old.memory names marks bytes) old.memory.statistics

-- A call other than one on a mark is the machine's step, whatever the names' bytes and the marks are. The blocks stay
-- sound, what was kept since any entry is kept, and so are marks.
pub record Serves (call : Call) (reply : Reply) (old new : View) (names held : Held) : Type 0 where
  pub steps : (marks : Marks) (bytes : Contents) → HoldsBytes old.memory names bytes
      → (next : Contents)
      × (step call (refused_of reply) (machine_of old.memory names marks bytes) ≡ Some (reply, machine_of new.memory held marks next))
      × HoldsBytes new.memory held next
  pub asks : Asks call reply old new names
  pub holds : Holds new.memory.state held
  pub keeps : (entry : Memory) → Keeps entry old.memory names → Keeps entry new.memory held
  pub marks : (mark : Point) → IsTrue (accepts mark old.memory.state) → KeepsMark mark old.memory.state new.memory.state

-- a call that may place a block, and the log afterwards
abbrev pub ServesNoting : Call → Reply → View → View → Held → Held → Noted → Noted → Type 0
ServesNoting call reply old new names held noted later =
    Serves call reply old new names held × Notes new.memory.state names held noted later

-- The call of a run is the machine's step, with the marks that there are, and going back to these stays possible. What
-- was kept since any entry is kept, and is in each mark's part, except after a reset.
pub record ServesRun (call : Call) (reply : Reply) (old new : View) (names held : Held) (noted later : Noted) : Type 0 where
  pub steps : (bytes : Contents) → HoldsBytes old.memory names bytes
      → (next : Contents)
      × (step call (refused_of reply) (machine_of old.memory names (named noted.marks) bytes)
      ≡ Some (reply, machine_of new.memory held (named later.marks) next))
      × HoldsBytes new.memory held next
  pub asks : Asks call reply old new names
  pub holds : Holds new.memory.state held
  pub tracks : Tracks new.memory.state held later
  pub keeps : is_reset call ≡ false → (entry : Memory) → Keeps entry old.memory names → KeepEntry entry.state old.memory.state noted.marks
      → Keeps entry new.memory held × KeepEntry entry.state new.memory.state later.marks

-- Memory ran out for a call that takes some. Nothing changed.
pub record Wants (call : Call) (old new : View) (names : Held) (marks : Marks) : Type 0 where
  pub takes : (bytes : Contents) → IsTrue (takes_memory call (machine_of old.memory names marks bytes))
  pub same : new ≡ old

-- ---- A block that is resized: with a fill byte for its new bytes it grows, without one it shrinks

abbrev pub resizing : Option ℕ → ℕ → ℕ → ℕ → Call
resizing (Some fill) name size align = Grow name size align fill
resizing None name size align = Shrink name size align

-- the size is smaller than the block's for a grow, or larger for a shrink
abbrev pub is_wrong : Option ℕ → ℕ → ℕ → Bool
is_wrong (Some fill) had size = nat_lt size had
is_wrong None had size = nat_lt had size

-- what becomes of the block at a place
abbrev pub way_of : Option ℕ → State → Place → ℕ → ℕ → Resizing
way_of (Some fill) state p size align = growing state p.addr p.size p.align size align
way_of None state p size align = shrinking state p.addr p.size p.align size align

-- the new bytes of a block that had this many bytes are the fill byte
abbrev pub Fills : Option ℕ → Memory → Memory → ℕ → Block → Type 0
Fills (Some fill) mid new had b = WritesBlock mid new b had (replicate (b.size - had) fill)
Fills None mid new had b = new ≡ mid

-- The block at a place is given the layout, where k requests are refused, and then its new bytes are filled.
pub record ResizesFilling (fill : Option ℕ) (old new : View) (p : Place) (size align k : ℕ) (answer : Answer) : Type 0 where
  pub mid : Memory
  pub resizes : ResizesAfter (way_of fill old.memory.state p size align) old (view mid new.source)
      (block_at old.memory.state.generation p) size align k answer
  pub fills : OnAnswer answer (Fills fill mid new.memory p.size) (λ refused. new.memory ≡ mid) (new.memory ≡ mid)
