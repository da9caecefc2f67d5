-- What commands ask their arena for, by the objects and the blocks that names have: one block, or none.
use Rattle.std.specs.Prelude.{ℕ, zero, suc, ◌+◌, ◌*◌, max, Option, Some, None, is_some, length}
use Rattle.arena_rules.specs.Bits.{words_for}
use Rattle.arena_rules.specs.Search.{power_at_least}
use Rattle.arena_store.specs.declared.block.Block.{Block}
use Rattle.arena_items.specs.Asks.{Ask, NoBlock, Fresh, room_ask, table_ask, capacity_of}
use Rattle.arena_hash.specs.Policy.{growth_for, slot_size, table_align}
use Rattle.arena_text.specs.Growth as texts
use Rattle.arena_vec.specs.Growth as vectors
use Rattle.script_rules.specs.Objects.{get, Object, AList, AText, ASet, AMap, AValue}
use Rattle.script_rules.specs.declared.commands.Command.{Command}
use Rattle.script_rules.specs.declared.commands.Command.TheVariants.{MakeBits, MakeValue, Push, Insert, Byte, Front, Append, Bind, CopyTo}

-- ---- Lists and texts: the first block is a new one, and each later one replaces that before it

-- one more number, and `n` more bytes
abbrev pub longer_list : Option Object → Option Block → Ask Block
longer_list (Some (AList items)) block =
    room_ask 4 4 block (vectors.amortised_growth 4 (capacity_of 4 block) (length items + 1))
longer_list object block = NoBlock

abbrev pub longer_text : ℕ → Option Object → Option Block → Ask Block
longer_text n (Some (AText bytes)) block = room_ask 1 1 block (texts.amortised_growth (capacity_of 1 block) (length bytes) n)
longer_text n object block = NoBlock

-- ---- Maps: each table is a new block

abbrev pub table_of : ℕ → Ask Block
table_of slots = Fresh (slots * slot_size 4 4) (table_align 4 4)

-- a number for a key
abbrev pub larger_map : ℕ → Option Object → Option Block → Ask Block
larger_map key (Some (AMap pairs)) block =
    table_ask (slot_size 4 4) (table_align 4 4) (growth_for (is_some (get pairs key)) (capacity_of (slot_size 4 4) block) (length pairs))
larger_map key object block = NoBlock

-- ---- Copies

-- a new list of `n` numbers, and the table of a new map for `n` pairs
abbrev pub list_of : ℕ → Ask Block
list_of zero = NoBlock
list_of (suc n) = Fresh (suc n * 4) 4

abbrev pub table_for : ℕ → Ask Block
table_for zero = NoBlock
table_for (suc n) = table_of (power_at_least (max (2 * suc n) 8))

abbrev pub copy_ask : Option Object → Ask Block
copy_ask None = NoBlock
copy_ask (Some (AList items)) = list_of (length items)
copy_ask (Some (AText bytes)) = Fresh (length bytes) 1
copy_ask (Some (ASet capacity bits)) = Fresh (words_for capacity * 8) 8
copy_ask (Some (AMap pairs)) = table_for (length pairs)
copy_ask (Some (AValue value)) = Fresh 8 8

-- ---- Commands

-- the block of each name that has one: some objects need no bytes
abbrev pub Blocks : Type 0
Blocks = ℕ → Option Block

-- What a command asks for where it gives a name an object.
abbrev pub asks : Command → (ℕ → Option Object) → Blocks → Ask Block
asks (MakeBits name capacity) of blocks = Fresh (words_for capacity * 8) 8
asks (MakeValue name value) of blocks = Fresh 8 8
asks (Push name value) of blocks = longer_list (of name) (blocks name)
asks (Insert name at value) of blocks = longer_list (of name) (blocks name)
asks (Byte name byte) of blocks = longer_text 1 (of name) (blocks name)
asks (Front name byte) of blocks = longer_text 1 (of name) (blocks name)
asks (Append name bytes) of blocks = longer_text (length bytes) (of name) (blocks name)
asks (Bind name key value) of blocks = larger_map key (of name) (blocks name)
asks (CopyTo name other) of blocks = copy_ask (of name)
asks command of blocks = NoBlock
