-- Which nodes and names the arena has of a tree, and why it refuses one more.
use Rattle.std.specs.Prelude.{◌≡◌, ℕ, ◌+◌, ◌-◌, ◌^◌, ◌≤◌, ◌⊎◌, Bool, Option, List, [], ◌∷◌, ◌++◌, length, Some, Result, Ok, Err}
use Rattle.std.specs.Result.{IsErrAnd}
use Rattle.arena_chunks.specs.Memory.{Memory}
use Rattle.arena_chunks.specs.Source.{View}
use Rattle.arena_store.specs.declared.block.Block.{Block}
use Rattle.arena_items.specs.declared.beside.Beside.{Beside}
use Rattle.arena_items.specs.declared.item.Item.{Ghosts}
use Rattle.arena_items.specs.declared.room.AllocError.{AllocError}
use Rattle.arena_items.specs.declared.room.AllocError.TheVariants.{CapacityOverflow}
use Rattle.raw_vec.specs.Growth.{amortised_growth}
use Rattle.arena_vec.specs.Changes.{Grows}
use Rattle.arena_clone.specs.Asks.{AsksFor, vector_ask}
use Rattle.arena_vec.specs.Vecs.{vec_list}
use Rattle.arena_vec.specs.declared.vec.Vec.{Vec}
use Rattle.arena_symbols.specs.Interner.{with_text}
use Rattle.arena_symbols.specs.Interning.{Interns}
use Rattle.arena_symbols.specs.Names.{names_in}
use Rattle.arena_symbols.specs.TableCalls.{Defines}
use Rattle.arena_symbols.specs.Tables.{entry_item}
use Rattle.arena_symbols.specs.declared.scopes.Scopes.{Scopes}
use Rattle.arena_symbols.specs.declared.symbols.Symbols.{Symbols}
use Rattle.arena_ast.specs.declared.ast.Ast.{Ast}

-- names by their numbers, and nodes by their indices
pub record Rows (T : Type 0) : Type 0 where
  pub names : List (List ℕ)
  pub nodes : List T

abbrev pub no_rows : {T : Type 0} → Rows T
no_rows = record { names = []; nodes = [] }

-- the rows once a name has a number, and with one node more
abbrev pub with_name : {T : Type 0} → Rows T → List ℕ → Rows T
with_name rows name = record { names = with_text rows.names name; nodes = rows.nodes }

abbrev pub with_node : {T : Type 0} → Rows T → T → Rows T
with_node rows node = record { names = rows.names; nodes = rows.nodes ++ node ∷ [] }

-- the index of the last node
abbrev pub last_of : {T : Type 0} → Rows T → ℕ
last_of rows = length rows.nodes - 1

-- what the arena has of a tree
abbrev pub rows_in : {T : Type 0} → Ghosts T → Memory → Ast T → Rows T
rows_in item memory tree = record { names = names_in memory tree.names; nodes = vec_list item memory tree.nodes }

-- ---- What is asked for, when that is refused, and with which error

-- A node is pushed to the list of nodes, which is this one then.
abbrev pub Adds : {T : Type 0} → Ghosts T → View → View → Ast T → T → Vec T → Result (Unit {0}) AllocError → Type 0
Adds item old new tree node after result = Grows item old new tree.nodes
    (amortised_growth item.SIZE tree.nodes.raw.cap (tree.nodes.raw.len + 1)) (vec_list item old.memory tree.nodes ++ node ∷ [])
    after result

-- this node, the next one, is refused
abbrev pub NodeRefused : {T : Type 0} → Ghosts T → View → View → Ast T → T → AllocError → Type 0
NodeRefused {T} item old new tree node error = (after : Vec T) × Adds item old new tree node after (Err error)

-- this name is, or it is too long
abbrev pub NameRefused : {T : Type 0} → View → View → Ast T → List ℕ → AllocError → Type 0
NameRefused old new tree name error = ((after : Symbols) × Interns old new tree.names after name (Err error))
    ⊎ ((error ≡ CapacityOverflow) × (2 ^ 32 ≤ length name) × (new ≡ old))

-- A copy of the nodes asks for one block, with place for all of them; it may be refused.
abbrev pub CopyAsks : {T : Type 0} → Ghosts T → View → View → Vec T → Option AllocError → Type 0
CopyAsks item old new nodes end =
    (blocks : List Block) × AsksFor (vector_ask item.SIZE item.ALIGN nodes.raw.len ∷ []) old new blocks end

abbrev pub CopyRefused : {T : Type 0} → Ghosts T → View → View → Vec T → AllocError → Type 0
CopyRefused item old new nodes error = CopyAsks item old new nodes (Some error)

-- A name is interned, and then its number has a value in the scopes; or the name is refused.
abbrev pub Binds : {T : Type 0} → View → View → Beside (Ast T) Scopes → Beside (Ast T) Scopes → List ℕ → ℕ
    → Result Bool AllocError → Type 0
Binds old new tree after name value result =
    ((id : ℕ) × (mid : View) × Interns old mid tree.first.names after.first.names name (Ok id)
    × Defines entry_item mid new tree.second after.second id value result)
    ⊎ IsErrAnd result (λ e. (after.second ≡ tree.second) × NameRefused old new tree.first name e)
