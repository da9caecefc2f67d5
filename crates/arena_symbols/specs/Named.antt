-- The names of a program: an interner and a scoped table in one arena.
use Rattle.std.specs.Prelude.{◌≡◌, ◌≢◌, ℕ, ◌+◌, ◌-◌, ◌^◌, ◌≤◌, ◌⊎◌, ◌↔◌, List, [], ◌∷◌, ◌++◌, length, Bool, false, not, Option, Some, None, Result, Err, IfOk, IfErr, OnOk, OnErr, IsErr, if◌then◌else◌}
use Rattle.arena_chunks.specs.Answers.{Answer}
use Rattle.arena_chunks.specs.Memory.{Memory}
use Rattle.arena_chunks.specs.Source.{View}
use Rattle.arena_chunks.specs.Frame.{AreAllApart, Frame}
use Rattle.arena_store.specs.declared.block.Block.{Block}
use Rattle.arena_items.specs.Asks.{refusal}
use Rattle.arena_items.specs.Costs.{Costs}
use Rattle.arena_items.specs.declared.room.AllocError.{AllocError}
use Rattle.arena_items.specs.declared.room.AllocError.TheVariants.{AllocErr, CapacityOverflow}
use Rattle.arena_symbols.specs.Interner.{number_of, with_text, most_texts}
use Rattle.arena_symbols.specs.Interning.{IsNewInterner, TakesText, IsTextDenied}
use Rattle.arena_symbols.specs.Names.{IsInternerIn, names_in, names_footprint, names_credit}
use Rattle.arena_chunks.specs.Asking.{IsCounted}
use Rattle.arena_symbols.specs.Paying.{far_up}
use Rattle.arena_symbols.specs.Scoping.{lookup, is_in_last, with_pair, pair_count, most_scopes, most_pairs}
use Rattle.arena_symbols.specs.TableCalls.{IsNewTable, TakesPair, IsPairDenied}
use Rattle.arena_symbols.specs.Tables.{entry_item, IsTableIn, scopes_in, table_blocks, table_credit}
use Rattle.arena_symbols.specs.declared.names.Names.{Names}

-- Both are held in the arena, and their blocks are apart.
pub record AreNames (memory : Memory) (n : Names) : Type 0 where
  pub symbols : IsInternerIn memory n.symbols
  pub scopes : IsTableIn entry_item memory n.scopes
  pub apart : AreAllApart (table_blocks n.scopes) (names_footprint memory n.symbols)

-- No names, in one scope: both are new, and held in every arena.
pub record AreNewNames (n : Names) : Type 0 where
  pub held : (memory : Memory) → AreNames memory n
  pub symbols : IsNewInterner n.symbols
  pub scopes : IsNewTable entry_item n.scopes

-- the blocks of both
abbrev pub all_blocks : Memory → Names → List Block
all_blocks memory n = table_blocks n.scopes ++ names_footprint memory n.symbols

-- the bytes that both have saved up for their next blocks
abbrev pub all_credit : Names → ℕ
all_credit n = names_credit n.symbols + table_credit n.scopes

-- Both are held after a call, and nothing else in the arena was written.
pub record Moves (old new : Memory) (n m : Names) : Type 0 where
  pub held : AreNames new m
  pub frame : Frame old new (all_blocks old n) (all_blocks new m)

-- the value of a number, if there is a number
abbrev pub meant : List (List (ℕ × ℕ)) → Option ℕ → Option ℕ
meant scopes None = None
meant scopes (Some id) = lookup scopes id

-- what a name means: the value of its number in the innermost scope that has it
abbrev pub meaning : Memory → Names → List ℕ → Option ℕ
meaning memory n name = meant (scopes_in entry_item memory n.scopes) (number_of (names_in memory n.symbols) name)

-- The texts are unchanged, or have this one too.
abbrev pub MayHave : List (List ℕ) → List ℕ → List (List ℕ) → Type 0
MayHave texts text after = (after ≡ texts) ⊎ (after ≡ with_text texts text)

-- A name has a number, and the number a value in the innermost scope, unless it had one there. If refused, the scopes
-- are unchanged, and the name may have its number.
pub record Declares (old new : Memory) (n m : Names) (name : List ℕ) (value : ℕ) (result : Result Bool AllocError) : Type 0 where
  pub moves : Moves old new n m
  pub texts : OnOk result (names_in new m.symbols ≡ with_text (names_in old n.symbols) name)
  pub put : IfOk result (λ is_new. (id : ℕ) × (number_of (names_in new m.symbols) name ≡ Some id)
      × (is_new ≡ not (is_in_last (scopes_in entry_item old n.scopes) id))
      × (scopes_in entry_item new m.scopes
      ≡ (if is_new then with_pair (scopes_in entry_item old n.scopes) id value else scopes_in entry_item old n.scopes)))
  pub refused : OnErr result (MayHave (names_in old n.symbols) name (names_in new m.symbols))
  pub kept : OnErr result (scopes_in entry_item new m.scopes ≡ scopes_in entry_item old n.scopes)

-- There is no room for a name: it is a new text, and there are as many texts as there can be; or there are as many
-- pairs as there can be, and the name has a number that the innermost scope doesn't have.
abbrev pub IsFullFor : List (List ℕ) → List (List ℕ) → List (List (ℕ × ℕ)) → List ℕ → Type 0
IsFullFor texts texts_now scopes name = ((number_of texts name ≡ None) × (most_texts ≤ length texts))
    ⊎ (((id : ℕ) × (number_of texts_now name ≡ Some id) × (is_in_last scopes id ≡ false)) × (most_pairs ≤ pair_count scopes))

-- What a call costs, given both credits together, and what it reports if the arena refuses.
pub record Spends {X : Type 0} (far bytes : ℕ) (old new : View) (n m : Names) (result : Result X AllocError) : Type 0 where
  pub costs : Costs far bytes (all_credit n) (all_credit m) old new result
  pub told : (k : ℕ) → result ≡ Err (AllocErr k) → IsCounted k old new

-- The name has this number, and what is asked for it as a text; the maps are as they were.
pub record IsNumbered (old mid : View) (n m : Names) (name : List ℕ) (id : ℕ) : Type 0 where
  pub took : TakesText old mid n.symbols m.symbols name
  pub number : number_of (names_in mid.memory m.symbols) name ≡ Some id
  pub same : scopes_in entry_item mid.memory n.scopes ≡ scopes_in entry_item old.memory n.scopes

-- what is asked for a name: what its text asks for, and then its pair
abbrev pub TakesName : View → View → Names → Names → List ℕ → Type 0
TakesName old new n m name =
    (mid : View) × (id : ℕ) × IsNumbered old mid n m name id × TakesPair entry_item mid new n.scopes m.scopes id

-- The arena doesn't place what the text asks for; or it does, and doesn't place what the pair asks for next.
abbrev pub IsNameDenied : View → View → Names → Names → List ℕ → Answer → Type 0
IsNameDenied old new n m name answer = IsTextDenied old new n.symbols m.symbols name answer
    ⊎ ((mid : View) × (id : ℕ) × IsNumbered old mid n m name id × IsPairDenied entry_item mid new n.scopes m.scopes id answer)

-- When a declaration overflows, what it asks for, whether the arena refuses that, and what it costs.
pub record DeclaresWithin {X : Type 0} (old new : View) (n m : Names) (name : List ℕ) (result : Result X AllocError) : Type 0 where
  pub overflows : (result ≡ Err CapacityOverflow) ↔ IsFullFor (names_in old.memory n.symbols) (names_in new.memory m.symbols)
      (scopes_in entry_item old.memory n.scopes) name
  pub took : OnOk result (TakesName old new n m name)
  pub denied : IfErr result (λ e. e ≢ CapacityOverflow → IsNameDenied old new n m name (refusal e))
  pub spends : Spends (far_up - 2 ^ 61) (1536 + length name) old new n m result

-- When a declaration in a scope of its own overflows, and what it costs. It overflows if there are as many scopes as
-- there can be, or if there is no room for the name, unless the arena refuses the scope first.
pub record OwnScopeWithin {X : Type 0} (old new : View) (n m : Names) (name : List ℕ) (result : Result X AllocError) : Type 0 where
  pub deepest : most_scopes ≤ length (scopes_in entry_item old.memory n.scopes) → result ≡ Err CapacityOverflow
  pub overflows : result ≡ Err CapacityOverflow → (most_scopes ≤ length (scopes_in entry_item old.memory n.scopes))
      ⊎ IsFullFor (names_in old.memory n.symbols) (names_in new.memory m.symbols) ([] ∷ scopes_in entry_item old.memory n.scopes) name
  pub full : IsFullFor (names_in old.memory n.symbols) (names_in new.memory m.symbols) ([] ∷ scopes_in entry_item old.memory n.scopes) name
      → (result ≡ Err CapacityOverflow) ⊎ (IsErr result × Spends far_up 64 old new n m result)
  pub spends : Spends (far_up - 2 ^ 62) (1600 + length name) old new n m result
