pub use Rattle.arena_rules.specs.Rounding
pub use Rattle.arena_rules.specs.State
pub use Rattle.arena_rules.specs.Moves
pub use Rattle.arena_rules.specs.Blocks
pub use Rattle.arena_rules.specs.Asking as RequestRules
pub use Rattle.arena_rules.specs.Statistics
pub use Rattle.arena_rules.specs.Used
pub use Rattle.arena_rules.specs.Doubling
pub use Rattle.arena_rules.specs.Back
pub use Rattle.arena_rules.specs.Creation
pub use Rattle.arena_rules.specs.Lists
pub use Rattle.arena_chunks.specs.Memory
pub use Rattle.arena_chunks.specs.Source
pub use Rattle.arena_chunks.specs.Frame
pub use Rattle.arena_chunks.specs.Answers
pub use Rattle.arena_chunks.specs.BlockCalls
pub use Rattle.arena_chunks.specs.Resizes
pub use Rattle.arena_chunks.specs.Finding
pub use Rattle.arena_chunks.specs.Walks as ChunkWalks
pub use Rattle.arena_chunks.specs.AllocatorLends
pub use Rattle.arena_chunks.specs.Lends
pub use Rattle.arena_chunks.specs.Messages as BlockMessages
pub use Rattle.arena_chunks.specs.Checkpoints
pub use Rattle.arena_chunks.specs.Creating
pub use Rattle.arena_chunks.specs.Asking as Requests
pub use Rattle.arena_items.specs.Layout
pub use Rattle.arena_items.specs.ByteForms
pub use Rattle.arena_items.specs.laws.LayoutLaws
pub use Rattle.arena_items.specs.NumberForms
pub use Rattle.arena_items.specs.laws.FormLaws
pub use Rattle.arena_items.specs.laws.NumberLaws
pub use Rattle.arena_items.specs.NonZeroForms
pub use Rattle.arena_items.specs.laws.NonZeroLaws
pub use Rattle.arena_items.specs.laws.OptionLaws
pub use Rattle.arena_items.specs.laws.PairLaws
pub use Rattle.arena_items.specs.laws.HandleLaws
pub use Rattle.arena_items.specs.Values
pub use Rattle.arena_items.specs.Placing
pub use Rattle.arena_items.specs.Typed
pub use Rattle.arena_items.specs.Room
pub use Rattle.arena_items.specs.Costs
pub use Rattle.arena_items.specs.Beside
pub use Rattle.arena_items.specs.Rows as ItemRows
pub use Rattle.arena_items.specs.Denied
pub use Rattle.arena_items.specs.Footprint
pub use Rattle.arena_items.specs.laws.FootprintLaws
pub use Rattle.arena_items.specs.FrameLaw
pub use Rattle.arena_items.specs.Messages as ItemMessages
pub use Rattle.arena_vec.specs.Growth as VecGrowth
pub use Rattle.arena_vec.specs.Held
pub use Rattle.arena_vec.specs.Storage
pub use Rattle.arena_vec.specs.Rows as VecRows
pub use Rattle.arena_vec.specs.Vecs
pub use Rattle.arena_vec.specs.Changes as VecChanges
pub use Rattle.arena_vec.specs.Calling
pub use Rattle.arena_vec.specs.Credit
pub use Rattle.arena_vec.specs.Extending
pub use Rattle.arena_vec.specs.Draining
pub use Rattle.arena_vec.specs.Filtering
pub use Rattle.arena_vec.specs.Comparing
pub use Rattle.arena_vec.specs.Splicing
pub use Rattle.arena_text.specs.Growth as TextGrowth
pub use Rattle.arena_text.specs.Builders
pub use Rattle.arena_text.specs.Changes as TextChanges
pub use Rattle.arena_bits.specs.Bits
pub use Rattle.arena_bits.specs.Sets as BitSets
pub use Rattle.arena_bits.specs.Walks as BitWalks
pub use Rattle.arena_bits.specs.Printed as BitTexts
pub use Rattle.arena_bits.specs.Edits as BitEdits
pub use Rattle.arena_hash.specs.Fx
pub use Rattle.arena_hash.specs.Finite
pub use Rattle.arena_hash.specs.Contents
pub use Rattle.arena_hash.specs.Hashes
pub use Rattle.arena_hash.specs.Walks as MapWalks
pub use Rattle.arena_hash.specs.MapLists
pub use Rattle.arena_hash.specs.Policy
pub use Rattle.arena_hash.specs.Maps
pub use Rattle.arena_hash.specs.Accounts
pub use Rattle.arena_hash.specs.Changes as MapChanges
pub use Rattle.arena_hash.specs.Collecting
pub use Rattle.arena_hash.specs.Sets as MapSets
pub use Rattle.arena_hash.specs.laws.AgreeLaws
pub use Rattle.arena_clone.specs.Asks
pub use Rattle.arena_clone.specs.Copies
pub use Rattle.arena_clone.specs.FlatLaws
pub use Rattle.arena_clone.specs.Dummies
pub use Rattle.arena_clone.specs.AskBytes
pub use Rattle.arena_clone.specs.Kinds
pub use Rattle.arena_clone.specs.laws.KindLaws
pub use Rattle.arena_clone.specs.EitherKind
pub use Rattle.arena_clone.specs.laws.EitherLaws
pub use Rattle.arena_clone.specs.Alike
pub use Rattle.arena_clone.specs.Origins
pub use Rattle.arena_clone.specs.Placing as CopyPlacing
pub use Rattle.arena_clone.specs.Rows as CopyRows
pub use Rattle.arena_clone.specs.MapKind
pub use Rattle.arena_clone.specs.laws.KeyLaws
pub use Rattle.arena_clone.specs.laws.MapLaws
pub use Rattle.arena_clone.specs.MapCopies
pub use Rattle.arena_symbols.specs.Interner
pub use Rattle.arena_symbols.specs.Scoping
pub use Rattle.arena_symbols.specs.Paying
pub use Rattle.arena_symbols.specs.Asks as SymbolAsks
pub use Rattle.arena_symbols.specs.Listing
pub use Rattle.arena_symbols.specs.Names as SymbolNames
pub use Rattle.arena_symbols.specs.Interning
pub use Rattle.arena_symbols.specs.Tables as SymbolTables
pub use Rattle.arena_symbols.specs.TableCalls
pub use Rattle.arena_symbols.specs.laws.NameLaws
pub use Rattle.arena_symbols.specs.laws.TableLaws
pub use Rattle.arena_symbols.specs.Named
pub use Rattle.arena_symbols.specs.Calls
pub use Rattle.arena_symbols.specs.Serving as SymbolServing
pub use Rattle.arena_ast.specs.Asts
pub use Rattle.arena_ast.specs.Rows as AstRows
pub use Rattle.arena_ast.specs.Forms
pub use Rattle.arena_ast.specs.laws.AstLaws
pub use Rattle.arena_store.specs.declared.block.Block as BlockType
pub use Rattle.arena_store.specs.declared.block.ArenaErr as ArenaErrType
pub use Rattle.arena_chunks.specs.declared.allocator.text.Str as StrType
pub use Rattle.arena_items.specs.declared.item.Item as ItemTrait
pub use Rattle.arena_items.specs.declared.values.InArena as InArenaTrait
pub use Rattle.arena_items.specs.declared.beside.Beside as BesideType
pub use Rattle.arena_items.specs.declared.boxes.Box as BoxType
pub use Rattle.arena_items.specs.declared.slices.BoxSlice as BoxSliceType
pub use Rattle.arena_items.specs.declared.placing.ItemErr as ItemErrType
pub use Rattle.arena_items.specs.declared.room.AllocError as AllocErrorType
pub use Rattle.arena_items.specs.declared.room.Growth as GrowthType
pub use Rattle.arena_vec.specs.declared.vec.Vec as VecType
pub use Rattle.arena_text.specs.declared.text.StringBuilder as StringBuilderType
pub use Rattle.arena_bits.specs.declared.set.BitSet as BitSetType
pub use Rattle.arena_hash.specs.declared.map.HashMap as HashMapType
pub use Rattle.arena_symbols.specs.declared.symbols.Symbols as SymbolsType
pub use Rattle.arena_symbols.specs.declared.scopes.Scopes as ScopesType
pub use Rattle.arena_ast.specs.declared.ast.Ast as AstType
pub use Rattle.arena_ast.specs.declared.by_parts.ByParts as ByPartsType
