-- What calls on interners do.
use Rattle.std.specs.Prelude.{◌≡◌, ◌≢◌, ℕ, ◌+◌, ◌≤◌, ◌↔◌, ◌⊎◌, List, [], ◌++◌, length, false, Some, None, Result, Err, IfOk, IfErr, OnOk, OnErr}
use Rattle.arena_chunks.specs.Memory.{Memory}
use Rattle.arena_chunks.specs.Source.{View}
use Rattle.arena_chunks.specs.Frame.{AreAllApart, Frame}
use Rattle.arena_store.specs.declared.block.Block.{Block}
use Rattle.arena_chunks.specs.Answers.{Answer}
use Rattle.arena_chunks.specs.Answers.Answer.{Placed}
use Rattle.arena_items.specs.Asks.{Fresh, Asked, refusal}
use Rattle.arena_items.specs.declared.room.AllocError.{AllocError}
use Rattle.arena_items.specs.declared.room.AllocError.TheVariants.{CapacityOverflow}
use Rattle.arena_symbols.specs.Asks.{TakesBoth, IsBothDenied}
use Rattle.arena_symbols.specs.Paying.{Pays, far_up}
use Rattle.arena_symbols.specs.Interner.{number_of, with_text, most_texts}
use Rattle.arena_symbols.specs.Names.{IsInternerIn, name_kind, names_in, texts_in, blocks_of, own_blocks, names_footprint, names_credit}
use Rattle.arena_symbols.specs.declared.symbols.Symbols.{Symbols}

-- The interner has the blocks of its texts from before, and these; only its own blocks were written.
pub record KeepsTexts (old new : View) (s t : Symbols) (more : List Block) : Type 0 where
  pub blocks : blocks_of (texts_in new.memory t) ≡ blocks_of (texts_in old.memory s) ++ more
  pub frame : Frame old.memory new.memory (own_blocks s) (own_blocks t ++ more)

-- A new text has a block for its bytes, and then the list of texts and the map have what they ask for.
pub record PlacesText (old new : View) (s t : Symbols) (text : List ℕ) : Type 0 where
  pub block : Block
  pub mid : View
  pub bytes : Asked (Fresh (length text) 1) old mid (Placed block)
  pub both : TakesBoth name_kind.keys name_kind false mid new s.texts t.texts s.numbers t.numbers

-- what is asked for a text: nothing, unless it is new
abbrev pub TakesText : View → View → Symbols → Symbols → List ℕ → Type 0
TakesText old new s t text = ((number_of (names_in old.memory s) text ≢ None) × (new ≡ old) × (t ≡ s))
    ⊎ ((number_of (names_in old.memory s) text ≡ None) × PlacesText old new s t text)

-- The arena doesn't place a new text's bytes, and the memory is unchanged; or it does, and doesn't place what the list of
-- texts or the map asks for next.
abbrev pub IsTextDenied : View → View → Symbols → Symbols → List ℕ → Answer → Type 0
IsTextDenied old new s t text answer = (Asked (Fresh (length text) 1) old new answer × (new.memory ≡ old.memory))
    ⊎ ((block : Block) × (mid : View) × Asked (Fresh (length text) 1) old mid (Placed block)
    × IsBothDenied name_kind.keys name_kind false mid new s.texts t.texts s.numbers answer)

-- A text is given its number: the one that it has, or the next one. If refused, the texts are unchanged. Only the
-- interner's blocks, and new ones, were written.
pub record Interns (old new : View) (s t : Symbols) (text : List ℕ) (result : Result ℕ AllocError) : Type 0 where
  pub held : IsInternerIn new.memory t
  pub names : OnOk result (names_in new.memory t ≡ with_text (names_in old.memory s) text)
  pub kept : OnErr result (names_in new.memory t ≡ names_in old.memory s)
  pub number : IfOk result (λ n. number_of (names_in new.memory t) text ≡ Some n)
  pub overflows : (result ≡ Err CapacityOverflow)
      ↔ ((number_of (names_in old.memory s) text ≡ None) × (most_texts ≤ length (names_in old.memory s)))
  pub known : number_of (names_in old.memory s) text ≢ None → (new ≡ old) × (t ≡ s)
  pub took : OnOk result (TakesText old new s t text)
  pub full : result ≡ Err CapacityOverflow → (new ≡ old) × (t ≡ s)
  pub denied : IfErr result (λ e. e ≢ CapacityOverflow → IsTextDenied old new s t text (refusal e))
  pub fresh : OnErr result (number_of (names_in old.memory s) text ≡ None)
  pub pays : Pays far_up (1024 + length text) (names_credit s) (names_credit t) old new result
  pub texts : (more : List Block) × KeepsTexts old new s t more
  pub frame : Frame old.memory new.memory (names_footprint old.memory s) (names_footprint new.memory t)

-- An interner without texts, and without bytes in the arena: it is held in every arena, and apart from all blocks.
pub record IsNewInterner (s : Symbols) : Type 0 where
  pub held : (memory : Memory) → IsInternerIn memory s
  pub names : (memory : Memory) → names_in memory s ≡ []
  pub apart : (memory : Memory) (others : List Block) → AreAllApart (names_footprint memory s) others
  pub credit : names_credit s ≡ 0
