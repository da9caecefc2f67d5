-- Texts that are made byte by byte.
use Rattle.std.specs.Prelude.{◌≡◌, ℕ, zero, suc, ◌<◌, [], ◌∷◌, ◌++◌, replicate, Result, Ok, Err}
use Rattle.arena_chunks.specs.Source.{View}
use Rattle.arena_chunks.specs.Frame.{Frame}
use Rattle.arena_items.specs.declared.room.AllocError.{AllocError}
use Rattle.arena_text.specs.Growth.{amortised_growth, IsRoomFor}
use Rattle.arena_text.specs.Builders.{IsBuilderIn, builder_bytes, no_block}
use Rattle.arena_text.specs.Changes.{Grows}
use Rattle.arena_text.specs.declared.text.StringBuilder.{StringBuilder}

-- From the state in which a text is new, `n` pushes of the byte, and nothing else, made the text.
unfoldable pub PushesRow : View → View → ℕ → ℕ → StringBuilder → Type 0
PushesRow old new byte zero text = (new ≡ old) × (text ≡ record { block = no_block; len = 0; cap = 0 })
PushesRow old new byte (suc n) text = (between : View) × (t : StringBuilder) × PushesRow old between byte n t
    × Grows between new t (amortised_growth t.cap t.len 1) (builder_bytes between.memory t ++ byte ∷ []) text (Ok tt)

-- A new text of `n` times the same byte, in a block that was free.
pub record IsRow (old new : View) (byte n : ℕ) (t : StringBuilder) : Type 0 where
  pub held : IsBuilderIn new.memory t
  pub bytes : builder_bytes new.memory t ≡ replicate n byte
  pub len : t.len ≡ n
  pub room : IsRoomFor t.len t.cap
  pub frame : Frame old.memory new.memory [] (t.block ∷ [])

-- After some of the bytes, the push of one more failed.
pub record IsRefusedRow (old new : View) (byte n : ℕ) (e : AllocError) : Type 0 where
  pub i : ℕ
  pub more : i < n
  pub between : View
  pub text : StringBuilder
  pub row : IsRow old between byte i text
  pub pushes : PushesRow old between byte i text
  pub left : StringBuilder
  pub refused : Grows between new text (amortised_growth text.cap text.len 1) (builder_bytes between.memory text ++ byte ∷ []) left (Err e)
