-- Texts that are rows of pushes.
use Rattle.std.proofs.Common.{◌≡◌, ℕ, suc, ◌+◌, ◌++◌, [], ◌∷◌, Ok, List, length, replicate, refl, sym, ap, ◌∙◌, arith, subst}
use Rattle.std.proofs.lemmas.List.{replicate-append-replicate, length-replicate}
use Rattle.arena_chunks.proofs.Layers.{frame_then}
use Rattle.arena_chunks.specs.Source.{View}
use Rattle.arena_text.specs.Growth.{amortised_growth, IsRoomFor}
use Rattle.arena_text.specs.Builders.{builder_bytes, no_block}
use Rattle.arena_text.specs.Changes.{Grows}
use Rattle.arena_text.specs.declared.text.StringBuilder.{StringBuilder}
use Rattle.example_collections.specs.Texts.{IsRow, PushesRow}

pub row_none : (view : View) (byte : ℕ) (text : StringBuilder) → text.block ≡ no_block → text.len ≡ 0 → text.cap ≡ 0
    → PushesRow view view byte 0 text
unfolding PushesRow
row_none view byte text block len cap = (refl, grind (arith, block, len, cap))

pub row_more : (old between new : View) (byte n : ℕ) (t text : StringBuilder) → PushesRow old between byte n t
    → Grows between new t (amortised_growth t.cap t.len 1) (builder_bytes between.memory t ++ byte ∷ []) text (Ok tt)
    → PushesRow old new byte (n + 1) text
unfolding PushesRow
row_more old between new byte n t text row more = subst (λ (k : ℕ). PushesRow old new byte k text) one (between, t, row, more)
  where
    one : suc n ≡ n + 1
    one = omega arith

module _ (old between : View) (byte n : ℕ) (t : StringBuilder) (row : IsRow old between byte n t) where
  all : builder_bytes between.memory t ++ byte ∷ [] ≡ replicate (n + 1) byte
  all = ap (λ (bytes : List ℕ). bytes ++ byte ∷ []) row.bytes ∙ replicate-append-replicate n 1 byte

  pub row_len : length (builder_bytes between.memory t ++ byte ∷ []) ≡ t.len + 1
  row_len = ap length all ∙ length-replicate (n + 1) byte ∙ ap (λ (k : ℕ). k + 1) (sym row.len)

  pub row_next : (new : View) (text : StringBuilder)
      → Grows between new t (amortised_growth t.cap t.len 1) (builder_bytes between.memory t ++ byte ∷ []) text (Ok tt)
      → IsRoomFor text.len text.cap → IsRow old new byte (n + 1) text
  row_next new text more room = record {
    held = more.held;
    bytes = more.bytes_are ∙ all;
    len = more.len ∙ ap length all ∙ length-replicate (n + 1) byte;
    room = room;
    frame = frame_then _ _ _ _ _ _ row.frame more.frame;
  }
