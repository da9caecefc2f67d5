-- Byte forms as definitions name them: of a byte, of a number of four bytes, and of a type by its parts.
use Rattle.arena_items.specs.declared.item.Item.{Ghosts}
use Rattle.arena_ast.specs.declared.by_parts.ByParts.{ByParts}
pub use Rattle.arena_items.specs.ByteForms.{pair_item, option_item}
pub use Rattle.arena_items.specs.contracts.numbers.unsigned.U8Item.TheImpl.{ghosts as byte}
pub use Rattle.arena_items.specs.contracts.numbers.unsigned.U32Item.TheImpl.{ghosts as word}

-- `form` is that of the parts
abbrev pub by_parts : {T P : Type 0} → Ghosts P → (T → P) → (P → T) → Ghosts (ByParts T)
by_parts form parts whole = record {
  is_value = λ v. form.is_value (parts v.0);
  encoded = λ v. form.encoded (parts v.0);
  decoded = λ bytes. record { 0 = whole (form.decoded bytes) };
  SIZE = form.SIZE;
  ALIGN = form.ALIGN;
}
