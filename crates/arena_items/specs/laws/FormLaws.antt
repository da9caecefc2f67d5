-- The laws of a type's byte form, in the form that types built from it need.
use Rattle.std.specs.Prelude.{◌≡◌, ℕ, ◌^◌, ◌≤◌, List, length}
use Rattle.arena_items.specs.declared.item.Item.{Ghosts}
use Rattle.arena_items.specs.Layout.{IsItemLayout}

-- If the type has at most 2 ^ 24 bytes, each byte form has the type's size, and decodes to its value.
pub record IsForm {T : Type 0} (item : Ghosts T) : Type 0 where
  pub layout : IsItemLayout item.SIZE item.ALIGN
  pub sized : (v : T) → item.is_value v → item.SIZE ≤ 2 ^ 24 → length (item.encoded v) ≡ item.SIZE
  pub back : (v : T) → item.is_value v → item.SIZE ≤ 2 ^ 24 → item.decoded (item.encoded v) ≡ v

-- a type's byte form with its laws
pub record Form (T : Type 0) : Type 1 where
  pub item : Ghosts T
  pub is : IsForm item

module _ {T : Type 0} (is_value : T → Type 0) (encoded : T → List ℕ) (decoded : List ℕ → T) (SIZE ALIGN : ℕ) where
  abbrev item_of : Ghosts T
  item_of = record { is_value = is_value; encoded = encoded; decoded = decoded; SIZE = SIZE; ALIGN = ALIGN }

  -- a byte form with its laws, from its parts
  abbrev pub form : IsItemLayout SIZE ALIGN → ((v : T) → is_value v → SIZE ≤ 2 ^ 24 → length (encoded v) ≡ SIZE)
      → ((v : T) → is_value v → SIZE ≤ 2 ^ 24 → decoded (encoded v) ≡ v) → Form T
  form layout sized back = record { item = item_of; is = record { layout = layout; sized = sized; back = back } }
