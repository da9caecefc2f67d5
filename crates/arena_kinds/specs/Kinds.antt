-- What values are at every depth: the blocks that they name, what they mean, and what a copy of them is.
use Rattle.std.specs.Prelude.{◌≡◌, ℕ, ◌*◌, ◌^◌, ◌<◌, ◌≤◌, Bool, true, false, ◌&&◌, Option, Some, None, IfSome, List, [], ◌∷◌, ◌++◌, map}
use Rattle.std.specs.List.{AllByRecursion, flat_map}
use Rattle.arena_chunks.specs.Memory.{Memory}
use Rattle.arena_store.specs.declared.block.Block.{Block}
use Rattle.arena_chunks.specs.declared.allocator.text.Str.{Str}
use Rattle.arena_items.specs.declared.item.Item.{Ghosts}
use Rattle.arena_items.specs.declared.boxes.Box.{Box}
use Rattle.arena_items.specs.declared.slices.BoxSlice.{BoxSlice}
use Rattle.arena_items.specs.Values.{IsBoxIn, box_value, IsSliceIn, slice_list, IsTextIn, text_bytes}
use Rattle.arena_vec.specs.Vecs.{IsVecIn, vec_list}
use Rattle.arena_vec.specs.declared.vec.Vec.{Vec}
use Rattle.arena_kinds.specs.Asks.{Ask, vector_ask}
use Rattle.arena_kinds.specs.Asks.Ask.{Room}
use Rattle.arena_kinds.specs.declared.ids.CloneInSemanticIds.{CloneInSemanticIds}

-- The values of a type, at every depth.
pub record Kind (T : Type 0) : Type 1 where
  -- what one means, with no address in it
  pub Whole : Type 0
  pub whole : Memory → T → Whole
  -- the blocks that it names, and those that its elements name, in the order in which a copy places them; no other
  -- claim depends on the order
  pub deep : Memory → T → List Block
  -- each type in it has at most 2 ^ 24 bytes
  pub is_small : Type 0
  -- its handles are well formed and readable, at every depth
  pub is_held : Memory → T → Type 0
  -- what a copy means, by whether it keeps semantic ids
  pub by_ids : CloneInSemanticIds → Whole → Whole
  -- it is like a new one: the capacity of a vector is its length, and a map's table and hasher are those of a new map
  -- for its pairs
  pub is_trim : Memory → T → Type 0
  -- what a copy asks of its arena, for one block after another of those that it names
  pub asks : Memory → T → List Ask
  -- whether the bytes of each value, copied elsewhere, are a copy of it
  pub is_flat : CloneInSemanticIds → Bool

-- Two values are alike by the rule for ids: the second means what a copy of the first means.
abbrev pub AreAlike : {T : Type 0} → Kind T → CloneInSemanticIds → Memory → T → Memory → T → Type 0
AreAlike kind ids a v c w = kind.whole c w ≡ kind.by_ids ids (kind.whole a v)

-- ---- Values that name no block

-- a number, a bool or a character is itself
abbrev pub plain : {T : Type 0} → Kind T
plain {T} = record {
  Whole = T;
  whole = λ m v. v;
  deep = λ m v. [];
  is_small = Unit {0};
  is_held = λ m v. Unit {0};
  by_ids = λ ids v. v;
  is_trim = λ m v. Unit {0};
  asks = λ m v. [];
  is_flat = λ ids. true;
}

-- ---- Values of one block with no others in it

-- a text is its bytes
abbrev pub text : Kind Str
text = record {
  Whole = List ℕ;
  whole = text_bytes;
  deep = λ m s. s.block ∷ [];
  is_small = Unit {0};
  is_held = IsTextIn;
  by_ids = λ ids bytes. bytes;
  is_trim = λ m s. Unit {0};
  asks = λ m s. Room s.block.size 1 ∷ [];
  is_flat = λ ids. false;
}

-- ---- Values that are made of others

-- a function of the value, if there is one
abbrev pub of_some : {A B : Type 0} → (A → B) → Option A → Option B
of_some f None = None
of_some f (Some v) = Some (f v)

abbrev pub all_of : {A B : Type 0} → (A → List B) → Option A → List B
all_of f None = []
all_of f (Some v) = f v

module _ {T : Type 0} (kind : Kind T) where
  -- an option is `None`, or its value
  abbrev pub option_of : Kind (Option T)
  option_of = record {
    Whole = Option kind.Whole;
    whole = λ m. of_some (kind.whole m);
    deep = λ m. all_of (kind.deep m);
    is_small = kind.is_small;
    is_held = λ m o. IfSome o (kind.is_held m);
    by_ids = λ ids. of_some (kind.by_ids ids);
    is_trim = λ m o. IfSome o (kind.is_trim m);
    asks = λ m. all_of (kind.asks m);
    is_flat = kind.is_flat;
  }

  -- a list is its values in turn
  abbrev pub row_of : Kind (List T)
  row_of = record {
    Whole = List kind.Whole;
    whole = λ m. map (kind.whole m);
    deep = λ m. flat_map (kind.deep m);
    is_small = kind.is_small;
    is_held = λ m. AllByRecursion (kind.is_held m);
    by_ids = λ ids. map (kind.by_ids ids);
    is_trim = λ m. AllByRecursion (kind.is_trim m);
    asks = λ m. flat_map (kind.asks m);
    is_flat = kind.is_flat;
  }

-- a value of two parts is both of them, of which the first is copied first
abbrev pub both_of : {T A B : Type 0} → Kind A → Kind B → (T → A) → (T → B) → Kind T
both_of first second a b = record {
  Whole = first.Whole × second.Whole;
  whole = λ m v. (first.whole m (a v), second.whole m (b v));
  deep = λ m v. first.deep m (a v) ++ second.deep m (b v);
  is_small = first.is_small × second.is_small;
  is_held = λ m v. first.is_held m (a v) × second.is_held m (b v);
  by_ids = λ ids whole. (first.by_ids ids whole.0, second.by_ids ids whole.1);
  is_trim = λ m v. first.is_trim m (a v) × second.is_trim m (b v);
  asks = λ m v. first.asks m (a v) ++ second.asks m (b v);
  is_flat = λ ids. first.is_flat ids && second.is_flat ids;
}

module _ {T : Type 0} (item : Ghosts T) (kind : Kind T) where
  -- a box is its value, of which a copy is placed before the box's own block
  abbrev pub box_of : Kind (Box T)
  box_of = record {
    Whole = kind.Whole;
    whole = λ m b. kind.whole m (box_value item m b);
    deep = λ m b. kind.deep m (box_value item m b) ++ b.block ∷ [];
    is_small = (item.SIZE ≤ 2 ^ 24) × kind.is_small;
    is_held = λ m b. IsBoxIn item m b × kind.is_held m (box_value item m b);
    by_ids = kind.by_ids;
    is_trim = λ m b. kind.is_trim m (box_value item m b);
    asks = λ m b. kind.asks m (box_value item m b) ++ Room item.SIZE item.ALIGN ∷ [];
    is_flat = λ ids. false;
  }

  -- A sequence of values is reached through its handle, which is held itself. Its block comes first, and it means its
  -- values.
  abbrev pub row_in : {V : Type 0} → (V → Block) → (Memory → V → Type 0) → (Memory → V → List T) → (V → Type 0) → (V → Ask)
      → Kind V
  row_in block is_in values is_trim ask = record {
    Whole = List kind.Whole;
    whole = λ m v. (row_of kind).whole m (values m v);
    deep = λ m v. block v ∷ (row_of kind).deep m (values m v);
    is_small = (item.SIZE ≤ 2 ^ 24) × kind.is_small;
    is_held = λ m v. is_in m v × (row_of kind).is_held m (values m v);
    by_ids = (row_of kind).by_ids;
    is_trim = λ m v. is_trim v × (row_of kind).is_trim m (values m v);
    asks = λ m v. ask v ∷ (row_of kind).asks m (values m v);
    is_flat = λ ids. false;
  }

  -- a boxed slice is its values
  abbrev pub slice_of : Kind (BoxSlice T)
  slice_of = row_in (λ s. s.block) (IsSliceIn item) (slice_list item) (λ s. Unit {0}) (λ s. Room (s.length * item.SIZE) item.ALIGN)

  -- a vector is its values
  abbrev pub vec_of : Kind (Vec T)
  vec_of = row_in (λ v. v.raw.block) (IsVecIn item) (vec_list item) (λ v. 0 < item.SIZE → v.raw.cap ≡ v.raw.len)
      (λ v. vector_ask item.SIZE item.ALIGN v.raw.len)
