-- What values are at every depth, and the kinds of ids, text builders and bit sets.
use Rattle.std.specs.Prelude.{◌≡◌, ℕ, ◌*◌, Bool, true, false, List, [], ◌∷◌}
use Rattle.arena_text.specs.Builders.{IsBuilderIn, builder_bytes}
use Rattle.arena_text.specs.Growth.{new_growth}
use Rattle.arena_text.specs.declared.text.StringBuilder.{StringBuilder}
use Rattle.arena_bits.specs.Bits.{Set, words_for}
use Rattle.arena_bits.specs.Sets.{IsSetIn, set_of}
use Rattle.arena_bits.specs.declared.set.BitSet.{BitSet}
use Rattle.arena_kinds.specs.Asks.{Ask, ask_by}
use Rattle.arena_kinds.specs.Asks.Ask.{Room}
pub use Rattle.arena_kinds.specs.Kinds.{Kind, AreAlike, plain, text, of_some, all_of, option_of, row_of, both_of, row_in, box_of, slice_of, vec_of}
use Rattle.arena_kinds.specs.declared.ids.CloneInSemanticIds.{CloneInSemanticIds}
use Rattle.arena_kinds.specs.declared.ids.CloneInSemanticIds.TheVariants.{With, Without}
use Rattle.arena_clone.specs.declared.semantic_id.SemanticId.{SemanticId}

-- an id is kept, or becomes 0
abbrev pub id_by : CloneInSemanticIds → ℕ → ℕ
id_by With n = n
id_by Without n = 0

abbrev pub keeps_ids : CloneInSemanticIds → Bool
keeps_ids With = true
keeps_ids Without = false

abbrev pub semantic_id : Kind SemanticId
semantic_id = record {
  Whole = ℕ;
  whole = λ m id. id.0;
  deep = λ m id. [];
  is_small = Unit {0};
  is_held = λ m id. Unit {0};
  by_ids = id_by;
  is_trim = λ m id. Unit {0};
  asks = λ m id. [];
  is_flat = keeps_ids;
}

-- what a text builder needs for n bytes
abbrev pub text_ask : ℕ → Ask
text_ask n = ask_by 1 1 (new_growth n)

-- a text builder is its bytes, and a copy has room for exactly those
abbrev pub builder : Kind StringBuilder
builder = record {
  Whole = List ℕ;
  whole = builder_bytes;
  deep = λ m t. t.block ∷ [];
  is_small = Unit {0};
  is_held = IsBuilderIn;
  by_ids = λ ids bytes. bytes;
  is_trim = λ m t. t.cap ≡ t.len;
  asks = λ m t. text_ask t.len ∷ [];
  is_flat = λ ids. false;
}

-- a bit set is its capacity and its numbers
abbrev pub bit_set : Kind BitSet
bit_set = record {
  Whole = ℕ × Set;
  whole = λ m s. (s.capacity, set_of m s);
  deep = λ m s. s.words.block ∷ [];
  is_small = Unit {0};
  is_held = IsSetIn;
  by_ids = λ ids set. set;
  is_trim = λ m s. Unit {0};
  asks = λ m s. Room (words_for s.capacity * 8) 8 ∷ [];
  is_flat = λ ids. false;
}
