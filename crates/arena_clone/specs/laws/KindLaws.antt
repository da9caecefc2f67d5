-- The blocks of a value determine what it is: of ids, text builders and bit sets.
use Rattle.std.proofs.Common.{ap, sym, refl, ◌*◌, take, IsTrue}
use Rattle.std.specs.Int.{from_le_bytes, w64}
use Rattle.std.proofs.lemmas.Bool.{false≢true}
use Rattle.arena_items.specs.laws.FootprintLaws.{held_again}
use Rattle.arena_items.specs.Values.{elements}
use Rattle.arena_bits.specs.Bits.{bits_of}
use Rattle.arena_kinds.specs.Copies.{IsFlat}
pub use Rattle.arena_kinds.specs.laws.KindLaws.{IsLawful, plain_lawful, text_lawful, all_each, readable_both, readable_each, agree_each, option_lawful, row_lawful, both_lawful, box_lawful, slice_lawful, vec_lawful}
use Rattle.arena_kinds.specs.declared.ids.CloneInSemanticIds.{CloneInSemanticIds}
use Rattle.arena_kinds.specs.declared.ids.CloneInSemanticIds.TheVariants.{With, Without}
use Rattle.arena_clone.specs.Kinds.{keeps_ids, semantic_id, builder, bit_set}

id_flat : (ids : CloneInSemanticIds) → IsTrue (keeps_ids ids) → IsFlat semantic_id ids
id_flat With kept = record {
  held = λ m v. tt;
  trim = λ m v. tt;
  deep = λ m v. refl;
  asks = λ m v. refl;
  alike = λ a c v. refl;
}
id_flat Without kept = absurd (false≢true kept)

pub semantic_id_lawful : IsLawful semantic_id
semantic_id_lawful = record {
  readable = λ m v held. tt;
  held = λ a c v held agree readable. tt;
  trim = λ a c v trim agree. tt;
  deep = λ a c v agree. refl;
  whole = λ a c v agree. refl;
  asks = λ a c v agree. refl;
  kept = λ w. refl;
  flat = id_flat;
}

pub builder_lawful : IsLawful builder
builder_lawful = record {
  readable = λ m t held. (held.place.readable, tt);
  held = λ a c t held agree readable. record {
    place = held_again t.cap 1 a.state c.state t.block held.place readable.0;
    within = held.within;
  };
  trim = λ a c t trim agree. trim;
  deep = λ a c t agree. refl;
  whole = λ a c t agree. ap (take t.len) (sym agree.0);
  asks = λ a c t agree. refl;
  kept = λ w. refl;
  flat = λ ids is. absurd (false≢true is);
}

pub bit_set_lawful : IsLawful bit_set
bit_set_lawful = record {
  readable = λ m v held. (held.place.readable, tt);
  held = λ a c v held agree readable. record {
    place = held_again (v.words.length * 8) 8 a.state c.state v.words.block held.place readable.0;
    count = held.count;
  };
  trim = λ a c v trim agree. tt;
  deep = λ a c v agree. refl;
  whole = λ a c v agree. λ i. (v.capacity, bits_of (elements 8 (from_le_bytes w64) v.words.length (sym agree.0 i)));
  asks = λ a c v agree. refl;
  kept = λ w. refl;
  flat = λ ids is. absurd (false≢true is);
}
