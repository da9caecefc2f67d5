-- Copies of keys have the same contents.
use Rattle.std.proofs.Common.{inl, inr, ap, refl, arith}
use Rattle.arena_chunks.specs.declared.allocator.text.Str.{Str}
use Rattle.arena_items.specs.declared.item.Item.{Ghosts}
use Rattle.arena_hash.specs.Contents.{whole_key, text_key}
use Rattle.arena_clone.specs.Kinds.{plain, text}
use Rattle.arena_clone.specs.MapKind.{KeepsContent}

-- a text has its bytes
pub text_keeps : KeepsContent {K = Str} (text_key (λ s. s.block)) text
text_keeps = record {
  text = λ m s. inr (0, omega arith, refl);
  same = λ ids a c s copy alike. alike;
}

-- a number has its byte form
pub whole_keeps : {K : Type 0} (item : Ghosts K) → KeepsContent (whole_key item) plain
whole_keeps item = record {
  text = λ m k. inl refl;
  same = λ ids a c k copy alike. ap item.encoded alike;
}
