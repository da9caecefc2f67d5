-- Copies of pairs: of the first part, and then of the second.
use Rattle.std.proofs.Common.{refl, Ok, Err}
use Rattle.arena_chunks.specs.Memory.{Memory}
use Rattle.arena_chunks.specs.Source.{View}
use Rattle.arena_items.specs.declared.room.AllocError.{AllocError}
use Rattle.arena_clone.specs.Kinds.{Kind}
use Rattle.arena_clone.specs.laws.KindLaws.{IsLawful}
use Rattle.arena_clone.specs.MapKind.{pair_of}
use Rattle.arena_clone.specs.Copies.{Copies}
use Rattle.arena_kinds.specs.declared.ids.CloneInSemanticIds.{CloneInSemanticIds}
use Rattle.arena_kinds.proofs.Layers.{makes_refused}
use Rattle.arena_clone.proofs.BothLemmas.{makes_both}
use Rattle.arena_clone.proofs.BothLemmas.{second_refused as both_refused}

module _ {K V : Type 0} {keys : Kind K} (values : Kind V) (is : IsLawful keys) (ids : CloneInSemanticIds) (source : Memory) {old : View}
    (p : K × V) where
  -- The first part is refused,
  pub first_refused : {new : View} {e : AllocError} → Copies keys ids source old new p.0 (Err e)
      → Copies (pair_of keys values) ids source old new p (Err e)
  first_refused copy = makes_refused (values.asks source p.1) copy

  module _ {mid new : View} {k : K} (one : Copies keys ids source old mid p.0 (Ok k)) where
    -- or the second,
    pub second_refused : {e : AllocError} → Copies values ids source mid new p.1 (Err e)
        → Copies (pair_of keys values) ids source old new p (Err e)
    second_refused two = both_refused keys values (λ p. p.0) (λ p. p.1) is one two

    -- or both are copied.
    pub both_copied : {v : V} → Copies values ids source mid new p.1 (Ok v) → Copies (pair_of keys values) ids source old new p (Ok (k, v))
    both_copied two = makes_both keys values (λ p. p.0) (λ p. p.1) is one refl refl two
