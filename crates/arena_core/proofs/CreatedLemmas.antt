-- How an arena is created.
use Rattle.std.proofs.Common.{◌≡◌, ℕ, ◌+◌, ◌^◌, ◌<◌, max, sym, ap, refl, subst, ◌∙◌, arith, IsTrue, true, false, Option, Some, None, [], ◌∷◌, length}
use Rattle.std.specs.Prelude.{replicate}
use Rattle.std.specs.Option.{option_map}
use Rattle.std.proofs.lemmas.Bool.Decides.{nat_tests}
use Rattle.std.proofs.lemmas.List.{length-replicate}
use Rattle.std.proofs.lemmas.List.Elements.{All-nil}
use Rattle.arena_rules.specs.Rounding.{up, is_layout}
use Rattle.arena_rules.specs.State.{is_min_align, IsValid}
use Rattle.arena_rules.specs.Search.{possible, next_base, requests}
use Rattle.arena_rules.specs.Moves.{with_chunk}
use Rattle.arena_rules.specs.Creation.{empty_state, capacity_chunk, create, create_at, create_requests, requests_for}
use Rattle.arena_rules.specs.Causes.{counted, TellsRequests}
use Rattle.arena_rules.proofs.RoundingLemmas.{min_align_le}
use Rattle.arena_rules.proofs.CauseLemmas.{counted_none}
use Rattle.arena_rules.proofs.CreationLemmas.{capacity_valid}
use Rattle.arena_store.specs.Memory.{Memory}
use Rattle.arena_region.specs.Bytes.{Bytes}
use Rattle.arena_store.specs.Stored.{memory_of, IsReady, IsStored}
use Rattle.arena_store.specs.Source.{Source, IsAsked}
use Rattle.arena_core.specs.Creating.{zeroed_memory, IsCreation}
use Rattle.arena_store.specs.declared.chunk.StoredChunk.{StoredChunk}
use Rattle.arena_store.proofs.AskedLemmas.{asked_none}

-- the alignment of the first chunk
unit : (m : ℕ) → IsTrue (is_min_align m) → max m 16 ≡ 16
unit m is = omega (arith, min_align_le m is)

-- the first chunk begins at 4096
first_base : (m : ℕ) → IsTrue (is_min_align m) → next_base 4096 m ≡ 4096
unfolding up
first_base m is = rw (unit m is) refl

-- the chunk that is asked for, if the capacity is a valid layout
pub first_chunk : (m capacity : ℕ) → IsTrue (is_min_align m) → IsTrue (is_layout capacity m)
    → possible 4096 capacity m capacity ≡ capacity_chunk capacity m
unfolding capacity_chunk
first_chunk m capacity is layout = rw (layout, first_base m is) refl

pub no_chunk : (m capacity : ℕ) → is_layout capacity m ≡ false → None ≡ capacity_chunk capacity m
unfolding capacity_chunk
no_chunk m capacity none = rw none refl

-- ---- What a constructor with a capacity returns

-- a capacity of no bytes asks for nothing
pub created_empty : (m capacity : ℕ) (source : Source) → capacity ≡ 0
    → IsCreation m capacity 0 (Some (zeroed_memory (empty_state m))) source source
unfolding create create_requests
created_empty m capacity source none = rw none (record { step = refl; asked = asked_none source })

-- any other is decided by the chunk that is asked for
created_at : (m capacity k : ℕ) (answer : Option Memory) (before after : Source) (chunk : Option (ℕ × ℕ)) → (capacity ≡ 0 → ⊥)
    → chunk ≡ capacity_chunk capacity m
    → option_map (option_map zeroed_memory) (create_at chunk m k) ≡ Some answer → IsAsked before after k (requests_for m chunk)
    → IsCreation m capacity k answer before after
unfolding create create_requests
created_at m capacity k answer before after chunk some is step asked = grind (arith, nat_tests)

-- without a chunk to ask for there is no arena
pub created_unasked : (m capacity : ℕ) (source : Source) → (capacity ≡ 0 → ⊥) → None ≡ capacity_chunk capacity m
    → IsCreation m capacity 0 None source source
created_unasked m capacity source some none =
    created_at m capacity 0 None source source None some none refl (asked_none source)

-- the source's reply to the one request
module _ (m capacity size : ℕ) (before after : Source) (min_align : IsTrue (is_min_align m)) (some : capacity ≡ 0 → ⊥)
    (chunk : Some (4096, size) ≡ capacity_chunk capacity m) where
  -- the request, as the rule has it
  told : TellsRequests before.asked after.asked ((size, 16) ∷ [])
      → TellsRequests before.asked after.asked (requests_for m (Some (4096, size)))
  unfolding requests
  told asked = rw (unit m min_align) asked

  -- it was refused
  pub created_refused : after.refusals ≡ counted before.refusals 1 → after.refusals < 2 ^ 64
      → TellsRequests before.asked after.asked ((size, 16) ∷ [])
      → IsCreation m capacity 1 None before after
  created_refused refusals bounded asked =
      created_at m capacity 1 None before after (Some (4096, size)) some chunk refl
      (record { refusals = refusals; bounded = λ some. bounded; requests = told asked })

  -- it was granted: zeros from 4096 on, with nothing used
  pub created_first : (bytes : Bytes) → bytes.items ≡ replicate size 0 → after.refusals ≡ before.refusals
      → TellsRequests before.asked after.asked ((size, 16) ∷ [])
      → IsCreation m capacity 0 (Some (memory_of m true 0 0 0 (record { base = 4096; cursor = 4096 + length bytes.items; bytes = bytes })
      [])) before after
  created_first bytes zeros refusals asked =
      created_at m capacity 0 _ before after (Some (4096, size)) some chunk (rw (zeros, length-replicate) refl)
      (record {
        refusals = refusals ∙ sym (counted_none before.refusals);
        bounded = λ some. absurd (omega arith);
        requests = told asked;
      })

  -- the arena over that chunk is valid
  pub first_stored : (bytes : Bytes) (newest : StoredChunk) → bytes.items ≡ replicate size 0
      → newest ≡ record { base = 4096; cursor = 4096 + length bytes.items; bytes = bytes }
      → IsReady newest → IsStored (memory_of m true 0 0 0 newest []) newest []
  first_stored bytes newest zeros is ready =
      let sized : length bytes.items ≡ size = ap length zeros ∙ length-replicate size 0 in
      rw is (record {
        valid = subst (λ (n : ℕ). IsValid (with_chunk (4096, n) (empty_state m))) (sym sized)
            (capacity_valid m capacity (4096, size) min_align (omega (arith, some)) (sym chunk));
        none = λ same. absurd (omega arith);
        ready = rw is at ready;
        older_ready = All-nil IsReady;
      })
