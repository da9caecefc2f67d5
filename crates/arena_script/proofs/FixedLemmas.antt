-- An arena that doesn't grow and of which nothing is used has one state for each number of bytes, but for its generation.
use Rattle.std.proofs.Common.{arith, ◌≡◌, ◌≢◌, ℕ, ◌+◌, sym, ◌∙◌, subst, inl, false, List, [], ◌∷◌}
use Rattle.std.specs.Prelude.{sum, map}
use Rattle.arena_rules.specs.State.{Chunk, FitsKind, AreChunks, used_length}
use Rattle.arena_rules.specs.Creation.{fixed_state}
use Rattle.arena_chunks.specs.Source.{View}
use Rattle.script_rules.specs.declared.commands.Command.{Command}
use Rattle.script_rules.specs.declared.commands.Ended.TheVariants as ended
use Rattle.script_rules.specs.declared.outcome.Outcome.{Outcome}
use Rattle.arena_script.specs.Running.{IsRun, IsStart}
use Rattle.arena_script.specs.OneOutcome.{bare_state, AreAlike, IsFixed}
use Rattle.arena_script.proofs.OneWay.{one_way}

fixed_chunks : (bytes align : ℕ) (chunks : List Chunk) → FitsKind false chunks → AreChunks align chunks
    → sum (map used_length chunks) ≡ 0 → sum (map (λ (c : Chunk). c.size) chunks) ≡ bytes → chunks ≡ (fixed_state 1 bytes).chunks
fixed_chunks bytes align [] fits are unused region = absurd fits
fixed_chunks bytes align (chunk ∷ []) fits are unused region =
    let size : chunk.size ≡ bytes = omega (arith, region) in
    let cursor : chunk.cursor ≡ 4096 + bytes = omega (arith, fits, size, unused, are.0.cursor_high) in
    λ i. record { base = fits i; size = size i; cursor = cursor i } ∷ []
fixed_chunks bytes align (chunk ∷ (next ∷ older)) fits are unused region = absurd fits

pub fixed_is : (bytes : ℕ) (start : View) → IsStart start → IsFixed bytes start.memory.state
    → bare_state start.memory.state ≡ fixed_state 1 bytes
fixed_is bytes start begins fixed =
    let state = start.memory.state in
    let chunks = fixed_chunks bytes state.min_align state.chunks (subst (λ grows. FitsKind grows state.chunks) fixed.still begins.valid.kind)
    begins.valid.chunks begins.unused fixed.region in
    λ i. record { min_align = begins.min_align i; is_growing = fixed.still i; generation = 0; chunks = chunks i }

pub fixed_way : (bytes : ℕ) (script : List Command) (old new other next : View) (one two : Outcome)
    → IsFixed bytes old.memory.state → IsFixed bytes other.memory.state → IsRun script old new one → IsRun script other next two
    → one.ended ≢ ended.OutOfMemory → two.ended ≢ ended.OutOfMemory → (one ≡ two) × AreAlike new.memory.state next.memory.state
fixed_way bytes script old new other next one two first_fixed second_fixed first second =
    one_way script old new other next one two
    (fixed_is bytes old first.start first_fixed ∙ sym (fixed_is bytes other second.start second_fixed)) (inl first_fixed.still)
    (inl second_fixed.still) first second
