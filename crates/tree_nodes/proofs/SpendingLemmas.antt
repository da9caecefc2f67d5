-- What calls cost one after another.
use Rattle.std.proofs.lemmas.Bool.Decides.{nat_tests}
use Rattle.std.proofs.Common.{◌≡◌, ℕ, ◌+◌, ◌-◌, ◌≤◌, inl, inr, ◌∙◌, arith, Err, Option, Some, None, List, [], length, drop, length-take}
use Rattle.std.specs.Prelude.{Result, IsErr, IsErrAnd, slice_range}
use Rattle.arena_rules.proofs.AskingLemmas.{asks_more, asks_then, refused_after}
use Rattle.arena_chunks.specs.Memory.{Memory}
use Rattle.arena_chunks.specs.Source.{View}
use Rattle.arena_chunks.specs.Frame.{Frame}
use Rattle.arena_store.specs.declared.block.Block.{Block}
use Rattle.arena_chunks.proofs.Layers.{asks_same, frame_reflexive, frame_then, frame_forget}
use Rattle.arena_items.specs.Costs.{used, KeepsKind}
use Rattle.arena_items.specs.Denied.{Layouts}
use Rattle.arena_items.specs.declared.room.AllocError.{AllocError}
use Rattle.arena_items.specs.declared.room.AllocError.TheVariants.{AllocErr, CapacityOverflow, OutOfMemory}
use Rattle.arena_chunks.specs.Asking.{IsCounted}
use Rattle.tree_nodes.specs.Spending.{IsStarvedBehind, Stops, Spends, error_of}

pub frame_kind : {old new : Memory} {before after : List Block} → Frame old new before after → KeepsKind old new
frame_kind frame = record { is_growing = frame.is_growing; allocated = frame.allocated }

-- Nothing is done.
pub spends_nothing : {layouts : Layouts} (bytes before after : ℕ) (a : View) → after ≤ bytes + before
    → Spends layouts bytes before after a a None
spends_nothing bytes before after a less = grind (arith, nat_tests, asks_same)

-- Calls, and then others: what was in use before the first stays.
pub spends_then : {some layouts : Layouts} {one saved two spare left all rest : ℕ} {old mid new : View} {error : Option AllocError}
    → Spends some one 0 saved old mid None → Spends layouts two spare left mid new error → Frame old.memory mid.memory [] []
    → one ≤ all → one + two + spare ≤ all + saved → one + two + spare + rest ≤ all + saved + left
    → Spends layouts all 0 rest old new error
spends_then {some} {layouts} {one} {saved} {two} {spare} {left} {all} {rest} {old} {mid} {new} {error} first second frame few fit paid = record {
  takes = omega (arith, first.takes, second.takes, paid);
  asks = asks_then _ old.memory.state mid.memory.state new.memory.state old.source mid.source new.source
      (asks_more _ _ old.memory.state mid.memory.state old.source mid.source (omega (arith, few)) first.asks)
      (asks_more _ _ mid.memory.state new.memory.state mid.source new.source within second.asks);
  kind = record {
    is_growing = second.kind.is_growing ∙ first.kind.is_growing;
    allocated = λ still. second.kind.allocated (first.kind.is_growing ∙ still) ∙ first.kind.allocated still;
  };
  stops = by error second.stops;
}
  where
    within : used mid + (two + spare) ≤ used old + (all + 0)
    within = omega (arith, first.takes, fit)

    starved : IsStarvedBehind mid new → IsStarvedBehind old new
    starved (inl refused) = inl (refused_after _ old.memory.state mid.memory.state old.source mid.source new.source first.asks refused)
    starved (inr (inl much)) = inr (inl much)
    starved (inr (inr up)) = inr (inr (omega (arith, up, first.asks.chunks.top)))

    counted : (k : ℕ) → IsCounted k mid new → IsCounted k old new
    counted k (inl rose) = inl (omega (arith, rose, first.asks.refusals))
    counted k (inr last) = inr last

    by : (e : Option AllocError) → Stops layouts (used mid + (two + spare)) mid new e → Stops layouts (used old + (all + 0)) old new e
    by None h = tt
    by (Some (AllocErr k)) h = (
      record {
        counted = counted k h.0.counted;
        starved = λ growing. starved (h.0.starved (first.kind.is_growing ∙ growing));
        full = λ still.
            let short = h.0.full (first.kind.is_growing ∙ still) in
            record { still = still; short = omega (arith, short.short, first.kind.allocated still, within) };
        denied = h.0.denied;
      },
      frame_then old.memory mid.memory new.memory [] [] [] frame h.1,
    )
    by (Some OutOfMemory) h = frame_then old.memory mid.memory new.memory [] [] [] frame h
    by (Some CapacityOverflow) h = h

-- What is paid ahead is enough for more, and some of what is saved may be dropped.
pub spends_more : {layouts : Layouts} {few spare many left rest : ℕ} {old new : View} {error : Option AllocError}
    → Spends layouts few spare left old new error → few + spare ≤ many → few + spare + rest ≤ many + left
    → Spends layouts many 0 rest old new error
spends_more {layouts} {old = old} spends less paid =
    spends_then (spends_nothing {layouts = layouts} 0 0 0 old (omega arith)) spends (frame_reflexive old.memory []) (omega arith) (omega (arith, less))
    (omega (arith, paid))

-- What is asked for is of more layouts too; and calls that didn't fail ask for any.
pub asks_of : {some layouts : Layouts} {bytes before after : ℕ} {old new : View} {error : Option AllocError}
    → ((size align : ℕ) → some size align → layouts size align) → Spends some bytes before after old new error
    → Spends layouts bytes before after old new error
asks_of {some} {layouts} {bytes} {before} {old = old} {new} {error} wider spends =
    record { takes = spends.takes; asks = spends.asks; kind = spends.kind; stops = by error spends.stops }
  where
    by : (e : Option AllocError) → Stops some (used old + (bytes + before)) old new e
        → Stops layouts (used old + (bytes + before)) old new e
    by None h = tt
    by (Some (AllocErr k)) h = let d = h.0.denied in (
      record {
        counted = h.0.counted;
        starved = h.0.starved;
        full = h.0.full;
        denied = record { size = d.size; align = d.align; asked = wider d.size d.align d.asked; none = d.none };
      },
      h.1,
    )
    by (Some OutOfMemory) h = h
    by (Some CapacityOverflow) h = h

pub asks_any : {some layouts : Layouts} {bytes before after : ℕ} {old new : View} → Spends some bytes before after old new None
    → Spends layouts bytes before after old new None
asks_any spends = record { takes = spends.takes; asks = spends.asks; kind = spends.kind; stops = tt }

-- What was placed on free blocks leaves all that was in use.
pub frees : {old new : Memory} {blocks : List Block} → Frame old new [] blocks → Frame old new [] []
frees {old} {new} {blocks} frame = frame_forget old new [] blocks frame

pub frees_then : {old mid new : Memory} {blocks others : List Block} → Frame old mid [] blocks → Frame mid new [] others
    → Frame old new [] []
frees_then {old} {mid} {new} first second = frame_then old mid new [] [] [] (frees first) (frees second)

-- A range has no more bytes than there are between its ends.
pub range_length : (bytes : List ℕ) (begin end : ℕ) → length (slice_range bytes begin end) ≤ end - begin
range_length bytes begin end = omega (arith, length-take (end - begin) (drop begin bytes))

-- ---- What `?` passes on

abbrev pub IsHandedOn : {X : Type 0} → Result X AllocError → AllocError → Type 0
IsHandedOn result e = IsErr result × IsErrAnd result (λ f. f ≡ e)

pub handed_on : {X : Type 0} (P : Result X AllocError → Type 0) (result : Result X AllocError) (e : AllocError) → IsHandedOn result e
    → P (Err e) → P result
handed_on P result e is h = grind (arith, nat_tests)

pub err_spends : {X : Type 0} {layouts : Layouts} {bytes : ℕ} {old new : View} (result : Result X AllocError) (e : AllocError)
    → IsHandedOn result e → Spends layouts bytes 0 0 old new (Some e) → Spends layouts bytes 0 0 old new (error_of result)
err_spends {X} {layouts} {bytes} {old} {new} = handed_on (λ (r : Result X AllocError). Spends layouts bytes 0 0 old new (error_of r))
