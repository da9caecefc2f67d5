-- What it costs to read parts of a text: the children of a sum or a product, one after another, which are appended to
-- a list, and parts of which one failed.
use Rattle.std.proofs.lemmas.Bool.Decides.{nat_tests}
use Rattle.std.proofs.Common.{◌≡◌, ℕ, ◌+◌, ◌≤◌, arith, Err, Some, None, List, []}
use Rattle.std.specs.Prelude.{Option, Result, IsErr, IsErrAnd}
use Rattle.arena_store.specs.declared.block.Block.{Block}
use Rattle.arena_chunks.proofs.Layers.{frame_reflexive, frame_then}
use Rattle.arena_chunks.specs.Source.{View}
use Rattle.arena_chunks.specs.Frame.{Frame}
use Rattle.arena_items.specs.Denied.{Layouts}
use Rattle.arena_items.specs.declared.room.AllocError.{AllocError}
use Rattle.arena_tree.specs.Stops.{stop_of, cause, OnText}
use Rattle.arena_tree.specs.declared.stop.Stop.{Stop}
use Rattle.arena_tree.specs.declared.stop.Stop.TheVariants.{AllocErr, OutOfMemory, Text}
use Rattle.arena_tree.specs.Spending.{AnyBlock, Spends, Stopped, SpendsUpTo, SpendsAll}
use Rattle.tree_nodes.proofs.SpendingLemmas.{spends_nothing, spends_then, spends_more, asks_of, asks_any, frees}

-- ---- Parts that weren't read whole

-- A part was read, and then one that wasn't read whole.
pub stops_then : {some layouts : Layouts} {one saved two spare left all : ℕ} {old mid new : View} (e : Stop)
    → Spends some one 0 saved old mid None → Spends layouts two spare left mid new (cause e) × Frame mid.memory new.memory [] []
    → Frame old.memory mid.memory [] [] → one ≤ all → one + two + spare ≤ all + saved
    → Spends layouts all 0 0 old new (cause e) × Frame old.memory new.memory [] []
stops_then {old = old} {mid} {new} e first second frame few fit =
    (spends_then first second.0 frame few fit (omega (arith, fit)), frame_then old.memory mid.memory new.memory [] [] [] frame second.1)

pub stops_more : {layouts : Layouts} {few many : ℕ} {old new : View} (e : Stop)
    → Spends layouts few 0 0 old new (cause e) × Frame old.memory new.memory [] [] → few ≤ many
    → Spends layouts many 0 0 old new (cause e) × Frame old.memory new.memory [] []
stops_more e stopped less = (spends_more stopped.0 (omega (arith, less)) (omega (arith, less)), stopped.1)

pub any_block : {layouts : Layouts} {bytes before after : ℕ} {old new : View} {e : Option AllocError}
    → Spends layouts bytes before after old new e → Spends AnyBlock bytes before after old new e
any_block spends = asks_of (λ size align asked. tt) spends

-- What the arena refused.
pub arena_stops : {layouts : Layouts} {bytes before after : ℕ} {old new : View} (e : AllocError)
    → Spends layouts bytes before after old new (Some e)
    → Spends AnyBlock bytes before after old new (cause (stop_of e)) × Frame old.memory new.memory [] []
arena_stops {layouts} {bytes} {before} {after} {old} {new} e spends = by e (any_block spends)
  where
    by : (e : AllocError) → Spends AnyBlock bytes before after old new (Some e)
        → Spends AnyBlock bytes before after old new (cause (stop_of e)) × Frame old.memory new.memory [] []
    by e spends = grind (arith, nat_tests)

-- What was read until the text was refused.
pub text_stops : {some layouts : Layouts} {few left all : ℕ} {old new : View} {blocks : List Block} → Spends some few 0 left old new None
    → Frame old.memory new.memory [] blocks → few ≤ all → Spends layouts all 0 0 old new None × Frame old.memory new.memory [] []
text_stops spends frame less = (asks_any (spends_more spends (omega (arith, less)) (omega (arith, less))), frees frame)

pub nothing_stops : (at : ℕ) (src : List ℕ) (a : View) → Stopped at src a a Text
nothing_stops at src a = (spends_nothing _ 0 0 a (omega arith), frame_reflexive a.memory [])

-- ---- What `?` passes on

abbrev pub IsPassedOn : {X : Type 0} → Result X Stop → Stop → Type 0
IsPassedOn result e = IsErr result × IsErrAnd result (λ f. f ≡ e)

pub passed_on : {X : Type 0} (P : Result X Stop → Type 0) (result : Result X Stop) (e : Stop) → IsPassedOn result e → P (Err e) → P result
passed_on P result e is h = grind (arith, nat_tests)

pub err_up_to : {old new : View} (at : ℕ) (src : List ℕ) (result : Result ℕ Stop) (e : Stop) → IsPassedOn result e
    → Stopped at src old new e → SpendsUpTo at src old new result
err_up_to {old} {new} at src = passed_on (SpendsUpTo at src old new)

pub err_all : {X : Type 0} {old new : View} (at : ℕ) (src : List ℕ) (result : Result (X × ℕ) Stop) (e : Stop)
    → IsPassedOn result e → Stopped at src old new e → SpendsAll at src old new result
err_all {X} {old} {new} at src = passed_on (SpendsAll at src old new)

-- the text is why, there and before
pub err_text : {X : Type 0} (Y P Q : Type 0) (result : Result X Stop) (e : Stop) → IsPassedOn result e → (P → Q)
    → OnText {X = Y} (Err e) P → OnText result Q
err_text {X} Y P Q result e is go h = passed_on (λ (r : Result X Stop). OnText r Q) result e is (by e h)
  where
    by : (s : Stop) → OnText {X = Y} (Err s) P → OnText {X = X} (Err s) Q
    by (AllocErr k) h = tt
    by OutOfMemory h = tt
    by Text h = go h
