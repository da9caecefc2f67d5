-- What a call on one name's block does to an arena and its names.
use Rattle.std.proofs.Common.{◌≡◌, ℕ, ◌+◌, ◌-◌, ◌≤◌, ap, refl, sym, subst, ◌∙◌, arith, List, [], ◌∷◌, true, false, Option, Some, None, IsTrue, length, replicate, eq-eqb}
use Rattle.std.specs.Prelude.{nat_lt}
use Rattle.std.specs.Option.{is_some}
use Rattle.std.specs.FinMap as finite
use Rattle.std.specs.FinMap.{get-empty}
use Rattle.std.specs.Ordering.{nat_cmp}
use Rattle.std.proofs.lemmas.Bool.Decides.{nat_tests}
use Rattle.std.proofs.lemmas.Option.{same_Some, none-some}
use Rattle.std.proofs.lemmas.List.{length-replicate}
use Rattle.arena_rules.specs.Rounding.{is_layout}
use Rattle.arena_rules.specs.State.{State, IsValid}
use Rattle.arena_rules.specs.Back.{KeepsMark}
use Rattle.arena_rules.specs.Blocks.{padded_size}
use Rattle.arena_rules.specs.Moves.{dealloc}
use Rattle.call_rules.specs.Requests.{placed_anew}
use Rattle.call_rules.specs.Counts.{call_statistics}
use Rattle.call_rules.specs.Machine.{Held, Contents, Marks, Next, at_name, step, refused_of}
use Rattle.arena_rules.specs.Lists.{splice}
use Rattle.arena_rules.specs.declared.place.Place.{Place}
use Rattle.call_rules.specs.declared.calls.Call.{Call}
use Rattle.call_rules.specs.declared.calls.Call.TheVariants.{Alloc, Dealloc, Write}
use Rattle.call_rules.specs.declared.calls.Reply.{Reply}
use Rattle.call_rules.specs.declared.calls.Reply.TheVariants.{Placed, Done, NoSuchName}
use Rattle.arena_rules.proofs.RoundingLemmas.{min_align_positive, layout_power}
use Rattle.arena_rules.proofs.MarkLemmas.{still_keeps, alloc_keeps, dealloc_keeps_mark}
use Rattle.arena_rules.proofs.MoveLemmas.{moved_anew}
use Rattle.arena_rules.proofs.PlacedLemmas.{alloc_at_cursor}
use Rattle.arena_store.specs.Memory.{Memory, Writes, image, bytes_from, is_readable, block_at}
use Rattle.arena_store.specs.Source.{Source, view}
use Rattle.arena_core.specs.Frame.{IsApart, padded}
use Rattle.arena_core.specs.Answers.Answer.{Placed as PlacedAt}
use Rattle.arena_core.specs.BlockCalls.{PlacesAfter, GivesBack, WritesBlock}
use Rattle.arena_runs.specs.Runs.{HoldsBytes}
use Rattle.arena_runs.specs.Marks.{IsAtCursor}
use Rattle.arena_runs.specs.Serving.{machine_of, Holds, IsBeside, Keeps, Asks, Serves}
use Rattle.arena_store.specs.declared.block.Block.{Block}
use Rattle.arena_store.proofs.AskedLemmas.{asked_none}
use Rattle.name_map.proofs.EntryLemmas.{get-inserted, get-insert_other, get-removed, get-remove_other}
use Rattle.arena_runs.proofs.Log.{inserted_at_cursor}
use Rattle.arena_core.proofs.FrameLemmas.{apart_turned}
use Rattle.arena_store.proofs.BytesLemmas.{no_bytes}
use Rattle.arena_core.proofs.WrittenLemmas.{bytes_spliced, bytes_filled}
use Rattle.arena_runs.proofs.Change.{padded_empty, IsChange, change_written, change_placed, serves_changed}

-- ---- Calls that change nothing, and resets

-- a call that places nothing, and gives nothing back at once
pub asks_none : (call : Call) (reply : Reply) (old new : Memory) (names : Held) (source : Source) → refused_of reply ≡ 0
    → new.statistics ≡ old.statistics
    → ((marks : Marks) (bytes : Contents) → placed_anew call (machine_of old names marks bytes) ≡ None)
    → ((marks : Marks) (bytes : Contents) → call_statistics call reply (machine_of old names marks bytes) old.statistics ≡ old.statistics)
    → Asks call reply (view old source) (view new source) names
asks_none call reply old new names source none same anew counts = record {
  asked = λ marks bytes. rw (none, anew marks bytes) (asked_none source);
  statistics = λ marks bytes. same ∙ sym (counts marks bytes);
}

-- a call that changes nothing
pub serves_still : (call : Call) (reply : Reply) (memory : Memory) (names : Held) (before later : Source) → Holds memory.state names
    → ((marks : Marks) (bytes : Contents) → HoldsBytes memory names bytes
    → step call (refused_of reply) (machine_of memory names marks bytes) ≡ Some (reply, machine_of memory names marks bytes))
    → Asks call reply (view memory before) (view memory later) names
    → Serves call reply (view memory before) (view memory later) names names
serves_still call reply memory names before later holds steps asks = record {
  steps = λ marks bytes held. (bytes, steps marks bytes held, held);
  asks = asks;
  holds = holds;
  keeps = λ entry keeps. keeps;
  marks = λ mark accepted. still_keeps mark memory.state accepted;
}

no_name : {P : Type 0} (q : ℕ) (p : Place) → finite.get (finite.empty {X = Place} {R = nat_cmp}) q ≡ Some p → P
no_name q p at = absurd (none-some p (sym (get-empty nat_cmp q) ∙ at))

pub holds_none : (state : State) → IsValid state → Holds state finite.empty
holds_none state valid = record { valid = valid; each = λ q p at. no_name q p at; apart = λ q r p o differ at _. no_name q p at }

pub no_bytes_held : (memory : Memory) (bytes : Contents) → HoldsBytes memory finite.empty bytes
no_bytes_held memory bytes = record { each = λ q p at. no_name q p at }

pub none_kept : (memory : Memory) → Keeps memory memory finite.empty
none_kept memory = record { kept = record { used = λ addr used. used; bytes = λ addr used. refl }; beside = λ q p at. no_name q p at }

pub none_of : {X : Type 0} → (o : Option X) → false ≡ is_some o → o ≡ None
none_of o test = grind (arith, nat_tests)

-- ---- Calls on a held name

pub readable_at : (state : State) (names : Held) (name : ℕ) (p : Place) → Holds state names → finite.get names name ≡ Some p
    → IsTrue (is_readable state (block_at state.generation p))
readable_at state names name p holds found = rw (eq-eqb state.generation state.generation refl) (holds.each name p found).used

pub found_at : (old : Memory) (names : Held) (marks : Marks) (bytes : Contents) (name k : ℕ) (b : Place) (go : Place → List ℕ → Option Next)
    → HoldsBytes old names bytes → finite.get names name ≡ Some b
    → at_name (machine_of old names marks bytes) name k go ≡ go b (bytes_from (image old) b.addr b.size)
found_at old names marks bytes name k b go held found = rw (found, held.each name b found) refl

pub absent_at : (memory : Memory) (names : Held) (marks : Marks) (bytes : Contents) (name : ℕ) (go : Place → List ℕ → Option Next)
    → finite.get names name ≡ None
    → at_name (machine_of memory names marks bytes) name 0 go ≡ Some (NoSuchName, machine_of memory names marks bytes)
absent_at memory names marks bytes name go none = rw none refl

-- Bytes are written in a name's block.
pub serves_write : (old new : Memory) (names : Held) (name at : ℕ) (list : List ℕ) (b : Place) (source : Source) → Holds old.state names
    → finite.get names name ≡ Some b
    → at + length list ≤ b.size → WritesBlock old new (block_at old.state.generation b) at list
    → Serves (Write name at list) Done (view old source) (view new source) names names
unfolding step placed_anew
serves_write old new names name at list b source holds found within wrote =
    let same = wrote.state in
    let writes = wrote.bytes in
    let range : nat_lt b.size (at + length list) ≡ false = grind (arith, nat_tests) in
    let change = change_written old old new names names name b b at list holds.valid (record {
      valid = holds.valid;
      min_align = refl;
      used = λ addr n some used beside. used;
      bytes = λ addr used beside. refl;
      gone = λ filled. found;
      beside = λ addr used beside. beside;
      rest = λ q other. refl;
      own = λ p is. (same_Some b p (sym found ∙ is), holds.each name b found);
      marks = λ mark accepted. still_keeps mark old.state accepted;
    }) within same writes in
    serves_changed old new names names name b b holds change (Write name at list) Done source source (λ marks bytes held. record {
      next = finite.insert bytes name (splice (bytes_from (image old) b.addr b.size) at list);
      step = found_at old names marks bytes name 0 b _ held found ∙ rw (range, same) refl;
      rest = λ q other. get-insert_other bytes name q _ other;
      own = λ _. get-inserted bytes name _ ∙ ap Some (sym (bytes_spliced (image old) (image new) b.addr b.size at list within writes));
    }) (asks_none (Write name at list) Done old new names source refl wrote.statistics (λ marks bytes. refl) (λ marks bytes. refl))

-- A name's block is given back.
pub serves_dealloc : (old new : Memory) (names : Held) (name : ℕ) (b : Place) (source : Source) → Holds old.state names
    → finite.get names name ≡ Some b
    → GivesBack old new (block_at old.state.generation b)
    → Serves (Dealloc name) Done (view old source) (view new source) names (finite.remove names name)
unfolding step placed_anew
serves_dealloc old new names name b source holds found gives =
    let m : ℕ = old.state.min_align in
    let same : new.state ≡ dealloc old.state b.addr b.size = ap (λ (w : Memory). w.state) gives.memory in
    let frame = gives.frame in
    let apart : (addr n : ℕ) → IsBeside m b addr n → IsApart addr n (padded m (block_at old.state.generation b) ∷ []) =
    λ addr n beside. (apart_turned b.addr (padded_size m b.addr b.size) addr n beside, tt) in
    let none : (p : Place) → finite.get (finite.remove names name) name ≡ Some p
    → ⊥ = λ p is. none-some p (sym (get-removed names name) ∙ is) in
    serves_changed old new names (finite.remove names name) name b b holds (record {
      valid = gives.valid.exit;
      min_align = frame.min_align;
      used = λ addr n some used beside. frame.kept addr n some used (apart addr n beside);
      bytes = λ addr used beside. frame.bytes addr used (apart addr 1 beside);
      gone = λ filled. found;
      beside = λ addr used beside. beside;
      rest = λ q other. get-remove_other names name q other;
      own = λ p is. absurd (none p is);
      marks = λ mark accepted. subst (KeepsMark mark old.state) (sym same) (dealloc_keeps_mark mark old.state b.addr b.size accepted);
    }) (Dealloc name) Done source source (λ marks bytes held. record {
      next = finite.remove bytes name;
      step = found_at old names marks bytes name 0 b _ held found ∙ rw same refl;
      rest = λ q other. get-remove_other bytes name q other;
      own = λ is. absurd (none b is);
    }) (asks_none (Dealloc name) Done old new names source refl (ap (λ (w : Memory). w.statistics) gives.memory) (λ marks bytes. refl)
    (λ marks bytes. refl))

-- ---- Calls that place a block for a name

-- The name holds a place, with the bytes there.
pub serves_placed : (call : Call) (k : ℕ) (old new : Memory) (names : Held) (name : ℕ) (a b : Place) (before later : Source)
    → Holds old.state names
    → IsChange old new names (finite.insert names name b) name a b
    → ((marks : Marks) (bytes : Contents) → HoldsBytes old names bytes → step call k (machine_of old names marks bytes)
    ≡ Some (
      Placed b.addr k,
      machine_of new (finite.insert names name b) marks
          (finite.insert bytes name (bytes_from (image new) b.addr b.size)),
    ))
    → Asks call (Placed b.addr k) (view old before) (view new later) names
    → Serves call (Placed b.addr k) (view old before) (view new later) names (finite.insert names name b)
serves_placed call k old new names name a b before later holds change steps asks =
    serves_changed old new names (finite.insert names name b) name a b holds change call (Placed b.addr k) before later
    (λ marks bytes held. record {
      next = finite.insert bytes name (bytes_from (image new) b.addr b.size);
      step = steps marks bytes held;
      rest = λ q other. get-insert_other bytes name q _ other;
      own = λ _. get-inserted bytes name _;
    }) asks

-- a place of no bytes
abbrev nothing : Place
nothing = record { addr = 0; size = 0; align = 1 }

pub serves_alloc : (old mid new : Memory) (names : Held) (name size align fill k : ℕ) (block : Block) (before later : Source)
    → Holds old.state names → finite.get names name ≡ None
    → true ≡ is_layout size align → PlacesAfter (view old before) (view mid later) size align k (PlacedAt block)
    → WritesBlock mid new block 0 (replicate (block.size - 0) fill)
    → Serves (Alloc name size align fill) (Placed block.addr k) (view old before) (view new later) names
    (finite.insert names name (record { addr = block.addr; size = size; align = align }))
    × IsAtCursor new.state names (finite.insert names name (record { addr = block.addr; size = size; align = align })) name
unfolding step placed_anew
serves_alloc old mid new names name size align fill k block before later holds none good places wrote =
    let placed = places.outcome in
    let p : ℕ = block.addr in
    let b : Place = record { addr = p; size = size; align = align } in
    let positive = min_align_positive old.state.min_align holds.valid.min_align in
    let same = wrote.state in
    let all : block.size - 0 ≡ size = omega (arith, placed.of_layout.of_size) in
    let writes : Writes mid new (p + 0) (replicate size fill) = rw all at wrote.bytes in
    let zero : size - 0 ≡ size = omega arith in
    let sized = length-replicate size fill in
    let moved = moved_anew old.state nothing size align k (record { answer = Some p; state = mid.state }) holds.valid
    (layout_power size align (sym good)) placed.step in
    let change = change_placed old mid names name size align p nothing [] (block ∷ []) holds
    (λ filled. absurd (omega (arith, padded_empty old.state.min_align nothing positive (omega arith) refl)))
    good moved places.valid.exit placed.frame
    (λ addr n beside. tt)
    (λ mark accepted. alloc_keeps mark old.state size align k (record { answer = Some p; state = mid.state }) accepted placed.step) in
    let served = serves_placed (Alloc name size align fill) k old new names name nothing b before later holds
    (change_written old mid new names _ name nothing b 0 (replicate size fill) holds.valid change (omega (arith, sized)) same writes)
    (λ marks bytes held. rw (
      none,
      ← good,
      placed.step,
      bytes_filled (image mid) (image new) p size 0 fill (omega arith) (rw zero writes),
      no_bytes (image mid) p 0 refl,
      zero,
      same,
    ) refl)
    (record { asked = λ marks b. rw (none, ← good) placed.asked; statistics = λ marks b. wrote.statistics ∙ placed.statistics }) in (
      served,
      inserted_at_cursor new.state names name b served.holds
          (rw same (alloc_at_cursor old.state size align k (record { answer = Some p; state = mid.state }) placed.step p refl)),
    )
