-- Values that calls move, and values that were placed since a call began; indices below a length.
use Rattle.std.proofs.Common.{◌≡◌, ℕ, ◌+◌, ◌<◌, List, [], ◌∷◌, ◌++◌, arith, sym, subst}
use Rattle.std.proofs.lemmas.List.Elements.{All-push, All-weaker}
use Rattle.arena_chunks.specs.Frame.{Frame}
use Rattle.arena_chunks.specs.Memory.{Memory}
use Rattle.arena_chunks.specs.Source.{View}
use Rattle.arena_chunks.proofs.Layers.{frame_reflexive, frame_then, frame_forget}
use Rattle.arena_items.specs.Beside.{Moves, IsNew}
use Rattle.arena_items.specs.declared.values.InArena.{Ghosts}
use Rattle.arena_ast.specs.Asts.{AreBelow, Moved, IsBuilt}
use Rattle.arena_ast.proofs.CountLemmas.{same_count, counts_then}

module _ {V : Type 0} {kind : Ghosts V} where
  pub stays : {memory : Memory} {v : V} → kind.is_held memory v → Moves kind memory memory v v
  stays {memory = memory} {v = v} held = record { held = held; frame = frame_reflexive memory (kind.footprint memory v) }

  pub new_then : {old mid new : Memory} {v w : V} → IsNew kind old mid v → Moves kind mid new v w → IsNew kind old new w
  new_then {old = old} {mid = mid} {new = new} {v = v} {w = w} is moves = record {
    held = moves.held;
    frame = frame_then old mid new [] (kind.footprint mid v) (kind.footprint new w) is.frame moves.frame;
  }

  pub moves_then : {old mid new : Memory} {u v w : V} → Moves kind old mid u v → Moves kind mid new v w → Moves kind old new u w
  moves_then {old = old} {mid = mid} {new = new} {u = u} {v = v} {w = w} one two = record {
    held = two.held;
    frame = frame_then old mid new (kind.footprint old u) (kind.footprint mid v) (kind.footprint new w) one.frame two.frame;
  }

  pub others_stay : {old new : Memory} {v : V} → IsNew kind old new v → Frame old new [] []
  others_stay {old = old} {new = new} {v = v} is = frame_forget old new [] (kind.footprint new v) is.frame

  -- ---- With the source's counts

  pub moved_none : {a : View} {v : V} → kind.is_held a.memory v → Moved kind a a v v
  moved_none {a = a} held = record { moves = stays held; counts = same_count a.source }

  pub moved_then : {old mid new : View} {u v w : V} → Moved kind old mid u v → Moved kind mid new v w → Moved kind old new u w
  moved_then one two = record { moves = moves_then one.moves two.moves; counts = counts_then one.counts two.counts }

  pub built_then : {old mid new : View} {v w : V} → IsBuilt kind old mid v → Moved kind mid new v w → IsBuilt kind old new w
  built_then is moved = record { fresh = new_then is.fresh moved.moves; counts = counts_then is.counts moved.counts }

  pub built_others : {old new : View} {v : V} → IsBuilt kind old new v → Frame old.memory new.memory [] []
  built_others is = others_stay is.fresh

-- one more index below one more
pub below_more : (n m : ℕ) (indices : List ℕ) (index : ℕ) → AreBelow n indices → index ≡ n → m ≡ n + 1
    → AreBelow m (indices ++ index ∷ [])
below_more n m indices index below is more =
    All-push (λ (i : ℕ). i < m) indices index
    (All-weaker (λ (i : ℕ). i < n) (λ (i : ℕ). i < m) (λ i less. omega arith) indices below) (omega arith)

-- the index was pushed onto a stack
pub below_pushed : (n m : ℕ) (indices items : List ℕ) (index : ℕ) → AreBelow n indices → index ≡ n → m ≡ n + 1
    → items ≡ indices ++ index ∷ [] → AreBelow m items
below_pushed n m indices items index below is more pushed =
    subst (AreBelow m) (sym pushed) (below_more n m indices index below is more)
