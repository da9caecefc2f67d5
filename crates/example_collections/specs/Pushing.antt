-- A value that is appended many times, and the bytes for which the calls together ask the arena.
use Rattle.std.specs.Prelude.{◌≡◌, ℕ, zero, suc, ◌+◌, ◌++◌, [], ◌∷◌, Ok}
use Rattle.arena_chunks.specs.Source.{View}
use Rattle.arena_items.specs.declared.item.Item.{Ghosts}
use Rattle.arena_vec.specs.Changes.{Grows}
use Rattle.arena_vec.specs.Credit.{asked_by}
use Rattle.arena_vec.specs.Growth.{amortised_growth}
use Rattle.arena_vec.specs.Vecs.{vec_list}
use Rattle.arena_vec.specs.declared.vec.Vec.{Vec}

-- Calls in sequence, each of which appends the value, and which together ask for `asked` bytes.
abbrev pub PushesInTurn : {T : Type 0} → Ghosts T → T → ℕ → View → View → Vec T → ℕ → Vec T → Type 0
PushesInTurn item value zero old new v asked w = (new ≡ old) × (w ≡ v) × (asked ≡ 0)
PushesInTurn {T} item value (suc n) old new v asked w = (between : View) × (u : Vec T) × (before : ℕ)
    × PushesInTurn item value n old between v before u
    × Grows {X = Unit {0}} item between new u (amortised_growth item.SIZE u.raw.cap (u.raw.len + 1))
    (vec_list item between.memory u ++ value ∷ []) w (Ok tt)
    × (asked ≡ before + asked_by item.SIZE (amortised_growth item.SIZE u.raw.cap (u.raw.len + 1)))
