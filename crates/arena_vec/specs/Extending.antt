-- Vectors that take an iterator's items.
use Rattle.std.specs.Prelude.{◌≡◌, ℕ, ◌+◌, List, [], ◌∷◌, ◌++◌, Result, Ok, Err, nat_lt, if◌then◌else◌, Option, Some, None, IfSome}
use Rattle.std.specs.Iterator.{Count, UpTo, Drains}
use Rattle.std.specs.Iterator.SizeHint.{IsWithinCount}
use Rattle.arena_chunks.specs.Source.{View}
use Rattle.arena_items.specs.declared.item.Item.{Ghosts}
use Rattle.raw_vec.specs.Growth.{fits, amortised_growth}
use Rattle.raw_vec.specs.Storage.{Makes}
use Rattle.arena_vec.specs.Vecs.{vec_list}
use Rattle.arena_vec.specs.Changes.{Grows}
use Rattle.arena_items.specs.declared.room.Growth.{Growth}
use Rattle.arena_items.specs.declared.room.Growth.TheVariants.{Stays}
use Rattle.arena_items.specs.declared.room.AllocError.{AllocError}
use Rattle.arena_vec.specs.declared.vec.Vec.{Vec}

-- The growth for one more value, of which `hint` are said to follow: a full vector makes room for them too, if they
-- fit.
unfoldable pub hinted_growth : ℕ → ℕ → ℕ → ℕ → Growth
hinted_growth size cap len hint =
    if nat_lt len cap then Stays else amortised_growth size cap
    (len + (if fits size (len + (hint + 1)) then hint + 1 else 1))

-- The room of a new vector: for the most items that an iterator says it has, if they fit, else for the least, if they
-- fit.
unfoldable pub first_room : ℕ → ℕ → Option ℕ → ℕ
first_room size least None = if fits size least then least else 0
first_room size least (Some most) = if fits size most then most else (if fits size least then least else 0)

-- One value was appended, after a growth by a hint that the iterator gave of the items to come.
pub record PutsOne {T : Type 0} (item : Ghosts T) (left : Count) (old new : View) (v : Vec T) (x : T) (w : Vec T) : Type 0 where
  pub hint : ℕ
  pub told : IsWithinCount hint left
  pub grows : Grows {X = Unit {0}} item old new v (hinted_growth item.SIZE v.raw.cap v.raw.len hint)
      (vec_list item old.memory v ++ x ∷ []) w (Ok tt)

-- These items were taken and appended, one after another.
abbrev pub Extends : {T I : Type 0} → Ghosts T → (I → Option T → I → Type 0) → (I → Count) → I → View → Vec T
    → List T → I → View → Vec T → Type 0
Extends item steps left iter old v [] now new w = (now ≡ iter) × (new ≡ old) × (w ≡ v)
Extends {T} {I} item steps left iter old v (x ∷ xs) now new w =
    (next : I) × (mid : View) × (u : Vec T) × steps iter (Some x) next
    × PutsOne item (left next) old mid v x u
    × Extends item steps left next mid u xs now new w

-- All items of an iterator were appended.
pub record TakesAll {T I : Type 0} (item : Ghosts T) (steps : I → Option T → I → Type 0) (left : I → Count) (iter : I) (old new : View)
    (v w : Vec T) : Type 0 where
  pub items : List T
  pub drains : Drains steps iter items
  pub list_is : vec_list item new.memory w ≡ vec_list item old.memory v ++ items
  pub rest : I
  pub extends : Extends item steps left iter old v items rest new w

-- Some items were appended, and for one more there was no room.
pub record TakesSome {T I : Type 0} (item : Ghosts T) (steps : I → Option T → I → Type 0) (left : I → Count) (iter : I) (old new : View)
    (v w : Vec T) (e : AllocError) : Type 0 where
  pub items : List T
  pub last : T
  pub list_is : vec_list item new.memory w ≡ vec_list item old.memory v ++ items
  pub now : I
  pub between : View
  pub extends : Extends item steps left iter old v items now between w
  pub rest : I
  pub step : steps now (Some last) rest
  pub hint : ℕ
  pub told : IsWithinCount hint (left rest)
  pub refused : Grows {X = Unit {0}} item between new w (hinted_growth item.SIZE w.raw.cap w.raw.len hint)
      (vec_list item between.memory w ++ last ∷ []) w (Err e)

-- What became of a new vector with this room, or of the refusal of it.
abbrev pub BuildsOn : {T I : Type 0} → Ghosts T → (I → Option T → I → Type 0) → (I → Count) → I → View → View
    → Result (Vec T) AllocError → Result (Vec T) AllocError → Type 0
BuildsOn item steps left iter old new (Ok v) (Ok w) =
    (takes : TakesAll item steps left iter old new v w) × (vec_list item new.memory w ≡ takes.items)
BuildsOn {T} item steps left iter old new (Ok v) (Err e) = (w : Vec T)
    × TakesSome item steps left iter old new v w e
BuildsOn item steps left iter old new (Err e) result = (result ≡ Err e) × (new ≡ old)

-- A new vector, with this room at first, took an iterator's items.
pub record BuildsWith {T I : Type 0} (item : Ghosts T) (steps : I → Option T → I → Type 0) (left : I → Count) (iter : I) (old new : View)
    (room : ℕ) (result : Result (Vec T) AllocError) : Type 0 where
  pub between : View
  pub empty : Result (Vec T) AllocError
  pub makes : Makes {X = Vec T} item (λ v. v.raw) old between room [] empty
  pub taken : BuildsOn item steps left iter between new empty result

-- The room was the one that the iterator's hints give.
pub record BuildsFrom {T I : Type 0} (item : Ghosts T) (steps : I → Option T → I → Type 0) (left : I → Count) (iter : I) (old new : View)
    (result : Result (Vec T) AllocError) : Type 0 where
  pub least : ℕ
  pub most : Option ℕ
  pub lower : IsWithinCount least (left iter)
  pub upper : IfSome most (UpTo (left iter))
  pub builds : BuildsWith item steps left iter old new (first_room item.SIZE least most) result
