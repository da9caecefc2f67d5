-- Calls from one number: each is given by its index and by drawn numbers.
use Rattle.std.specs.Prelude.{ℕ, zero, suc, ◌+◌, ◌*◌, ◌/◌, ◌%◌, ◌^◌, nat_lt, ◌==◌, ◌||◌, Bool, if◌then◌else◌, List, [], ◌∷◌, map}
use Rattle.std.specs.List.{range_with_len}
use Rattle.call_rules.specs.declared.calls.Call.{Call}
use Rattle.call_rules.specs.declared.calls.Call.TheVariants.{Alloc, Grow, Shrink, Dealloc, Write, Read, Reset}

-- A draw turns the seed into the next one, and returns that one's bits above the lowest 33.
abbrev pub next_seed : ℕ → ℕ
next_seed seed = (seed * 6364136223846793005 + 1442695040888963407) % 2 ^ 64

abbrev pub drawn : ℕ → ℕ
drawn seed = next_seed seed / 2 ^ 33

-- what a first number r gives: one of eight kinds of calls, and one of 256 names
abbrev pub kind_in : ℕ → ℕ
kind_in r = r % 8

abbrev pub name_in : ℕ → ℕ
name_in r = r / 8 % 256

-- what a second number q gives: a block's layout and fill byte, or the one byte that is written
abbrev pub size_in : ℕ → ℕ
size_in q = q % 512

abbrev pub align_in : ℕ → ℕ
align_in q = 2 ^ (q / 512 % 5)

abbrev pub fill_in : ℕ → ℕ
fill_in q = q / 4096 % 256

abbrev pub byte_in : ℕ → ℕ
byte_in q = q / 512 % 256

-- a call that gives back or reads a block needs no second number
abbrev pub needs_second : ℕ → Bool
needs_second kind = nat_lt kind 5 || kind == 6

-- the call of a kind
abbrev pub call_of_kind : ℕ → ℕ → ℕ → Call
call_of_kind kind name q =
    if nat_lt kind 3 then Alloc name (size_in q) (align_in q) (fill_in q)
    else (if kind == 3 then Grow name (size_in q) (align_in q) (fill_in q)
    else (if kind == 4 then Shrink name (size_in q) (align_in q)
    else (if kind == 5 then Dealloc name
    else (if kind == 6 then Write name (size_in q) (byte_in q ∷ [])
    else Read name))))

-- every 65,536th call is a reset
abbrev pub is_last_of_turn : ℕ → Bool
is_last_of_turn i = i % 65536 == 65535

-- the call with this index, from 0, at this seed: the first number gives its kind and name, the second all else
abbrev pub call_at : ℕ → ℕ → Call
call_at i seed =
    if is_last_of_turn i then Reset
    else call_of_kind (kind_in (drawn seed)) (name_in (drawn seed)) (drawn (next_seed seed))

-- the seed after that call: one draw further, two if a second number was drawn, and none for a reset
abbrev pub seed_behind : ℕ → ℕ → ℕ
seed_behind i seed =
    if is_last_of_turn i then seed
    else (if needs_second (kind_in (drawn seed)) then next_seed (next_seed seed) else next_seed seed)

-- the seed before the call with this index
unfoldable pub seed_before : ℕ → ℕ → ℕ
seed_before start zero = start
seed_before start (suc i) = seed_behind i (seed_before start i)

-- the first `count` calls
abbrev pub gen_calls : ℕ → ℕ → List Call
gen_calls start count = map (λ i. call_at i (seed_before start i)) (range_with_len 0 count)
