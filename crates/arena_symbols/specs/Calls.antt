-- Calls on the names of a program, without an arena: the reply to each, and its effect on a list of texts and a list of
-- maps.
use Rattle.std.specs.Prelude.{◌≡◌, ℕ, ◌+◌, ◌^◌, ◌<◌, ◌≤◌, ◌⊎◌, List, [], ◌∷◌, None, Bool, true, false, not, length, slice_get, if◌then◌else◌}
use Rattle.arena_items.specs.declared.room.AllocError.{AllocError}
use Rattle.arena_items.specs.declared.room.AllocError.TheVariants.{AllocErr, CapacityOverflow, OutOfMemory}
use Rattle.arena_symbols.specs.Interner.{number_of, with_text, most_texts}
use Rattle.arena_symbols.specs.Scoping.{lookup, is_in_last, with_pair, outer_of, pair_count, most_scopes, most_pairs}
use Rattle.arena_symbols.specs.declared.calls.Call.{Call}
use Rattle.arena_symbols.specs.declared.calls.Call.TheVariants.{Intern, Find, Text, Len, Enter, Leave, Define, Lookup, InLast, Depth}
use Rattle.arena_symbols.specs.declared.calls.Reply.{Reply}
use Rattle.arena_symbols.specs.declared.calls.Reply.TheVariants.{Number, Name, Count, Said, Done}

-- the texts, by their numbers, and the maps, the innermost first
pub record State : Type 0 where
  pub texts : List (List ℕ)
  pub scopes : List (List (ℕ × ℕ))

-- whether there is a map outside of the innermost
abbrev pub has_outer : List (List (ℕ × ℕ)) → Bool
has_outer (scope ∷ (next ∷ outer)) = true
has_outer scopes = false

-- The reply to a call,
abbrev pub answer : State → Call → Reply
answer s (Intern text) = Number (number_of (with_text s.texts text.now) text.now)
answer s (Find text) = Number (number_of s.texts text.now)
answer s (Text id) = Name (slice_get s.texts id)
answer s Len = Count (length s.texts)
answer s Enter = Done
answer s Leave = Said (has_outer s.scopes)
answer s (Define id value) = Said (not (is_in_last s.scopes id))
answer s (Lookup id) = Number (lookup s.scopes id)
answer s (InLast id) = Said (is_in_last s.scopes id)
answer s Depth = Count (length s.scopes)

-- and the state after it.
abbrev pub after : State → Call → State
after s (Intern text) = record s { texts = with_text s.texts text.now }
after s Enter = record s { scopes = [] ∷ s.scopes }
after s Leave = if has_outer s.scopes then record s { scopes = outer_of s.scopes } else s
after s (Define id value) = if is_in_last s.scopes id then s else record s { scopes = with_pair s.scopes id value }
after s call = s

-- The replies to calls made one after another, and the state after them.
abbrev pub answers : State → List Call → List Reply
answers s [] = []
answers s (call ∷ calls) = answer s call ∷ answers (after s call) calls

abbrev pub after_all : State → List Call → State
after_all s [] = s
after_all s (call ∷ calls) = after_all (after s call) calls

-- a call that would exceed the maximum number of texts, maps or pairs, or whose text is too long
abbrev pub IsFull : State → Call → Type 0
IsFull s (Intern text) = (2 ^ 32 ≤ length text.now) ⊎ ((number_of s.texts text.now ≡ None) × (most_texts ≤ length s.texts))
IsFull s Enter = most_scopes ≤ length s.scopes
IsFull s (Define id value) = (is_in_last s.scopes id ≡ false) × (most_pairs ≤ pair_count s.scopes)
IsFull s call = ⊥

-- Calls made one after another, none of which is full.
abbrev pub HaveRoom : State → List Call → Type 0
HaveRoom s [] = Unit {0}
HaveRoom s (call ∷ calls) = (IsFull s call → ⊥) × HaveRoom (after s call) calls

-- ---- Why a call is refused

-- a call that adds something: a text that has no number, a map, or a pair whose id the innermost map doesn't have
abbrev pub Adds : State → Call → Type 0
Adds s (Intern text) = number_of s.texts text.now ≡ None
Adds s Enter = Unit {0}
Adds s (Define id value) = is_in_last s.scopes id ≡ false
Adds s call = ⊥

-- a call that changes something: one that adds, or ends the innermost map
abbrev pub Changes : State → Call → Type 0
Changes s Leave = has_outer s.scopes ≡ true
Changes s call = Adds s call

-- a call that copies a text
abbrev pub Copies : State → Call → Type 0
Copies s (Text id) = id < length s.texts
Copies s call = ⊥

-- The errors that a call may return: it is full; the arena has no place for what it adds; or there is no memory for
-- that or for a copy.
abbrev pub MayAnswer : State → Call → AllocError → Type 0
MayAnswer s call CapacityOverflow = IsFull s call
MayAnswer s call (AllocErr k) = Adds s call
MayAnswer s call OutOfMemory = Adds s call ⊎ Copies s call

-- the most bytes that a call may bring into use, and that several calls may
abbrev pub bytes_for : Call → ℕ
bytes_for (Intern text) = 1024 + length text.now
bytes_for Enter = 64
bytes_for (Define id value) = 512
bytes_for call = 0

abbrev pub bytes_for_all : List Call → ℕ
bytes_for_all [] = 0
bytes_for_all (call ∷ calls) = bytes_for call + bytes_for_all calls
