-- What a command does to the objects: one case for each command, with its refusals in their order, its reply and its cost.
use Rattle.std.specs.Prelude.{ℕ, ◌+◌, ◌-◌, ◌*◌, min, nat_le, nat_lt, Bool, if◌then◌else◌, Option, Some, None, List, [], ◌∷◌, ◌++◌, length, take, slice_get, set}
use Rattle.std.specs.List.{list_any, insert, remove, flat_map}
use Rattle.arena_rules.specs.Bits.{below, members, words_for}
use Rattle.arena_rules.specs.PrintedBits.{printed}
use Rattle.script_rules.specs.Objects.{Entries, get, bind, unbind, Bits, has, united, bits_end, Object, AList, AText, ASet, AMap, AValue, copy_cost, most_items, most_bytes, most_pairs}
use Rattle.script_rules.specs.declared.commands.Command.{Command}
use Rattle.script_rules.specs.declared.commands.Command.TheVariants.{MakeList, MakeText, MakeBits, MakeMap, MakeValue, Push, Insert, Pop, Remove, At, Put, Truncate, Byte, Front, Append, SetBit, UnsetBit, HasBit, Union, Ones, Bind, Find, Unbind, Load, Store, Len, Show, CopyTo, DropName}
use Rattle.script_rules.specs.declared.commands.ScriptReply.{ScriptReply}
use Rattle.script_rules.specs.declared.commands.ScriptReply.TheVariants.{Done, Number, Nothing, Truth, Bytes, Numbers, Printed, NoSuchName, NameTaken, WrongKind, OutOfRange, NotAscii, CapacityOverflow}

-- The effect of a command: it reports something and changes nothing, or a name gets an object, or a name is removed.
pub data Effect : Type 0 where
  Tells : (reply : ScriptReply) → Effect
  Gives : (name : ℕ) (object : Object) (reply : ScriptReply) (cost : ℕ) → Effect
  LetsGo : (name : ℕ) → Effect

-- ---- Refusals: a refused command reports why

-- the name holds an object
abbrev pub held : Option Object → (Object → Effect) → Effect
held None go = Tells NoSuchName
held (Some object) go = go object

-- the name holds none
abbrev pub free : Option Object → Effect → Effect
free None go = go
free (Some object) go = Tells NameTaken

-- the object is of a kind
abbrev pub a_list : Object → (List ℕ → Effect) → Effect
a_list (AList items) go = go items
a_list object go = Tells WrongKind

abbrev pub a_text : Object → (List ℕ → Effect) → Effect
a_text (AText bytes) go = go bytes
a_text object go = Tells WrongKind

abbrev pub a_set : Object → (ℕ → Bits → Effect) → Effect
a_set (ASet capacity bits) go = go capacity bits
a_set object go = Tells WrongKind

abbrev pub a_map : Object → (Entries ℕ → Effect) → Effect
a_map (AMap pairs) go = go pairs
a_map object go = Tells WrongKind

abbrev pub a_value : Object → (ℕ → Effect) → Effect
a_value (AValue value) go = go value
a_value object go = Tells WrongKind

-- the test fails
abbrev pub unless : Bool → ScriptReply → Effect → Effect
unless test reply go = if test then Tells reply else go

-- there is a number at an index
abbrev pub at_index : Option ℕ → (ℕ → Effect) → Effect
at_index None go = Tells OutOfRange
at_index (Some n) go = go n

-- all bytes are ASCII, and a text of `len` bytes has room for them
abbrev pub not_ascii : ℕ → Bool
not_ascii byte = nat_lt 127 byte

abbrev pub joins : List ℕ → ℕ → Effect → Effect
joins more len go = unless (list_any not_ascii more) NotAscii (unless (nat_lt most_bytes (len + length more)) CapacityOverflow go)

-- ---- Replies

abbrev pub number_or_nothing : Option ℕ → ScriptReply
number_or_nothing None = Nothing
number_or_nothing (Some n) = Number n

abbrev pub length_reply : Object → ScriptReply
length_reply (AList items) = Number (length items)
length_reply (AText bytes) = Number (length bytes)
length_reply (ASet capacity bits) = Number capacity
length_reply (AMap pairs) = Number (length pairs)
length_reply (AValue value) = WrongKind

abbrev pub shown : Object → ScriptReply
shown (AList items) = Numbers items
shown (AText bytes) = Bytes bytes
shown (ASet capacity bits) = Printed (printed (words_for capacity) (has bits))
shown (AMap pairs) = Numbers (flat_map (λ (e : ℕ × ℕ). e.0 ∷ e.1 ∷ []) pairs)
shown (AValue value) = Number value

-- a new key costs, and there may be no room for it
abbrev pub binds : ℕ → Entries ℕ → ℕ → ℕ → Option ℕ → Effect
binds name pairs key value None =
    unless (nat_le most_pairs (length pairs)) CapacityOverflow (Gives name (AMap (bind pairs key value)) Nothing 256)
binds name pairs key value (Some old) = Gives name (AMap (bind pairs key value)) (Number old) 0

-- ---- Commands

-- What a command does, by what each name holds. Refusals come in the order in which they are named here.
unfoldable pub effect : Command → (ℕ → Option Object) → Effect
effect (MakeList name) of = free (of name) (Gives name (AList []) Done 0)
effect (MakeText name) of = free (of name) (Gives name (AText []) Done 32)
effect (MakeBits name capacity) of = free (of name) (Gives name (ASet capacity []) Done (8 * words_for capacity + 7))
effect (MakeMap name) of = free (of name) (Gives name (AMap []) Done 0)
effect (MakeValue name value) of = free (of name) (Gives name (AValue value) Done 15)
effect (Push name value) of = held (of name) (λ o. a_list o (λ items. unless (nat_le most_items (length items)) CapacityOverflow
    (Gives name (AList (items ++ value ∷ [])) Done 24)))
effect (Insert name at value) of = held (of name) (λ o. a_list o (λ items. unless (nat_lt (length items) at) OutOfRange
    (unless (nat_le most_items (length items)) CapacityOverflow (Gives name (AList (insert items at value)) Done 24))))
effect (Pop name) of =
    held (of name) (λ o. a_list o
    (λ items. Gives name (AList (take (length items - 1) items)) (number_or_nothing (slice_get items (length items - 1))) 0))
effect (Remove name at) of =
    held (of name) (λ o. a_list o (λ items. at_index (slice_get items at) (λ n. Gives name (AList (remove items at)) (Number n) 0)))
effect (At name at) of = held (of name) (λ o. a_list o (λ items. at_index (slice_get items at) (λ n. Tells (Number n))))
effect (Put name at value) of =
    held (of name) (λ o. a_list o (λ items. at_index (slice_get items at) (λ n. Gives name (AList (set items at value)) Done 0)))
effect (Truncate name len) of = held (of name) (λ o. a_list o (λ items. Gives name (AList (take len items)) Done 0))
effect (Byte name byte) of =
    held (of name) (λ o. a_text o (λ bytes. joins (byte ∷ []) (length bytes) (Gives name (AText (bytes ++ byte ∷ [])) Done 4)))
effect (Front name byte) of =
    held (of name) (λ o. a_text o (λ bytes. joins (byte ∷ []) (length bytes) (Gives name (AText (byte ∷ bytes)) Done 4)))
effect (Append name more) of =
    held (of name) (λ o. a_text o (λ bytes. joins more (length bytes) (Gives name (AText (bytes ++ more)) Done (4 * length more))))
effect (SetBit name bit) of = held (of name) (λ o. a_set o (λ capacity bits. unless (nat_le (bits_end capacity) bit) OutOfRange
    (Gives name (ASet capacity (bind bits bit tt)) Done 0)))
effect (UnsetBit name bit) of = held (of name) (λ o. a_set o (λ capacity bits. unless (nat_le (bits_end capacity) bit) OutOfRange
    (Gives name (ASet capacity (unbind bits bit)) Done 0)))
effect (HasBit name bit) of = held (of name) (λ o. a_set o (λ capacity bits. Tells (Truth (below capacity (has bits) bit))))
effect (Union name other) of = held (of name) (λ o. held (of other) (λ p. a_set o (λ capacity bits. a_set p (λ others more.
    Gives name (ASet capacity (united (min (bits_end capacity) (bits_end others)) bits more)) Done 0))))
effect (Ones name) of = held (of name) (λ o. a_set o (λ capacity bits. Tells (Numbers (members (has bits) 0 capacity))))
effect (Bind name key value) of = held (of name) (λ o. a_map o (λ pairs. binds name pairs key value (get pairs key)))
effect (Find name key) of = held (of name) (λ o. a_map o (λ pairs. Tells (number_or_nothing (get pairs key))))
effect (Unbind name key) of =
    held (of name) (λ o. a_map o (λ pairs. Gives name (AMap (unbind pairs key)) (number_or_nothing (get pairs key)) 0))
effect (Load name) of = held (of name) (λ o. a_value o (λ value. Tells (Number value)))
effect (Store name new) of = held (of name) (λ o. a_value o (λ value. Gives name (AValue new) Done 0))
effect (Len name) of = held (of name) (λ o. Tells (length_reply o))
effect (Show name) of = held (of name) (λ o. Tells (shown o))
effect (CopyTo name other) of = held (of name) (λ o. free (of other) (Gives other o Done (copy_cost o)))
effect (DropName name) of = held (of name) (λ o. LetsGo name)
