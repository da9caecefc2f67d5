-- What a command gives: a well-formed object, which needs no more than what the name held and what the command costs.
use Rattle.std.proofs.Common.{◌≡◌, ℕ, zero, suc, ◌+◌, ◌-◌, ◌*◌, ◌<◌, ◌≤◌, min, refl, ap, arith, Bool, false, cond, not, ◌||◌, is_some, Some, None, Option, List, [], ◌∷◌, length, length-append, length-take, length-set, slice_get, true≢false}
use Rattle.std.specs.Prelude.{nat_lt, nat_le, IfSome, if◌then◌else◌}
use Rattle.std.specs.Ordering.{nat_cmp, eq_by_cmp}
use Rattle.std.specs.List.{AllByRecursion, list_any}
use Rattle.std.proofs.lemmas.Bool.Decides.{nat_tests}
use Rattle.std.proofs.lemmas.List.Edits.{length-insert, length-remove}
use Rattle.std.proofs.lemmas.Option.{slice_get_within}
use Rattle.arena_rules.specs.Bits.{Set, words_for}
use Rattle.arena_rules.proofs.ListLemmas.{all_append}
use Rattle.arena_rules.specs.PrintedBits.{digits, lower, printed}
use Rattle.line_parts.specs.Numbers.{IsByte}
use Rattle.script_rules.specs.Objects.{Entries, get, Bits, bits_end, has, Object, AList, AText, ASet, AMap, AValue, copy_cost, need_of, most_items, most_bytes, IsObject}
use Rattle.script_rules.specs.Effects.{Effect, Tells, Gives, LetsGo, held, free, a_list, a_text, a_set, a_map, a_value, unless, joins, at_index, binds, shown, length_reply, number_or_nothing, not_ascii, effect}
use Rattle.script_rules.specs.Machine.{is_refusal}
use Rattle.script_rules.specs.Outcomes.{IsPrintedByte, HasBytes}
use Rattle.script_rules.specs.declared.commands.Command.{Command}
use Rattle.script_rules.specs.declared.commands.Command.TheVariants.{MakeList, MakeText, MakeBits, MakeMap, MakeValue, Push, Insert, Pop, Remove, At, Put, Truncate, Byte, Front, Append, SetBit, UnsetBit, HasBit, Union, Ones, Bind, Find, Unbind, Load, Store, Len, Show, CopyTo, DropName}
use Rattle.script_rules.specs.declared.commands.ScriptReply.{ScriptReply}
use Rattle.script_rules.specs.declared.commands.ScriptReply.TheVariants.{Done, OutOfRange, CapacityOverflow}
use Rattle.script_rules.proofs.EntryLemmas.{all_filter, length_filter, all_bind, rising_bind, rising_unbind, length_bind, all_united, rising_united, need_held}

abbrev pub HoldsObject : Option Object → Type 0
HoldsObject held = IfSome held IsObject

-- no refusal
abbrev IsServed : ScriptReply → Type 0
IsServed reply = (is_refusal reply ≡ false) × HasBytes reply

served_done : IsServed Done
served_done = (refl, tt)

-- What is given is served, is an object, and is paid for.
abbrev pub Serves : (ℕ → Option Object) → Effect → Type 0
Serves of (Tells reply) = HasBytes reply
Serves of (Gives name o reply cost) = IsServed reply × IsObject o × (need_of o ≤ need_held (of name) + cost)
Serves of (LetsGo name) = Unit {0}

-- ---- By the kind of what the name holds

-- What holds of an object that a name holds, of some kind: it is one, and its need is that of the name.
abbrev IsOld : (ℕ → Option Object) → ℕ → Object → Type 0
IsOld of name o = IsObject o × (need_held (of name) ≡ need_of o)

module _ (of : ℕ → Option Object) where
  by_free : (name : ℕ) (o : Object) (cost : ℕ) → IsObject o → need_of o ≤ cost → Serves of (free (of name) (Gives name o Done cost))
  by_free name o cost is paid = grind (arith, nat_tests, served_done)

  by_held : (name : ℕ) (go : Object → Effect) → HoldsObject (of name) → ((o : Object) → IsOld of name o → Serves of (go o))
      → Serves of (held (of name) go)
  by_held name go is f = by (of name) refl is
    where
      by : (x : Option Object) → of name ≡ x → HoldsObject x → Serves of (held x go)
      by None e h = tt
      by (Some o) e h = f o (h, ap need_held e)

  by_list : (name : ℕ) (go : List ℕ → Effect) (o : Object) → IsOld of name o
      → ((items : List ℕ) → IsOld of name (AList items) → Serves of (go items)) → Serves of (a_list o go)
  by_list name go o is f = grind (arith, nat_tests)

  by_text : (name : ℕ) (go : List ℕ → Effect) (o : Object) → IsOld of name o
      → ((bytes : List ℕ) → IsOld of name (AText bytes) → Serves of (go bytes)) → Serves of (a_text o go)
  by_text name go o is f = grind (arith, nat_tests)

  by_set : (name : ℕ) (go : ℕ → Bits → Effect) (o : Object) → IsOld of name o
      → ((capacity : ℕ) (bits : Bits) → IsOld of name (ASet capacity bits) → Serves of (go capacity bits)) → Serves of (a_set o go)
  by_set name go o is f = grind (arith, nat_tests)

  by_map : (name : ℕ) (go : Entries ℕ → Effect) (o : Object) → IsOld of name o
      → ((pairs : Entries ℕ) → IsOld of name (AMap pairs) → Serves of (go pairs)) → Serves of (a_map o go)
  by_map name go o is f = grind (arith, nat_tests)

  by_value : (name : ℕ) (go : ℕ → Effect) (o : Object) → IsOld of name o
      → ((value : ℕ) → IsOld of name (AValue value) → Serves of (go value)) → Serves of (a_value o go)
  by_value name go o is f = grind (arith, nat_tests)

  by_unless : (test : Bool) (reply : ScriptReply) (e : Effect) → HasBytes reply → (test ≡ false → Serves of e)
      → Serves of (unless test reply e)
  by_unless test reply e has f = grind (arith, nat_tests)

  by_index : (items : List ℕ) (i : ℕ) (go : ℕ → Effect) → ((n : ℕ) → i < length items → Serves of (go n))
      → Serves of (at_index (slice_get items i) go)
  by_index items i go f = grind (arith, nat_tests, slice_get, slice_get_within)

  by_copy : (name : ℕ) (o : Object) → IsObject o → Serves of (free (of name) (Gives name o Done (copy_cost o)))
  by_copy name o is = grind (arith, nat_tests, by_free)

-- ---- Parts

number_served : (o : Option ℕ) → IsServed (number_or_nothing o)
number_served o = grind (arith, nat_tests)

byte_of : (b : ℕ) → b < 128 → IsByte b
byte_of b h = omega (arith, h)

all_bytes : (bytes : List ℕ) → AllByRecursion (λ b. b < 128) bytes → AllByRecursion IsByte bytes
all_bytes [] h = tt
all_bytes (b ∷ bytes) h = (byte_of b h.0, all_bytes bytes h.1)

-- ---- Printed forms

digit_printed : (b : Bool) → IsPrintedByte (if b then 49 else 48)
digit_printed b = grind (arith, nat_tests)

digits_printed : (set : Set) (from n : ℕ) → AllByRecursion IsPrintedByte (digits set from n)
unfolding digits
digits_printed set from zero = tt
digits_printed set from (suc n) = (digit_printed (set (from + n)), digits_printed set from n)

lower_printed : (set : Set) (n : ℕ) → AllByRecursion IsPrintedByte (lower set n)
unfolding lower
lower_printed set zero = tt
lower_printed set (suc n) = (
  (λ e. omega (arith, e), λ e. omega (arith, e)),
  all_append _ (digits set (8 * n) 8) (lower set n) (digits_printed set (8 * n) 8)
      (lower_printed set n),
)

all_printed : (words : ℕ) (set : Set) → AllByRecursion IsPrintedByte (printed words set)
unfolding printed
all_printed words set = grind (arith, nat_tests, all_append, digits_printed, lower_printed)

shown_bytes : (o : Object) → IsObject o → HasBytes (shown o)
shown_bytes o is = grind (arith, nat_tests, all_bytes, all_printed)

length_bytes : (o : Object) → HasBytes (length_reply o)
length_bytes o = grind (arith, nat_tests)

none_of_two : (a b : Bool) → (a || b) ≡ false → (a ≡ false) × (b ≡ false)
none_of_two a b h = grind (arith, nat_tests, true≢false)

ascii : (b : ℕ) → not_ascii b ≡ false → b < 128
ascii b h = grind (arith, nat_tests)

all_ascii : (bytes : List ℕ) → list_any not_ascii bytes ≡ false → AllByRecursion (λ b. b < 128) bytes
all_ascii [] h = tt
all_ascii (b ∷ bytes) h = let parts = none_of_two (not_ascii b) (list_any not_ascii bytes) h in (ascii b parts.0, all_ascii bytes parts.1)

below : (a b : ℕ) → nat_le a b ≡ false → b < a
below a b h = grind (arith, nat_tests)

within : (a b : ℕ) → nat_lt a b ≡ false → b ≤ a
within a b h = grind (arith, nat_tests)

by_joins : (of : ℕ → Option Object) (more : List ℕ) (len : ℕ) (go : Effect)
    → (AllByRecursion (λ b. b < 128) more → len + length more ≤ most_bytes → Serves of go) → Serves of (joins more len go)
by_joins of more len go f = grind (arith, nat_tests, by_unless, all_ascii, within)

by_bind : (of : ℕ → Option Object) (name : ℕ) (pairs : Entries ℕ) (key value : ℕ) → IsOld of name (AMap pairs)
    → Serves of (binds name pairs key value (get pairs key))
by_bind of name pairs key value is = grind (arith, nat_tests, length_bind, rising_bind, by_unless, cond, is_some, below)

-- ---- Each command

pub serves : (c : Command) (of : ℕ → Option Object) → ((n : ℕ) → HoldsObject (of n)) → Serves of (effect c of)
unfolding effect
serves (MakeList name) of is = by_free of name (AList []) 0 (omega arith) (omega arith)
serves (MakeText name) of is = by_free of name (AText []) 32 (tt, omega arith) (omega arith)
serves (MakeBits name capacity) of is = by_free of name (ASet capacity []) (8 * words_for capacity + 7) (tt, refl) (omega arith)
serves (MakeMap name) of is = by_free of name (AMap []) 0 (omega arith, refl) (omega arith)
serves (MakeValue name value) of is = by_free of name (AValue value) 15 tt (omega arith)
serves (Push name value) of is = by_held of name _ (is name) (λ p old. by_list of name _ p old (λ items o.
    by_unless of (nat_le most_items (length items)) CapacityOverflow _ tt (λ room.
    let count = length-append items (value ∷ []) in
    (served_done, omega (arith, count, below most_items (length items) room), omega (arith, count, o.1)))))
serves (Insert name at value) of is = by_held of name _ (is name) (λ p old. by_list of name _ p old (λ items o.
    by_unless of (nat_lt (length items) at) OutOfRange _ tt (λ inside.
    by_unless of (nat_le most_items (length items)) CapacityOverflow _ tt (λ room.
    let count = length-insert items at value (within (length items) at inside) in
    (served_done, omega (arith, count, below most_items (length items) room), omega (arith, count, o.1))))))
serves (Pop name) of is = by_held of name _ (is name) (λ p old. by_list of name _ p old (λ items o.
    let count = length-take (length items - 1) items in
    (number_served (slice_get items (length items - 1)), omega (arith, count, o.0), omega (arith, count, o.1))))
serves (Remove name at) of is =
    by_held of name _ (is name) (λ p old. by_list of name _ p old (λ items o. by_index of items at _ (λ n inside.
    let count = length-remove items at inside in ((refl, tt), omega (arith, count, o.0), omega (arith, count, o.1)))))
serves (At name at) of is =
    by_held of name _ (is name) (λ p old. by_list of name _ p old (λ items o. by_index of items at _ (λ n inside. tt)))
serves (Put name at value) of is =
    by_held of name _ (is name) (λ p old. by_list of name _ p old (λ items o. by_index of items at _ (λ n inside.
    let count = length-set items at value in (served_done, omega (arith, count, o.0), omega (arith, count, o.1)))))
serves (Truncate name len) of is = by_held of name _ (is name) (λ p old. by_list of name _ p old (λ items o.
    let count = length-take len items in (served_done, omega (arith, count, o.0), omega (arith, count, o.1))))
serves (Byte name byte) of is =
    by_held of name _ (is name) (λ p old. by_text of name _ p old (λ bytes o. by_joins of (byte ∷ []) (length bytes) _ (λ low room.
    let count = length-append bytes (byte ∷ []) in
    (served_done, (all_append _ bytes (byte ∷ []) o.0.0 low, omega (arith, count, room)), omega (arith, count, o.1)))))
serves (Front name byte) of is =
    by_held of name _ (is name) (λ p old. by_text of name _ p old (λ bytes o. by_joins of (byte ∷ []) (length bytes) _ (λ low room.
    (served_done, ((low.0, o.0.0), omega (arith, room)), omega (arith, o.1)))))
serves (Append name more) of is =
    by_held of name _ (is name) (λ p old. by_text of name _ p old (λ bytes o. by_joins of more (length bytes) _ (λ low room.
    let count = length-append bytes more in
    (served_done, (all_append _ bytes more o.0.0 low, omega (arith, count, room)), omega (arith, count, o.1)))))
serves (SetBit name bit) of is = by_held of name _ (is name) (λ p old. by_set of name _ p old (λ capacity bits o.
    by_unless of (nat_le (bits_end capacity) bit) OutOfRange _ tt (λ low.
    (served_done, (all_bind _ bits bit tt (below (bits_end capacity) bit low) o.0.0, rising_bind bits bit tt o.0.1), omega (arith, o.1)))))
serves (UnsetBit name bit) of is = by_held of name _ (is name) (λ p old. by_set of name _ p old (λ capacity bits o.
    by_unless of (nat_le (bits_end capacity) bit) OutOfRange _ tt (λ low.
    (served_done, (all_filter _ _ bits o.0.0, rising_unbind bits bit o.0.1), omega (arith, o.1)))))
serves (HasBit name bit) of is = by_held of name _ (is name) (λ p old. by_set of name _ p old (λ capacity bits o. tt))
serves (Union name other) of is =
    by_held of name _ (is name) (λ p old. by_held of other _ (is other) (λ q from. by_set of name _ p old (λ capacity bits o.
    by_set of other _ q from (λ others more m. (
      served_done,
      (
        all_united _ (min (bits_end capacity) (bits_end others)) bits more o.0.0
            (λ bit low. omega (arith, low)),
        rising_united _ bits more o.0.1,
      ),
      omega (arith, o.1),
    )))))
serves (Ones name) of is = by_held of name _ (is name) (λ p old. by_set of name _ p old (λ capacity bits o. tt))
serves (Bind name key value) of is =
    by_held of name _ (is name) (λ p old. by_map of name _ p old (λ pairs o. by_bind of name pairs key value o))
serves (Find name key) of is = by_held of name _ (is name) (λ p old. by_map of name _ p old (λ pairs o. (number_served (get pairs key)).1))
serves (Unbind name key) of is = by_held of name _ (is name) (λ p old. by_map of name _ p old (λ pairs o.
    let count = length_filter (λ (e : ℕ × ℕ). not (eq_by_cmp nat_cmp key e.0)) pairs in
    (number_served (get pairs key), (omega (arith, count, o.0.0), rising_unbind pairs key o.0.1), omega (arith, count, o.1))))
serves (Load name) of is = by_held of name _ (is name) (λ p old. by_value of name _ p old (λ value o. tt))
serves (Store name new) of is =
    by_held of name _ (is name) (λ p old. by_value of name _ p old (λ value o. (served_done, tt, omega (arith, o.1))))
serves (Len name) of is = by_held of name _ (is name) (λ p old. length_bytes p)
serves (Show name) of is = by_held of name _ (is name) (λ p old. shown_bytes p old.0)
serves (CopyTo name other) of is = by_held of name _ (is name) (λ p old. by_copy of other p old.0)
serves (DropName name) of is = by_held of name _ (is name) (λ p old. tt)
