-- A summary of replies and a state, in eight numbers.
use Rattle.std.specs.Prelude.{ℕ, Bool, true, false, List, [], ◌∷◌, ◌++◌, length, sum, codes}
use Rattle.std.specs.List.{filter, flat_map}
use Rattle.arena_rules.specs.State.{State, used_bytes, allocated_bytes}
use Rattle.call_rules.specs.Counts.{is_placed}
use Rattle.line_parts.specs.Numbers.{fields}
use Rattle.call_rules.specs.declared.calls.Reply.{Reply}
use Rattle.call_rules.specs.declared.calls.Reply.TheVariants.{Bytes, AllocErr, NoSuchName, NameTaken, BadLayout, OutOfRange}

-- the reply says that there is no place
abbrev pub is_failed : Reply → Bool
is_failed (AllocErr refused) = true
is_failed reply = false

-- the reply refuses the call: its name doesn't exist or is taken, or the layout isn't valid or is out of range
abbrev pub is_named_refusal : Reply → Bool
is_named_refusal NoSuchName = true
is_named_refusal NameTaken = true
is_named_refusal BadLayout = true
is_named_refusal OutOfRange = true
is_named_refusal reply = false

-- how many replies are of a kind
abbrev pub count_of : (Reply → Bool) → List Reply → ℕ
count_of is replies = length (filter is replies)

-- the bytes of a reply
abbrev pub bytes_told : Reply → List ℕ
bytes_told (Bytes bytes) = bytes
bytes_told reply = []

-- all bytes that were read
abbrev pub bytes_read : List Reply → List ℕ
bytes_read replies = flat_map bytes_told replies

-- How many calls there were, and how many of them placed a block, found no place, or were refused by their reply; how
-- many bytes were read, and their sum; and how many bytes of the chunks are used, and how many the chunks have.
pub record Summary : Type 0 where
  pub calls : ℕ
  pub placed : ℕ
  pub failed : ℕ
  pub other : ℕ
  pub bytes : ℕ
  pub byte_sum : ℕ
  pub used : ℕ
  pub allocated : ℕ

abbrev pub summary_of : List Reply → State → Summary
summary_of replies state = record {
  calls = length replies;
  placed = count_of is_placed replies;
  failed = count_of is_failed replies;
  other = count_of is_named_refusal replies;
  bytes = length (bytes_read replies);
  byte_sum = sum (bytes_read replies);
  used = used_bytes state;
  allocated = allocated_bytes state;
}

-- a line of a word and a number
abbrev pub number_line : List ℕ × ℕ → List ℕ
number_line line = line.0 ++ (fields (line.1 ∷ []) ++ 10 ∷ [])

-- the eight lines
abbrev pub summary_text : Summary → List ℕ
summary_text s = flat_map number_line
    ((codes "calls", s.calls)
    ∷ (codes "placed", s.placed)
    ∷ (codes "failed", s.failed)
    ∷ (codes "other", s.other)
    ∷ (codes "bytes", s.bytes)
    ∷ (codes "sum", s.byte_sum)
    ∷ (codes "used", s.used)
    ∷ (codes "allocated", s.allocated)
    ∷ [])
