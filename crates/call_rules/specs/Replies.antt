-- The lines of replies.
use Rattle.std.specs.Prelude.{ℕ, List, [], ◌∷◌, ◌++◌, codes}
use Rattle.std.specs.List.{flat_map, AllByRecursion}
use Rattle.line_parts.specs.Numbers.{fields, hex, with_feed, IsByte}
use Rattle.call_rules.specs.declared.calls.Reply.{Reply}
use Rattle.call_rules.specs.declared.calls.Reply.TheVariants.{Placed, Done, Bytes, Number, AllocErr, NoSuchName, NameTaken, BadLayout, OutOfRange}

-- a reply's line without its line feed
abbrev pub reply_line : Reply → List ℕ
reply_line (Placed addr refused) = codes "placed" ++ fields (addr ∷ []) ++ codes " refused" ++ fields (refused ∷ [])
reply_line Done = codes "done"
reply_line (Bytes bytes) = codes "bytes " ++ hex bytes
reply_line (Number n) = codes "number" ++ fields (n ∷ [])
reply_line (AllocErr refused) = codes "allocerr refused" ++ fields (refused ∷ [])
reply_line NoSuchName = codes "no such name"
reply_line NameTaken = codes "name taken"
reply_line BadLayout = codes "bad layout"
reply_line OutOfRange = codes "out of range"

-- the text of replies, a line for each
abbrev pub text_of : List Reply → List ℕ
text_of replies = flat_map (λ reply. with_feed (reply_line reply)) replies

-- a reply's bytes are from 0 to 255
abbrev pub HasBytes : Reply → Type 0
HasBytes (Bytes bytes) = AllByRecursion IsByte bytes
HasBytes reply = Unit {0}
