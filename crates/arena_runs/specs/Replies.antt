-- Replies without bytes, and their receivers.
use Rattle.std.specs.Prelude.{Bool, true, false, List, ◌++◌}
use Rattle.call_rules.specs.declared.calls.Reply.{Reply}
use Rattle.call_rules.specs.declared.calls.Reply.TheVariants.{Bytes}

-- a reply that has the bytes of a block, and so may have any length
abbrev pub has_bytes : Reply → Bool
has_bytes (Bytes bytes) = true
has_bytes reply = false

-- a receiver that had taken some replies has taken no others since
abbrev pub StillTaken : {T : Type 0} → (T → List Reply → Type 0) → T → T → Type 0
StillTaken has_taken old new = (list : List Reply) → has_taken old list → has_taken new list

-- a receiver that had taken some replies has then taken these
abbrev pub TakesMore : {T : Type 0} → (T → List Reply → Type 0) → T → T → List Reply → Type 0
TakesMore has_taken old new more = (list : List Reply) → has_taken old list → has_taken new (list ++ more)
