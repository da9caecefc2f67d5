-- What is read of a line of calls.
use Rattle.std.specs.Prelude.{ℕ, nat_eq, IsTrue, List}
use Rattle.std.specs.List.{starts_with}
use Rattle.call_rules.specs.Grammar.{Fits, call_line}
use Rattle.call_rules.specs.declared.calls.Call.{Call}

-- a call whose line begins with this word
abbrev pub BeginsWith : List ℕ → Call → Type 0
BeginsWith word call = Fits call × IsTrue (starts_with nat_eq (call_line call) word)
