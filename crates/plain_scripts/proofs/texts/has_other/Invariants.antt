use Rattle.std.proofs.Common.{◌≡◌, drop}
use Rattle.std.specs.List.{list_any}
use Rattle.script_rules.specs.Effects.{not_ascii}
use Rattle.plain_scripts.proofs.texts.has_other.Given as goal

abbrev pub invariant-loop-byte : goal.invariant-loop-byte
invariant-loop-byte l = list_any not_ascii (drop l.byte-index l.bytes) ≡ list_any not_ascii l.bytes
