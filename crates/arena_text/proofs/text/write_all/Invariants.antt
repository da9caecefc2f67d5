use Rattle.std.proofs.Common.{◌≡◌, length, take, IsUtf8}
use Rattle.std.specs.List.{flat_map}
use Rattle.arena_chunks.specs.BlockCalls.{WritesBlock}
use Rattle.arena_text.proofs.text.write_all.Given as goal

abbrev pub invariant-loop-s : goal.invariant-loop-s
invariant-loop-s g l = record {
  end : l.at ≡ length (flat_map g.T.AsStr.text (take l.s-index l.strings));
  writes : WritesBlock l.initial.a.memory l.a.memory l.block 0 (flat_map g.T.AsStr.text (take l.s-index l.strings));
  utf8 : IsUtf8 (flat_map g.T.AsStr.text (take l.s-index l.strings));
  source : l.a.source ≡ l.initial.a.source;
}
