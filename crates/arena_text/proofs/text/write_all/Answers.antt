use Rattle.std.proofs.Common.{arith, refl, ◌∙◌}
use Rattle.std.proofs.lemmas.Str.{IsUtf8-nil}
use Rattle.arena_chunks.proofs.Layers.{writes_nothing}
use Rattle.arena_text.proofs.TextLemmas.{one_more, utf8_more}
use Rattle.arena_text.proofs.text.write_all.Goals as goal

pub loop-s-init : goal.loop-s-init
loop-s-init g c = record {
  end = refl;
  writes = writes_nothing c.args.a.now.memory c.args.block 0 c.known.ensures.valid (omega arith);
  utf8 = IsUtf8-nil;
  source = refl;
}

pub loop-s-preserved : goal.loop-s-preserved
loop-s-preserved g c =
    let inv = c.loop-s.invariant in
    let writes = rw (c.as_bytes.ensures.value, c.as_str-text.ensures) at c.write.ensures.writes in
    let text = rw (c.as_bytes.ensures.value, c.as_str-text.ensures) at c.as_bytes.ensures.utf8 in
    let one = one_more g.T.AsStr.text c.args.strings.now c.loop-s.s-index _ _ _ _ _ _ (omega arith) c.s-item.is inv.end inv.writes writes in
    let utf8 = utf8_more g.T.AsStr.text c.args.strings.now c.loop-s.s-index _ (omega arith) c.s-item.is inv.utf8 text in
    record { end = rw c.as_str-text.ensures one.1; writes = one.0; utf8 = utf8; source = c.write.ensures.source ∙ inv.source }
