use Rattle.std.proofs.Common.{◌∙◌, [], ◌∷◌, IsTrue}
use Rattle.arena_chunks.specs.Memory.{is_readable}
use Rattle.example_blocks.proofs.together.write_two.Goals as goal

pub returns-clause-one : goal.returns-clause-one
returns-clause-one g c = record {
  readable = rw (c.write-2.ensures.writes.state, c.write.ensures.writes.state) c.requires.one;
  bytes = c.written.ensures.whole _ _ c.args.one c.args.bytes.now c.write-2.ensures.writes c.requires.one_length;
}

pub returns-clause-other : goal.returns-clause-other
returns-clause-other g c =
    let readable : IsTrue (is_readable c.write.new.self.memory.state c.args.other) = rw c.write.ensures.writes.state c.requires.other in
    let stays = c.frames.ensures.keeps _ _ (c.args.one ∷ []) (c.args.one ∷ []) c.args.other c.write-2.ensures.writes.frame readable
    (c.requires.apart, tt) in
    record {
      readable = stays.readable;
      bytes = stays.bytes ∙ c.written.ensures.whole _ _ c.args.other c.args.bytes.now c.write.ensures.writes c.requires.other_length;
    }

pub returns-clause-others : goal.returns-clause-others
returns-clause-others g c =
    let frame = c.frames.ensures.both _ _ _ (c.args.one ∷ []) (c.args.other ∷ []) (c.args.one ∷ []) (c.args.other ∷ [])
    c.write.ensures.writes.frame c.write-2.ensures.writes.frame in
    c.frames.ensures.keeps_all _ _ (c.args.one ∷ c.args.other ∷ [])
    (c.args.one ∷ c.args.other ∷ []) c.args.others.now frame c.requires.others
    ((c.all_apart.ensures.from_both c.args.others.now (c.args.one ∷ []) (c.args.other ∷ [])).1
    (c.requires.beside_one, c.requires.beside_other))
