use Rattle.std.proofs.Common.{arith, ◌≡◌, ◌+◌, [], refl}
use Rattle.arena_chunks.proofs.Layers.{frame_keeps_beside}
use Rattle.arena_items.specs.Values.{bytes_of}
use Rattle.arena_items.proofs.Layers.{elements-empty}
use Rattle.raw_vec.specs.Growth.{amortised_growth}
use Rattle.arena_vec.specs.Vecs.{vec_list}
use Rattle.arena_items.specs.declared.room.Growth.TheVariants.{Stays}
use Rattle.arena_vec.proofs.VecLemmas.{untouched, room_of}
use Rattle.arena_vec.proofs.BulkLemmas.{no_growth}
use Rattle.arena_vec.proofs.SpliceLemmas.{replaced_none, replaced_len, grows_nothing, inserted_all}
use Rattle.arena_vec.proofs.splice.insert_all.Goals as goal

pub returns-then-n-eq0 : goal.returns-then-n-eq0
returns-then-n-eq0 g c =
    let item = g.T.Item in
    let a = c.args.a.now in
    let v = c.args.vec.now in
    let other = c.args.other in
    let none : vec_list item a.memory other ≡ [] =
    elements-empty item.SIZE item.decoded other.raw.len (bytes_of a.memory other.raw.block) c.if-n-eq0.true in
    let stays : amortised_growth item.SIZE v.raw.cap (v.raw.len + other.raw.len) ≡ Stays =
    no_growth item.SIZE v.raw.cap (v.raw.len + other.raw.len) _ (omega (arith, c.requires.held.within)) in
    rw (stays, none, replaced_none (vec_list item a.memory v) c.args.at)
    (grows_nothing (untouched item a v (vec_list item a.memory v) c.requires.held refl))

pub copy_items-requires-clause-target_range : goal.copy_items-requires-clause-target_range
copy_items-requires-clause-target_range g c =
    let wide = c.in_ok-widen.ensures in
    let len = replaced_len g.T.Item c.args.a.now.memory c.args.vec.now c.widen.new.vec c.args.at c.args.at wide.values c.requires.index
    wide.grows.len in
    room_of g.T.Item c.widen.new.a.memory c.widen.new.vec (c.args.at + c.args.other.raw.len) wide.grows.held
    (omega (arith, len, wide.many, c.requires.index, wide.grows.held.within))

pub returns : goal.returns
returns g c =
    let copied = c.copy_items.ensures in
    let wide = c.in_ok-widen.ensures in
    inserted_all c.requires.index c.requires.other wide (frame_keeps_beside _ _ c.args.vec.now.raw.block _ c.args.other.raw.block
    wide.grows.frame c.requires.other.place.readable c.requires.apart) copied.writes copied.source
