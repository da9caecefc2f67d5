use Rattle.std.proofs.Common.{rules, refl, ◌∙◌}
use Rattle.example_blocks.proofs.TryLemmas.{mark_accepted, stays_in_use}
use Rattle.example_blocks.proofs.tries.try_beside.Goals as goal

pub rewind-requires : goal.rewind-requires
rewind-requires g c =
    let placed = c.in_ok-_tried.ensures.placed in
    let keeps = c.kept_marks.ensures.alloc _ _ _ _ _ _ (c.sent_back.ensures.own _ placed.1.valid.entry) placed.1.outcome.step in
    rw c.checkpoint-mark.ensures (mark_accepted _ _ keeps)

pub get-requires-clause-held : goal.get-requires-clause-held
get-requires-clause-held g c =
    let placed = c.in_ok-_tried.ensures.placed in
    let keeps = c.kept_marks.ensures.alloc _ _ _ _ _ _ (c.sent_back.ensures.own _ placed.1.valid.entry) placed.1.outcome.step in
    let beside = c.frame_law.ensures _ _ _ _ c.args.kept placed.1.outcome.frame c.requires.kept (tt, tt) in
    let stays = stays_in_use _ _ keeps _ _ refl (rw c.checkpoint-mark.ensures at c.rewind.ensures.memory) (c.sent_back.ensures.at_once _) in
    (c.back_law.ensures.marked c.args.a.now.memory _ _ c.args.kept c.rewind.ensures.back stays beside.held
    (c.requires.kept.readable, tt)).held

pub returns : goal.returns
returns g c =
    let placed = c.in_ok-_tried.ensures.placed in
    let keeps = c.kept_marks.ensures.alloc _ _ _ _ _ _ (c.sent_back.ensures.own _ placed.1.valid.entry) placed.1.outcome.step in
    let beside = c.frame_law.ensures _ _ _ _ c.args.kept placed.1.outcome.frame c.requires.kept (tt, tt) in
    let sent = rw c.checkpoint-mark.ensures at c.rewind.ensures.memory in
    let stays = stays_in_use _ _ keeps _ _ refl sent (c.sent_back.ensures.at_once _) in
    let back = c.back_law.ensures.marked c.args.a.now.memory _ _ c.args.kept c.rewind.ensures.back stays beside.held
    (c.requires.kept.readable, tt) in
    record {
      back = record { between = _; box = c.in_ok-_tried._tried; placed = c.in_ok-_tried.ensures; follows = (sent, c.rewind.ensures.source) };
      held = back.held;
      means = back.means ∙ beside.means;
      value = c.get.ensures ∙ (back.means ∙ beside.means);
      err = search rules;
    }
