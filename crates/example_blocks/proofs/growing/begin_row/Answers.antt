use Rattle.std.proofs.Common.{ℕ, ◌+◌, ◌*◌, ◌^◌, ◌-◌, Ok, Err, refl, ap, ◌∙◌, arith}
use Rattle.std.proofs.lemmas.Result.{err_from_is_err_and}
use Rattle.arena_chunks.specs.BlockCalls.{PlacesBlock}
use Rattle.arena_store.specs.declared.block.Block.{Block}
use Rattle.arena_items.specs.declared.boxes.Box.{Box}
use Rattle.arena_items.specs.Costs.{farthest}
use Rattle.arena_items.specs.Room.{SamePlaces, growth_error}
use Rattle.arena_items.proofs.Layers.{refused_as, wrote_same}
use Rattle.example_blocks.proofs.CostLemmas.{placing_costs, number_costs}
use Rattle.example_blocks.proofs.RowLemmas.{box_refused, row_refused, row_begins}
use Rattle.example_blocks.proofs.growing.begin_row.Goals as goal

pub returns-in_err-boxed-clause-calls : goal.returns-in_err-boxed-clause-calls
returns-in_err-boxed-clause-calls g c =
    let p = err_from_is_err_and c.from_residual.result c.from_residual.ensures.1 in
    rw (p.1, p.2) (box_refused _ _ _ _ _ _ _ c.in_err-boxed.ensures)

pub returns-in_err-row-clause-calls : goal.returns-in_err-row-clause-calls
returns-in_err-row-clause-calls g c =
    let p = err_from_is_err_and c.from_residual-in_err-row.result c.from_residual-in_err-row.ensures.1 in
    let is = c.in-Some.ensures.value in
    rw (p.1, p.2) (row_refused _ _ _ _ _ _ _ c.in_ok-boxed.boxed _ _ c.in_ok-boxed.ensures (rw (is.0, is.1) at c.in_err-row.ensures.takes))

pub returns-clause-calls : goal.returns-clause-calls
returns-clause-calls g c = let is = c.in-Some.ensures.value in record {
  between = _;
  box = c.in_ok-boxed.boxed;
  placed = c.in_ok-boxed.ensures;
  follows = record {
    between = _;
    took = rw (is.0, is.1) at (c.in_ok-row.ensures.takes.placed refl);
    places = wrote_same _ _ c.in_ok-row.row _ _ c.put_item.ensures.writes c.put_item.ensures.source;
  };
}

pub returns-clause-begins : goal.returns-clause-begins
returns-clause-begins g c =
    row_begins _ _ _ _ _ _ _ _ _ _ _ c.in_ok-boxed.boxed c.in_ok-row.row c.in_ok-boxed.ensures (c.in_ok-row.ensures.takes.placed refl)
    c.put_item.ensures.writes c.put_item.ensures.push

-- ---- Costs

pub returns-in_err-boxed-clause-costs : goal.returns-in_err-boxed-clause-costs
returns-in_err-boxed-clause-costs g c = λ few.
    let p = err_from_is_err_and c.from_residual.result c.from_residual.ensures.1 in
    let old = c.args.a.now in
    let new = c.new_in.new.a in
    let e = c.in_err-boxed.field-0.0 in
    let first = number_costs old new (Err (growth_error e)) c.known.ensures.state
    (refused_as (λ (b : Box ℕ). b.block) (λ (b : Block). b) e (PlacesBlock old new 4 4) c.in_err-boxed.ensures.placed) in
    rw (p.1, p.2) (c.costs_law.ensures.weaken (farthest - 2 ^ 61) farthest 7 (7 + (c.args.cap * 32 + 7)) 0 0 old new (Err (growth_error e))
    (omega arith) (omega arith) first)

pub returns-in_err-row-clause-costs : goal.returns-in_err-row-clause-costs
returns-in_err-row-clause-costs g c = λ few.
    let p = err_from_is_err_and c.from_residual-in_err-row.result c.from_residual-in_err-row.ensures.1 in
    let is = c.in-Some.ensures.value in
    let old = c.args.a.now in
    let mid = c.new_in.new.a in
    let new = c.take_room.new.a in
    let box : Block = c.in_ok-boxed.boxed.block in
    let e = c.in_err-row.field-0.0 in
    let frame = c.in_ok-boxed.ensures.placed.1.outcome.frame in
    let one = frame.min_align ∙ c.known.ensures.state in
    let layout = rw (is.0, is.1) at c.in-Some.layout.valid in
    let first = number_costs old mid (Ok box) c.known.ensures.state c.in_ok-boxed.ensures.placed in
    let places = c.room_law.ensures.not_taken mid new c.empty.result 0 (c.args.cap * 32) 8 (λ b. b) e one layout
    (ap (λ (b : Block). b.align) c.empty.ensures) (rw (is.0, is.1) at c.in_err-row.ensures.takes) in
    let same : SamePlaces new new = record { state = refl; statistics = refl; source = refl } in
    let second = placing_costs mid new new 32 8 c.args.cap same (Err e) one layout (omega arith) few places in
    rw (p.1, p.2) (c.costs_law.ensures.then (farthest - 2 ^ 61) 7 (c.args.cap * 32 + 7) 0 0 0 old mid new (Ok box) (Err e)
    frame.is_growing frame.allocated refl (c.costs_law.ensures.ok farthest (farthest - 2 ^ 61) 7 0 0 old mid (Ok box) refl first) second)

pub returns-clause-costs : goal.returns-clause-costs
returns-clause-costs g c = λ few.
    let is = c.in-Some.ensures.value in
    let old = c.args.a.now in
    let mid = c.new_in.new.a in
    let last = c.take_room.new.a in
    let new = c.put_item.new.a in
    let box : Block = c.in_ok-boxed.boxed.block in
    let row : Block = c.in_ok-row.row in
    let frame = c.in_ok-boxed.ensures.placed.1.outcome.frame in
    let one = frame.min_align ∙ c.known.ensures.state in
    let layout = rw (is.0, is.1) at c.in-Some.layout.valid in
    let first = number_costs old mid (Ok box) c.known.ensures.state c.in_ok-boxed.ensures.placed in
    let same = wrote_same last new row _ _ c.put_item.ensures.writes c.put_item.ensures.source in
    let places = rw (is.0, is.1) at (c.in_ok-row.ensures.takes.placed refl) in
    let second = placing_costs mid last new 32 8 c.args.cap same (Ok row) one layout (omega arith) few places in
    c.costs_law.ensures.then (farthest - 2 ^ 61) 7 (c.args.cap * 32 + 7) 0 0 0 old mid new (Ok box) (Ok row)
    frame.is_growing frame.allocated refl (c.costs_law.ensures.ok farthest (farthest - 2 ^ 61) 7 0 0 old mid (Ok box) refl first) second
