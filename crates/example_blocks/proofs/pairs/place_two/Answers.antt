use Rattle.std.proofs.Common.{refl, ◌∙◌, [], ◌∷◌, inl, inr}
use Rattle.std.proofs.lemmas.Result.{err_from_is_err_and}
use Rattle.arena_chunks.specs.BlockCalls.{PlacesBlock}
use Rattle.arena_store.specs.declared.block.Block.{Block}
use Rattle.arena_chunks.proofs.Layers.{frame_keeps_new, frame_beside, frame_then}
use Rattle.example_blocks.proofs.AnswerLemmas.{refused_by}
use Rattle.example_blocks.proofs.pairs.place_two.Goals as goal

pub returns-in_err-one-clause-calls : goal.returns-in_err-one-clause-calls
returns-in_err-one-clause-calls g c =
    let p = err_from_is_err_and c.from_residual.result c.from_residual.ensures.1 in
    rw (p.1, p.2) (inl c.in_err-one.ensures.placed)

pub returns-in_err-other-clause-calls : goal.returns-in_err-other-clause-calls
returns-in_err-other-clause-calls g c =
    let p = err_from_is_err_and c.from_residual-in_err-other.result c.from_residual-in_err-other.ensures.1 in
    rw (p.1, p.2) (inr (record {
      between = _;
      block = _;
      placed = c.in_ok-one.ensures.placed;
      follows = (
        refused_by (λ (r : Block × Block). r.1) c.in_err-other.field-0.0
            (PlacesBlock c.place_bytes.new.a c.place_bytes-2.new.a c.args.layout.size c.args.layout.align) c.in_err-other.ensures.placed,
        tt,
      );
    }))

pub returns : goal.returns
returns g c =
    let one = c.in_ok-one.ensures in
    let other = c.in_ok-other.ensures in
    let stays = frame_keeps_new _ _ (c.in_ok-other.other ∷ []) c.in_ok-one.one other.placed.1.outcome.frame one.holds.readable in
    let beside = frame_beside _ _ [] (c.in_ok-other.other ∷ []) (c.in_ok-one.one ∷ []) other.placed.1.outcome.frame in
    record {
      calls = record { between = _; block = _; placed = one.placed; follows = (other.placed, refl) };
      first = record { readable = stays.readable; bytes = stays.bytes ∙ one.holds.bytes };
      second = other.holds;
      apart = stays.apart.0;
      frame = frame_then _ _ _ [] (c.in_ok-one.one ∷ []) (c.in_ok-other.other ∷ c.in_ok-one.one ∷ []) one.placed.1.outcome.frame beside;
    }
