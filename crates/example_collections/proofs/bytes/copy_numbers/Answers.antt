use Rattle.std.proofs.Common.{refl, sym, ◌∙◌, arith}
use Rattle.std.proofs.lemmas.List.{map-id}
use Rattle.std.proofs.lemmas.Result.{err_from_is_err_and}
use Rattle.example_collections.proofs.ByteLemmas.{all_plain}
use Rattle.example_collections.proofs.bytes.copy_numbers.Goals as goal

pub clone_in-requires-clause-held : goal.clone_in-requires-clause-held
clone_in-requires-clause-held g c = (c.requires.held, all_plain _)

pub returns-in_err-copy : goal.returns-in_err-copy
returns-in_err-copy g c =
    let p = err_from_is_err_and c.from_residual.result c.from_residual.ensures.1 in
    let copy = c.in_err-copy.ensures in
    let asks = c.one_block_law.ensures.vector (λ m v. refl) c.args.from.now.memory c.args.list.now in
    let brings = c.list_bytes_law.ensures.vector _ _ _ copy.blocks _ (rw asks at copy.placed.asked) in
    rw p.1 (record { held = tt; copy = tt; least = tt; most = omega (arith, brings.most); refused = brings.refused _ refl })

pub returns : goal.returns
returns g c =
    let copy = c.in_ok-copy.ensures in
    let asks = c.one_block_law.ensures.vector (λ m v. refl) c.args.from.now.memory c.args.list.now in
    let brings = c.list_bytes_law.ensures.vector _ _ _ copy.blocks _ (rw asks at copy.placed.asked) in
    record {
      held = copy.made.held.0;
      copy = sym (map-id _) ∙ copy.made.means ∙ map-id _ ∙ map-id _;
      least = omega (arith, brings.least refl);
      most = omega (arith, brings.most);
      refused = tt;
    }
