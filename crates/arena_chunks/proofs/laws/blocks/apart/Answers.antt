use Rattle.arena_chunks.proofs.Layers.{blocks_turned, apart_within, apart_empty, apart_both, apart_each, all_apart, pairwise_both}
use Rattle.arena_chunks.proofs.laws.blocks.apart.Goals as goal

pub returns : goal.returns
returns c = record {
  turned = blocks_turned;
  within = apart_within;
  both = λ addr n xs ys. (apart_each addr n xs ys, λ parts. apart_both addr n xs ys parts.0 parts.1);
  empty = apart_empty;
  all = all_apart;
  pairwise = pairwise_both;
}
