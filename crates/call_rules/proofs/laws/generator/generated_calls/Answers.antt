use Rattle.std.proofs.lemmas.List.FromFn.{take-map-range_with_len}
use Rattle.call_rules.specs.Generator.{call_at, seed_before}
use Rattle.call_rules.proofs.GeneratorLemmas.{generated_count, fit_from}
use Rattle.call_rules.proofs.laws.generator.generated_calls.Goals as goal

pub returns : goal.returns
returns c = record {
  counted = generated_count;
  first = λ start count more within. take-map-range_with_len (λ i. call_at i (seed_before start i)) 0 more count within;
  fit = λ start count. fit_from start 0 count;
}
