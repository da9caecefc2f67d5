use Rattle.arena_oracle.proofs.OneRunLemmas.{same_calls_text, same_gen_text, same_picture}
use Rattle.arena_oracle.proofs.laws.one_text.Goals as goal

pub returns : goal.returns
returns c = record {
  calls = λ budget refuse lines text other after later. same_calls_text budget refuse lines text other after later;
  generated = λ budget refuse text other start count after later. same_gen_text budget refuse text other start count after later;
  drawn = λ budget refuse lines text other after later. same_picture budget refuse lines text other after later;
}
