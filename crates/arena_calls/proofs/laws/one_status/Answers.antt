use Rattle.call_rules.proofs.ReadingLemmas.{same_reading}
use Rattle.arena_calls.specs.Ends.{RunsTo, calls_word, reply_lines}
use Rattle.arena_calls.proofs.StatusLemmas.{within, over, gen_status}
use Rattle.arena_calls.proofs.laws.one_status.Goals as goal

pub returns : goal.returns
returns c = record {
  within = λ status old new. within (calls_word (λ old new calls. RunsTo old new calls reply_lines)) old new same_reading status;
  over = λ status old new. over (calls_word (λ old new calls. RunsTo old new calls reply_lines)) old new status;
  generated = λ start count status old new. gen_status old new start count status;
}
