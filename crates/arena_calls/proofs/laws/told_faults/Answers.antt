use Rattle.arena_calls.proofs.StatusLemmas.{told_reads, told_writes, gen_reads}
use Rattle.arena_calls.proofs.laws.told_faults.Goals as goal

pub returns : goal.returns
returns c = record {
  reads = λ status old new ends. told_reads old new status ends.0;
  writes = λ status old new ends. told_writes old new status ends.0;
  generated_reads = λ start count status old new. gen_reads old new start count status;
  generated_writes = λ start count status old new ends. told_writes old new status ends.0;
}
