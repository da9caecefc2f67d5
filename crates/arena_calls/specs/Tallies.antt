-- How a tally relates to the replies that were counted.
use Rattle.std.specs.Prelude.{◌≡◌, List, length, sum}
use Rattle.call_rules.specs.Counts.{is_placed}
use Rattle.call_rules.specs.Summary.{Summary as Eight, is_failed, is_named_refusal, count_of, bytes_read}
use Rattle.call_rules.specs.declared.calls.Reply.{Reply}
use Rattle.arena_calls.specs.declared.generator.summary.Summary.{Summary}
use Rattle.arena_calls.specs.declared.generator.tally.Tally.{Tally}

pub record IsTally (tally : Tally) (replies : List Reply) : Type 0 where
  pub calls : tally.calls ≡ length replies
  pub placed : tally.placed ≡ count_of is_placed replies
  pub failed : tally.failed ≡ count_of is_failed replies
  pub other : tally.other ≡ count_of is_named_refusal replies
  pub bytes : tally.bytes ≡ length (bytes_read replies)
  pub byte_sum : tally.byte_sum ≡ sum (bytes_read replies)

-- the eight numbers of a summary, as the rules have them
abbrev pub numbers : Summary → Eight
numbers s = record {
  calls = s.calls;
  placed = s.placed;
  failed = s.failed;
  other = s.other;
  bytes = s.bytes;
  byte_sum = s.byte_sum;
  used = s.used;
  allocated = s.allocated;
}
