use Rattle.line_parts.specs.Numbers.{lines_of}
use Rattle.call_rules.proofs.ReplyByteLemmas.{lines_fit, replies_bytes}
use Rattle.call_rules.proofs.TextLemmas.{same_replies}
use Rattle.call_rules.proofs.laws.texts.run_texts.Goals as goal

pub returns : goal.returns
returns c = record {
  calls_fit = λ text. lines_fit (lines_of text);
  replies_have_bytes = replies_bytes;
  one_text = λ text other calls others state from ks js a b last end are other_are ran other_ran.
      same_replies a b (replies_bytes state calls ks a last (lines_fit (lines_of text) calls are) ran)
      (replies_bytes from others js b end (lines_fit (lines_of other) others other_are) other_ran);
}
