use Rattle.std.proofs.Common.{rules}
use Rattle.std.proofs.lemmas.Str.{chars_from_encodes}
use Rattle.example_collections.proofs.texts.push_and_count.Goals as goal

pub as_str-requires-clause-utf8 : goal.as_str-requires-clause-utf8
as_str-requires-clause-utf8 g c =
    rw c.in_ok-push.ensures.bytes_are (c.utf8_rule.ensures.joined _ _ c.requires.utf8 (c.utf8_rule.ensures.character _ c.ranges.c.0))

pub returns-clause-count : goal.returns-clause-count
returns-clause-count g c = search (rules, chars_from_encodes)
