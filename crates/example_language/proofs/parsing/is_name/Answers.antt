use Rattle.std.proofs.Common.{rules}
use Rattle.std.specs.Char.{is_ascii_alphabetic}
use Rattle.std.proofs.lemmas.Iterator.{YieldsList-from_slice}
use Rattle.std.proofs.lemmas.Iterator.Search.{all_from_yields_List}
use Rattle.example_language.proofs.parsing.is_name.Goals as goal

pub returns-then-not-is_empty : goal.returns-then-not-is_empty
returns-then-not-is_empty c =
    let all = all_from_yields_List is_ascii_alphabetic _ _ c.all.result c.all.ensures.ran
    (YieldsList-from_slice c.args.word.now c.iter.ensures.rest) (λ x b q k. search (rules, k)) in
    search (rules, all)
