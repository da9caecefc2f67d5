use Rattle.example_language.proofs.ReadingLemmas.{tree_spelled, first_wrong}
use Rattle.example_language.proofs.laws.parsed_words.Goals as goal

pub returns : goal.returns
returns c = record { tree = tree_spelled; wrong = first_wrong }
