use Rattle.std.proofs.Common.{ℕ, List, length, Bor}
use Rattle.std.proofs.lemmas.Iterator.{YieldsList}
use Rattle.arena.specs.Asts.{AreBelow}
use Rattle.example_language.specs.Meaning.{words_of}
use Rattle.example_language.specs.Trees.{rows_in, IsBuilt}
use Rattle.example_language.proofs.PlacingLemmas.{IsReadTo}
use Rattle.example_language.proofs.parsing.parse.Given as goal

abbrev pub invariant-words : goal.invariant-words
invariant-words g l = record {
  built : IsBuilt l.fn.a l.a l.tree;
  stack : AreBelow l.tree.nodes.raw.len l.stack.items;
  road : YieldsList (goal.iterator-words g).next_gives (λ (x : Bor (List ℕ)). x.now) l.initial.word-iterator (words_of l.src);
  reads : IsReadTo l.src l.at (rows_in l.a.memory l.tree) l.stack.items (length l.yielded);
}
