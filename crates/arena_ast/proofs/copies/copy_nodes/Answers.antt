use Rattle.std.proofs.lemmas.Bool.Decides.{nat_tests}
use Rattle.std.proofs.Common.{◌≡◌, List, [], ◌∷◌, refl, sym, subst, arith, flat_map, Option}
use Rattle.std.specs.List.{AllByRecursion}
use Rattle.std.proofs.lemmas.List.{map-id}
use Rattle.arena_chunks.specs.Source.{View}
use Rattle.arena_chunks.proofs.Layers.{frame_forget}
use Rattle.arena_store.specs.declared.block.Block.{Block}
use Rattle.arena_items.specs.declared.room.AllocError.{AllocError}
use Rattle.arena_clone.specs.Asks.{Ask, AsksFor}
use Rattle.arena_ast.specs.Asts.{AreOrdered}
use Rattle.arena_ast.proofs.AstLemmas.{error_kept}
use Rattle.arena_ast.proofs.copies.copy_nodes.Goals as goal

-- Plain values have no conditions to be held, and ask for no blocks of their own.

all_plain : {A : Type 0} (xs : List A) → AllByRecursion (λ (x : A). Unit {0}) xs
all_plain [] = tt
all_plain (x ∷ xs) = (tt, all_plain xs)

none_asked : {A B : Type 0} (xs : List A) → flat_map {A = B} (λ (x : A). []) xs ≡ []
none_asked [] = refl
none_asked (x ∷ xs) = none_asked xs

only_block : {A : Type 0} (ask : Ask) (old new : View) (blocks : List Block) (end : Option AllocError) (xs : List A)
    → AsksFor (ask ∷ flat_map {A = Ask} (λ (x : A). []) xs) old new blocks end → AsksFor (ask ∷ []) old new blocks end
only_block ask old new blocks end xs asks = grind (arith, nat_tests, none_asked)

pub clone_in-requires-clause-held : goal.clone_in-requires-clause-held
clone_in-requires-clause-held g c = (c.requires.held.held, all_plain _)

pub returns-in_err-copy-clause-others : goal.returns-in_err-copy-clause-others
returns-in_err-copy-clause-others g c = grind (arith, nat_tests, frame_forget)

pub returns-in_err-copy-clause-refused : goal.returns-in_err-copy-clause-refused
returns-in_err-copy-clause-refused g c = grind (arith, nat_tests, error_kept, only_block)

pub returns : goal.returns
returns g c =
    let made = c.in_ok-copy.ensures.made in
    let list = simp map-id at made.means in
    record {
      nodes = record { held = made.held.0; ordered = subst (AreOrdered g.T.Linked.is_after) (sym list) c.requires.held.ordered };
      list = list;
      took = grind (arith, nat_tests, only_block);
      refused = tt;
      others = grind (arith, nat_tests, frame_forget);
    }
