-- The whole text.
use Rattle.std.proofs.lemmas.Bool.Decides.{nat_tests}
use Rattle.std.proofs.Common.{arith, ◌≡◌, ℕ, None, Ok, Err, List, [], refl, sym, ◌∙◌, subst}
use Rattle.std.specs.Prelude.{Result}
use Rattle.std.proofs.lemmas.Option.{none-some}
use Rattle.arena_chunks.specs.Memory.{Memory}
use Rattle.arena_vec.specs.declared.vec.Vec.{Vec}
use Rattle.tree_rules.specs.Tokens.{Token, without_places, tokens}
use Rattle.tree_rules.specs.Trees.{Stmts}
use Rattle.tree_rules.specs.Grammar.{trees_of, nest, IsProgram}
use Rattle.tree_rules.specs.Reading.{refusal_from, refusal_of, refused_by}
use Rattle.tree_rules.specs.Refusals.{TreeOf}
use Rattle.tree_rules.specs.declared.refused.Refused.{Refused}
use Rattle.tree_reader.specs.Seen.{IsNext, tokens_at}
use Rattle.tree_reader.specs.declared.token.Lexeme.{Lexeme}
use Rattle.tree_reader.proofs.JudgeLemmas.{ended_next}
use Rattle.tree_nodes.specs.declared.node.Node.{Node}
use Rattle.arena_tree.specs.StmtsAt.{AreBuilt}
use Rattle.arena_tree.specs.LineParts.{LinesStop, AreLines, IsProgramRead}
use Rattle.tree_nodes.proofs.RowLemmas.{stmts_built}
use Rattle.arena_tree.proofs.TokenLemmas.{passed_from}

abbrev OnePrograms : Type 0
OnePrograms = (ts : List Token) (trees others : Stmts) (n m : ℕ) → IsProgram ts trees n → IsProgram ts others m → (trees ≡ others) × (n ≡ m)

pub all_read : (bytes : List ℕ) (old new : Memory) (list : Vec Node) (r : Result Stmts Refused) → OnePrograms → TreeOf bytes r
    → refusal_of bytes ≡ refused_by r → IsProgramRead bytes old new list
    → (trees : Stmts) × TreeOf bytes (Ok trees) × AreBuilt trees old new list
all_read bytes old new list (Err q) one h is k = absurd (none-some q (sym k.passed ∙ is))
all_read bytes old new list (Ok trees) one h is k =
    let program : IsProgram (without_places (tokens bytes)) (trees_of k.part) (nest k.part) = record {
      program = k.part;
      tokens_are = sym k.tokens_are;
      trees_are = refl;
      nest_is = refl;
    } in
    let same : trees ≡ trees_of k.part = (one _ _ _ _ _ h.program program).0 in
    (trees_of k.part, subst (λ t. TreeOf bytes (Ok t)) same h, stmts_built _ _ _ _ k.built)

-- Statements of which nothing more follows, and where something does: a brace that closes nothing.
pub ends_all : {bytes : List ℕ} {end : ℕ} {old new : Memory} {list : Vec Node} → AreLines 0 bytes 0 end old new list
    → tokens_at bytes end ≡ [] → IsProgramRead bytes old new list
ends_all {bytes} k over = grind (arith, nat_tests, ended_next)

pub more_left : {bytes : List ℕ} {end : ℕ} {l : Lexeme} {old new : Memory} {list : Vec Node} → AreLines 0 bytes 0 end old new list
    → LinesStop (tokens_at bytes end) → IsNext bytes end l → refusal_of bytes ≡ None → ⊥
unfolding refusal_from
more_left {bytes} {end} {l} k stop n none = grind (arith, nat_tests, passed_from, none-some)
