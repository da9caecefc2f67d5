-- What a walk over statements asks for, call after call, and where one is stopped.
use Rattle.std.specs.Prelude.{◌≡◌, ℕ, ◌⊎◌, List, [], ◌∷◌, Option, Some, None, if◌then◌else◌}
use Rattle.arena_chunks.specs.Answers.{Answer}
use Rattle.arena_chunks.specs.Answers.Answer.{Refused}
use Rattle.arena_chunks.specs.Source.{View}
use Rattle.arena_items.specs.Asks.{Asked}
use Rattle.arena_items.specs.Room.{SamePlaces}
use Rattle.arena_items.specs.declared.room.AllocError.{AllocError}
use Rattle.arena_items.specs.declared.room.AllocError.TheVariants.{AllocErr}
use Rattle.arena_symbols.specs.Asks.{list_ask}
use Rattle.arena_symbols.specs.Calls.{State, has_outer}
use Rattle.arena_symbols.specs.Interner.{number_of, with_text}
use Rattle.arena_symbols.specs.Listing.{place_item}
use Rattle.arena_symbols.specs.Named.{AreNames, AreNewNames, TakesName, IsNameDenied}
use Rattle.arena_symbols.specs.Scoping.{is_in_last, with_pair, outer_of}
use Rattle.arena_symbols.specs.Serving.{state_in}
use Rattle.arena_symbols.specs.TableCalls.{TakesScope}
use Rattle.arena_symbols.specs.Tables.{table_blocks}
use Rattle.arena_symbols.specs.declared.names.Names.{Names as Known}
use Rattle.tree_rules.specs.Trees.{Stmt, Let, Show, Stmts, NoStmts, Then}
use Rattle.tree_rules.specs.Trees as tree

-- ---- What is known, as texts and scopes

-- one more scope, and one less
abbrev pub entered : State → State
entered s = record { texts = s.texts; scopes = [] ∷ s.scopes }

abbrev pub ended : State → State
ended s = record { texts = s.texts; scopes = if has_outer s.scopes then outer_of s.scopes else s.scopes }

-- a name has a number, and its number is in the innermost scope
abbrev pub with_id : Option ℕ → List (List (ℕ × ℕ)) → List (List (ℕ × ℕ))
with_id None scopes = scopes
with_id (Some id) scopes = if is_in_last scopes id then scopes else with_pair scopes id 0

abbrev pub named : List ℕ → State → State
named name s = record { texts = with_text s.texts name; scopes = with_id (number_of (with_text s.texts name) name) s.scopes }

-- The handles are held in the arena, and what is known changes so.
pub record Becomes (after : State → State) (old new : View) (k l : Known) : Type 0 where
  pub held : AreNames new.memory l
  pub state : state_in new.memory l ≡ after (state_in old.memory k)

-- ---- Calls of a walk, each with the blocks that it asks for, and nothing else

pub record DoesName (name : List ℕ) (old : View) (k : Known) (new : View) (l : Known) : Type 0 where
  pub becomes : Becomes (named name) old new k l
  pub took : TakesName old new k l name

pub record BeginsBlock (old : View) (k : Known) (new : View) (l : Known) : Type 0 where
  pub becomes : Becomes entered old new k l
  pub symbols : l.symbols ≡ k.symbols
  pub took : TakesScope old new k.scopes l.scopes

pub record EndsBlock (old : View) (k : Known) (new : View) (l : Known) : Type 0 where
  pub becomes : Becomes ended old new k l
  pub symbols : l.symbols ≡ k.symbols
  pub blocks : table_blocks l.scopes ≡ table_blocks k.scopes
  pub places : SamePlaces old new

-- A walk does all statements, one after another: from these handles in this arena to those in that.
abbrev mutual
  pub Does : Stmt → View → Known → View → Known → Type 0
  Does (Let name e) old k new l = DoesName name old k new l
  Does (Show e) old k new l = (new ≡ old) × (l ≡ k)
  Does (tree.Block body) old k new l = (begun : View) × (inner : Known) × BeginsBlock old k begun inner
      × (done : View) × (last : Known) × DoesAll body begun inner done last × EndsBlock done last new l

  pub DoesAll : Stmts → View → Known → View → Known → Type 0
  DoesAll NoStmts old k new l = (new ≡ old) × (l ≡ k)
  DoesAll (Then first rest) old k new l = (mid : View) × (j : Known) × Does first old k mid j × DoesAll rest mid j new l

-- ---- Where a walk is stopped

-- The arena doesn't place what a name asks for, or a scope.
abbrev pub StopsAtName : List ℕ → View → Known → View → Answer → Type 0
StopsAtName name old k new answer = (l : Known) × IsNameDenied old new k l name answer

abbrev pub StopsAtBlock : View → Known → View → Answer → Type 0
StopsAtBlock old k new answer = Asked (list_ask place_item k.scopes.starts) old new answer

-- A walk does the statements before one, and is stopped there.
abbrev mutual
  pub StopsAt : Stmt → View → Known → View → Answer → Type 0
  StopsAt (Let name e) old k new answer = StopsAtName name old k new answer
  StopsAt (Show e) old k new answer = ⊥
  StopsAt (tree.Block body) old k new answer = StopsAtBlock old k new answer
      ⊎ ((begun : View) × (inner : Known) × BeginsBlock old k begun inner × StopsIn body begun inner new answer)

  pub StopsIn : Stmts → View → Known → View → Answer → Type 0
  StopsIn NoStmts old k new answer = ⊥
  StopsIn (Then first rest) old k new answer = StopsAt first old k new answer
      ⊎ ((mid : View) × (j : Known) × Does first old k mid j × StopsIn rest mid j new answer)

-- ---- Results

-- Calls do this, or are stopped so.
pub record Goes (Did : View → Known → View → Known → Type 0) (Stops : View → Known → View → Answer → Type 0) (old new : View) (k l : Known)
    (error : Option AllocError) : Type 0 where
  pub did : error ≡ None → Did old k new l
  pub stopped : (n : ℕ) → error ≡ Some (AllocErr n) → Stops old k new (Refused n)

-- Some of the statements are done: a walk that does those that are left does all, and is stopped as one over all.
pub record GoesOn (ss left : Stmts) (old now : View) (k l : Known) : Type 0 where
  pub did : (new : View) (j : Known) → DoesAll left now l new j → DoesAll ss old k new j
  pub stopped : (new : View) (answer : Answer) → StopsIn left now l new answer → StopsIn ss old k new answer

-- A walk begins with no names.
pub record WalksFrom (trees : Stmts) (old new : View) (error : Option AllocError) : Type 0 where
  pub first : Known
  pub last : Known
  pub none : AreNewNames first
  pub goes : Goes (DoesAll trees) (StopsIn trees) old new first last error
