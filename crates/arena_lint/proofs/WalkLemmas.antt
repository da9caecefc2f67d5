-- Walks over statements.
use Rattle.std.proofs.lemmas.Bool.Decides.{nat_tests}
use Rattle.std.proofs.Common.{◌≡◌, ℕ, ◌+◌, ◌<◌, List, [], ◌∷◌, ◌++◌, drop, length, refl, sym, ◌∙◌, ap, subst, None, Some, Ok, Option, arith, append-nil}
use Rattle.std.specs.Prelude.{slice_range, Result, OnOk}
use Rattle.std.proofs.lemmas.Result.{on_ok_weaker}
use Rattle.std.proofs.lemmas.List.{append_assoc}
use Rattle.arena_chunks.specs.Memory.{Memory}
use Rattle.arena_chunks.specs.Source.{View}
use Rattle.arena_chunks.proofs.Layers.{frame_reflexive}
use Rattle.arena_items.specs.declared.room.AllocError.{AllocError}
use Rattle.arena_symbols.specs.Named.{AreNames, Moves, all_blocks}
use Rattle.arena_symbols.specs.declared.names.Names.{Names as Known}
use Rattle.arena_symbols.proofs.Layers.{moves_then}
use Rattle.tree_rules.specs.Tokens.{Token, without_places}
use Rattle.tree_rules.specs.Grammar.{line_tree}
use Rattle.tree_rules.specs.Trees.{Stmt, Stmts, NoStmts, Then, AreStmts}
use Rattle.tree_rules.specs.Trees as tree
use Rattle.tree_rules.specs.Weights.{weight, weights}
use Rattle.tree_rules.specs.Report.{NameSet, names_of, undefined, defined, walk_stmt, walk}
use Rattle.tree_rules.proofs.FindingLemmas.{walk_outer}
use Rattle.tree_reader.specs.Seen.{IsNext, tokens_at}
use Rattle.tree_reader.specs.declared.token.Seen.TheVariants as seen
use Rattle.tree_reader.specs.declared.token.Lexeme.{Lexeme}
use Rattle.arena_tree.specs.Parts.{spelled_at}
use Rattle.lint_reports.specs.Taking.{Taking}
use Rattle.arena_lint.specs.Ahead.{NamesAhead, LineAhead, line_trees, LinesAhead}
use Rattle.arena_lint.specs.Knowing.{Knows}
use Rattle.arena_lint.specs.Spending.{Takes, IsExhausted}
use Rattle.arena_lint.specs.Steps.{Finds, Halfway, Walking, IsNotEmpty}
use Rattle.arena_lint.proofs.SpendingLemmas.{takes_then, takes_more, takes_exhausted}
use Rattle.arena_lint.specs.Stopping.{DoesName, StopsAtName, Does, DoesAll, StopsAt, StopsIn, Goes}
use Rattle.arena_lint.proofs.StatementLemmas.{IsLetRead, IsShowRead, IsFirst, first_line, line_of, none_left, brace_left}
use Rattle.arena_lint.proofs.StoppingLemmas.{goes_exhausted, goes_from, goes_next, goes_short, goes_all}

pub moves_none : {m : Memory} {k : Known} → AreNames m k → Moves m m k k
moves_none {m} {k} held = record { held = held; frame = frame_reflexive m (all_blocks m k) }

-- ---- Blocks

pub block_finds : {F : Type 0} (taking : Taking F) (old mid far new : Memory) (k l j i : Known) (first last : F) (s : Stmt) (ss : Stmts)
    → s ≡ tree.Block ss
    → ((sets : List NameSet) → Knows old k sets → Knows mid l ([] ∷ sets) × IsNotEmpty sets)
    → Finds {X = Unit {0}} taking mid far l j first last (Ok tt) (walk ss)
    → ((names : NameSet) (sets : List NameSet) → Knows far j (names ∷ sets) → IsNotEmpty sets → Knows new i sets)
    → Finds {X = Unit {0}} taking old new k i first last (Ok tt) (walk_stmt s)
unfolding walk_stmt
block_finds taking old mid far new k l j i first last s ss is enters finds leaves sets knows =
    let begun = enters sets knows in
    let body = finds ([] ∷ sets) begun.0 in
    let outer = walk_outer ss [] sets in
    let ended : Knows new i sets = leaves outer.names sets (subst (Knows far j) outer.known body.0) begun.1 in
    subst (λ (t : Stmt). Knows new i (walk_stmt t sets).known × taking.gains first last (walk_stmt t sets).findings) (sym is) (ended, body.1)

-- ---- Definitions and expressions

module _ {F : Type 0} (taking : Taking F) {bytes : List ℕ} where
  module _ {l : Lexeme} {s : Stmt} {behind : List Token} (r : IsLetRead bytes l s behind) where
    abbrev name : List ℕ
    name = slice_range bytes l.at l.end

    pub let_finds : (old new : Memory) (k j : Known) (first mid last : F)
        → ((u : NamesAhead bytes l.end) (sets : List NameSet) → Knows old k sets → taking.gains first mid (undefined sets u.names))
        → Finds {X = Unit {0}} taking old new k j mid last (Ok tt) (defined name) → Finds {X = Unit {0}} taking old new k j first last (Ok tt) (walk_stmt s)
    unfolding walk_stmt
    let_finds old new k j first mid last gains finds sets knows =
        let one = subst (λ (ns : List (List ℕ)). taking.gains first mid (undefined sets ns)) r.names_are (gains r.names sets knows) in
        let two = finds sets knows in
        subst (λ (t : Stmt). Knows new j (walk_stmt t sets).known × taking.gains first last (walk_stmt t sets).findings) (sym r.is)
        (two.0, taking.both (undefined sets (names_of r.value)) (defined name sets).findings one two.1)

  module _ {at : ℕ} {s : Stmt} {behind : List Token} (r : IsShowRead bytes at s behind) where
    pub show_finds : {X : Type 0} (m : Memory) (k : Known) (first last : F) (result : Result X AllocError)
        → ((u : NamesAhead bytes at) (sets : List NameSet) → Knows m k sets
        → OnOk result (taking.gains first last (undefined sets u.names))) → Finds taking m m k k first last result (walk_stmt s)
    unfolding walk_stmt
    show_finds m k first last result gains sets knows = on_ok_weaker result
        (λ one. subst (λ (t : Stmt). Knows m k (walk_stmt t sets).known × taking.gains first last (walk_stmt t sets).findings) (sym r.is)
        (knows, subst (λ (ns : List (List ℕ)). taking.gains first last (undefined sets ns)) r.names_are one)) (gains r.names sets knows)

module _ {bytes : List ℕ} {l : Lexeme} {s : Stmt} {behind : List Token} (r : IsLetRead bytes l s behind) {old new : View} {k j : Known}
    {error : Option AllocError} where
  pub let_takes : Takes (1 + length (slice_range bytes l.at l.end)) old new k j error → Takes (weight s) old new k j error
  let_takes takes = subst (λ (t : Stmt). Takes (weight t) old new k j error) (sym r.is) takes

  pub let_goes : Goes (DoesName (slice_range bytes l.at l.end)) (StopsAtName (slice_range bytes l.at l.end)) old new k j error
      → Goes (Does s) (StopsAt s) old new k j error
  let_goes goes = subst (λ (t : Stmt). Goes (Does t) (StopsAt t) old new k j error) (sym r.is) goes

pub show_goes : {bytes : List ℕ} {at : ℕ} {s : Stmt} {behind : List Token} {a : View} {k : Known} {error : Option AllocError}
    → IsShowRead bytes at s behind → IsExhausted error → Goes (Does s) (StopsAt s) a a k k error
show_goes {a = a} {k = k} {error = error} r exhausted = subst (λ (t : Stmt). Goes (Does t) (StopsAt t) a a k k error) (sym r.is)
    (goes_exhausted exhausted (record { did = λ none. (refl, refl); stopped = λ j never. absurd (cc) }))

-- ---- All statements

pub walking_begin : {F : Type 0} (taking : Taking F) {a : View} {k : Known} {first : F} {bytes : List ℕ} {at : ℕ} → AreNames a.memory k
    → Walking taking a a k k first first bytes at at
walking_begin taking {a} {k} {first} held = record {
  moves = moves_none held;
  later = omega arith;
  behind = λ t. record {
    left = t.lines;
    tokens_are = t.tokens_are;
    ended = t.ended;
    good = t.good;
    spent = 0;
    all = omega arith;
    takes = takes_exhausted a k None tt;
    goes = goes_from (line_trees t.lines) a k;
    halfway = λ sets knows. record {
      between = sets;
      knows = knows;
      taken = [];
      gained = taking.none first;
      all = refl;
    };
  };
}

module _ {F : Type 0} (taking : Taking F) {now : Memory} {l : Known} {first before : F} {ss left : Stmts} {sets : List NameSet}
    (half : Halfway taking now l first before ss left sets) where
  halfway_next : {new : Memory} {j : Known} {after : F} {rest : Stmts} (s : Stmt) → left ≡ Then s rest
      → Finds {X = Unit {0}} taking now new l j before after (Ok tt) (walk_stmt s) → Halfway taking new j first after ss rest sets
  unfolding walk walk_stmt
  halfway_next {rest = rest} s is finds =
      let one = finds half.between half.knows in
      let mid = walk_stmt s half.between in
      let more = walk rest mid.known in record {
        between = mid.known;
        knows = one.0;
        taken = half.taken ++ mid.findings;
        gained = taking.both half.taken mid.findings half.gained one.1;
        all = rw (append_assoc half.taken mid.findings more.findings) (rw is at half.all);
      }

  halfway_end : left ≡ NoStmts → Knows now l (walk ss sets).known × taking.gains first before (walk ss sets).findings
  unfolding walk
  halfway_end none = grind (arith, nat_tests, append-nil)

module _ {F : Type 0} (taking : Taking F) {old now : View} {k l : Known} {first before : F} {bytes : List ℕ} {at here : ℕ}
    (walking : Walking taking old now k l first before bytes at here) where
  module _ {lexeme : Lexeme} (next : IsNext bytes here lexeme) (other : lexeme.seen ≡ seen.RightBrace → ⊥) where
    -- The first of the statements that are left is ahead.
    pub first_of : (t : LinesAhead bytes at) → IsFirst (walking.behind t).left
    first_of t = let b = walking.behind t in first_line b.left t.behind next other b.ended b.tokens_are

    is : (t : LinesAhead bytes at) → line_trees (walking.behind t).left ≡ Then (line_tree (first_of t).line) (line_trees (first_of t).rest)
    is t = ap line_trees (first_of t).is

    abbrev pub line_ahead : LinesAhead bytes at → LineAhead bytes here
    line_ahead t = let b = walking.behind t in line_of t.behind (first_of t) b.tokens_are b.good

    module _ {new : View} {j : Known} where
      -- What is done, and one statement more, are among all of them.
      pub walking_takes : {error : Option AllocError} (t : LinesAhead bytes at)
          → ((u : LineAhead bytes here) → Takes (weight (line_tree u.line)) now new l j error)
          → Takes (weights (line_trees t.lines)) old new k j error
      walking_takes t takes =
          let b = walking.behind t in
          takes_more (weights (line_trees t.lines)) (omega (arith, b.all, ap weights (is t))) (takes_then b.takes (takes (line_ahead t)))

      -- It is stopped among all of them.
      pub walking_stops : {e : AllocError} (t : LinesAhead bytes at)
          → ((u : LineAhead bytes here) → Goes (Does (line_tree u.line)) (StopsAt (line_tree u.line)) now new l j (Some e))
          → Goes (DoesAll (line_trees t.lines)) (StopsIn (line_trees t.lines)) old new k j (Some e)
      walking_stops t goes = goes_short (is t) (walking.behind t).goes (goes (line_ahead t))

      -- One more statement is walked over.
      pub walking_next : {after : F} {end : ℕ} → here < end → Moves now.memory new.memory l j
          → ((u : LineAhead bytes here)
          → Finds {X = Unit {0}} taking now.memory new.memory l j before after (Ok tt) (walk_stmt (line_tree u.line)))
          → ((u : LineAhead bytes here) → Takes (weight (line_tree u.line)) now new l j None)
          → ((u : LineAhead bytes here) → Goes (Does (line_tree u.line)) (StopsAt (line_tree u.line)) now new l j None)
          → ((u : LineAhead bytes here) → spelled_at bytes end ≡ u.behind)
          → Walking taking old new k j first after bytes at end
      walking_next later moves finds takes goes behind = record {
        moves = moves_then walking.moves moves;
        later = omega (arith, later, walking.later);
        behind = λ t. let b = walking.behind t in let u = line_ahead t in record {
          left = (first_of t).rest;
          tokens_are = behind u;
          ended = b.ended;
          good = (subst AreStmts (is t) b.good).1;
          spent = b.spent + weight (line_tree u.line);
          all = omega (arith, b.all, ap weights (is t));
          takes = takes_then b.takes (takes u);
          goes = goes_next (is t) b.goes (goes u);
          halfway = λ sets knows. halfway_next taking (b.halfway sets knows) (line_tree u.line) (is t) (finds u);
        };
      }

  -- The text ends, or a block does.
  module _ (end : tokens_at bytes here ≡ []) (t : LinesAhead bytes at) where
    pub end_none : (walking.behind t).left ≡ []
    end_none = let b = walking.behind t in (none_left bytes here b.left t.behind b.tokens_are end).0

    pub end_behind : spelled_at bytes here ≡ drop 1 t.behind
    end_behind = let b = walking.behind t in
        ap without_places end ∙ ap (drop 1) (sym (none_left bytes here b.left t.behind b.tokens_are end).1)

  module _ {lexeme : Lexeme} (next : IsNext bytes here lexeme) (brace : lexeme.seen ≡ seen.RightBrace) (t : LinesAhead bytes at) where
    pub brace_none : (walking.behind t).left ≡ []
    brace_none = let b = walking.behind t in (brace_left b.left t.behind b.tokens_are next brace).0

    pub brace_behind : spelled_at bytes lexeme.end ≡ drop 1 t.behind
    brace_behind = let b = walking.behind t in ap (drop 1) (sym (brace_left b.left t.behind b.tokens_are next brace).1)

  -- All are done.
  module _ (none : (t : LinesAhead bytes at) → (walking.behind t).left ≡ []) (t : LinesAhead bytes at) where
    all_behind : line_trees (walking.behind t).left ≡ NoStmts
    all_behind = ap line_trees (none t)

    pub walking_end : (sets : List NameSet) → Knows old.memory k sets
        → Knows now.memory l (walk (line_trees t.lines) sets).known × taking.gains first before (walk (line_trees t.lines) sets).findings
    walking_end sets knows = halfway_end taking ((walking.behind t).halfway sets knows) all_behind

    pub walked_takes : Takes (weights (line_trees t.lines)) old now k l None
    walked_takes = let b = walking.behind t in takes_more (weights (line_trees t.lines)) (omega (arith, b.all)) b.takes

    pub walked_goes : Goes (DoesAll (line_trees t.lines)) (StopsIn (line_trees t.lines)) old now k l None
    walked_goes = goes_all all_behind (walking.behind t).goes
