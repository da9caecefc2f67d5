-- Statements of a text, one by one.
use Rattle.std.proofs.lemmas.Bool.Decides.{nat_tests}
use Rattle.std.proofs.Common.{◌≡◌, ◌≢◌, ℕ, List, [], ◌∷◌, ◌++◌, drop, refl, sym, ap, ◌∙◌, subst, arith, append-nil}
use Rattle.std.specs.Prelude.{slice_range}
use Rattle.tree_rules.specs.Tokens.{Token, LetKey, Word, Equals, Semicolon, LeftBrace, RightBrace, without_places}
use Rattle.tree_rules.specs.Grammar.{Terms, spell_terms, terms_tree, Line, LetLine, ShowLine, BlockLine, spell_line, line_tree, Program, Empty, Next, spell, trees_of}
use Rattle.tree_rules.specs.Trees.{Expr, IsExpr, IsName, Stmt, Let, Show, Stmts, NoStmts, Then, with_stmt, IsStmt, AreStmts}
use Rattle.tree_rules.specs.Trees as tree
use Rattle.tree_rules.specs.Refusals.{IsGood}
use Rattle.tree_rules.specs.Report.{names_of}
use Rattle.tree_rules.proofs.StepLemmas.{terms_begin}
use Rattle.tree_reader.specs.Seen.{IsNext, IsSeen, tokens_at}
use Rattle.tree_reader.specs.declared.token.Seen.{Seen}
use Rattle.tree_reader.specs.declared.token.Seen.TheVariants as seen
use Rattle.tree_reader.specs.declared.token.Lexeme.{Lexeme}
use Rattle.arena_tree.specs.Parts.{spelled_at}
use Rattle.arena_lint.specs.Ahead.{HaveNames, NamesAhead, LineAhead, spell_lines, line_trees, AreEnded, LinesAhead}
use Rattle.arena_lint.proofs.NameLemmas.{have_terms, good_names}

-- ---- All statements of a program

abbrev lines_of : Program → List Line → List Line
lines_of Empty more = more
lines_of (Next p l) more = lines_of p (l ∷ more)

lines_spelled : (p : Program) (ls : List Line) (more : List Token) → spell p (spell_lines ls more) ≡ spell_lines (lines_of p ls) more
lines_spelled Empty ls more = refl
lines_spelled (Next p l) ls more = lines_spelled p (l ∷ ls) more

abbrev joined : Stmts → Stmts → Stmts
joined NoStmts more = more
joined (Then s rest) more = Then s (joined rest more)

with_joined : (ss more : Stmts) (s : Stmt) → joined ss (Then s more) ≡ joined (with_stmt ss s) more
with_joined NoStmts more s = refl
with_joined (Then t rest) more s = ap (Then t) (with_joined rest more s)

joined_none : (ss : Stmts) → joined ss NoStmts ≡ ss
joined_none NoStmts = refl
joined_none (Then s rest) = ap (Then s) (joined_none rest)

lines_trees : (p : Program) (ls : List Line) → line_trees (lines_of p ls) ≡ joined (trees_of p) (line_trees ls)
lines_trees Empty ls = refl
lines_trees (Next p l) ls = lines_trees p (l ∷ ls) ∙ with_joined (trees_of p) (line_trees ls) (line_tree l)

-- The statements ahead are these, and behind them are these tokens.
pub record AreAhead (bytes : List ℕ) (at : ℕ) (ss : Stmts) (behind : List Token) : Type 0 where
  pub ahead : LinesAhead bytes at
  pub trees : line_trees ahead.lines ≡ ss
  pub last : ahead.behind ≡ behind

are_ahead : {bytes : List ℕ} {at : ℕ} (p : Program) (behind : List Token) → spelled_at bytes at ≡ spell p behind → AreEnded behind
    → AreStmts (trees_of p) → AreAhead bytes at (trees_of p) behind
are_ahead p behind is ended good = let same = lines_trees p [] ∙ joined_none (trees_of p) in record {
  ahead = record {
    lines = lines_of p [];
    behind = behind;
    tokens_are = is ∙ lines_spelled p [] behind;
    ended = ended;
    good = subst AreStmts (sym same) good;
  };
  trees = same;
  last = refl;
}

-- those of a whole text
pub all_ahead : (bytes : List ℕ) (trees : Stmts) → IsGood bytes trees → AreStmts trees → AreAhead bytes 0 trees []
all_ahead bytes trees good plain = let p = good.program in
    subst (λ (ss : Stmts). AreAhead bytes 0 ss []) p.trees_are
    (are_ahead p.program [] (sym p.tokens_are) tt (subst AreStmts (sym p.trees_are) plain))

-- ---- By its first token

abbrev IsValue : List Token → Type 0
IsValue [] = ⊥
IsValue (LetKey ∷ ts) = ⊥
IsValue (LeftBrace ∷ ts) = ⊥
IsValue (RightBrace ∷ ts) = ⊥
IsValue (t ∷ ts) = Unit {0}

value : (s : Terms) (more : List Token) → IsValue (spell_terms s more)
value s more = terms_begin IsValue (λ n ts. tt) (λ bytes ts. tt) (λ ts. tt) (λ ts. tt) s more

let_first : (line : Line) (behind more : List Token) → spell_line line behind ≡ LetKey ∷ more
    → (name : List ℕ) × (s : Terms) × (line ≡ LetLine name s) × (more ≡ Word name ∷ Equals ∷ spell_terms s (Semicolon ∷ behind))
let_first (LetLine name s) behind more is = (name, s, refl, cc is)
let_first (ShowLine s) behind more is = absurd (subst IsValue is (value s (Semicolon ∷ behind)))
let_first (BlockLine p) behind more is = absurd (cc is)

block_first : (line : Line) (behind more : List Token) → spell_line line behind ≡ LeftBrace ∷ more
    → (p : Program) × (line ≡ BlockLine p) × (more ≡ spell p (RightBrace ∷ behind))
block_first (LetLine name s) behind more is = absurd (cc is)
block_first (ShowLine s) behind more is = absurd (subst IsValue is (value s (Semicolon ∷ behind)))
block_first (BlockLine p) behind more is = (p, refl, cc is)

show_first : (line : Line) (behind more : List Token) (t : Token) → spell_line line behind ≡ t ∷ more → t ≢ LetKey → t ≢ LeftBrace
    → (s : Terms) × (line ≡ ShowLine s)
show_first (LetLine name s) behind more t is key brace = absurd (key (cc is))
show_first (ShowLine s) behind more t is key brace = (s, refl)
show_first (BlockLine p) behind more t is key brace = absurd (brace (cc is))

ends_none : (line : Line) (behind ts : List Token) → AreEnded ts → spell_line line behind ≡ ts → ⊥
ends_none (LetLine name s) behind ts ended is = subst AreEnded (sym is) ended
ends_none (ShowLine s) behind ts ended is = by (spell_terms s (Semicolon ∷ behind)) (value s (Semicolon ∷ behind)) (subst AreEnded (sym is) ended)
  where
    by : (all : List Token) → IsValue all → AreEnded all → ⊥
    by (RightBrace ∷ all) is ended = is
    by [] is ended = is
    by (t ∷ all) is ended = ended
ends_none (BlockLine p) behind ts ended is = subst AreEnded (sym is) ended

brace_ends : (t : Token) (more : List Token) → AreEnded (t ∷ more) → t ≡ RightBrace
brace_ends RightBrace more ended = refl
brace_ends t more ended = absurd ended

-- ---- What is seen

spelled_next : {bytes : List ℕ} {at : ℕ} {l : Lexeme} (n : IsNext bytes at l) → spelled_at bytes at ≡ n.token ∷ spelled_at bytes l.end
spelled_next n = ap without_places n.tokens_are

-- the kinds that begin or end what is no expression
seen_as : (s : Seen) (bytes : List ℕ) (t : Token) → IsSeen s bytes t
    → ((t ≡ LetKey) → s ≡ seen.LetKey) × ((t ≡ LeftBrace) → s ≡ seen.LeftBrace) × ((t ≡ RightBrace) → s ≡ seen.RightBrace)
    × ((name : List ℕ) → t ≡ Word name → bytes ≡ name)
seen_as s bytes t is = grind (arith, nat_tests)

-- the names of an expression, up to its semicolon
terms_ahead : {bytes : List ℕ} {at : ℕ} (s : Terms) (behind : List Token)
    → HaveNames (spelled_at bytes at) (names_of (terms_tree s) ++ []) behind → IsExpr (terms_tree s)
    → (u : NamesAhead bytes at) × (u.names ≡ names_of (terms_tree s)) × (u.behind ≡ behind)
terms_ahead {bytes} {at} s behind have good = (
  record {
    names = names_of (terms_tree s);
    behind = behind;
    tokens_are = subst (λ (l : List (List ℕ)). HaveNames (spelled_at bytes at) l behind) (append-nil (names_of (terms_tree s))) have;
    good = good_names (terms_tree s) good;
  },
  refl,
  refl,
)

have_value : (s : Terms) (behind : List Token) → HaveNames (spell_terms s (Semicolon ∷ behind)) (names_of (terms_tree s) ++ []) behind
have_value s behind = have_terms s (Semicolon ∷ behind) [] behind (refl, refl)

-- A definition, whose name is this lexeme.
pub record IsLetRead (bytes : List ℕ) (l : Lexeme) (s : Stmt) (behind : List Token) : Type 0 where
  pub value : Expr
  pub is : s ≡ Let (slice_range bytes l.at l.end) value
  pub plain : IsName (slice_range bytes l.at l.end)
  pub names : NamesAhead bytes l.end
  pub names_are : names.names ≡ names_of value
  pub last : names.behind ≡ behind

let_by : {bytes : List ℕ} {at : ℕ} {l : Lexeme} (name : List ℕ) (s : Terms) (behind : List Token) (n : IsNext bytes at l)
    → spelled_at bytes at ≡ Word name ∷ Equals ∷ spell_terms s (Semicolon ∷ behind) → IsName name × IsExpr (terms_tree s)
    → IsLetRead bytes l (Let name (terms_tree s)) behind
let_by {bytes} {at} {l} name s behind n is good =
    let both : n.token ∷ spelled_at bytes l.end ≡ Word name ∷ Equals ∷ spell_terms s (Semicolon ∷ behind) = sym (spelled_next n) ∙ is in
    let rest : spelled_at bytes l.end ≡ Equals ∷ spell_terms s (Semicolon ∷ behind) = cc both in
    let word : slice_range bytes l.at l.end ≡ name
    = (seen_as l.seen (slice_range bytes l.at l.end) n.token n.seen).3 name (cc both) in
    let u = terms_ahead {bytes = bytes} {at = l.end} s behind
    (subst (λ (ts : List Token). HaveNames ts (names_of (terms_tree s) ++ []) behind) (sym rest) (have_value s behind)) good.1 in
    record {
      value = terms_tree s;
      is = ap (λ (w : List ℕ). Let w (terms_tree s)) (sym word);
      plain = subst IsName (sym word) good.0;
      names = u.0;
      names_are = u.1;
      last = u.2;
    }

-- An expression.
pub record IsShowRead (bytes : List ℕ) (at : ℕ) (s : Stmt) (behind : List Token) : Type 0 where
  pub value : Expr
  pub is : s ≡ Show value
  pub names : NamesAhead bytes at
  pub names_are : names.names ≡ names_of value
  pub last : names.behind ≡ behind

-- A block, whose statements are ahead.
pub record IsBlockRead (bytes : List ℕ) (at : ℕ) (s : Stmt) (behind : List Token) : Type 0 where
  pub body : LinesAhead bytes at
  pub is : s ≡ tree.Block (line_trees body.lines)
  pub last : drop 1 body.behind ≡ behind

module _ {bytes : List ℕ} {at : ℕ} {l : Lexeme} (t : LineAhead bytes at) (n : IsNext bytes at l) where
  first : spell_line t.line t.behind ≡ n.token ∷ spelled_at bytes l.end
  first = sym t.tokens_are ∙ spelled_next n

  module _ (key : l.seen ≡ seen.LetKey) where
    as_let : (name : List ℕ) × (s : Terms) × (t.line ≡ LetLine name s)
        × (spelled_at bytes l.end ≡ Word name ∷ Equals ∷ spell_terms s (Semicolon ∷ t.behind))
    as_let = grind (arith, nat_tests, let_first, first, n.seen)

    -- its name comes next
    pub name_comes : tokens_at bytes l.end ≡ [] → ⊥
    name_comes none = absurd (cc (as_let.3, none))

    pub let_read : {name : Lexeme} → IsNext bytes l.end name → IsLetRead bytes name (line_tree t.line) t.behind
    let_read {name} next = let a = as_let in
        subst (λ (line : Line). IsLetRead bytes name (line_tree line) t.behind) (sym a.2)
        (let_by a.0 a.1 t.behind next a.3 (subst (λ (line : Line). IsStmt (line_tree line)) a.2 t.good))

  pub block_read : l.seen ≡ seen.LeftBrace → IsBlockRead bytes l.end (line_tree t.line) t.behind
  block_read is =
      let b = block_first t.line t.behind (spelled_at bytes l.end) (grind (arith, nat_tests, first, n.seen)) in
      let a = are_ahead b.0 (RightBrace ∷ t.behind) b.2 tt (subst (λ (line : Line). IsStmt (line_tree line)) b.1 t.good) in
      record {
        body = a.ahead;
        is = ap line_tree b.1 ∙ ap tree.Block (sym a.trees);
        last = ap (drop 1) a.last;
      }

  pub block_body : l.seen ≡ seen.LeftBrace → LinesAhead bytes l.end
  block_body is = (block_read is).body

  pub show_read : (l.seen ≡ seen.LetKey → ⊥) → (l.seen ≡ seen.LeftBrace → ⊥) → IsShowRead bytes at (line_tree t.line) t.behind
  show_read key brace =
      let k = seen_as l.seen (slice_range bytes l.at l.end) n.token n.seen in
      let s = show_first t.line t.behind (spelled_at bytes l.end) n.token first (λ is. key (k.0 is)) (λ is. brace (k.1 is)) in
      let u = terms_ahead {bytes = bytes} {at = at} s.0 t.behind (subst (λ (ts : List Token). HaveNames ts (names_of (terms_tree s.0) ++ []) t.behind)
      (sym (t.tokens_are ∙ ap (λ (line : Line). spell_line line t.behind) s.1)) (have_value s.0 t.behind))
      (subst (λ (line : Line). IsStmt (line_tree line)) s.1 t.good) in
      record { value = terms_tree s.0; is = ap line_tree s.1; names = u.0; names_are = u.1; last = u.2 }

-- ---- Those that are left

pub record IsFirst (left : List Line) : Type 0 where
  pub line : Line
  pub rest : List Line
  pub is : left ≡ line ∷ rest

pub first_line : {bytes : List ℕ} {at : ℕ} {l : Lexeme} (left : List Line) (behind : List Token) → IsNext bytes at l
    → (l.seen ≡ seen.RightBrace → ⊥) → AreEnded behind → spelled_at bytes at ≡ spell_lines left behind → IsFirst left
first_line {bytes} {l = l} [] behind n brace ended is =
    absurd (brace ((seen_as l.seen (slice_range bytes l.at l.end) n.token n.seen).2
    (brace_ends n.token (spelled_at bytes l.end) (subst AreEnded (sym is ∙ spelled_next n) ended))))
first_line (line ∷ rest) behind n brace ended is = record { line = line; rest = rest; is = refl }

abbrev pub line_of : {bytes : List ℕ} {at : ℕ} {left : List Line} (behind : List Token) (f : IsFirst left)
    → spelled_at bytes at ≡ spell_lines left behind → AreStmts (line_trees left) → LineAhead bytes at
line_of behind f is good = record {
  line = f.line;
  behind = spell_lines f.rest behind;
  tokens_are = is ∙ ap (λ (ls : List Line). spell_lines ls behind) f.is;
  good = (subst (λ (ls : List Line). AreStmts (line_trees ls)) f.is good).0;
}

-- No statement is left at the end of the text, or of a block.
pub none_left : (bytes : List ℕ) (at : ℕ) (left : List Line) (behind : List Token) → spelled_at bytes at ≡ spell_lines left behind
    → tokens_at bytes at ≡ [] → (left ≡ []) × (behind ≡ [])
none_left bytes at [] behind is none = (refl, sym is ∙ ap without_places none)
none_left bytes at (line ∷ rest) behind is none = absurd (ends_none line (spell_lines rest behind) [] tt (sym is ∙ ap without_places none))

pub brace_left : {bytes : List ℕ} {at : ℕ} {l : Lexeme} (left : List Line) (behind : List Token) → spelled_at bytes at ≡ spell_lines left behind
    → IsNext bytes at l → l.seen ≡ seen.RightBrace → (left ≡ []) × (behind ≡ RightBrace ∷ spelled_at bytes l.end)
brace_left {bytes} {l = l} [] behind is n brace =
    let t : n.token ≡ RightBrace = grind (arith, nat_tests, n.seen) in
    (refl, sym is ∙ spelled_next n ∙ ap (λ (t : Token). t ∷ spelled_at bytes l.end) t)
brace_left {bytes} {l = l} (line ∷ rest) behind is n brace =
    let t : n.token ≡ RightBrace = grind (arith, nat_tests, n.seen) in
    absurd (ends_none line (spell_lines rest behind) (RightBrace ∷ spelled_at bytes l.end) tt
    (sym is ∙ spelled_next n ∙ ap (λ (t : Token). t ∷ spelled_at bytes l.end) t))
