-- Which blocks the tree of a text asks its arena for, one after another.
use Rattle.std.specs.Prelude.{◌≡◌, ℕ, suc, ◌+◌, ◌==◌, if◌then◌else◌, Bool, true, false, Result, Ok, Err, Option, Some, None, List, [], ◌∷◌, ◌++◌, length, slice_get}
use Rattle.arena_chunks.specs.Source.{View}
use Rattle.arena_store.specs.declared.block.Block.{Block}
use Rattle.arena_items.specs.Asks.{Ask, NoBlock, Fresh, Larger, room_ask, Runs, solid, Asked, TakesBlock, refusal}
use Rattle.arena_items.specs.Room.{capacity_after, SamePlaces}
use Rattle.arena_items.specs.declared.room.AllocError.{AllocError}
use Rattle.arena_items.specs.declared.room.Growth.{Growth}
use Rattle.arena_items.specs.declared.room.Growth.TheVariants.{GrowsTo}
use Rattle.arena_vec.specs.Growth.{amortised_growth}
use Rattle.arena_vec.specs.declared.vec.Vec.{Vec}
use Rattle.tree_rules.specs.Tokens.{Token, Star, tokens, without_places}
use Rattle.tree_rules.specs.Grammar.{Factor, ANumber, AName, InParens, Negated, Factors, OneFactor, Times, Terms, OneTerm, Added, Taken, Line, LetLine, ShowLine, BlockLine, Program, Empty, Next, spell_factor, spell_factors, spell_terms, spell_line, spell}
pub use Rattle.tree_nodes.specs.Asking.{AsksFor, list_ask, list_growth}
use Rattle.tree_nodes.specs.declared.node.Node.{Node}
use Rattle.arena_tree.specs.Parts.{spelled_at, sign_of}

-- how many blocks these place
abbrev pub placed_by : List (Ask ℕ) → ℕ
placed_by [] = 0
placed_by (NoBlock ∷ asks) = placed_by asks
placed_by (Fresh size align ∷ asks) = suc (placed_by asks)
placed_by (Larger at size align ∷ asks) = suc (placed_by asks)

-- A list of nodes: what was asked for up to here, its own block among all those that were placed, the number of its nodes,
-- its capacity, and how many nodes are read that are to be appended.
pub record Row : Type 0 where
  pub asks : List (Ask ℕ)
  pub block : Option ℕ
  pub len : ℕ
  pub cap : ℕ
  pub few : ℕ

abbrev pub no_row : Row
no_row = record { asks = []; block = None; len = 0; cap = 0; few = 0 }

-- a node more, with the blocks of its own
abbrev pub one_more : Row → List (Ask ℕ) → Row
one_more r asks = record r { asks = r.asks ++ asks; few = r.few + 1 }

-- the block after a growth, where so many were placed before
abbrev pub block_after : Growth → ℕ → Option ℕ → Option ℕ
block_after (GrowsTo more) n block = Some n
block_after growth n block = block

-- The nodes are appended. This many blocks were placed before the list began.
abbrev pub appended : ℕ → Growth → Row → Row
appended n growth r = record {
  asks = r.asks ++ room_ask 88 8 r.block growth ∷ [];
  block = block_after growth (n + placed_by r.asks) r.block;
  len = r.len + r.few;
  cap = capacity_after growth r.cap;
  few = 0;
}

-- Children are appended four at a time, and the last of them together. The first list has room for just the children if
-- they are at most four, and for eight otherwise.
abbrev pub four_growth : Row → Growth
four_growth r = list_growth r.cap (r.len + r.few) 8

abbrev pub last_growth : Row → Growth
last_growth r = list_growth r.cap (r.len + r.few) r.few

abbrev pub four_appended : ℕ → Row → Row
four_appended n r = if r.few == 4 then appended n (four_growth r) r else r

abbrev pub last_appended : ℕ → Row → Row
last_appended n r = appended n (last_growth r) r

-- statements are appended one at a time
abbrev pub line_growth : Row → Growth
line_growth r = amortised_growth 88 r.cap (r.len + r.few)

-- What a part asks for where so many blocks were placed before; and the children up to an operator behind one of them.
unfoldable mutual
  pub factor_asks : ℕ → Factor → List (Ask ℕ)
  factor_asks n (ANumber k) = []
  factor_asks n (AName bytes) = Fresh (length bytes) 1 ∷ []
  factor_asks n (InParens s) = terms_asks n s
  factor_asks n (Negated f) = factor_asks n f ++ Fresh 88 8 ∷ []

  pub factors_row : ℕ → Factors → Row
  factors_row n (OneFactor f) = one_more no_row (factor_asks n f)
  factors_row n (Times t f) = four_appended n (one_more (factors_row n t) (factor_asks (n + placed_by (factors_row n t).asks) f))

  pub factors_asks : ℕ → Factors → List (Ask ℕ)
  factors_asks n (OneFactor f) = factor_asks n f
  factors_asks n (Times t f) = (last_appended n (one_more (factors_row n t) (factor_asks (n + placed_by (factors_row n t).asks) f))).asks

  pub terms_row : ℕ → Terms → Row
  terms_row n (OneTerm t) = one_more no_row (factors_asks n t)
  terms_row n (Added s t) = four_appended n (one_more (terms_row n s) (factors_asks (n + placed_by (terms_row n s).asks) t))
  terms_row n (Taken s t) = four_appended n (one_more (terms_row n s) (factors_asks (n + placed_by (terms_row n s).asks) t ++ Fresh 88 8 ∷ []))

  pub terms_asks : ℕ → Terms → List (Ask ℕ)
  terms_asks n (OneTerm t) = factors_asks n t
  terms_asks n (Added s t) = (last_appended n (one_more (terms_row n s) (factors_asks (n + placed_by (terms_row n s).asks) t))).asks
  terms_asks n (Taken s t) = (last_appended n (one_more (terms_row n s) (factors_asks (n + placed_by (terms_row n s).asks) t ++ Fresh 88 8 ∷ []))).asks

unfoldable mutual
  pub line_asks : ℕ → Line → List (Ask ℕ)
  line_asks n (LetLine name s) = Fresh (length name) 1 ∷ (terms_asks (n + 1) s ++ Fresh 88 8 ∷ [])
  line_asks n (ShowLine s) = terms_asks n s ++ Fresh 88 8 ∷ []
  line_asks n (BlockLine p) = (lines_row n p).asks

  pub lines_row : ℕ → Program → Row
  lines_row n Empty = no_row
  lines_row n (Next p l) =
      let r = one_more (lines_row n p) (line_asks (n + placed_by (lines_row n p).asks) l) in
      appended n (line_growth r) r

abbrev pub program_asks : ℕ → Program → List (Ask ℕ)
program_asks n p = (lines_row n p).asks

-- ---- What calls asked for

-- These blocks were asked for and placed, whichever were placed before.
pub record Ran (asks : ℕ → List (Ask ℕ)) (old new : View) : Type 0 where
  pub later : List Block → List Block
  pub runs : (blocks : List Block) → Runs (asks (length blocks)) blocks old (later blocks) new

-- A part was read from one byte to another, and what it asks for was placed.
pub record HasRun {P : Type 0} (spelled : P → List Token → List Token) (asks : ℕ → P → List (Ask ℕ)) (bytes : List ℕ) (from end : ℕ)
    (old new : View) : Type 0 where
  pub part : P
  pub tokens_are : spelled_at bytes from ≡ spelled part (spelled_at bytes end)
  pub ran : Ran (λ n. asks n part) old new

abbrev pub FactorRan : List ℕ → ℕ → ℕ → View → View → Type 0
FactorRan = HasRun spell_factor factor_asks

abbrev pub TermRan : List ℕ → ℕ → ℕ → View → View → Type 0
TermRan = HasRun spell_factors factors_asks

abbrev pub TermsRan : List ℕ → ℕ → ℕ → View → View → Type 0
TermsRan = HasRun spell_terms terms_asks

abbrev pub LineRan : List ℕ → ℕ → ℕ → View → View → Type 0
LineRan = HasRun spell_line line_asks

-- a first child and the operator behind it
abbrev pub FirstFactorRan : List ℕ → ℕ → ℕ → View → View → Type 0
FirstFactorRan = HasRun (λ f more. spell_factor f (Star ∷ more)) factor_asks

abbrev pub FirstTermRan : Bool → List ℕ → ℕ → ℕ → View → View → Type 0
FirstTermRan minus = HasRun (λ t more. spell_factors t (sign_of minus ∷ more)) factors_asks

-- a statement, or none
abbrev pub LineRanOrNot : List ℕ → ℕ → View → View → Option ℕ → Type 0
LineRanOrNot bytes from old new None = SamePlaces old new
LineRanOrNot bytes from old new (Some end) = LineRan bytes from end old new

-- The text is a program, and what it asks for was placed.
pub record ProgramRan (bytes : List ℕ) (old new : View) : Type 0 where
  pub program : Program
  pub tokens_are : spell program [] ≡ without_places (tokens bytes)
  pub later : List Block
  pub runs : Runs (program_asks 0 program) [] old later new

-- A term is negated if a minus comes before it.
abbrev pub signed_asks : Bool → List (Ask ℕ) → List (Ask ℕ)
signed_asks true asks = asks ++ Fresh 88 8 ∷ []
signed_asks false asks = asks

abbrev pub Signed : Bool → Block → View → View → Type 0
Signed true block old new = TakesBlock (Fresh 88 8) None old new (solid block)
Signed false block old new = SamePlaces old new

abbrev pub AsksSign : {X : Type 0} → Bool → (X → Block) → View → View → Result X AllocError → Type 0
AsksSign minus block old new (Ok x) = Signed minus (block x) old new
AsksSign minus block old new (Err e) = (minus ≡ true) × Asked (Fresh 88 8) old new (refusal e)

-- the block of a list among those that were placed, or that it has none
abbrev pub IsBlockAt : List Block → Option ℕ → Block → Type 0
IsBlockAt blocks None b = solid b ≡ None
IsBlockAt blocks (Some n) b = (solid b ≡ Some b) × (slice_get blocks n ≡ Some b)

-- What a list asked for was placed, and this is the list.
pub record IsRow (row : ℕ → Row) (old now : View) (list : Vec Node) (few : ℕ) : Type 0 where
  pub later : List Block → List Block
  pub runs : (blocks : List Block) → Runs (row (length blocks)).asks blocks old (later blocks) now
  pub block : (blocks : List Block) → IsBlockAt (later blocks) (row (length blocks)).block list.raw.block
  pub len : (n : ℕ) → (row n).len ≡ list.raw.len
  pub cap : (n : ℕ) → (row n).cap ≡ list.raw.cap
  pub few_is : (n : ℕ) → (row n).few ≡ few

-- Parts were read up to an operator, and this is their list.
pub record RowRead {P : Type 0} (spelled : P → List Token → List Token) (row : ℕ → P → Row) (operator : Token) (bytes : List ℕ) (from next : ℕ)
    (old now : View) (list : Vec Node) (few : ℕ) : Type 0 where
  pub part : P
  pub tokens_are : spelled_at bytes from ≡ spelled part (operator ∷ spelled_at bytes next)
  pub is_row : IsRow (λ n. row n part) old now list few

-- Statements were read, and this is their list.
pub record LinesRead (bytes : List ℕ) (from next : ℕ) (old now : View) (list : Vec Node) : Type 0 where
  pub part : Program
  pub tokens_are : spelled_at bytes from ≡ spell part (spelled_at bytes next)
  pub is_row : IsRow (λ n. lines_row n part) old now list 0
