-- Parts of a text that were read, and what was placed for them.
use Rattle.std.specs.Prelude.{◌≡◌, ℕ, ◌<◌, ◌≤◌, Bool, true, false, None, List, [], ◌∷◌, length, slice_range}
use Rattle.arena_chunks.specs.Memory.{Memory}
use Rattle.tree_rules.specs.Tokens.{Token, Word, Number, Plus, Minus, Star, LeftParen, Placed, without_places}
use Rattle.tree_rules.specs.Trees.{Expr, Neg}
use Rattle.tree_rules.specs.Grammar.{spell_factor, spell_factors, spell_terms, factor_tree, factors_tree, terms_tree}
use Rattle.tree_rules.specs.Reading.{State, state, signs_ended, is_too_big, refusal_from}
use Rattle.tree_rules.specs.declared.machine.Open.{Open}
use Rattle.tree_rules.specs.declared.machine.Open.TheVariants.{Paren}
use Rattle.tree_rules.specs.declared.machine.Mode.TheVariants.{AtFactor, BehindFactor}
use Rattle.tree_reader.specs.Seen.{tokens_at}
use Rattle.arena_tree.specs.TreesAt.{IsPlaced}
use Rattle.tree_nodes.specs.declared.node.Node.{Node}
use Rattle.arena_tree.specs.declared.look.Start.{Start}
use Rattle.arena_tree.specs.declared.look.Start.TheVariants as start

-- the text isn't refused from a byte on, in this state
abbrev pub IsPassed : List ℕ → State → ℕ → Type 0
IsPassed bytes s at = refusal_from (length bytes) s (tokens_at bytes at) ≡ None

-- it is refused in each of these states
abbrev pub IsRefusedAt : {X : Type 0} → (X → State) → List ℕ → ℕ → Type 0
IsRefusedAt {X} before bytes at = (x : X) → IsPassed bytes (before x) at → ⊥

-- no factor begins there, and an expression in parentheses doesn't end there
abbrev pub NoFactor : List ℕ → ℕ → Type 0
NoFactor = IsRefusedAt (state AtFactor)

abbrev pub NoClose : List ℕ → ℕ → Type 0
NoClose = IsRefusedAt (λ (opens : List Open). state BehindFactor (Paren ∷ opens))

-- What is open where so many are; and where no sign is innermost, as where a term begins.
pub record Opens (deep : ℕ) : Type 0 where
  pub opens : List Open
  pub many : length opens ≡ deep

pub record PlainOpens (deep : ℕ) : Type 0 where
  pub opens : List Open
  pub many : length opens ≡ deep
  pub plain : signs_ended opens ≡ opens

-- the states before a factor and after it, and those before terms and after them
abbrev pub factor_at : (deep : ℕ) → Opens deep → State
factor_at deep o = state AtFactor o.opens

abbrev pub factor_behind : (deep : ℕ) → Opens deep → State
factor_behind deep o = state BehindFactor (signs_ended o.opens)

abbrev pub terms_at : (deep : ℕ) → PlainOpens deep → State
terms_at deep o = state AtFactor o.opens

abbrev pub terms_behind : (deep : ℕ) → PlainOpens deep → State
terms_behind deep o = state BehindFactor o.opens

-- no factor and no terms begin there within the limits, where so many are open
abbrev pub NoFactorIn : ℕ → List ℕ → ℕ → Type 0
NoFactorIn deep = IsRefusedAt (factor_at deep)

abbrev pub NoTermsIn : ℕ → List ℕ → ℕ → Type 0
NoTermsIn deep = IsRefusedAt (terms_at deep)

-- the tokens from a byte on
abbrev pub spelled_at : List ℕ → ℕ → List Token
spelled_at bytes at = without_places (tokens_at bytes at)

-- a token, and the byte after it
pub record IsTokenAt (bytes : List ℕ) (at : ℕ) (token : Token) (end : ℕ) : Type 0 where
  pub place : ℕ
  pub tokens_are : tokens_at bytes at ≡ record { at = place; token = token } ∷ tokens_at bytes end
  pub later : at < end
  pub within : end ≤ length bytes

-- none of these tokens comes next
abbrev pub NoStar : List Placed → Type 0
NoStar [] = Unit {0}
NoStar (t ∷ ts) = t.token ≡ Star → ⊥

abbrev pub NoSign : List Placed → Type 0
NoSign [] = Unit {0}
NoSign (t ∷ ts) = (t.token ≡ Plus → ⊥) × (t.token ≡ Minus → ⊥)

-- a subtracted term is negated
abbrev pub signed_tree : Bool → Expr → Expr
signed_tree true e = Neg e
signed_tree false e = e

abbrev pub sign_of : Bool → Token
sign_of true = Minus
sign_of false = Plus

-- From one byte to another there are these tokens, and over them the machine goes from one state to the other, whatever
-- is open: the text is refused from the one on as it is from the other.
pub record Reads {X : Type 0} (bytes : List ℕ) (from end : ℕ) (spelled : List Token → List Token)
    (before behind : X → State) : Type 0 where
  pub tokens_are : spelled_at bytes from ≡ spelled (spelled_at bytes end)
  pub same : (x : X) → refusal_from (length bytes) (before x) (tokens_at bytes from)
      ≡ refusal_from (length bytes) (behind x) (tokens_at bytes end)
  pub later : from < end
  pub within : end ≤ length bytes

-- A part was read, and a tree placed for it.
pub record IsPart {P X : Type 0} (tree : P → Expr) (spelled : P → List Token → List Token) (stops : List Placed → Type 0)
    (before behind : X → State) (bytes : List ℕ) (from end : ℕ) (old new : Memory) (n : Node) : Type 0 where
  pub part : P
  pub read : Reads bytes from end (spelled part) before behind
  pub open read use *
  pub stopped : stops (tokens_at bytes end)
  pub placed : IsPlaced (tree part) old new n

abbrev pub AnyStop : List Placed → Type 0
AnyStop ts = Unit {0}

abbrev pub TermsStop : List Placed → Type 0
TermsStop ts = NoStar ts × NoSign ts

abbrev pub IsFactor : ℕ → List ℕ → ℕ → ℕ → Memory → Memory → Node → Type 0
IsFactor deep = IsPart factor_tree spell_factor AnyStop (factor_at deep) (factor_behind deep)

abbrev pub IsTerm : ℕ → List ℕ → ℕ → ℕ → Memory → Memory → Node → Type 0
IsTerm deep = IsPart factors_tree spell_factors NoStar (terms_at deep) (terms_behind deep)

abbrev pub IsTerms : ℕ → List ℕ → ℕ → ℕ → Memory → Memory → Node → Type 0
IsTerms deep = IsPart terms_tree spell_terms TermsStop (terms_at deep) (terms_behind deep)

-- What a factor begins with: a number of 64 bits, a name, a sign or a parenthesis.
abbrev pub IsStart : List ℕ → ℕ → Start → Type 0
IsStart bytes at (start.Number n end) = IsTokenAt bytes at (Number n) end × (is_too_big (Number n) ≡ false)
IsStart bytes at (start.Word begin end) = IsTokenAt bytes at (Word (slice_range bytes begin end)) end × (begin ≤ end)
    × (end ≤ length bytes) × (at ≤ begin)
IsStart bytes at (start.Minus end) = IsTokenAt bytes at Minus end
IsStart bytes at (start.Paren end) = IsTokenAt bytes at LeftParen end
