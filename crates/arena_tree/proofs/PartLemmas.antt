-- Parts of texts, put together.
use Rattle.std.proofs.lemmas.Bool.Decides.{nat_tests}
use Rattle.std.proofs.Common.{add-one, ◌≡◌, ◌≢◌, ◌≤◌, ◌+◌, ℕ, zero, suc, Bool, true, false, Some, List, ◌∷◌, ◌++◌, [], length, refl, sym, ap, ◌∙◌, arith}
use Rattle.arena_chunks.specs.Memory.{Memory}
use Rattle.arena_vec.specs.declared.vec.Vec.{Vec}
use Rattle.tree_rules.specs.Tokens.{Token, Star, Minus, LeftParen, RightParen, LeftBrace, RightBrace, Semicolon}
use Rattle.tree_rules.specs.Grammar.{Factors, Terms, Added, Taken, spell_factors, spell_terms, factors_tree, terms_tree, term_trees}
use Rattle.tree_rules.specs.Reading.{State, state, signs_ended, step, is_too_big, refusal_from}
use Rattle.tree_rules.specs.Refusals.{most_nest}
use Rattle.tree_rules.specs.declared.machine.Open.{Open}
use Rattle.tree_rules.specs.declared.machine.Open.TheVariants.{Paren, Sign, Brace}
use Rattle.tree_rules.specs.declared.machine.Mode.TheVariants.{AtLine, AtFactor, BehindFactor}
use Rattle.tree_rules.proofs.StepLemmas.{ended_length}
use Rattle.tree_reader.specs.Seen.{tokens_at}
use Rattle.tree_nodes.specs.declared.node.Kind.TheVariants as kind
use Rattle.tree_nodes.specs.declared.node.Node.{Node}
use Rattle.arena_tree.specs.TreesAt.{kids_of, IsPlaced}
use Rattle.arena_tree.specs.Subtrees.{OfExpr, expr_row, IsRowBuilt, IsRowRead}
use Rattle.arena_tree.specs.Parts.{IsTokenAt, IsRefusedAt, NoFactorIn, Opens, PlainOpens, factor_at, factor_behind, terms_at, terms_behind, sign_of, signed_tree, Reads}
use Rattle.arena_tree.specs.LineParts.{braces, at_line, at_value, line_at, NoLineIn}
use Rattle.tree_nodes.proofs.BuildLemmas.{HasKidsAlone, sum_placed}
use Rattle.tree_nodes.proofs.RowLemmas.{exprs_built, exprs_more}
use Rattle.arena_tree.proofs.TokenLemmas.{goes_to, too_deep}

-- ---- Reading

pub reads_token : {X : Type 0} {bytes : List ℕ} {at end : ℕ} {token : Token} (before behind : X → State) → IsTokenAt bytes at token end
    → is_too_big token ≡ false → ((x : X) → length (behind x).opens ≤ most_nest)
    → ((x : X) → step (before x) token ≡ Some (behind x)) → Reads bytes at end (λ more. token ∷ more) before behind
unfolding refusal_from
reads_token before behind t small low steps = grind (arith, nat_tests, goes_to)

-- one part, and another after it
pub reads_then : {X : Type 0} {bytes : List ℕ} {from mid end : ℕ} {one two : List Token → List Token} {before between behind : X → State}
    → Reads bytes from mid one before between → Reads bytes mid end two between behind
    → Reads bytes from end (λ more. one (two more)) before behind
reads_then {one = x0} a b = grind (arith, nat_tests)

-- where some of what is open is known
pub reads_in : {X Y : Type 0} {bytes : List ℕ} {from end : ℕ} {spelled : List Token → List Token} {before behind : X → State}
    (inside : Y → X) → Reads bytes from end spelled before behind
    → Reads bytes from end spelled (λ y. before (inside y)) (λ y. behind (inside y))
reads_in inside r = grind (arith, nat_tests)

-- a part, and then what the text is refused for
pub refused_then : {X : Type 0} {bytes : List ℕ} {from end : ℕ} {spelled : List Token → List Token} {before behind : X → State}
    → Reads bytes from end spelled before behind → IsRefusedAt behind bytes end → IsRefusedAt before bytes from
refused_then r refused x p = refused x (sym (r.same x) ∙ p)

-- ---- What is open

abbrev pub in_paren : {deep : ℕ} → Opens deep → PlainOpens (deep + 1)
in_paren o = record { opens = Paren ∷ o.opens; many = omega (arith, o.many); plain = refl }

abbrev pub in_sign : {deep : ℕ} → Opens deep → Opens (deep + 1)
in_sign o = record { opens = Sign ∷ o.opens; many = omega (arith, o.many) }

abbrev pub unsigned : {deep : ℕ} → PlainOpens deep → Opens deep
unsigned o = record { opens = o.opens; many = o.many }

-- braces alone
pub braces_many : (n : ℕ) → length (braces n) ≡ n
braces_many zero = refl
braces_many (suc n) = ap suc (braces_many n)

pub braces_plain : (n : ℕ) → signs_ended (braces n) ≡ braces n
braces_plain n = grind (arith, nat_tests)

abbrev pub in_braces : (deep : ℕ) → PlainOpens deep
in_braces deep = record { opens = braces deep; many = braces_many deep; plain = braces_plain deep }

-- a line inside one more brace
braced : (deep : ℕ) → state AtLine (Brace ∷ braces deep) ≡ at_line (deep + 1)
braced deep = ap at_line (sym (add-one deep))

module _ {bytes : List ℕ} {at end deep : ℕ} (nest : deep ≤ most_nest) where
  -- a number or a name
  pub reads_leaf : {token : Token} → IsTokenAt bytes at token end → is_too_big token ≡ false
      → ((opens : List Open) → step (state AtFactor opens) token ≡ Some (state BehindFactor (signs_ended opens)))
      → Reads bytes at end (λ more. token ∷ more) (factor_at deep) (factor_behind deep)
  reads_leaf t small steps = reads_token (factor_at deep) (factor_behind deep) t small
      (λ o. omega (arith, ended_length o.opens, o.many, nest)) (λ o. steps o.opens)

  pub opens_paren : deep ≢ most_nest → IsTokenAt bytes at LeftParen end
      → Reads bytes at end (λ more. LeftParen ∷ more) (factor_at deep) (λ o. terms_at (deep + 1) (in_paren o))
  opens_paren room t = reads_token (factor_at deep) (λ o. terms_at (deep + 1) (in_paren o)) t refl
      (λ o. omega (arith, o.many, nest, room)) (λ o. refl)

  pub closes_paren : IsTokenAt bytes at RightParen end
      → Reads bytes at end (λ more. RightParen ∷ more) (λ o. terms_behind (deep + 1) (in_paren o)) (factor_behind deep)
  closes_paren t = reads_token (λ o. terms_behind (deep + 1) (in_paren o)) (factor_behind deep) t refl
      (λ o. omega (arith, ended_length o.opens, o.many, nest)) (λ o. refl)

  pub opens_sign : deep ≢ most_nest → IsTokenAt bytes at Minus end
      → Reads bytes at end (λ more. Minus ∷ more) (factor_at deep) (λ o. factor_at (deep + 1) (in_sign o))
  opens_sign room t = reads_token (factor_at deep) (λ o. factor_at (deep + 1) (in_sign o)) t refl
      (λ o. omega (arith, o.many, nest, room)) (λ o. refl)

  pub reads_star : IsTokenAt bytes at Star end → Reads bytes at end (λ more. Star ∷ more) (terms_behind deep) (terms_at deep)
  reads_star t = reads_token (terms_behind deep) (terms_at deep) t refl (λ o. omega (arith, o.many, nest)) (λ o. refl)

  pub reads_sign : (minus : Bool) → IsTokenAt bytes at (sign_of minus) end
      → Reads bytes at end (λ more. sign_of minus ∷ more) (terms_behind deep) (terms_at deep)
  reads_sign true t = reads_token (terms_behind deep) (terms_at deep) t refl (λ o. omega (arith, o.many, nest)) (λ o. refl)
  reads_sign false t = reads_token (terms_behind deep) (terms_at deep) t refl (λ o. omega (arith, o.many, nest)) (λ o. refl)

  -- a statement's end
  pub ends_line : IsTokenAt bytes at Semicolon end
      → Reads bytes at end (λ more. Semicolon ∷ more) (λ (u : Unit {0}). terms_behind deep (in_braces deep)) (line_at deep)
  ends_line t = reads_token (λ u. terms_behind deep (in_braces deep)) (line_at deep) t refl
      (λ u. omega (arith, braces_many deep, nest)) (λ u. ends deep)
    where
      ends : (n : ℕ) → step (state BehindFactor (braces n)) Semicolon ≡ Some (at_line n)
      ends zero = refl
      ends (suc n) = refl

  pub opens_brace : deep ≢ most_nest → IsTokenAt bytes at LeftBrace end
      → Reads bytes at end (λ more. LeftBrace ∷ more) (line_at deep) (line_at (deep + 1))
  opens_brace room t = reads_token (line_at deep) (line_at (deep + 1)) t refl
      (λ u. omega (arith, braces_many (deep + 1), nest, room)) (λ u. ap Some (braced deep))

  pub closes_brace : IsTokenAt bytes at RightBrace end
      → Reads bytes at end (λ more. RightBrace ∷ more) (line_at (deep + 1)) (line_at deep)
  closes_brace t = reads_token (line_at (deep + 1)) (line_at deep) t refl (λ u. omega (arith, braces_many deep, nest))
      (λ u. ap (λ (s : State). step s RightBrace) (sym (braced deep)))

  -- a factor of a term
  pub reads_plain : {spelled : List Token → List Token} → Reads bytes at end spelled (factor_at deep) (factor_behind deep)
      → Reads bytes at end spelled (terms_at deep) (terms_behind deep)
  reads_plain r = record {
    tokens_are = r.tokens_are;
    same = λ o. r.same (unsigned o)
        ∙ ap (λ opens. refusal_from (length bytes) (state BehindFactor opens) (tokens_at bytes end)) o.plain;
    later = r.later;
    within = r.within;
  }

  -- with one more, too many would be open
  pub deep_paren : deep ≡ most_nest → IsTokenAt bytes at LeftParen end → NoFactorIn deep bytes at
  deep_paren full t o = too_deep (factor_at deep o) (terms_at (deep + 1) (in_paren o)) t refl (omega (arith, o.many, full))

  pub deep_sign : deep ≡ most_nest → IsTokenAt bytes at Minus end → NoFactorIn deep bytes at
  deep_sign full t o = too_deep (factor_at deep o) (factor_at (deep + 1) (in_sign o)) t refl (omega (arith, o.many, full))

  pub deep_brace : deep ≡ most_nest → IsTokenAt bytes at LeftBrace end → NoLineIn deep bytes at
  deep_brace full t = too_deep (at_line deep) (at_line (deep + 1)) t (ap Some (braced deep)) (omega (arith, braces_many (deep + 1), full))

-- a statement's expression, and its end
pub reads_value : {bytes : List ℕ} {at end last deep : ℕ} {spelled : List Token → List Token} → deep ≤ most_nest
    → Reads bytes at end spelled (terms_at deep) (terms_behind deep) → IsTokenAt bytes end Semicolon last
    → Reads bytes at last (λ more. spelled (Semicolon ∷ more)) (λ (u : Unit {0}). at_value deep) (line_at deep)
reads_value {deep = deep} nest r t = reads_then (reads_in (λ (u : Unit {0}). in_braces deep) r) (ends_line nest t)

-- ---- Terms

abbrev pub joined : Bool → Terms → Factors → Terms
joined true s t = Taken s t
joined false s t = Added s t

pub reads_terms : {bytes : List ℕ} {at next end deep : ℕ} (minus : Bool) (s : Terms) (t : Factors)
    → Reads bytes at next (λ more. spell_terms s (sign_of minus ∷ more)) (terms_at deep) (terms_at deep)
    → Reads bytes next end (spell_factors t) (terms_at deep) (terms_behind deep)
    → Reads bytes at end (spell_terms (joined minus s t)) (terms_at deep) (terms_behind deep)
reads_terms true s t a b = reads_then a b
reads_terms false s t a b = reads_then a b

pub terms_more : {old new : Memory} {v : Vec Node} {ns : List Node} (minus : Bool) (s : Terms) (t : Factors)
    → IsRowRead (expr_row (term_trees s) ++ OfExpr (signed_tree minus (factors_tree t)) ∷ []) old new v ns
    → IsRowRead (expr_row (term_trees (joined minus s t))) old new v ns
terms_more true s t row = exprs_more (term_trees s) (signed_tree true (factors_tree t)) row
terms_more false s t row = exprs_more (term_trees s) (signed_tree false (factors_tree t)) row

pub terms_placed : {old new : Memory} {v : Vec Node} {n : Node} (minus : Bool) (s : Terms) (t : Factors)
    → IsRowBuilt (expr_row (term_trees (joined minus s t))) old new v → n.kind ≡ kind.Sum → kids_of n ≡ v
    → HasKidsAlone n → IsPlaced (terms_tree (joined minus s t)) old new n
terms_placed true s t built is kids rest = sum_placed _ _ _ _ _ (exprs_built _ _ _ _ built) is kids rest
terms_placed false s t built is kids rest = sum_placed _ _ _ _ _ (exprs_built _ _ _ _ built) is kids rest
