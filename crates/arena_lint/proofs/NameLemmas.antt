-- The names of an expression, as tokens and as bytes.
use Rattle.std.proofs.lemmas.Bool.Decides.{nat_tests}
use Rattle.std.proofs.Common.{◌≡◌, ℕ, suc, ◌+◌, ◌<◌, Bool, true, false, cond, List, [], ◌∷◌, ◌++◌, length, drop, get_or, refl, sym, ap, ◌∙◌, subst, arith, append-nil, codes}
use Rattle.std.proofs.Math.Seq.{drop-cons}
use Rattle.std.proofs.lemmas.List.{append_assoc}
use Rattle.std.specs.Prelude.{bytes_eq, slice_index, slice_range, ◌==◌}
use Rattle.std.specs.List.{AllByRecursion}
use Rattle.tree_rules.specs.Tokens.{Token, LetKey, Word, Number, Plus, Minus, Star, RightParen, Other, is_space, is_digit, is_name_start, run, word, number_token, has_needless_zero, value, sign, front, Placed, tokens_from, without_places}
use Rattle.tree_rules.specs.Grammar.{Factor, ANumber, AName, InParens, Negated, Factors, OneFactor, Times, Terms, OneTerm, Added, Taken, spell_factor, spell_factors, spell_terms, factor_tree, factors_tree, factor_trees, terms_tree, term_trees}
use Rattle.tree_rules.specs.Trees.{Expr, Num, Name, Neg, Sum, Prod, Exprs, NoExprs, And, with_expr, IsName, IsExpr, AreExprs}
use Rattle.tree_rules.specs.Report.{names_of, all_names}
use Rattle.tree_reader.specs.Seen.{IsBegin, tokens_at}
use Rattle.tree_reader.proofs.ByteLemmas.{first_sign, none_behind}
use Rattle.arena_tree.specs.Parts.{spelled_at}
use Rattle.arena_symbols.specs.declared.names.Names.{Names as Known}
use Rattle.arena_chunks.specs.Memory.{Memory}
use Rattle.tree_rules.specs.Report.{NameSet, undefined}
use Rattle.tree_rules.specs.declared.finding.Finding.{Finding}
use Rattle.tree_rules.proofs.FindingLemmas.{undefined_both}
use Rattle.tree_rules.proofs.NameLemmas.{name_text}
use Rattle.lint_reports.specs.Taking.{Taking}
use Rattle.std.specs.Str.{IsUtf8}
use Rattle.arena_lint.specs.Ahead.{HaveNames, NamesAhead}
use Rattle.arena_lint.specs.Knowing.{Knows}
use Rattle.arena_lint.specs.Steps.{Left}

-- ---- The names of trees

with_names : (es : Exprs) (e : Expr) → all_names (with_expr es e) ≡ all_names es ++ names_of e
with_names NoExprs e = append-nil (names_of e)
with_names (And f rest) e = ap (λ (l : List (List ℕ)). names_of f ++ l) (with_names rest e)
    ∙ sym (append_assoc (names_of f) (all_names rest) (names_of e))

factors_names : (t : Factors) → all_names (factor_trees t) ≡ names_of (factors_tree t)
factors_names (OneFactor f) = append-nil (names_of (factor_tree f))
factors_names (Times t f) = refl

terms_names : (s : Terms) → all_names (term_trees s) ≡ names_of (terms_tree s)
terms_names (OneTerm t) = append-nil (names_of (factors_tree t))
terms_names (Added s t) = refl
terms_names (Taken s t) = refl

-- those of a list and of one more
then_names : (es : Exprs) (e : Expr) (first more : List (List ℕ)) → all_names es ≡ first
    → first ++ (names_of e ++ more) ≡ all_names (with_expr es e) ++ more
then_names es e first more is =
    rw (with_names es e, is) (sym (append_assoc first (names_of e) more))

-- ---- The names of tokens

mutual
  have_factor : (f : Factor) (more : List Token) (names : List (List ℕ)) (behind : List Token) → HaveNames more names behind
      → HaveNames (spell_factor f more) (names_of (factor_tree f) ++ names) behind
  have_factor (ANumber n) more names behind have = have
  have_factor (AName bytes) more names behind have = (names, refl, have)
  have_factor (InParens s) more names behind have = have_terms s (RightParen ∷ more) names behind have
  have_factor (Negated f) more names behind have = have_factor f more names behind have

  have_factors : (t : Factors) (more : List Token) (names : List (List ℕ)) (behind : List Token) → HaveNames more names behind
      → HaveNames (spell_factors t more) (names_of (factors_tree t) ++ names) behind
  have_factors (OneFactor f) more names behind have = have_factor f more names behind have
  have_factors (Times t f) more names behind have =
      subst (λ (l : List (List ℕ)). HaveNames (spell_factors t (Star ∷ spell_factor f more)) l behind)
      (then_names (factor_trees t) (factor_tree f) (names_of (factors_tree t)) names (factors_names t))
      (have_factors t (Star ∷ spell_factor f more) _ behind (have_factor f more names behind have))

  pub have_terms : (s : Terms) (more : List Token) (names : List (List ℕ)) (behind : List Token) → HaveNames more names behind
      → HaveNames (spell_terms s more) (names_of (terms_tree s) ++ names) behind
  have_terms (OneTerm t) more names behind have = have_factors t more names behind have
  have_terms (Added s t) more names behind have =
      subst (λ (l : List (List ℕ)). HaveNames (spell_terms s (Plus ∷ spell_factors t more)) l behind)
      (then_names (term_trees s) (factors_tree t) (names_of (terms_tree s)) names (terms_names s))
      (have_terms s (Plus ∷ spell_factors t more) _ behind (have_factors t more names behind have))
  have_terms (Taken s t) more names behind have =
      subst (λ (l : List (List ℕ)). HaveNames (spell_terms s (Minus ∷ spell_factors t more)) l behind)
      (then_names (term_trees s) (Neg (factors_tree t)) (names_of (terms_tree s)) names (terms_names s))
      (have_terms s (Minus ∷ spell_factors t more) _ behind (have_factors t more names behind have))

all_both : (ns ms : List (List ℕ)) → AllByRecursion IsName ns → AllByRecursion IsName ms → AllByRecursion IsName (ns ++ ms)
all_both [] ms one two = two
all_both (n ∷ ns) ms one two = (one.0, all_both ns ms one.1 two)

mutual
  pub good_names : (e : Expr) → IsExpr e → AllByRecursion IsName (names_of e)
  good_names (Num n) is = tt
  good_names (Name bytes) is = (is, tt)
  good_names (Neg e) is = good_names e is
  good_names (Sum kids) is = all_good kids is.1
  good_names (Prod kids) is = all_good kids is.1

  all_good : (es : Exprs) → AreExprs es → AllByRecursion IsName (all_names es)
  all_good NoExprs is = tt
  all_good (And e rest) is = all_both (names_of e) (all_names rest) (good_names e is.0) (all_good rest is.1)

-- ---- Bytes that are passed over

number_passed : (digits : List ℕ) (ts : List Token) (names : List (List ℕ)) (behind : List Token)
    → HaveNames (number_token digits ∷ ts) names behind ≡ HaveNames ts names behind
number_passed digits ts names behind = by (has_needless_zero digits)
  where
    by : (zero : Bool) → HaveNames (cond zero Other (Number (value 0 digits)) ∷ ts) names behind ≡ HaveNames ts names behind
    by true = refl
    by false = refl

sign_passed : (b : ℕ) (ts : List Token) (names : List (List ℕ)) (behind : List Token) → (b == 59) ≡ false
    → HaveNames (sign b ∷ ts) names behind → HaveNames ts names behind
sign_passed b ts names behind other have = grind (arith, nat_tests)

-- what is read behind a byte, and behind the digits there
digits_passed : (at : ℕ) (bytes : List ℕ) (names : List (List ℕ)) (behind : List Token)
    → HaveNames (without_places (tokens_from at (length (run is_digit bytes)) bytes)) names behind
    → HaveNames (without_places (tokens_from at 0 bytes)) names behind
unfolding tokens_from front
digits_passed at [] names behind have = have
digits_passed at (b ∷ bytes) names behind have = grind (arith, nat_tests, number_passed)

byte_passed : (at b : ℕ) (bytes : List ℕ) (names : List (List ℕ)) (behind : List Token) → is_name_start b ≡ false → (b == 59) ≡ false
    → HaveNames (without_places (tokens_from at 0 (b ∷ bytes))) names behind
    → HaveNames (without_places (tokens_from (suc at) 0 bytes)) names behind
unfolding tokens_from front
byte_passed at b bytes names behind start other have = grind (arith, nat_tests, number_passed, digits_passed, sign_passed)

-- The text goes on where names lie ahead.
within : (bytes : List ℕ) (at : ℕ) (names : List (List ℕ)) (behind : List Token) → HaveNames (spelled_at bytes at) names behind
    → at < length bytes
within bytes at names behind have = grind (arith, nat_tests, none_behind)

-- a byte that neither begins a name nor ends the expression
further : (bytes : List ℕ) (at : ℕ) (names : List (List ℕ)) (behind : List Token) → is_name_start (slice_index bytes at) ≡ false
    → (slice_index bytes at == 59) ≡ false → HaveNames (spelled_at bytes at) names behind → HaveNames (spelled_at bytes (at + 1)) names behind
further bytes at names behind start other have =
    let all = drop-cons bytes at 0 (within bytes at names behind have) in
    let one : suc at ≡ at + 1 = omega arith in
    subst (λ (k : ℕ). HaveNames (without_places (tokens_from k 0 (drop k bytes))) names behind) one
    (byte_passed at (get_or bytes at 0) (drop (suc at) bytes) names behind start other
    (subst (λ (l : List ℕ). HaveNames (without_places (tokens_from at 0 l)) names behind) all have))

begins_at : (bytes : List ℕ) (at : ℕ) → at < length bytes → is_space (slice_index bytes at) ≡ false → IsBegin bytes at at
begins_at bytes at within unspaced = record { behind = omega arith; within = within; unspaced = unspaced; same = refl }

-- the semicolon
ends_there : (bytes : List ℕ) (at : ℕ) (names : List (List ℕ)) (behind : List Token) → (slice_index bytes at == 59) ≡ true
    → HaveNames (spelled_at bytes at) names behind → (names ≡ []) × (spelled_at bytes (at + 1) ≡ behind)
ends_there bytes at names behind is have =
    let tokens = first_sign bytes at at (begins_at bytes at (within bytes at names behind have) (grind (arith, nat_tests)))
    (grind (arith, nat_tests)) (grind (arith, nat_tests)) in
    let ends : HaveNames (sign (slice_index bytes at) ∷ spelled_at bytes (at + 1)) names behind
    = subst (λ (ts : List Placed). HaveNames (without_places ts) names behind) tokens have in
    grind (arith, nat_tests, ends)

-- a name
word_there : (bytes : List ℕ) (at end : ℕ) (names : List (List ℕ)) (behind : List Token)
    → tokens_at bytes at ≡ record { at = at; token = word (slice_range bytes at end) } ∷ tokens_at bytes end
    → HaveNames (spelled_at bytes at) names behind
    → (rest : List (List ℕ)) × (names ≡ slice_range bytes at end ∷ rest) × HaveNames (spelled_at bytes end) rest behind
word_there bytes at end names behind is have =
    by (bytes_eq (slice_range bytes at end) (codes "let")) (subst (λ (ts : List Placed). HaveNames (without_places ts) names behind) is have)
  where
    by : (key : Bool) → HaveNames (cond key LetKey (Word (slice_range bytes at end)) ∷ spelled_at bytes end) names behind
        → (rest : List (List ℕ)) × (names ≡ slice_range bytes at end ∷ rest) × HaveNames (spelled_at bytes end) rest behind
    by true never = absurd never
    by false have = have

-- ---- Some names are done

module _ {F : Type 0} (taking : Taking F) {m : Memory} {k : Known} {bytes : List ℕ} where
  pub left_all : {at : ℕ} (first : F) (t : NamesAhead bytes at) → Left taking m k bytes at first first t.names t.behind
  left_all first t = record {
    left = t.names;
    ahead = t.tokens_are;
    good = t.good;
    taken = λ sets knows. record { taken = []; gained = taking.none first; all = refl };
  }

  module _ {here : ℕ} {first found : F} {names : List (List ℕ)} {behind : List Token}
      (l : Left taking m k bytes here first found names behind) where
    pub left_within : here < length bytes
    left_within = within bytes here l.left behind l.ahead

    pub left_further : is_name_start (slice_index bytes here) ≡ false → (slice_index bytes here == 59) ≡ false
        → Left taking m k bytes (here + 1) first found names behind
    left_further start other = record {
      left = l.left;
      ahead = further bytes here l.left behind start other l.ahead;
      good = l.good;
      taken = l.taken;
    }

    module _ (end : ℕ)
        (word_is : tokens_at bytes here ≡ record { at = here; token = word (slice_range bytes here end) } ∷ tokens_at bytes end) where
      pub left_utf8 : IsUtf8 (slice_range bytes here end)
      left_utf8 = let w = word_there bytes here end l.left behind word_is l.ahead in
          name_text (slice_range bytes here end) (subst (AllByRecursion IsName) w.1 l.good).0

      pub left_word : {new : F} → ((sets : List NameSet) → Knows m k sets
          → taking.gains found new (undefined sets (slice_range bytes here end ∷ []))) → Left taking m k bytes end first new names behind
      left_word gained = let w = word_there bytes here end l.left behind word_is l.ahead in record {
        left = w.0;
        ahead = w.2;
        good = (subst (AllByRecursion IsName) w.1 l.good).1;
        taken = λ sets knows. let t = l.taken sets knows in let name = slice_range bytes here end ∷ [] in record {
          taken = t.taken ++ undefined sets name;
          gained = taking.both t.taken (undefined sets name) t.gained (gained sets knows);
          all = append_assoc t.taken (undefined sets name) (undefined sets w.0)
              ∙ ap (λ (fs : List Finding). t.taken ++ fs) (sym (undefined_both sets name w.0))
              ∙ ap (λ (ns : List (List ℕ)). t.taken ++ undefined sets ns) (sym w.1) ∙ t.all;
        };
      }

    module _ (semicolon : (slice_index bytes here == 59) ≡ true) where
      pub left_behind : spelled_at bytes (here + 1) ≡ behind
      left_behind = (ends_there bytes here l.left behind semicolon l.ahead).1

      pub left_none : (sets : List NameSet) → Knows m k sets → taking.gains first found (undefined sets names)
      left_none sets knows = let t = l.taken sets knows in
          let none = (ends_there bytes here l.left behind semicolon l.ahead).0 in
          subst (taking.gains first found) (sym (append-nil t.taken)
          ∙ ap (λ (ns : List (List ℕ)). t.taken ++ undefined sets ns) (sym none) ∙ t.all) t.gained
