-- Trees that are placed while words are read, and the indices of their last nodes.
use Rattle.std.proofs.lemmas.Bool.Decides.{nat_tests}
use Rattle.std.proofs.Common.{◌≡◌, ℕ, ◌+◌, ◌<◌, ◌≤◌, List, [], ◌∷◌, ◌++◌, length, length-append, append_assoc, get_or, take, drop}
use Rattle.std.proofs.Common.{refl, sym, ap, subst, ◌∙◌, Some, Ok, Err, arith, rules}
use Rattle.std.proofs.lemmas.List.{same_from_push, drop_more, drop_all, take_more}
use Rattle.std.specs.Prelude.{Option, Result, unwrap_or, false, ◌==◌}
use Rattle.arena.specs.AllocErrorType.{AllocError}
use Rattle.arena.specs.AstRows.{Rows, no_rows, with_name, last_of}
use Rattle.arena.specs.ByPartsType.{ByParts}
use Rattle.arena.specs.Interner.{number_of}
use Rattle.example_language.proofs.ReadingLemmas.{fits, HasRead, next, ends}
use Rattle.example_language.specs.Meaning.{Expr, Num, Var, Join, token_of, fitting, applied, only_tree, words_of, reading}
use Rattle.example_language.specs.Nodes.{sign_node}
use Rattle.example_language.specs.Parsing.{Fails, Completes, ReadsWord}
use Rattle.example_language.specs.Placing.{and_node, placed as placed_of, all_placed, tops, ArePlaced}
use Rattle.example_language.specs.declared.nodes.Node.{Node}
use Rattle.example_language.specs.declared.nodes.Node.TheVariants.{Number, Name}
use Rattle.example_language.specs.declared.nodes.Sign.{Sign}
use Rattle.example_language.specs.declared.parsing.ParseErr.{ParseErr}
use Rattle.example_language.specs.declared.parsing.ParseErr.TheVariants.{Operands, TooDeep}
use Rattle.example_language.specs.declared.parsing.Token.{Token}
use Rattle.example_language.specs.declared.parsing.Token.TheVariants.{Number as NumberSign, Name as NameSign, Join as JoinSign}

-- one index for each tree
pub length-tops : (trees : List Expr) → length (tops trees) ≡ length trees
length-tops [] = refl
length-tops (tree ∷ trees) = omega (arith, length-append (tops trees) (last_of (all_placed (tree ∷ trees)) ∷ []), length-tops trees)

-- a stack of 64 that isn't full
pub room_left : (n : ℕ) → false ≡ (n == 64) → n ≤ 64 → n < 64
room_left n not few = search (rules, not, few)

deep : (at : ℕ) (trees : List Expr) → 64 < length trees → fitting at trees ≡ Err (TooDeep at)
deep at trees more = grind (arith, nat_tests)

module _ {token : Token} {word : List ℕ} {at : ℕ} {rows : Rows (ByParts Node)} {stack : List ℕ} {trees : List Expr} {node : Node}
    (by : Completes token word at rows stack trees node) where
  pub applies_now : Some token ≡ token_of word → length stack < 64 → applied (token_of word) word at trees ≡ Ok (by.tree ∷ by.others)
  applies_now is room = grind (arith, nat_tests, length-tops, fits)

  pub too_deep : Some token ≡ token_of word → 64 ≤ length stack → applied (token_of word) word at trees ≡ Err (TooDeep at)
  too_deep is full = grind (arith, nat_tests, length-tops, deep)

  -- its index is that of its last node
  pub completed : {more : Rows (ByParts Node)} {items : List ℕ} (index : ℕ) → more ≡ and_node rows node → index ≡ length rows.nodes
      → items ≡ stack ++ index ∷ [] → ArePlaced more items (by.tree ∷ by.others)
  completed {more = x0} {items = x1} index are is items_are = grind (arith, nat_tests, length-append)

pub few : (sign : Sign) (word : List ℕ) (at : ℕ) (trees : List Expr) → length trees < 2
    → applied (Some (JoinSign sign)) word at trees ≡ Err (Operands at)
few sign word at trees less = grind (arith, nat_tests)

module _ (word : List ℕ) (at : ℕ) {stack : List ℕ} {rows : Rows (ByParts Node)} where
  pub numbered : (n : ℕ) {trees : List Expr} → ArePlaced rows stack trees
      → Completes (NumberSign n) word at rows stack trees (Number n)
  numbered n {trees = trees} placed =
      let are = ap (λ (r : Rows (ByParts Node)). and_node r (Number n)) placed.rows_are in
      record { tree = Num n; others = trees; applies = refl; rows_are = are; stack_is = placed.stack_is }

  pub named : (n : ℕ) {trees : List Expr} {after : Rows (ByParts Node)} → ArePlaced rows stack trees → after ≡ with_name rows word
      → number_of after.names word ≡ Some n → Completes NameSign word at after stack trees (Name n)
  named n {trees = trees} {after = after} placed rows_are number =
      let is : after ≡ with_name (all_placed trees) word = rows_are ∙ ap (λ (r : Rows (ByParts Node)). with_name r word) placed.rows_are in
      let same = ap (λ (o : Option ℕ). unwrap_or o 0) (sym number ∙ ap (λ (r : Rows (ByParts Node)). number_of r.names word) is) in
      let are : and_node after (Name n) ≡ placed_of (Var word) (all_placed trees) = λ i. and_node (is i) (Name (same i)) in
      record { tree = Var word; others = trees; applies = refl; rows_are = are; stack_is = placed.stack_is }

  -- the last two indices are those of two trees
  pub joined : (sign : Sign) (more : List ℕ) (l r : ℕ) (trees : List Expr) → ArePlaced rows stack trees → stack ≡ more ++ l ∷ r ∷ []
      → Completes (JoinSign sign) word at rows more trees (sign_node sign l r)
  joined sign more l r [] placed is = absurd (omega (arith, ap length (sym is ∙ placed.stack_is), length-append more (l ∷ r ∷ [])))
  joined sign more l r (t ∷ []) placed is = absurd (omega (arith, ap length (sym is ∙ placed.stack_is), length-append more (l ∷ r ∷ [])))
  joined sign more l r (right ∷ left ∷ trees) placed is =
      let top = last_of (all_placed (right ∷ left ∷ trees)) in
      let all = append_assoc more (l ∷ []) (r ∷ []) ∙ sym is ∙ placed.stack_is in
      let last = same_from_push (more ++ l ∷ []) (tops (left ∷ trees)) r top all in
      let first = same_from_push more (tops trees) l (last_of (all_placed (left ∷ trees))) last.0 in
      let are : and_node rows (sign_node sign l r) ≡ placed_of (Join sign left right) (all_placed trees)
      = λ i. and_node (placed.rows_are i) (sign_node sign (first.1 i) (last.1 i)) in
      record { tree = Join sign left right; others = trees; applies = refl; rows_are = are; stack_is = first.0 }

-- a part that fails, and so the whole
pub fails_too : {X Y : Type 0} {P Q : AllocError → Type 0} {part : Result X ParseErr} {whole : Result Y ParseErr} (e : ParseErr)
    → ((f : ParseErr) → part ≡ Err f → whole ≡ Err f) → ((error : AllocError) → P error → Q error) → Fails part P e
    → Fails whole Q e
fails_too e same more fails = grind (arith, nat_tests)

-- ---- The loop

-- The first n words were read, and their trees are placed.
pub record IsReadTo (text : List ℕ) (at : ℕ) (rows : Rows (ByParts Node)) (stack : List ℕ) (n : ℕ) : Type 0 where
  pub trees : List Expr
  pub holds : ArePlaced rows stack trees
  pub has : HasRead text at trees (take n (words_of text)) (drop n (words_of text))

module _ {text : List ℕ} {at : ℕ} {rows : Rows (ByParts Node)} {stack : List ℕ} (n : ℕ) (before : IsReadTo text at rows stack n) where
  abbrev words : List (List ℕ)
  words = words_of text

  module _ (word : List ℕ) (turn : (n < length words) × (word ≡ get_or words n word)) where
    pub word_comes : HasRead text at before.trees (take n words) (word ∷ drop (n + 1) words)
    word_comes = subst (HasRead text at before.trees (take n words))
        (drop_more words n word turn.0 ∙ ap (λ (w : List ℕ). w ∷ drop (n + 1) words) (sym turn.1)) before.has

    pub word_read : {now : Rows (ByParts Node)} {items : List ℕ} (k : ℕ) → k ≡ n + 1 → ReadsWord word at before.trees now items
        → IsReadTo text (at + (length word + 1)) now items k
    word_read k is reads =
        let seen = ap (λ (w : List ℕ). take n words ++ w ∷ []) turn.1 ∙ sym (take_more words n word turn.0) in
        let one = subst (λ (ws : List (List ℕ)). HasRead text (at + (length word + 1)) reads.more ws (drop (n + 1) words)) seen
        (next word_comes reads.applies) in
        let has = subst (λ (k : ℕ). HasRead text (at + (length word + 1)) reads.more (take k words) (drop k words)) (sym is) one in
        record { trees = reads.more; holds = reads.placed; has = has }

  pub all_comes : length words ≤ n → only_tree (length text) before.trees ≡ reading text
  all_comes all = ends (subst (HasRead text at before.trees (take n words)) (drop_all n words all) before.has)

  -- one index is left
  pub one_left : length words ≤ n → length stack ≡ 1 → (expr : Expr) × (reading text ≡ Ok expr) × (rows ≡ placed_of expr no_rows)
  one_left all one = let ended = all_comes all in grind (arith, nat_tests, length-tops)

  -- none or several are
  pub not_one : length words ≤ n → (length stack ≡ 1 → ⊥) → reading text ≡ Err (Operands (length text))
  not_one all not = let ended = all_comes all in grind (arith, nat_tests)
