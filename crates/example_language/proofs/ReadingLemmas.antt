-- Words that are read one after another, and what they spell by the grammar.
use Rattle.std.proofs.lemmas.Bool.Decides.{nat_tests}
use Rattle.std.proofs.Common.{◌≡◌, ℕ, ◌+◌, ◌≤◌, ◌<◌, List, [], ◌∷◌, ◌++◌, length, append_assoc, append-nil, Some, None, Ok, Err, inl}
use Rattle.std.proofs.Common.{refl, sym, ap, subst, ◌∙◌, arith}
use Rattle.std.proofs.lemmas.Bool.{cases_Bool}
use Rattle.std.proofs.lemmas.List.Splits.{length-slice_split}
use Rattle.std.specs.List.{slice_split, onto_first}
use Rattle.std.specs.Prelude.{Option, Result, Bool, ◌==◌, ◌↔◌}
use Rattle.example_language.specs.Grammar.{Spells, waits, SpellAll, IsWrong, IsFirstError}
use Rattle.example_language.specs.Meaning.{Expr, Num, Var, Join, token_of, fitting, applied}
use Rattle.example_language.specs.Meaning.{and_then, only_tree, read, words_of, spaced, reading}
use Rattle.example_language.specs.declared.parsing.ParseErr.{ParseErr}
use Rattle.example_language.specs.declared.parsing.Token.{Token}
use Rattle.example_language.specs.declared.parsing.Token.TheVariants.{Number, Name, Join as JoinSign}

-- ---- Bytes of words

some_words : (p : ℕ → Bool) (text : List ℕ) → 0 < length (slice_split p text)
some_words p text = omega (arith, length-slice_split p text)

onto : (b : ℕ) (words : List (List ℕ)) → 0 < length words → spaced (onto_first b words) ≡ spaced words + 1
onto b words some = grind (arith, nat_tests)

spaced-split : (p : ℕ → Bool) (text : List ℕ) → spaced (slice_split p text) ≡ length text + 1
spaced-split p [] = refl
spaced-split p (b ∷ bs) = grind (arith, nat_tests, cases_Bool, spaced-split p bs, onto, some_words p bs)

pub spaced-append : (words more : List (List ℕ)) → spaced (words ++ more) ≡ spaced words + spaced more
spaced-append [] more = omega arith
spaced-append (word ∷ words) more = omega (arith, spaced-append words more)

-- ---- A word

pub fits : (at : ℕ) (trees : List Expr) → length trees ≤ 64 → fitting at trees ≡ Ok trees
fits at trees few = grind (arith, nat_tests)

fitted : (at : ℕ) (trees more : List Expr) → fitting at trees ≡ Ok more → (trees ≡ more) × (length trees ≤ 64)
fitted at trees more is = grind (arith, nat_tests)

few_now : (o : Option Token) (word : List ℕ) (at : ℕ) (trees more : List Expr) → applied o word at trees ≡ Ok more → length more ≤ 64
few_now o word at trees more to = grind (arith, nat_tests, fitted)

wrong : (o : Option Token) (word : List ℕ) (at : ℕ) (trees : List Expr) (e : ParseErr) → token_of word ≡ o
    → applied o word at trees ≡ Err e → length trees ≤ 64 → IsWrong e at trees word
wrong o word at trees e is to few = grind (arith, nat_tests)

spelled : (o : Option Token) (word : List ℕ) (at : ℕ) (trees more : List Expr) (seen : List (List ℕ)) → token_of word ≡ o
    → applied o word at trees ≡ Ok more → SpellAll trees seen → SpellAll more (seen ++ word ∷ [])
spelled None word at trees more seen is to all = cc
spelled (Some (Number n)) word at trees more seen is to all =
    let now = fitted at (Num n ∷ trees) more to in
    subst (λ (ts : List Expr). SpellAll ts (seen ++ word ∷ [])) now.0
    (seen, word ∷ [], refl, all, (word, refl, is), omega (arith, now.1))
spelled (Some Name) word at trees more seen is to all =
    let now = fitted at (Var word ∷ trees) more to in
    subst (λ (ts : List Expr). SpellAll ts (seen ++ word ∷ [])) now.0 (seen, word ∷ [], refl, all, (refl, is), omega (arith, now.1))
spelled (Some (JoinSign sign)) word at (r ∷ l ∷ trees) more seen is to all =
    let left = all.3 in
    let words_are : seen ++ word ∷ [] ≡ left.0 ++ (left.1 ++ all.1 ++ word ∷ []) = ap (λ (ws : List (List ℕ)). ws ++ word ∷ [])
    (all.2 ∙ ap (λ (ws : List (List ℕ)). ws ++ all.1) left.2) ∙ simp append_assoc in
    let own : Spells (Join sign l r) (left.1 ++ all.1 ++ word ∷ []) = (left.1, all.1, word, refl, left.4, all.4, is) in
    subst (λ (ts : List Expr). SpellAll ts (seen ++ word ∷ [])) (fitted at (Join sign l r ∷ trees) more to).0
    (left.0, left.1 ++ all.1 ++ word ∷ [], words_are, left.3, own, omega (arith, left.5, all.5))
spelled (Some (JoinSign sign)) word at trees more seen is to all = cc

-- ---- Words

-- Some words were read, as these trees, and the others give what the whole text does.
pub record HasRead (text : List ℕ) (at : ℕ) (trees : List Expr) (seen words : List (List ℕ)) : Type 0 where
  pub words_are : words_of text ≡ seen ++ words
  pub place : at ≡ spaced seen
  pub spells : SpellAll trees seen
  pub few : length trees ≤ 64
  pub rest : read at trees words ≡ reading text

pub none_read : (text : List ℕ) → HasRead text 0 [] [] (words_of text)
none_read text = record { words_are = refl; place = refl; spells = refl; few = omega arith; rest = refl }

module _ {text : List ℕ} {at : ℕ} {trees : List Expr} {seen : List (List ℕ)} where
  module _ {word : List ℕ} {words : List (List ℕ)} (before : HasRead text at trees seen (word ∷ words)) where
    abbrev others : List Expr → Result Expr ParseErr
    others more = read (at + (length word + 1)) more words

    pub room : at + (length word + 1) ≤ length text + 1
    room = omega (arith, before.place, ap spaced before.words_are, spaced-append seen (word ∷ words), spaced-split (λ b. b == 32) text)

    pub next : {more : List Expr} → applied (token_of word) word at trees ≡ Ok more
        → HasRead text (at + (length word + 1)) more (seen ++ word ∷ []) words
    next {more = more} to = record {
      words_are = before.words_are ∙ sym (append_assoc seen (word ∷ []) words);
      place = omega (arith, before.place, spaced-append seen (word ∷ []));
      spells = spelled (token_of word) word at trees more seen refl to before.spells;
      few = few_now (token_of word) word at trees more to;
      rest = sym (ap (and_then others) to) ∙ before.rest;
    }

    pub stops : {e : ParseErr} → applied (token_of word) word at trees ≡ Err e → reading text ≡ Err e
    stops to = sym before.rest ∙ ap (and_then others) to

    fails : {e : ParseErr} → applied (token_of word) word at trees ≡ Err e → IsFirstError text e
    fails {e = e} to =
        let bad = subst (λ (n : ℕ). IsWrong e n trees word) before.place (wrong (token_of word) word at trees e refl to before.few) in
        let are = before.words_are in
        inl (record { before = seen; word = word; after = words; words_are = are; trees = trees; spelled = before.spells; wrong = bad })

  pub ends : HasRead text at trees seen [] → only_tree (length text) trees ≡ reading text
  ends before = grind (arith, nat_tests, append-nil, spaced-split (λ b. b == 32) text)

-- what a reading says of its text
abbrev Reads : List ℕ → Result Expr ParseErr → Type 0
Reads text (Ok tree) = Spells tree (words_of text) × (waits tree ≤ 64)
Reads text (Err e) = IsFirstError text e

all_read : (text : List ℕ) (trees : List Expr) → SpellAll trees (words_of text) → Reads text (only_tree (length text) trees)
all_read text trees all = grind (arith, nat_tests, some_words (λ b. b == 32) text)

words_read : (text : List ℕ) (words : List (List ℕ)) (at : ℕ) (trees : List Expr) (seen : List (List ℕ))
    → HasRead text at trees seen words → Reads text (reading text)
words_read text [] at trees seen before =
    subst (Reads text) (ends before)
    (all_read text trees (subst (SpellAll trees) (sym (before.words_are ∙ append-nil seen)) before.spells))
words_read text (word ∷ words) at trees seen before =
    (elim (applied (token_of word) word at trees) as (λ r. applied (token_of word) word at trees ≡ r → Reads text (reading text)) [
      | Err e ↦ λ to. subst (Reads text) (sym (stops before to)) (fails before to)
      | Ok more ↦ λ to. words_read text words (at + (length word + 1)) more (seen ++ word ∷ []) (next before to)
    ]) refl

-- ---- What is spelled is read

-- the only word of these
word_reads : (o : Option Token) (word : List ℕ) (words : List (List ℕ)) (at : ℕ) (trees more : List Expr) (others : List (List ℕ))
    → words ≡ word ∷ [] → token_of word ≡ o → applied o word at trees ≡ fitting at more → length more ≤ 64
    → (end : ℕ) × (read at trees (words ++ others) ≡ read end more others)
word_reads o word words at trees more others one is to few = (
  at + (length word + 1),
  ap (λ (ws : List (List ℕ)). read at trees (ws ++ others)) one
      ∙ ap (and_then (λ (ts : List Expr). read (at + (length word + 1)) ts others))
      (ap (λ (o : Option Token). applied o word at trees) is ∙ to ∙ fits at more few),
)

-- the words of this tree are read as it, in front of others
tree_reads : (tree : Expr) (words : List (List ℕ)) → Spells tree words → (at : ℕ) (trees : List Expr) (others : List (List ℕ))
    → waits tree + length trees ≤ 64 → (end : ℕ) × (read at trees (words ++ others) ≡ read end (tree ∷ trees) others)
tree_reads (Num n) words spells at trees others room =
    word_reads (Some (Number n)) spells.0 words at trees (Num n ∷ trees) others spells.1 spells.2 refl (omega (arith, room))
tree_reads (Var name) words spells at trees others room =
    word_reads (Some Name) name words at trees (Var name ∷ trees) others spells.0 spells.1 refl (omega (arith, room))
tree_reads (Join sign l r) words spells at trees others room =
    let behind = spells.2 ∷ others in
    let left = tree_reads l spells.0 spells.4 at trees (spells.1 ++ behind) (omega (arith, room)) in
    let right = tree_reads r spells.1 spells.5 left.0 (l ∷ trees) behind (omega (arith, room)) in
    let more : length (Join sign l r ∷ trees) ≤ 64 = omega (arith, room) in
    let last = word_reads (Some (JoinSign sign)) spells.2 (spells.2 ∷ []) right.0 (r ∷ l ∷ trees) (Join sign l r ∷ trees) others
    refl spells.6 refl more in (
      last.0,
      ap (λ (ws : List (List ℕ)). read at trees (ws ++ others)) spells.3 ∙ ap (read at trees)
          (append_assoc (spells.0 ++ spells.1) (spells.2 ∷ []) others ∙ append_assoc spells.0 spells.1 behind) ∙ left.1 ∙ right.1 ∙ last.1,
    )

pub tree_spelled : (text : List ℕ) (tree : Expr) → (reading text ≡ Ok tree) ↔ (Spells tree (words_of text) × (waits tree ≤ 64))
tree_spelled text tree = (
  λ is. subst (Reads text) is (words_read text (words_of text) 0 [] [] (none_read text)),
  λ spells. ap (read 0 []) (sym (append-nil (words_of text)))
      ∙ (tree_reads tree (words_of text) spells.0 0 [] [] (omega (arith, spells.1))).1,
)

pub first_wrong : (text : List ℕ) (e : ParseErr) → reading text ≡ Err e → IsFirstError text e
first_wrong text e is = subst (Reads text) is (words_read text (words_of text) 0 [] [] (none_read text))
