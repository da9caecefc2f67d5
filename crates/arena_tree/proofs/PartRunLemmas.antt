-- What parts of a text ask for, by what is in them.
use Rattle.std.proofs.lemmas.Bool.Decides.{nat_tests}
use Rattle.std.proofs.Common.{◌≡◌, ◌≢◌, ℕ, ◌+◌, ◌<◌, ◌≤◌, Bool, true, false, refl, sym, ap, ◌∙◌, subst, arith, Option, None, List, [], ◌∷◌, ◌++◌, length}
use Rattle.arena_chunks.specs.Source.{View}
use Rattle.arena_store.specs.declared.block.Block.{Block}
use Rattle.arena_items.specs.Asks.{Ask, Fresh, room_ask, TakesBlock, solid}
use Rattle.arena_items.specs.Room.{SamePlaces, capacity_after}
use Rattle.arena_items.proofs.Layers.{still}
use Rattle.arena_vec.specs.Growth.{amortised_growth}
use Rattle.arena_vec.specs.Vecs.{IsVecIn}
use Rattle.arena_vec.specs.declared.vec.Vec.{Vec}
use Rattle.tree_rules.specs.Tokens.{Token, Word, Number, Minus, Star, LeftParen, RightParen, LeftBrace, RightBrace, LetKey, Equals, Semicolon, without_places}
use Rattle.tree_rules.specs.Grammar.{ANumber, AName, InParens, Negated, Factors, OneFactor, Times, Terms, OneTerm, LetLine, ShowLine, BlockLine, Empty, Next, spell_factors, spell_terms, spell}
use Rattle.tree_reader.specs.Seen.{tokens_at}
use Rattle.tree_nodes.specs.declared.node.Node.{Node}
use Rattle.arena_tree.specs.TreesAt.{node_item}
use Rattle.arena_tree.specs.Parts.{spelled_at, IsTokenAt, sign_of}
use Rattle.arena_tree.specs.Asking.{placed_by, Row, no_row, one_more, appended, four_growth, last_growth, four_appended, last_appended, list_growth, factor_asks, factors_row, factors_asks, terms_row, terms_asks, signed_asks, Signed, Ran, HasRun, FactorRan, TermRan, TermsRan, FirstFactorRan, FirstTermRan, LineRan, LinesRead, ProgramRan, lines_row, line_asks, line_growth, program_asks, IsRow, RowRead}
use Rattle.arena_tree.proofs.PartLemmas.{joined}
use Rattle.arena_tree.proofs.RunLemmas.{ran_nothing, ran_block, ran_then, ran_as, ran_same, row_none, row_same, row_child, row_put}

pub token_spelled : {bytes : List ℕ} {at end : ℕ} {token : Token} → IsTokenAt bytes at token end → spelled_at bytes at ≡ token ∷ spelled_at bytes end
token_spelled t = ap without_places t.tokens_are

-- ---- Factors

module _ {bytes : List ℕ} {at end : ℕ} where
  pub number_ran : {n : ℕ} {a : View} → IsTokenAt bytes at (Number n) end → FactorRan bytes at end a a
  unfolding factor_asks
  number_ran {n} {a} t = record { part = ANumber n; tokens_are = token_spelled t; ran = ran_nothing (still a) }

  pub name_ran : {name : List ℕ} {old new : View} {after : Option Block} → IsTokenAt bytes at (Word name) end
      → TakesBlock (Fresh (length name) 1) None old new after → FactorRan bytes at end old new
  unfolding factor_asks
  name_ran {name} {old} {new} {after} t took =
      record { part = AName name; tokens_are = token_spelled t; ran = ran_block old new None after (length name) 1 took }

  pub negated_ran : {last : ℕ} {old mid new : View} {after : Option Block} → IsTokenAt bytes at Minus end → FactorRan bytes end last old mid
      → TakesBlock (Fresh 88 8) None mid new after → FactorRan bytes at last old new
  unfolding factor_asks
  negated_ran {last} {old} {mid} {new} {after} t k took = record {
    part = Negated k.part;
    tokens_are = token_spelled t ∙ ap (λ (ts : List Token). Minus ∷ ts) k.tokens_are;
    ran = ran_then (λ n. factor_asks n k.part) (λ n. Fresh 88 8 ∷ []) k.ran (ran_block mid new None after 88 8 took);
  }

  pub parens_ran : {stop last : ℕ} {old new : View} → IsTokenAt bytes at LeftParen end → TermsRan bytes end stop old new
      → IsTokenAt bytes stop RightParen last → FactorRan bytes at last old new
  unfolding factor_asks
  parens_ran t k close = record {
    part = InParens k.part;
    tokens_are = token_spelled t ∙ ap (λ (ts : List Token). LeftParen ∷ ts) (k.tokens_are ∙ ap (spell_terms k.part) (token_spelled close));
    ran = record { later = k.ran.later; runs = k.ran.runs };
  }

  -- a term of one factor, and an expression of one term
  pub one_factor_ran : {old new : View} → FactorRan bytes at end old new → TermRan bytes at end old new
  unfolding factors_asks
  one_factor_ran k = record { part = OneFactor k.part; tokens_are = k.tokens_are; ran = record { later = k.ran.later; runs = k.ran.runs } }

  pub one_term_ran : {old new : View} → TermRan bytes at end old new → TermsRan bytes at end old new
  unfolding terms_asks
  one_term_ran k = record { part = OneTerm k.part; tokens_are = k.tokens_are; ran = record { later = k.ran.later; runs = k.ran.runs } }

  -- the first of several, and the operator behind it
  pub first_ran : {P : Type 0} {spelled : P → List Token → List Token} {asks : ℕ → P → List (Ask ℕ)} {operator : Token} {next : ℕ} {old new : View}
      → HasRun spelled asks bytes at end old new → IsTokenAt bytes end operator next
      → HasRun (λ p more. spelled p (operator ∷ more)) asks bytes at next old new
  first_ran {spelled = spelled} k t = record { part = k.part; tokens_are = k.tokens_are ∙ ap (spelled k.part) (token_spelled t); ran = k.ran }

-- ---- Children

one_row : {old now : View} {list : Vec Node} (asks : ℕ → List (Ask ℕ)) → Ran asks old now → solid list.raw.block ≡ None → list.raw.len ≡ 0
    → list.raw.cap ≡ 0 → IsRow (λ n. one_more no_row (asks n)) old now list 1
one_row asks k none len cap = record {
  later = k.later;
  runs = k.runs;
  block = λ blocks. none;
  len = λ n. sym len;
  cap = λ n. sym cap;
  few_is = λ n. refl;
}

row_as : {old now : View} {list : Vec Node} {few : ℕ} (row other : ℕ → Row) → ((n : ℕ) → row n ≡ other n) → IsRow row old now list few
    → IsRow other old now list few
row_as {old} {now} {list} {few} row other same r = subst (λ (f : ℕ → Row). IsRow f old now list few) (λ i n. same n i) r

-- where there are not four yet, and where there are
not_four : {old now : View} {list : Vec Node} {few : ℕ} (row : ℕ → Row) → few ≢ 4 → IsRow row old now list few
    → IsRow (λ n. four_appended n (row n)) old now list few
not_four row small r = row_as row (λ n. four_appended n (row n)) (λ n. let few = r.few_is n in grind (arith, nat_tests)) r

four : {old now : View} {list : Vec Node} (row : ℕ → Row) → ((n : ℕ) → (row n).few ≡ 4)
    → IsRow (λ n. appended n (four_growth (row n)) (row n)) old now list 0 → IsRow (λ n. four_appended n (row n)) old now list 0
four row is r = row_as (λ n. appended n (four_growth (row n)) (row n)) (λ n. four_appended n (row n)) (λ n. let few = is n in grind (arith, nat_tests)) r

-- What with_more returns.
pub record IsMore (list longer : Vec Node) (nodes room : ℕ) (old new : View) : Type 0 where
  pub took : TakesBlock (room_ask 88 8 (solid list.raw.block) (list_growth list.raw.cap (list.raw.len + nodes) room)) (solid list.raw.block) old new
      (solid longer.raw.block)
  pub cap : longer.raw.cap ≡ capacity_after (list_growth list.raw.cap (list.raw.len + nodes) room) list.raw.cap
  pub len : longer.raw.len ≡ list.raw.len + nodes
  pub held : IsVecIn node_item new.memory longer
  pub some : 1 ≤ nodes

pub is_more : {list longer : Vec Node} {old new : View} (many nodes room : ℕ) → many ≡ nodes → 1 ≤ nodes
    → TakesBlock (room_ask 88 8 (solid list.raw.block) (list_growth list.raw.cap (list.raw.len + many) room)) (solid list.raw.block) old new
    (solid longer.raw.block)
    → longer.raw.cap ≡ capacity_after (list_growth list.raw.cap (list.raw.len + many) room) list.raw.cap
    → longer.raw.len ≡ list.raw.len + many → IsVecIn node_item new.memory longer → IsMore list longer nodes room old new
is_more {list} {longer} {old} {new} many nodes room same some took cap len held =
    subst (λ n. IsMore list longer n room old new) same
    (record { took = took; cap = cap; len = len; held = held; some = omega (arith, same, some) })

pub growth_same : (cap cap' len len' few few' room room' : ℕ) → cap ≡ cap' → len ≡ len' → few ≡ few' → room ≡ room'
    → list_growth cap (len + few) room ≡ list_growth cap' (len' + few') room'
growth_same cap cap' len len' few few' room room' a b c d = cc (a, b, c, d)

pub line_same : (cap cap' len len' few : ℕ) → cap ≡ cap' → len ≡ len' → few ≡ 1 → amortised_growth 88 cap (len + few) ≡ amortised_growth 88 cap' (len' + 1)
line_same cap cap' len len' few a b c = cc (a, b, c)

module _ {old one new : View} {list longer : Vec Node} {nodes room : ℕ} (row : ℕ → Row) (r : IsRow row old one list nodes)
    (more : IsMore list longer nodes room one new) where
  solid_more : 0 < longer.raw.block.size
  solid_more = omega (arith, more.held.place.of_size, more.held.within, more.len, more.some)

  last_put : room ≡ nodes → IsRow (λ n. last_appended n (row n)) old new longer 0
  last_put same = row_put row last_growth (list_growth list.raw.cap (list.raw.len + nodes) room) r
      (λ n. growth_same (row n).cap list.raw.cap (row n).len list.raw.len (row n).few nodes (row n).few room (r.cap n) (r.len n) (r.few_is n)
      (r.few_is n ∙ sym same)) more.took solid_more more.len more.cap

  four_put : nodes ≡ 4 → room ≡ 8 → IsRow (λ n. four_appended n (row n)) old new longer 0
  four_put all same = four row (λ n. r.few_is n ∙ all) (row_put row four_growth (list_growth list.raw.cap (list.raw.len + nodes) room) r
      (λ n. growth_same (row n).cap list.raw.cap (row n).len list.raw.len (row n).few nodes 8 room (r.cap n) (r.len n) (r.few_is n) (sym same))
      more.took solid_more more.len more.cap)

-- ---- Products

module _ {bytes : List ℕ} where
  pub factors_first : {from at : ℕ} {old now : View} {list : Vec Node} → FirstFactorRan bytes from at old now → solid list.raw.block ≡ None
      → list.raw.len ≡ 0 → list.raw.cap ≡ 0 → RowRead spell_factors factors_row Star bytes from at old now list 1
  unfolding factors_row
  factors_first k none len cap = record {
    part = OneFactor k.part;
    tokens_are = k.tokens_are;
    is_row = one_row (λ n. factor_asks n k.part) k.ran none len cap;
  }

  module _ {from here stop few : ℕ} {old one two : View} {list : Vec Node} (r : RowRead spell_factors factors_row Star bytes from here old one list few)
      (k : FactorRan bytes here stop one two) where
    pub factors_spelled : spelled_at bytes from ≡ spell_factors (Times r.part k.part) (spelled_at bytes stop)
    factors_spelled = r.tokens_are ∙ ap (λ (ts : List Token). spell_factors r.part (Star ∷ ts)) k.tokens_are

    pub factors_child : IsRow (λ n. one_more (factors_row n r.part) (factor_asks (n + placed_by (factors_row n r.part).asks) k.part)) old two list (few + 1)
    factors_child = row_child (λ n. factors_row n r.part) (λ n. factor_asks n k.part) r.is_row k.ran

    pub factors_last : {new : View} {longer : Vec Node} {room : ℕ} → IsMore list longer (few + 1) room two new → room ≡ few + 1
        → TermRan bytes from stop old new
    unfolding factors_asks
    factors_last more same =
        let put = last_put (λ n. one_more (factors_row n r.part) (factor_asks (n + placed_by (factors_row n r.part).asks) k.part)) factors_child more same in
        record { part = Times r.part k.part; tokens_are = factors_spelled; ran = record { later = put.later; runs = put.runs } }

    module _ {next : ℕ} (t : IsTokenAt bytes stop Star next) where
      pub star_spelled : spelled_at bytes from ≡ spell_factors (Times r.part k.part) (Star ∷ spelled_at bytes next)
      star_spelled = factors_spelled ∙ ap (spell_factors (Times r.part k.part)) (token_spelled t)

      pub factors_more : few + 1 ≢ 4 → RowRead spell_factors factors_row Star bytes from next old two list (few + 1)
      unfolding factors_row
      factors_more small = record {
        part = Times r.part k.part;
        tokens_are = star_spelled;
        is_row = not_four (λ n. one_more (factors_row n r.part) (factor_asks (n + placed_by (factors_row n r.part).asks) k.part)) small factors_child;
      }

      pub factors_four : {new : View} {longer : Vec Node} {room : ℕ} → IsMore list longer (few + 1) room two new → few + 1 ≡ 4 → room ≡ 8
          → RowRead spell_factors factors_row Star bytes from next old new longer 0
      unfolding factors_row
      factors_four more all same = record {
        part = Times r.part k.part;
        tokens_are = star_spelled;
        is_row = four_put (λ n. one_more (factors_row n r.part) (factor_asks (n + placed_by (factors_row n r.part).asks) k.part)) factors_child more all same;
      }

-- ---- Sums

-- a term with its sign
signed_ran : {one two new : View} (b : Block) (minus : Bool) (t : Factors) → Ran (λ n. factors_asks n t) one two → Signed minus b two new
    → Ran (λ n. signed_asks minus (factors_asks n t)) one new
signed_ran {one} {two} {new} b true t k sign =
    ran_then (λ n. factors_asks n t) (λ n. Fresh 88 8 ∷ []) k (ran_block two new None (solid b) 88 8 sign)
signed_ran b false t k sign = ran_same (λ n. factors_asks n t) k sign

abbrev pub terms_next : Bool → ℕ → Terms → Factors → Row
terms_next minus n s t = one_more (terms_row n s) (signed_asks minus (factors_asks (n + placed_by (terms_row n s).asks) t))

joined_spelled : (minus : Bool) (s : Terms) (t : Factors) (more : List Token)
    → spell_terms s (sign_of minus ∷ spell_factors t more) ≡ spell_terms (joined minus s t) more
joined_spelled true s t more = refl
joined_spelled false s t more = refl

pub joined_asks : (minus : Bool) (s : Terms) (t : Factors) (n : ℕ) → (last_appended n (terms_next minus n s t)).asks ≡ terms_asks n (joined minus s t)
unfolding terms_asks
joined_asks true s t n = refl
joined_asks false s t n = refl

pub joined_row : (minus : Bool) (s : Terms) (t : Factors) (n : ℕ) → four_appended n (terms_next minus n s t) ≡ terms_row n (joined minus s t)
unfolding terms_row
joined_row true s t n = refl
joined_row false s t n = refl

module _ {bytes : List ℕ} where
  pub terms_first : (minus : Bool) {from at : ℕ} {old now : View} {list : Vec Node} → FirstTermRan minus bytes from at old now
      → solid list.raw.block ≡ None → list.raw.len ≡ 0 → list.raw.cap ≡ 0 → RowRead spell_terms terms_row (sign_of minus) bytes from at old now list 1
  unfolding terms_row
  terms_first minus k none len cap = record {
    part = OneTerm k.part;
    tokens_are = k.tokens_are;
    is_row = one_row (λ n. factors_asks n k.part) k.ran none len cap;
  }

  module _ {from here stop few : ℕ} {old one mid : View} {list : Vec Node} (minus : Bool)
      (r : RowRead spell_terms terms_row (sign_of minus) bytes from here old one list few) (k : TermRan bytes here stop one mid) where
    pub terms_spelled : spelled_at bytes from ≡ spell_terms (joined minus r.part k.part) (spelled_at bytes stop)
    terms_spelled = r.tokens_are ∙ ap (λ (ts : List Token). spell_terms r.part (sign_of minus ∷ ts)) k.tokens_are
        ∙ joined_spelled minus r.part k.part (spelled_at bytes stop)

    pub sign_spelled : {next : ℕ} (less : Bool) → IsTokenAt bytes stop (sign_of less) next
        → spelled_at bytes from ≡ spell_terms (joined minus r.part k.part) (sign_of less ∷ spelled_at bytes next)
    sign_spelled less t = terms_spelled ∙ ap (spell_terms (joined minus r.part k.part)) (token_spelled t)

    module _ {two : View} (b : Block) (sign : Signed minus b mid two) where
      pub terms_child : IsRow (λ n. terms_next minus n r.part k.part) old two list (few + 1)
      terms_child = row_child (λ n. terms_row n r.part) (λ n. signed_asks minus (factors_asks n k.part)) r.is_row
          (signed_ran b minus k.part k.ran sign)

      pub terms_last : {new : View} {longer : Vec Node} {room : ℕ} → IsMore list longer (few + 1) room two new → room ≡ few + 1
          → TermsRan bytes from stop old new
      terms_last {new} more same =
          let put = last_put (λ n. terms_next minus n r.part k.part) terms_child more same in
          record {
            part = joined minus r.part k.part;
            tokens_are = terms_spelled;
            ran = ran_as (λ n. (last_appended n (terms_next minus n r.part k.part)).asks) (λ n. terms_asks n (joined minus r.part k.part))
                (joined_asks minus r.part k.part) (record { later = put.later; runs = put.runs });
          }

      module _ {next : ℕ} (less : Bool) (t : IsTokenAt bytes stop (sign_of less) next) where
        pub terms_more : few + 1 ≢ 4 → RowRead spell_terms terms_row (sign_of less) bytes from next old two list (few + 1)
        terms_more small = record {
          part = joined minus r.part k.part;
          tokens_are = sign_spelled less t;
          is_row = row_as (λ n. four_appended n (terms_next minus n r.part k.part)) (λ n. terms_row n (joined minus r.part k.part))
              (joined_row minus r.part k.part) (not_four (λ n. terms_next minus n r.part k.part) small terms_child);
        }

        pub terms_four : {new : View} {longer : Vec Node} {room : ℕ} → IsMore list longer (few + 1) room two new → few + 1 ≡ 4 → room ≡ 8
            → RowRead spell_terms terms_row (sign_of less) bytes from next old new longer 0
        terms_four more all same = record {
          part = joined minus r.part k.part;
          tokens_are = sign_spelled less t;
          is_row = row_as (λ n. four_appended n (terms_next minus n r.part k.part)) (λ n. terms_row n (joined minus r.part k.part))
              (joined_row minus r.part k.part) (four_put (λ n. terms_next minus n r.part k.part) terms_child more all same);
        }

-- ---- Statements

module _ {bytes : List ℕ} where
  pub let_ran : {at behind stop last : ℕ} {old one two new : View} {text after : Option Block} (name : List ℕ)
      → spelled_at bytes at ≡ LetKey ∷ Word name ∷ Equals ∷ spelled_at bytes behind
      → TakesBlock (Fresh (length name) 1) None old one text → TermsRan bytes behind stop one two → IsTokenAt bytes stop Semicolon last
      → TakesBlock (Fresh 88 8) None two new after → LineRan bytes at last old new
  unfolding line_asks
  let_ran {old = old} {one} {two} {new} {text} {after} name first placed k end wrapped = record {
    part = LetLine name k.part;
    tokens_are = first ∙ ap (λ (ts : List Token). LetKey ∷ Word name ∷ Equals ∷ ts) (k.tokens_are ∙ ap (spell_terms k.part) (token_spelled end));
    ran = ran_then (λ n. Fresh (length name) 1 ∷ []) (λ n. terms_asks n k.part ++ Fresh 88 8 ∷ [])
        (ran_block old one None text (length name) 1 placed)
        (ran_then (λ n. terms_asks n k.part) (λ n. Fresh 88 8 ∷ []) k.ran (ran_block two new None after 88 8 wrapped));
  }

  pub show_ran : {at stop last : ℕ} {old two new : View} {after : Option Block} → TermsRan bytes at stop old two → IsTokenAt bytes stop Semicolon last
      → TakesBlock (Fresh 88 8) None two new after → LineRan bytes at last old new
  unfolding line_asks
  show_ran {two = two} {new} {after} k end wrapped = record {
    part = ShowLine k.part;
    tokens_are = k.tokens_are ∙ ap (spell_terms k.part) (token_spelled end);
    ran = ran_then (λ n. terms_asks n k.part) (λ n. Fresh 88 8 ∷ []) k.ran (ran_block two new None after 88 8 wrapped);
  }

  pub block_ran : {at behind stop last : ℕ} {old new : View} → IsTokenAt bytes at LeftBrace behind
      → HasRun spell program_asks bytes behind stop old new → IsTokenAt bytes stop RightBrace last → LineRan bytes at last old new
  unfolding line_asks
  block_ran t k end = record {
    part = BlockLine k.part;
    tokens_are = token_spelled t ∙ ap (λ (ts : List Token). LeftBrace ∷ ts) (k.tokens_are ∙ ap (spell k.part) (token_spelled end));
    ran = record { later = k.ran.later; runs = k.ran.runs };
  }

  pub lines_none : {at : ℕ} {a : View} {list : Vec Node} → solid list.raw.block ≡ None → list.raw.len ≡ 0 → list.raw.cap ≡ 0
      → LinesRead bytes at at a a list
  unfolding lines_row
  lines_none none len cap = record { part = Empty; tokens_are = refl; is_row = row_none none len cap }

  pub lines_ran : {at here : ℕ} {old now : View} {list : Vec Node} → LinesRead bytes at here old now list → HasRun spell program_asks bytes at here old now
  lines_ran r = record {
    part = r.part;
    tokens_are = r.tokens_are;
    ran = record { later = r.is_row.later; runs = r.is_row.runs };
  }

  -- No statement is next: nothing was done.
  pub lines_same : {at here : ℕ} {old mid new : View} {list : Vec Node} → LinesRead bytes at here old mid list → SamePlaces mid new
      → LinesRead bytes at here old new list
  lines_same r same = record {
    part = r.part;
    tokens_are = r.tokens_are;
    is_row = row_same (λ n. lines_row n r.part) r.is_row same;
  }

  -- the whole text
  pub program_ran : {end : ℕ} {old new : View} → HasRun spell program_asks bytes 0 end old new → tokens_at bytes end ≡ [] → ProgramRan bytes old new
  program_ran k none = record {
    program = k.part;
    tokens_are = sym (k.tokens_are ∙ ap (λ ts. spell k.part (without_places ts)) none);
    later = k.ran.later [];
    runs = k.ran.runs [];
  }

  -- a statement more, whose node is appended
  pub lines_more : {at here end : ℕ} {old one two new : View} {list longer : Vec Node} → LinesRead bytes at here old one list
      → LineRan bytes here end one two
      → TakesBlock (room_ask 88 8 (solid list.raw.block) (amortised_growth 88 list.raw.cap (list.raw.len + 1))) (solid list.raw.block) two new
      (solid longer.raw.block)
      → longer.raw.cap ≡ capacity_after (amortised_growth 88 list.raw.cap (list.raw.len + 1)) list.raw.cap
      → longer.raw.len ≡ list.raw.len + 1 → IsVecIn node_item new.memory longer → LinesRead bytes at end old new longer
  unfolding lines_row
  lines_more {list = list} {longer} r k took cap len held =
      let row = λ (n : ℕ). one_more (lines_row n r.part) (line_asks (n + placed_by (lines_row n r.part).asks) k.part) in
      let child = row_child (λ n. lines_row n r.part) (λ n. line_asks n k.part) r.is_row k.ran in
      record {
        part = Next r.part k.part;
        tokens_are = r.tokens_are ∙ ap (spell r.part) k.tokens_are;
        is_row = row_put row line_growth (amortised_growth 88 list.raw.cap (list.raw.len + 1)) child
            (λ n. line_same (row n).cap list.raw.cap (row n).len list.raw.len (row n).few (child.cap n) (child.len n) (child.few_is n)) took
            (omega (arith, held.place.of_size, held.within, len)) len cap;
      }
