-- What a part that stopped asked for last, of what the whole program asks for.
use Rattle.std.proofs.lemmas.Bool.Decides.{nat_tests}
use Rattle.std.proofs.Common.{◌≡◌, ℕ, ◌+◌, ◌*◌, Bool, true, false, refl, sym, ap, ◌∙◌, subst, arith, Option, Some, None, List, [], ◌∷◌, ◌++◌, length, Err}
use Rattle.std.specs.Prelude.{Result}
use Rattle.arena_chunks.specs.Source.{View}
use Rattle.arena_chunks.specs.Answers.{Answer}
use Rattle.arena_store.specs.declared.block.Block.{Block}
use Rattle.arena_items.specs.Asks.{Ask, Fresh, first_or_larger, room_ask, solid, Asked, TakesBlock, refusal, meant, Runs, EndsAt}
use Rattle.arena_items.specs.declared.room.AllocError.{AllocError}
use Rattle.arena_items.specs.declared.room.AllocError.TheVariants as alloc
use Rattle.arena_items.specs.declared.room.Growth.{Growth}
use Rattle.arena_items.specs.declared.room.Growth.TheVariants.{Stays, GrowsTo, Overflows}
use Rattle.arena_items.proofs.Layers.{still, runs_then, ends_then, ends_sooner}
use Rattle.arena_vec.specs.Growth.{amortised_growth}
use Rattle.arena_vec.specs.declared.vec.Vec.{Vec}
use Rattle.tree_rules.specs.Tokens.{Token, LetKey, Word, Minus, Star, LeftParen, LeftBrace, Equals, Semicolon, tokens, without_places}
use Rattle.tree_rules.specs.Grammar.{AName, Negated, Times, Terms, LetLine, ShowLine, Program, Next, spell_factors, spell_terms, spell}
use Rattle.tree_rules.specs.Places.{LineHole, InProgram, InBlock, LetOf, ShowOf, FactorHole, First, Behind, Signed, TermHole, FirstTerm, ToAdd, ToTake, ExprHole, Within, Of, before_line, before_factor, before_term, before_expr}
use Rattle.tree_reader.specs.Seen.{tokens_at}
use Rattle.tree_nodes.specs.declared.node.Node.{Node}
use Rattle.arena_tree.specs.Asking.{placed_by, Row, one_more, appended, four_growth, last_growth, line_growth, four_appended, list_growth, factor_asks, factors_row, factors_asks, terms_row, terms_asks, line_asks, lines_row, program_asks, Signed as IsSigned, Ran, FactorRan, TermRan, TermsRan, LineRan, LinesRead, IsBlockAt, IsRow, RowRead}
use Rattle.arena_tree.specs.Parts.{spelled_at, IsTokenAt, sign_of, NoStar, TermsStop}
use Rattle.arena_tree.specs.Stopping.{line_before, factor_before, term_before, expr_before, begin_lines, lines_before, IsUpTo}
use Rattle.arena_tree.specs.Stops.{stop_of, OnArena}
use Rattle.arena_tree.specs.declared.stop.Stop.{Stop}
use Rattle.arena_tree.specs.declared.stop.Stop.TheVariants.{AllocErr, OutOfMemory, Text}
use Rattle.arena_tree.proofs.PartLemmas.{joined}
use Rattle.arena_tree.proofs.PartCostLemmas.{IsPassedOn, passed_on}
use Rattle.arena_tree.proofs.RunLemmas.{runs_length, ran_nothing, ran_block, ran_then, row_child, one_ends}
use Rattle.arena_tree.proofs.PartRunLemmas.{token_spelled, growth_same, line_same, factors_spelled, factors_child, star_spelled, terms_next, joined_asks, joined_row, sign_spelled, terms_child}
use Rattle.arena_tree.proofs.HoleLemmas.{Begins, factor_within, factors_within, star_within, taken_within, sum_within, sign_within, line_within, let_within, lines_within}

-- ---- What `?` passes on

pub err_ends : {X : Type 0} (Y : Type 0) (P : Answer → Type 0) (result : Result X Stop) (e : Stop) → IsPassedOn result e
    → OnArena {X = Y} (Err e) P → OnArena result P
err_ends {X} Y P result e is h = passed_on (λ (r : Result X Stop). OnArena r P) result e is (by e h)
  where
    by : (s : Stop) → OnArena {X = Y} (Err s) P → OnArena {X = X} (Err s) P
    by (AllocErr k) h = h
    by OutOfMemory h = h
    by Text h = tt

pub err_arena : {X : Type 0} (P : Answer → Type 0) (result : Result X Stop) (e : AllocError) → IsPassedOn result (stop_of e) → P (refusal e)
    → OnArena result P
err_arena {X} P result e is h = passed_on (λ (r : Result X Stop). OnArena r P) result (stop_of e) is (by e h)
  where
    by : (s : AllocError) → P (refusal s) → OnArena {X = X} (Err (stop_of s)) P
    by (alloc.AllocErr k) h = h
    by alloc.OutOfMemory h = h
    by alloc.CapacityOverflow h = h

-- ---- From one place to the next, and where one is stopped

-- the ask of a list by its place among the blocks
row_asked : {mid new : View} {answer : Answer} (o : Option ℕ) (growth : Growth) (blocks : List Block) (v : Block) → IsBlockAt blocks o v
    → Asked (room_ask 88 8 (solid v) growth) mid new answer → Asked (meant blocks (room_ask 88 8 o growth)) mid new answer
row_asked {mid} {new} {answer} None (GrowsTo more) blocks v at asked =
    subst (λ o. Asked (first_or_larger o (more * 88) 8) mid new answer) at asked
row_asked {mid} {new} {answer} (Some n) (GrowsTo more) blocks v at asked =
    subst (λ o. Asked (first_or_larger o (more * 88) 8) mid new answer) (at.0 ∙ sym at.1) asked
row_asked o Stays blocks v at asked = absurd asked.answers
row_asked o Overflows blocks v at asked = absurd asked.answers

module _ {H : Type 0} {tokens_before : H → List Token → List Token} {asks_before : H → List (Ask ℕ)} {h : H} {bytes : List ℕ} {at : ℕ}
    {p : Program} {first old : View} (u : IsUpTo tokens_before asks_before h bytes at p first old) where
  runs_on : {mid : View} (asks : ℕ → List (Ask ℕ)) (k : Ran asks old mid)
      → (length u.blocks ≡ placed_by (asks_before h)) × Runs (asks (placed_by (asks_before h))) u.blocks old (k.later u.blocks) mid
  runs_on {mid} asks k =
      let many : length u.blocks ≡ placed_by (asks_before h) = omega (arith, runs_length (asks_before h) [] u.blocks first old u.ran) in
      (many, subst (λ n. Runs (asks n) u.blocks old (k.later u.blocks) mid) many (k.runs u.blocks))

  goes_on : {K : Type 0} {tokens_at' : K → List Token → List Token} {asks_at : K → List (Ask ℕ)} {end : ℕ} {now : View} (k : K)
      (asks : ℕ → List (Ask ℕ)) → Ran asks old now → tokens_before h (spelled_at bytes at) ≡ tokens_at' k (spelled_at bytes end)
      → asks_at k ≡ asks_before h ++ asks (placed_by (asks_before h)) → IsUpTo tokens_at' asks_at k bytes end p first now
  goes_on {now = now} k asks ran same is = record {
    tokens_are = u.tokens_are ∙ same;
    blocks = ran.later u.blocks;
    ran = subst (λ list. Runs list [] first (ran.later u.blocks) now) (sym is)
        (runs_then (asks_before h) (asks (placed_by (asks_before h))) [] u.blocks (ran.later u.blocks) first old now u.ran (runs_on asks ran).1);
  }

  goes_into : {K : Type 0} {tokens_at' : K → List Token → List Token} {asks_at : K → List (Ask ℕ)} {end : ℕ} (k : K)
      → tokens_before h (spelled_at bytes at) ≡ tokens_at' k (spelled_at bytes end) → asks_at k ≡ asks_before h
      → IsUpTo tokens_at' asks_at k bytes end p first old
  goes_into k same is = record {
    tokens_are = u.tokens_are ∙ same;
    blocks = u.blocks;
    ran = subst (λ list. Runs list [] first u.blocks old) (sym is) u.ran;
  }

  ends_at : {mid new : View} {answer : Answer} (asks : ℕ → List (Ask ℕ)) (k : Ran asks old mid) (ask : ℕ → Ask ℕ)
      → ((blocks : List Block) → Asked (meant (k.later blocks) (ask (length blocks))) mid new answer)
      → Begins (asks_before h ++ (asks (placed_by (asks_before h)) ++ ask (placed_by (asks_before h)) ∷ [])) (program_asks 0 p)
      → EndsAt (program_asks 0 p) [] first new answer
  ends_at {mid} {new} {answer} asks k ask asked begins =
      let n = placed_by (asks_before h) in
      let on = runs_on asks k in
      let last = one_ends (ask n) (k.later u.blocks)
      (subst (λ m. Asked (meant (k.later u.blocks) (ask m)) mid new answer) on.0 (asked u.blocks)) in
      subst (λ list. EndsAt list [] first new answer) (sym begins.1) (ends_sooner (asks_before h ++ (asks n ++ ask n ∷ [])) begins.0 [] first new answer
      (ends_then (asks_before h) (asks n ++ ask n ∷ []) [] u.blocks first old new answer u.ran
      (ends_then (asks n) (ask n ∷ []) u.blocks (k.later u.blocks) old mid new answer on.1 last)))

  put_ends : {two new : View} {answer : Answer} {list : Vec Node} {few : ℕ} (row : ℕ → Row) (growth_of : Row → Growth) (growth : Growth)
      → IsRow row old two list few → ((n : ℕ) → growth_of (row n) ≡ growth) → Asked (room_ask 88 8 (solid list.raw.block) growth) two new answer
      → Begins (asks_before h ++ (appended (placed_by (asks_before h)) (growth_of (row (placed_by (asks_before h)))) (row (placed_by (asks_before h)))).asks)
      (program_asks 0 p) → EndsAt (program_asks 0 p) [] first new answer
  put_ends {two} {new} {answer} {list} row growth_of growth r is asked begins =
      ends_at (λ n. (row n).asks) (record { later = r.later; runs = r.runs }) (λ n. room_ask 88 8 (row n).block (growth_of (row n)))
      (λ blocks. row_asked (row (length blocks)).block (growth_of (row (length blocks))) (r.later blocks) list.raw.block (r.block blocks)
      (subst (λ g. Asked (room_ask 88 8 (solid list.raw.block) g) two new answer) (sym (is (length blocks))) asked)) begins

  block_ends : {new : View} {answer : Answer} {size align : ℕ} → Asked (Fresh size align) old new answer
      → Begins (asks_before h ++ Fresh size align ∷ []) (program_asks 0 p) → EndsAt (program_asks 0 p) [] first new answer
  block_ends {size = size} {align} asked begins =
      ends_at (λ n. []) (ran_nothing (still old)) (λ n. Fresh size align) (λ blocks. asked) begins

-- ---- Lists of children and of statements

-- the place of a term behind others and a sign
abbrev pub added : Bool → Terms → ExprHole → TermHole
added true s h = ToTake s h
added false s h = ToAdd s h

added_spelled : (minus : Bool) (s : Terms) (h : ExprHole) (ts : List Token)
    → before_expr h (spell_terms s (sign_of minus ∷ ts)) ≡ before_term (added minus s h) ts
added_spelled true s h ts = refl
added_spelled false s h ts = refl

added_before : (minus : Bool) (s : Terms) (h : ExprHole)
    → term_before (added minus s h) ≡ expr_before h ++ (terms_row (placed_by (expr_before h)) s).asks
unfolding term_before
added_before true s h = refl
added_before false s h = refl

-- the place of a statement behind others
abbrev pub in_lines : Option LineHole → Program → LineHole
in_lines None q = InProgram q
in_lines (Some h) q = InBlock q h

lines_spelled : (o : Option LineHole) (q : Program) (ts : List Token) → begin_lines o (spell q ts) ≡ before_line (in_lines o q) ts
lines_spelled None q ts = refl
lines_spelled (Some h) q ts = refl

lines_asks : (o : Option LineHole) (q : Program) → line_before (in_lines o q) ≡ lines_before o ++ program_asks (placed_by (lines_before o)) q
unfolding line_before
lines_asks None q = refl
lines_asks (Some h) q = refl

four_asks : (n : ℕ) (r : Row) → r.few ≡ 4 → (four_appended n r).asks ≡ (appended n (four_growth r) r).asks
four_asks n r few = grind (arith, nat_tests)

-- ---- Factors

module _ {bytes : List ℕ} {at : ℕ} {p : Program} {first old : View} where
  module _ (h : FactorHole) (u : IsUpTo before_factor factor_before h bytes at p first old) where
    pub name_ends : {name : List ℕ} {end : ℕ} {new : View} {answer : Answer} → IsTokenAt bytes at (Word name) end
        → Asked (Fresh (length name) 1) old new answer → EndsAt (program_asks 0 p) [] first new answer
    unfolding factor_asks
    name_ends {name} t asked =
        block_ends u asked (factor_within p h (AName name) _ (u.tokens_are ∙ ap (before_factor h) (token_spelled t)))

    module _ {end : ℕ} where
      pub sign_up : IsTokenAt bytes at Minus end → IsUpTo before_factor factor_before (Signed h) bytes end p first old
      unfolding factor_before
      sign_up t = goes_into u (Signed h) (ap (before_factor h) (token_spelled t)) refl

      pub negated_ends : {last : ℕ} {mid new : View} {answer : Answer} → IsTokenAt bytes at Minus end → FactorRan bytes end last old mid
          → Asked (Fresh 88 8) mid new answer → EndsAt (program_asks 0 p) [] first new answer
      unfolding factor_asks
      negated_ends t k asked = ends_at u (λ n. factor_asks n k.part) k.ran (λ n. Fresh 88 8) (λ blocks. asked)
          (factor_within p h (Negated k.part) _
          (u.tokens_are ∙ ap (before_factor h) (token_spelled t ∙ ap (λ (ts : List Token). Minus ∷ ts) k.tokens_are)))

      pub paren_up : IsTokenAt bytes at LeftParen end → IsUpTo before_expr expr_before (Within h) bytes end p first old
      unfolding expr_before
      paren_up t = goes_into u (Within h) (ap (before_factor h) (token_spelled t)) refl

  -- ---- Terms

  module _ (h : TermHole) (u : IsUpTo before_term term_before h bytes at p first old) where
    pub first_up : IsUpTo before_factor factor_before (First h) bytes at p first old
    unfolding factor_before
    first_up = goes_into u (First h) refl refl

    module _ {here few : ℕ} {one : View} {list : Vec Node} (r : RowRead spell_factors factors_row Star bytes at here old one list few) where
      pub behind_up : IsUpTo before_factor factor_before (Behind r.part h) bytes here p first one
      unfolding factor_before
      behind_up = goes_on u (Behind r.part h) (λ n. (factors_row n r.part).asks) (record { later = r.is_row.later; runs = r.is_row.runs })
          (ap (before_term h) r.tokens_are) refl

      module _ {stop : ℕ} {two new : View} {answer : Answer} (k : FactorRan bytes here stop one two) (many room : ℕ)
          (all : many ≡ few + 1) (asked : Asked (room_ask 88 8 (solid list.raw.block) (list_growth list.raw.cap (list.raw.len + many) room)) two new answer)
        where
          abbrev factors_next : ℕ → Row
          factors_next n = one_more (factors_row n r.part) (factor_asks (n + placed_by (factors_row n r.part).asks) k.part)

          -- the list of all, where no star comes, and that of four
          pub factors_last_ends : room ≡ few + 1 → NoStar (tokens_at bytes stop) → EndsAt (program_asks 0 p) [] first new answer
          unfolding factors_asks
          factors_last_ends same none =
              let row = factors_child r k in
              put_ends u factors_next last_growth (list_growth list.raw.cap (list.raw.len + many) room) row
              (λ n. growth_same (factors_next n).cap list.raw.cap (factors_next n).len list.raw.len (factors_next n).few many (factors_next n).few room
              (row.cap n) (row.len n) (row.few_is n ∙ sym all) (row.few_is n ∙ sym same)) asked
              (factors_within p h (Times r.part k.part) (tokens_at bytes stop) (u.tokens_are ∙ ap (before_term h) (factors_spelled r k)) none)

          pub factors_four_ends : {next : ℕ} → few + 1 ≡ 4 → room ≡ 8 → IsTokenAt bytes stop Star next → EndsAt (program_asks 0 p) [] first new answer
          unfolding factor_before factors_row
          factors_four_ends four same star =
              let row = factors_child r k in
              let n = placed_by (term_before h) in
              let is : (four_appended n (factors_next n)).asks ≡ (appended n (four_growth (factors_next n)) (factors_next n)).asks
              = four_asks n (factors_next n) (row.few_is n ∙ four) in
              put_ends u factors_next four_growth (list_growth list.raw.cap (list.raw.len + many) room) row
              (λ n. growth_same (factors_next n).cap list.raw.cap (factors_next n).len list.raw.len (factors_next n).few many 8 room
              (row.cap n) (row.len n) (row.few_is n ∙ sym all) (sym same)) asked
              (subst (λ list. Begins (term_before h ++ list) (program_asks 0 p)) is
              (star_within p h (Times r.part k.part) _ (u.tokens_are ∙ ap (before_term h) (star_spelled r k star))))

  -- ---- Sums

  module _ (h : ExprHole) (u : IsUpTo before_expr expr_before h bytes at p first old) where
    pub first_term_up : IsUpTo before_term term_before (FirstTerm h) bytes at p first old
    unfolding term_before
    first_term_up = goes_into u (FirstTerm h) refl refl

    module _ {here few : ℕ} {one : View} {list : Vec Node} (minus : Bool)
        (r : RowRead spell_terms terms_row (sign_of minus) bytes at here old one list few) where
      pub added_up : IsUpTo before_term term_before (added minus r.part h) bytes here p first one
      added_up = goes_on u (added minus r.part h) (λ n. (terms_row n r.part).asks) (record { later = r.is_row.later; runs = r.is_row.runs })
          (ap (before_expr h) r.tokens_are ∙ added_spelled minus r.part h (spelled_at bytes here)) (added_before minus r.part h)

      module _ {stop : ℕ} {mid : View} (k : TermRan bytes here stop one mid) where
        -- its sign, where no star comes
        pub taken_ends : {new : View} {answer : Answer} → minus ≡ true → Asked (Fresh 88 8) mid new answer → NoStar (tokens_at bytes stop)
            → EndsAt (program_asks 0 p) [] first new answer
        taken_ends is asked none =
            let v : IsUpTo before_term term_before (ToTake r.part h) bytes here p first one
            = subst (λ m. IsUpTo before_term term_before (added m r.part h) bytes here p first one) is added_up in
            ends_at v (λ n. factors_asks n k.part) k.ran (λ n. Fresh 88 8) (λ blocks. asked)
            (taken_within p h r.part k.part (tokens_at bytes stop) (v.tokens_are ∙ ap (before_term (ToTake r.part h)) k.tokens_are) none)

        module _ {two new : View} {answer : Answer} (b : Block) (sign : IsSigned minus b mid two) (many room : ℕ) (all : many ≡ few + 1)
            (asked : Asked (room_ask 88 8 (solid list.raw.block) (list_growth list.raw.cap (list.raw.len + many) room)) two new answer) where
          abbrev sums_next : ℕ → Row
          sums_next n = terms_next minus n r.part k.part

          sums_row : IsRow sums_next old two list (few + 1)
          sums_row = terms_child minus r k b sign

          pub terms_last_ends : room ≡ few + 1 → TermsStop (tokens_at bytes stop) → EndsAt (program_asks 0 p) [] first new answer
          terms_last_ends same none =
              put_ends u sums_next last_growth (list_growth list.raw.cap (list.raw.len + many) room) sums_row
              (λ n. growth_same (sums_next n).cap list.raw.cap (sums_next n).len list.raw.len (sums_next n).few many (sums_next n).few room
              (sums_row.cap n) (sums_row.len n) (sums_row.few_is n ∙ sym all) (sums_row.few_is n ∙ sym same)) asked
              (subst (λ list. Begins (expr_before h ++ list) (program_asks 0 p)) (sym (joined_asks minus r.part k.part (placed_by (expr_before h))))
              (sum_within p minus h r.part k.part (tokens_at bytes stop)
              (u.tokens_are ∙ ap (before_expr h) (r.tokens_are ∙ ap (λ (ts : List Token). spell_terms r.part (sign_of minus ∷ ts)) k.tokens_are)) none))

          pub terms_four_ends : {next : ℕ} (less : Bool) → few + 1 ≡ 4 → room ≡ 8 → IsTokenAt bytes stop (sign_of less) next
              → EndsAt (program_asks 0 p) [] first new answer
          terms_four_ends less four same t =
              let n = placed_by (expr_before h) in
              let is : (terms_row n (joined minus r.part k.part)).asks ≡ (appended n (four_growth (sums_next n)) (sums_next n)).asks
              = ap (λ (row : Row). row.asks) (sym (joined_row minus r.part k.part n)) ∙ four_asks n (sums_next n) (sums_row.few_is n ∙ four) in
              put_ends u sums_next four_growth (list_growth list.raw.cap (list.raw.len + many) room) sums_row
              (λ n. growth_same (sums_next n).cap list.raw.cap (sums_next n).len list.raw.len (sums_next n).few many 8 room
              (sums_row.cap n) (sums_row.len n) (sums_row.few_is n ∙ sym all) (sym same)) asked
              (subst (λ list. Begins (expr_before h ++ list) (program_asks 0 p)) is
              (sign_within p less h (joined minus r.part k.part) _ (u.tokens_are ∙ ap (before_expr h) (sign_spelled minus r k less t))))

  -- ---- Statements

  module _ (h : LineHole) (u : IsUpTo before_line line_before h bytes at p first old) where
    module _ (behind : ℕ) {name : List ℕ} (is : spelled_at bytes at ≡ LetKey ∷ Word name ∷ Equals ∷ spelled_at bytes behind) where
      pub let_name_ends : {new : View} {answer : Answer} → Asked (Fresh (length name) 1) old new answer → EndsAt (program_asks 0 p) [] first new answer
      let_name_ends asked = block_ends u asked (let_within p h name (spelled_at bytes behind) (u.tokens_are ∙ ap (before_line h) is))

      module _ {one : View} {text : Option Block} (placed : TakesBlock (Fresh (length name) 1) None old one text) where
        pub let_up : IsUpTo before_expr expr_before (Of (LetOf name) h) bytes behind p first one
        unfolding expr_before
        let_up = goes_on u (Of (LetOf name) h) (λ n. Fresh (length name) 1 ∷ []) (ran_block old one None text (length name) 1 placed)
            (ap (before_line h) is) refl

        pub let_ends : {stop last : ℕ} {two new : View} {answer : Answer} → TermsRan bytes behind stop one two → IsTokenAt bytes stop Semicolon last
            → Asked (Fresh 88 8) two new answer → EndsAt (program_asks 0 p) [] first new answer
        unfolding line_asks
        let_ends {last = last} k end asked = ends_at u (λ n. Fresh (length name) 1 ∷ terms_asks (n + 1) k.part)
            (ran_then (λ n. Fresh (length name) 1 ∷ []) (λ n. terms_asks n k.part) (ran_block old one None text (length name) 1 placed) k.ran)
            (λ n. Fresh 88 8) (λ blocks. asked)
            (line_within p h (LetLine name k.part) (spelled_at bytes last) (u.tokens_are ∙ ap (before_line h)
            (is ∙ ap (λ (ts : List Token). LetKey ∷ Word name ∷ Equals ∷ ts) (k.tokens_are ∙ ap (spell_terms k.part) (token_spelled end)))))

    pub show_up : IsUpTo before_expr expr_before (Of ShowOf h) bytes at p first old
    unfolding expr_before
    show_up = goes_into u (Of ShowOf h) refl refl

    pub show_ends : {stop last : ℕ} {two new : View} {answer : Answer} → TermsRan bytes at stop old two → IsTokenAt bytes stop Semicolon last
        → Asked (Fresh 88 8) two new answer → EndsAt (program_asks 0 p) [] first new answer
    unfolding line_asks
    show_ends {last = last} k end asked = ends_at u (λ n. terms_asks n k.part) k.ran (λ n. Fresh 88 8) (λ blocks. asked)
        (line_within p h (ShowLine k.part) (spelled_at bytes last)
        (u.tokens_are ∙ ap (before_line h) (k.tokens_are ∙ ap (spell_terms k.part) (token_spelled end))))

    pub block_up : {end : ℕ} → IsTokenAt bytes at LeftBrace end → IsUpTo begin_lines lines_before (Some h) bytes end p first old
    block_up t = goes_into u (Some h) (ap (before_line h) (token_spelled t)) refl

  module _ (o : Option LineHole) (u : IsUpTo begin_lines lines_before o bytes at p first old) {here : ℕ} {one : View} {list : Vec Node}
      (r : LinesRead bytes at here old one list) where
    pub line_up : IsUpTo before_line line_before (in_lines o r.part) bytes here p first one
    line_up = goes_on u (in_lines o r.part) (λ n. program_asks n r.part) (record { later = r.is_row.later; runs = r.is_row.runs })
        (ap (begin_lines o) r.tokens_are ∙ lines_spelled o r.part (spelled_at bytes here)) (lines_asks o r.part)

    pub push_ends : {end : ℕ} {two new : View} {answer : Answer} → LineRan bytes here end one two
        → Asked (room_ask 88 8 (solid list.raw.block) (amortised_growth 88 list.raw.cap (list.raw.len + 1))) two new answer
        → EndsAt (program_asks 0 p) [] first new answer
    unfolding lines_row
    push_ends {end} k asked =
        let row = λ (n : ℕ). one_more (lines_row n r.part) (line_asks (n + placed_by (lines_row n r.part).asks) k.part) in
        let child = row_child (λ n. lines_row n r.part) (λ n. line_asks n k.part) r.is_row k.ran in
        put_ends u row line_growth (amortised_growth 88 list.raw.cap (list.raw.len + 1)) child
        (λ n. line_same (row n).cap list.raw.cap (row n).len list.raw.len (row n).few (child.cap n) (child.len n) (child.few_is n)) asked
        (lines_within p o (Next r.part k.part) (spelled_at bytes end)
        (u.tokens_are ∙ ap (begin_lines o) (r.tokens_are ∙ ap (spell r.part) k.tokens_are)))

-- the whole text
pub program_up : {bytes : List ℕ} {p : Program} {a : View} → spell p [] ≡ without_places (tokens bytes)
    → IsUpTo begin_lines lines_before None bytes 0 p a a
unfolding Runs
program_up {a = a} is = record { tokens_are = is; blocks = []; ran = (refl, still a) }
