-- What is asked for before a place in a program is what the whole program asks for first.
use Rattle.std.proofs.Common.{◌≡◌, ℕ, ◌+◌, ◌==◌, if◌then◌else◌, Bool, true, false, refl, sym, ap, ◌∙◌, arith, Option, Some, None, List, [], ◌∷◌, ◌++◌, length, append_assoc, append-nil}
use Rattle.std.proofs.lemmas.Option.{none-some, same_Some}
use Rattle.arena_items.specs.Asks.{Ask, Fresh, room_ask}
use Rattle.tree_rules.specs.Tokens.{Token, LetKey, Word, Number, Plus, Minus, Star, LeftParen, RightParen, LeftBrace, RightBrace, Equals, Semicolon, Placed, without_places}
use Rattle.tree_rules.specs.Grammar.{Factor, ANumber, AName, InParens, Negated, Factors, OneFactor, Times, Terms, OneTerm, Added, Taken, Line, BlockLine, Program, spell_factor, spell_factors, spell_terms, spell_line, spell}
use Rattle.tree_rules.specs.Places.{LineHole, InProgram, InBlock, Owner, LetOf, ShowOf, FactorHole, First, Behind, Signed, TermHole, FirstTerm, ToAdd, ToTake, ExprHole, Within, Of, before_line, before_factor, before_term, before_expr}
use Rattle.tree_rules.proofs.Holes.{owned}
use Rattle.tree_rules.proofs.Places.{Place, LinePlace, NamePlace, EqualsPlace, FactorPlace, BehindPlace, factor_done, terms_done, around, line_added, shown}
use Rattle.tree_rules.proofs.Readings.{go, go_factor, go_brace, go_line, go_name, go_equals, go_paren, go_end, go_behind, and_go, reads, begin, adds, takes, factor_reads, factors_read, terms_read, line_reads, value_begins, line_comes, factor_comes, term_comes, expr_comes}
use Rattle.arena_tree.specs.Asking.{placed_by, Row, one_more, appended, four_growth, four_appended, factor_asks, factors_row, factors_asks, terms_row, terms_asks, line_asks, lines_row, program_asks}
use Rattle.arena_tree.specs.Parts.{NoStar, TermsStop, sign_of}
use Rattle.arena_tree.specs.Stopping.{line_before, factor_before, term_before, expr_before, begin_lines, lines_before}
use Rattle.arena_tree.proofs.PartLemmas.{joined}
use Rattle.arena_tree.proofs.RunLemmas.{placed_then}

-- ---- Asks that begin with others

abbrev pub Begins : List (Ask ℕ) → List (Ask ℕ) → Type 0
Begins before all = (rest : List (Ask ℕ)) × (all ≡ before ++ rest)

pub begins_same : (a b : List (Ask ℕ)) → b ≡ a → Begins a b
begins_same a b is = ([], is ∙ sym (append-nil a))

pub begins_with : (a more : List (Ask ℕ)) → Begins a (a ++ more)
begins_with a more = (more, refl)

pub begins_then : (a b c : List (Ask ℕ)) → Begins a b → Begins b c → Begins a c
begins_then a b c one two = (one.0 ++ two.0, two.1 ∙ ap (λ (x : List (Ask ℕ)). x ++ two.0) one.1 ∙ append_assoc a one.0 two.0)

pub begins_behind : (front a b : List (Ask ℕ)) → Begins a b → Begins (front ++ a) (front ++ b)
begins_behind front a b one = (one.0, ap (λ (x : List (Ask ℕ)). front ++ x) one.1 ∙ sym (append_assoc front a one.0))

-- ---- What was asked for before a place

-- of a term of which more factors may come, and of terms before it is known what follows
unfoldable pub behind_asks : ℕ → Factors → List (Ask ℕ)
behind_asks n (OneFactor f) = factor_asks n f
behind_asks n (Times t f) = (factors_row n t).asks ++ factor_asks (n + placed_by (factors_row n t).asks) f

unfoldable pub terms_behind_asks : ℕ → Terms → List (Ask ℕ)
terms_behind_asks n (OneTerm t) = factors_asks n t
terms_behind_asks n (Added s t) = (terms_row n s).asks ++ factors_asks (n + placed_by (terms_row n s).asks) t
terms_behind_asks n (Taken s t) = (terms_row n s).asks ++ (factors_asks (n + placed_by (terms_row n s).asks) t ++ Fresh 88 8 ∷ [])

unfoldable pub place_before : Place → List (Ask ℕ)
place_before (LinePlace h) = line_before h
place_before (NamePlace h) = line_before h
place_before (EqualsPlace h name) = line_before h
place_before (FactorPlace h) = factor_before h
place_before (BehindPlace t h) = term_before h ++ behind_asks (placed_by (term_before h)) t

-- ---- Over each part

-- a part behind two others
after_both : (front row : List (Ask ℕ)) (part : ℕ → List (Ask ℕ))
    → (front ++ row) ++ part (placed_by (front ++ row)) ≡ front ++ (row ++ part (placed_by front + placed_by row))
after_both front row part = append_assoc front row (part (placed_by (front ++ row)))
    ∙ ap (λ n. front ++ (row ++ part n)) (placed_then front row)

four_begins : (n : ℕ) (r : Row) → Begins r.asks (four_appended n r).asks
four_begins n r = by (r.few == 4)
  where
    by : (b : Bool) → Begins r.asks (if b then appended n (four_growth r) r else r).asks
    by true = begins_with r.asks (room_ask 88 8 r.block (four_growth r) ∷ [])
    by false = begins_same r.asks r.asks refl

factors_row_begins : (n : ℕ) (t : Factors) → Begins (behind_asks n t) (factors_row n t).asks
unfolding behind_asks factors_row
factors_row_begins n (OneFactor f) = begins_same _ _ refl
factors_row_begins n (Times t f) = four_begins n (one_more (factors_row n t) (factor_asks (n + placed_by (factors_row n t).asks) f))

factors_begin : (n : ℕ) (t : Factors) → Begins (behind_asks n t) (factors_asks n t)
unfolding behind_asks factors_asks
factors_begin n (OneFactor f) = begins_same _ _ refl
factors_begin n (Times t f) = begins_with _ _

terms_row_begins : (n : ℕ) (s : Terms) → Begins (terms_behind_asks n s) (terms_row n s).asks
unfolding terms_behind_asks terms_row
terms_row_begins n (OneTerm t) = begins_same _ _ refl
terms_row_begins n (Added s t) = four_begins n (one_more (terms_row n s) (factors_asks (n + placed_by (terms_row n s).asks) t))
terms_row_begins n (Taken s t) = four_begins n (one_more (terms_row n s) (factors_asks (n + placed_by (terms_row n s).asks) t ++ Fresh 88 8 ∷ []))

terms_begin_asks : (n : ℕ) (s : Terms) → Begins (terms_behind_asks n s) (terms_asks n s)
unfolding terms_behind_asks terms_asks
terms_begin_asks n (OneTerm t) = begins_same _ _ refl
terms_begin_asks n (Added s t) = begins_with _ _
terms_begin_asks n (Taken s t) = begins_with _ _

-- a factor that was read
pub factor_done_begins : (h : FactorHole) (f : Factor)
    → Begins (factor_before h ++ factor_asks (placed_by (factor_before h)) f) (place_before (factor_done h f))
unfolding place_before factor_before behind_asks factor_asks
factor_done_begins (First h) f = begins_same _ _ refl
factor_done_begins (Behind t h) f = begins_same _ _ (sym (after_both (term_before h) (factors_row (placed_by (term_before h)) t).asks (λ n. factor_asks n f)))
factor_done_begins (Signed h) f = begins_then _ _ _ (begins_behind (factor_before h) _ _ (begins_with _ (Fresh 88 8 ∷ []))) (factor_done_begins h (Negated f))

-- a term, behind which no star comes
pub term_done_begins : (h : TermHole) (t : Factors)
    → Begins (term_before h ++ factors_asks (placed_by (term_before h)) t) (expr_before (around h) ++ terms_behind_asks (placed_by (expr_before (around h))) (terms_done h t))
unfolding term_before terms_behind_asks
term_done_begins (FirstTerm h) t = begins_same _ _ refl
term_done_begins (ToAdd s h) t = begins_same _ _ (sym (after_both (expr_before h) (terms_row (placed_by (expr_before h)) s).asks (λ n. factors_asks n t)))
term_done_begins (ToTake s h) t = begins_then _ _ _
    (begins_same _ _ (sym (after_both (expr_before h) (terms_row (placed_by (expr_before h)) s).asks (λ n. factors_asks n t))))
    (begins_behind (expr_before h) _ _ (begins_behind (terms_row (placed_by (expr_before h)) s).asks _ _ (begins_with _ (Fresh 88 8 ∷ []))))

-- a statement
pub line_added_begins : (h : LineHole) (l : Line) → Begins (line_before h ++ line_asks (placed_by (line_before h)) l) (line_before (line_added h l))
unfolding line_before lines_row
line_added_begins (InProgram p) l = begins_then _ _ _ (begins_same _ _ (ap (λ n. (lines_row 0 p).asks ++ line_asks n l) zero_first)) (begins_with _ _)
  where
    zero_first : 0 + placed_by (lines_row 0 p).asks ≡ placed_by (lines_row 0 p).asks
    zero_first = omega arith
line_added_begins (InBlock p h) l = begins_then _ _ _
    (begins_same _ _ (sym (after_both (line_before h) (lines_row (placed_by (line_before h)) p).asks (λ n. line_asks n l))))
    (begins_behind (line_before h) _ _ (begins_with _ _))

-- its expression
owned_begins : (owner : Owner) (h : LineHole) (s : Terms)
    → Begins (expr_before (Of owner h) ++ terms_asks (placed_by (expr_before (Of owner h))) s) (line_before h ++ line_asks (placed_by (line_before h)) (owned owner s))
unfolding expr_before line_asks
owned_begins (LetOf name) h s = begins_then _ _ _
    (begins_same _ _ (sym (after_both (line_before h) (Fresh (length name) 1 ∷ []) (λ n. terms_asks n s))))
    (begins_behind (line_before h) _ _ (begins_behind (Fresh (length name) 1 ∷ []) _ _ (begins_with _ (Fresh 88 8 ∷ []))))
owned_begins ShowOf h s = begins_behind (line_before h) _ _ (begins_with _ (Fresh 88 8 ∷ []))

-- ---- Over each token

abbrev BeginsAt : List (Ask ℕ) → Option Place → Type 0
BeginsAt before None = Unit {0}
BeginsAt before (Some d) = Begins before (place_before d)

-- the terms that a term's end makes, with what surrounds them
term_ends : (h : TermHole) (t : Factors) → Begins (term_before h ++ behind_asks (placed_by (term_before h)) t)
    (expr_before (around h) ++ terms_behind_asks (placed_by (expr_before (around h))) (terms_done h t))
term_ends h t = begins_then _ _ _ (begins_behind (term_before h) _ _ (factors_begin (placed_by (term_before h)) t)) (term_done_begins h t)

at_then : (a b : List (Ask ℕ)) (o : Option Place) → Begins a b → BeginsAt b o → BeginsAt a o
at_then a b None one two = tt
at_then a b (Some d) one two = begins_then a b (place_before d) one two

-- an expression's end: a parenthesis, or a semicolon
paren_begins : (h : ExprHole) (s : Terms) → BeginsAt (expr_before h ++ terms_asks (placed_by (expr_before h)) s) (go_paren h s)
unfolding go_paren expr_before factor_asks
paren_begins (Within h) s = factor_done_begins h (InParens s)
paren_begins (Of owner h) s = tt

end_begins : (h : ExprHole) (s : Terms) → BeginsAt (expr_before h ++ terms_asks (placed_by (expr_before h)) s) (go_end h s)
unfolding go_end place_before
end_begins (Within h) s = tt
end_begins (Of owner h) s = begins_then _ _ _ (owned_begins owner h s) (line_added_begins h (owned owner s))

-- a token that isn't one of these
abbrev IsNoStar : Token → Type 0
IsNoStar Star = ⊥
IsNoStar token = Unit {0}

abbrev IsNoSign : Token → Type 0
IsNoSign Plus = ⊥
IsNoSign Minus = ⊥
IsNoSign token = Unit {0}

-- what comes behind an expression, behind a term that ends, and behind a factor
expr_ends : (token : Token) (t : Factors) (h : TermHole) → IsNoStar token → IsNoSign token
    → BeginsAt (expr_before (around h) ++ terms_asks (placed_by (expr_before (around h))) (terms_done h t)) (go_behind token t h)
unfolding go_behind
expr_ends Star t h star sign = absurd star
expr_ends Plus t h star sign = absurd sign
expr_ends Minus t h star sign = absurd sign
expr_ends RightParen t h star sign = paren_begins (around h) (terms_done h t)
expr_ends Semicolon t h star sign = end_begins (around h) (terms_done h t)
expr_ends _ t h star sign = tt

terms_end : (h : ExprHole) (s : Terms) → Begins (expr_before h ++ terms_behind_asks (placed_by (expr_before h)) s)
    (expr_before h ++ terms_asks (placed_by (expr_before h)) s)
terms_end h s = begins_behind (expr_before h) _ _ (terms_begin_asks (placed_by (expr_before h)) s)

term_stops : (token : Token) (t : Factors) (h : TermHole) → IsNoStar token
    → BeginsAt (expr_before (around h) ++ terms_behind_asks (placed_by (expr_before (around h))) (terms_done h t)) (go_behind token t h)
unfolding go_behind place_before factor_before term_before
term_stops Star t h star = absurd star
term_stops Plus t h star = begins_behind (expr_before (around h)) _ _ (terms_row_begins (placed_by (expr_before (around h))) (terms_done h t))
term_stops Minus t h star = begins_behind (expr_before (around h)) _ _ (terms_row_begins (placed_by (expr_before (around h))) (terms_done h t))
term_stops RightParen t h star = at_then _ _ (go_paren (around h) (terms_done h t)) (terms_end (around h) (terms_done h t))
    (paren_begins (around h) (terms_done h t))
term_stops Semicolon t h star = at_then _ _ (go_end (around h) (terms_done h t)) (terms_end (around h) (terms_done h t))
    (end_begins (around h) (terms_done h t))
term_stops _ t h star = tt

behind_begins : (token : Token) (t : Factors) (h : TermHole) → BeginsAt (term_before h ++ behind_asks (placed_by (term_before h)) t) (go_behind token t h)
unfolding go_behind place_before factor_before
behind_begins Star t h = begins_behind (term_before h) _ _ (factors_row_begins (placed_by (term_before h)) t)
behind_begins token t h = at_then _ _ (go_behind token t h) (term_ends h t) (term_stops token t h tt)

factor_begins : (token : Token) (h : FactorHole) → BeginsAt (factor_before h) (go_factor token h)
unfolding go_factor place_before factor_before term_before expr_before
factor_begins (Number n) h = begins_then _ _ _ (begins_with _ _) (factor_done_begins h (ANumber n))
factor_begins (Word name) h = begins_then _ _ _ (begins_with _ _) (factor_done_begins h (AName name))
factor_begins LeftParen h = begins_same _ _ refl
factor_begins Minus h = begins_same _ _ refl
factor_begins _ h = tt

line_begins : (token : Token) (h : LineHole) → BeginsAt (line_before h) (go_line token h)
unfolding go_line go_brace place_before line_before lines_row line_asks factor_before term_before expr_before
line_begins LetKey h = begins_same _ _ refl
line_begins LeftBrace h = begins_same _ _ (append-nil (line_before h))
line_begins RightBrace (InProgram p) = tt
line_begins RightBrace (InBlock p h) = line_added_begins h (BlockLine p)
line_begins (Word name) h = factor_begins (Word name) (shown h)
line_begins (Number n) h = factor_begins (Number n) (shown h)
line_begins LeftParen h = factor_begins LeftParen (shown h)
line_begins Minus h = factor_begins Minus (shown h)
line_begins _ h = tt

name_begins : (token : Token) (h : LineHole) → BeginsAt (line_before h) (go_name token h)
unfolding go_name place_before
name_begins (Word name) h = begins_same _ _ refl
name_begins _ h = tt

equals_begins : (token : Token) (h : LineHole) (name : List ℕ) → BeginsAt (line_before h) (go_equals token h name)
unfolding go_equals place_before factor_before term_before expr_before
equals_begins Equals h name = begins_with _ _
equals_begins _ h name = tt

go_begins : (c : Place) (token : Token) → BeginsAt (place_before c) (go c token)
unfolding go place_before
go_begins (LinePlace h) token = line_begins token h
go_begins (NamePlace h) token = name_begins token h
go_begins (EqualsPlace h name) token = equals_begins token h name
go_begins (FactorPlace h) token = factor_begins token h
go_begins (BehindPlace t h) token = behind_begins token t h

-- What is asked for up to a place is asked for first, up to each later one.
then_begins : (before : List (Ask ℕ)) {d : Place} (ts : List Token) (o : Option Place) → BeginsAt before o
    → and_go o (λ e. reads e ts) ≡ Some d → ((e : Place) → reads e ts ≡ Some d → Begins (place_before e) (place_before d))
    → Begins before (place_before d)
unfolding and_go
then_begins before {d} ts None at none more = absurd (none-some d none)
then_begins before {d} ts (Some e) at rest more = begins_then before (place_before e) (place_before d) at (more e rest)

reads_begin : (c d : Place) (ts : List Token) → reads c ts ≡ Some d → Begins (place_before c) (place_before d)
unfolding reads
reads_begin c d [] is = begins_same _ _ (ap place_before (sym (same_Some c d is)))
reads_begin c d (token ∷ ts) is = then_begins (place_before c) ts (go c token) (go_begins c token) is (λ e rest. reads_begin e d ts rest)

-- ---- In a whole program, by what was read of it

not_star : (token : Token) → (token ≡ Star → ⊥) → IsNoStar token
not_star Star other = other refl
not_star _ other = tt

not_sign : (token : Token) → (token ≡ Plus → ⊥) → (token ≡ Minus → ⊥) → IsNoSign token
not_sign Plus plus minus = plus refl
not_sign Minus plus minus = minus refl
not_sign _ plus minus = tt

module _ (p : Program) where
  whole : (c : Place) (rest : List Token) (ts : List Token) → spell p [] ≡ ts → reads begin ts ≡ reads c rest → reads c rest ≡ Some (LinePlace (InProgram p))
  unfolding reads
  whole c rest ts is comes = sym comes ∙ ap (reads begin) (sym is) ∙ line_comes (InProgram p) []

  within : (c : Place) (rest ts : List Token) → spell p [] ≡ ts → reads begin ts ≡ reads c rest → Begins (place_before c) (program_asks 0 p)
  unfolding place_before line_before
  within c rest ts is comes = reads_begin c (LinePlace (InProgram p)) rest (whole c rest ts is comes)

  pub factor_within : (h : FactorHole) (f : Factor) (ts : List Token) → spell p [] ≡ before_factor h (spell_factor f ts)
      → Begins (factor_before h ++ factor_asks (placed_by (factor_before h)) f) (program_asks 0 p)
  factor_within h f ts is = begins_then _ _ _ (factor_done_begins h f) (within (factor_done h f) ts _ is
      (factor_comes h (spell_factor f ts) (λ g. value_begins (OneTerm (OneFactor f)) g ts) ∙ factor_reads f h ts))

  pub line_within : (h : LineHole) (l : Line) (ts : List Token) → spell p [] ≡ before_line h (spell_line l ts)
      → Begins (line_before h ++ line_asks (placed_by (line_before h)) l) (program_asks 0 p)
  unfolding place_before
  line_within h l ts is = begins_then _ _ _ (line_added_begins h l)
      (within (LinePlace (line_added h l)) ts _ is (line_comes h (spell_line l ts) ∙ line_reads l h ts))

  pub let_within : (h : LineHole) (name : List ℕ) (ts : List Token) → spell p [] ≡ before_line h (LetKey ∷ Word name ∷ Equals ∷ ts)
      → Begins (line_before h ++ Fresh (length name) 1 ∷ []) (program_asks 0 p)
  unfolding place_before factor_before term_before expr_before reads go go_line go_name go_equals and_go
  let_within h name ts is =
      within (FactorPlace (First (FirstTerm (Of (LetOf name) h)))) ts _ is (line_comes h (LetKey ∷ Word name ∷ Equals ∷ ts))

  pub lines_within : (o : Option LineHole) (q : Program) (ts : List Token) → spell p [] ≡ begin_lines o (spell q ts)
      → Begins (lines_before o ++ program_asks (placed_by (lines_before o)) q) (program_asks 0 p)
  unfolding place_before line_before
  lines_within None q ts is = within (LinePlace (InProgram q)) ts _ is (line_comes (InProgram q) ts)
  lines_within (Some h) q ts is = within (LinePlace (InBlock q h)) ts _ is (line_comes (InBlock q h) ts)

  -- a term, and what comes behind it
  term_whole : (h : TermHole) (t : Factors) (ts : List Token) → spell p [] ≡ before_term h (spell_factors t ts)
      → reads (BehindPlace t h) ts ≡ Some (LinePlace (InProgram p))
  term_whole h t ts is = whole (BehindPlace t h) ts _ is
      (term_comes h (spell_factors t ts) (λ g. value_begins (OneTerm t) g ts) ∙ factors_read t h ts)

  pub star_within : (h : TermHole) (t : Factors) (ts : List Token) → spell p [] ≡ before_term h (spell_factors t (Star ∷ ts))
      → Begins (factor_before (Behind t h)) (program_asks 0 p)
  unfolding place_before line_before reads go go_behind and_go
  star_within h t ts is = reads_begin (FactorPlace (Behind t h)) (LinePlace (InProgram p)) ts (term_whole h t (Star ∷ ts) is)

  behind : (before : List (Ask ℕ)) (h : TermHole) (t : Factors) (token : Token) (ts : List Token) → BeginsAt before (go_behind token t h)
      → reads (BehindPlace t h) (token ∷ ts) ≡ Some (LinePlace (InProgram p)) → Begins before (program_asks 0 p)
  unfolding place_before line_before reads go
  behind before h t token ts at is = then_begins before ts (go_behind token t h) at is (λ e rest. reads_begin e (LinePlace (InProgram p)) ts rest)

  no_end : (h : TermHole) (t : Factors) → reads (BehindPlace t h) [] ≡ Some (LinePlace (InProgram p)) → ⊥
  unfolding reads
  no_end h t is = let no = is in cc

  stop_within : (h : TermHole) (t : Factors) (ts : List Placed) → spell p [] ≡ before_term h (spell_factors t (without_places ts)) → NoStar ts
      → Begins (expr_before (around h) ++ terms_behind_asks (placed_by (expr_before (around h))) (terms_done h t)) (program_asks 0 p)
  stop_within h t [] is none = absurd (no_end h t (term_whole h t [] is))
  stop_within h t (next ∷ ts) is none = behind _ h t next.token (without_places ts) (term_stops next.token t h (not_star next.token none))
      (term_whole h t (without_places (next ∷ ts)) is)

  pub factors_within : (h : TermHole) (t : Factors) (ts : List Placed) → spell p [] ≡ before_term h (spell_factors t (without_places ts)) → NoStar ts
      → Begins (term_before h ++ factors_asks (placed_by (term_before h)) t) (program_asks 0 p)
  factors_within h t ts is none = begins_then _ _ _ (term_done_begins h t) (stop_within h t ts is none)

  end_within : (h : TermHole) (t : Factors) (ts : List Placed) → spell p [] ≡ before_term h (spell_factors t (without_places ts))
      → TermsStop ts → Begins (expr_before (around h) ++ terms_asks (placed_by (expr_before (around h))) (terms_done h t)) (program_asks 0 p)
  end_within h t [] is none = absurd (no_end h t (term_whole h t [] is))
  end_within h t (next ∷ ts) is none = behind _ h t next.token (without_places ts)
      (expr_ends next.token t h (not_star next.token none.0) (not_sign next.token none.1.0 none.1.1)) (term_whole h t (without_places (next ∷ ts)) is)

  -- a term that is negated, and a term behind a sign
  pub taken_within : (h : ExprHole) (s : Terms) (t : Factors) (ts : List Placed)
      → spell p [] ≡ before_term (ToTake s h) (spell_factors t (without_places ts)) → NoStar ts
      → Begins (term_before (ToTake s h) ++ (factors_asks (placed_by (term_before (ToTake s h))) t ++ Fresh 88 8 ∷ [])) (program_asks 0 p)
  unfolding term_before terms_behind_asks
  taken_within h s t ts is none = begins_then _ _ _
      (begins_same _ _ (sym (after_both (expr_before h) (terms_row (placed_by (expr_before h)) s).asks (λ n. factors_asks n t ++ Fresh 88 8 ∷ []))))
      (stop_within (ToTake s h) t ts is none)

  pub sum_within : (minus : Bool) (h : ExprHole) (s : Terms) (t : Factors) (ts : List Placed)
      → spell p [] ≡ before_expr h (spell_terms s (sign_of minus ∷ spell_factors t (without_places ts))) → TermsStop ts
      → Begins (expr_before h ++ terms_asks (placed_by (expr_before h)) (joined minus s t)) (program_asks 0 p)
  sum_within true h s t ts is none = end_within (ToTake s h) t ts is none
  sum_within false h s t ts is none = end_within (ToAdd s h) t ts is none

  -- terms, and a sign
  pub sign_within : (minus : Bool) (h : ExprHole) (s : Terms) (ts : List Token) → spell p [] ≡ before_expr h (spell_terms s (sign_of minus ∷ ts))
      → Begins (expr_before h ++ (terms_row (placed_by (expr_before h)) s).asks) (program_asks 0 p)
  unfolding place_before factor_before term_before
  sign_within true h s ts is = within (FactorPlace (First (ToTake s h))) ts _ is
      (expr_comes h (spell_terms s (Minus ∷ ts)) (λ g. value_begins s g (Minus ∷ ts)) ∙ terms_read s h (Minus ∷ ts) ∙ takes s h ts)
  sign_within false h s ts is = within (FactorPlace (First (ToAdd s h))) ts _ is
      (expr_comes h (spell_terms s (Plus ∷ ts)) (λ g. value_begins s g (Plus ∷ ts)) ∙ terms_read s h (Plus ∷ ts) ∙ adds s h ts)
