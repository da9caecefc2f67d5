-- What the calls of a walk ask for, and where one is stopped.
use Rattle.std.proofs.lemmas.Bool.Decides.{nat_tests}
use Rattle.std.proofs.Common.{◌≡◌, ◌≢◌, ℕ, ◌≤◌, inl, inr, List, [], ◌∷◌, length, refl, sym, ap, subst, ◌∙◌, arith, Bool, true, false, not, Ok, Err, Some, None}
use Rattle.std.specs.Prelude.{Result, Option, IsErr, IsErrAnd, if◌then◌else◌}
use Rattle.arena_chunks.specs.Answers.{Answer}
use Rattle.arena_chunks.specs.Answers.Answer.{Refused}
use Rattle.arena_chunks.specs.Source.{View}
use Rattle.arena_items.specs.Asks.{refusal, Asked}
use Rattle.arena_items.specs.declared.room.AllocError.{AllocError}
use Rattle.arena_items.specs.declared.room.AllocError.TheVariants.{AllocErr, CapacityOverflow, OutOfMemory}
use Rattle.arena_symbols.specs.Asks.{list_ask}
use Rattle.arena_symbols.specs.Calls.{State, has_outer}
use Rattle.arena_symbols.specs.Interner.{number_of, with_text}
use Rattle.arena_symbols.specs.Interning.{Interns, IsTextDenied}
use Rattle.arena_symbols.specs.Listing.{place_item}
use Rattle.arena_symbols.specs.Named.{AreNames, IsNumbered}
use Rattle.arena_symbols.specs.Names.{names_in}
use Rattle.arena_symbols.specs.Scoping.{is_in_last, with_pair, outer_of}
use Rattle.arena_symbols.specs.TableCalls.{Defines, Enters, Leaves, IsPairDenied}
use Rattle.arena_symbols.specs.Tables.{entry_item, scopes_in}
use Rattle.arena_symbols.specs.declared.scopes.Scopes.{Scopes}
use Rattle.arena_symbols.specs.declared.symbols.Symbols.{Symbols}
use Rattle.arena_symbols.specs.declared.names.Names.{Names as Known}
use Rattle.arena_symbols.proofs.Layers.{texts_moved, scopes_moved}
use Rattle.tree_rules.specs.Trees.{Stmt, Let, Show, Stmts, NoStmts, Then}
use Rattle.tree_rules.specs.Trees as tree
use Rattle.arena_tree.specs.Spending.{error_of}
use Rattle.arena_lint.specs.Spending.{IsExhausted}
use Rattle.arena_lint.specs.Stopping.{with_id, DoesName, BeginsBlock, EndsBlock, Does, DoesAll, StopsAtName, StopsAtBlock, StopsAt, StopsIn, Goes, GoesOn}

abbrev Effect : Type 1
Effect = View → Known → View → Known → Type 0

abbrev Stop : Type 1
Stop = View → Known → View → Answer → Type 0

abbrev Maps : Type 0
Maps = List (List (ℕ × ℕ))

same_state : {texts names : List (List ℕ)} {scopes maps : Maps} → texts ≡ names → scopes ≡ maps
    → ◌≡◌ {A = State} (record { texts = texts; scopes = scopes }) (record { texts = names; scopes = maps })
same_state one two = rw (one, two) refl

-- what `?` passes on
pub err_goes : {X : Type 0} {Did : Effect} {Stops : Stop} {old new : View} {k l : Known} (result : Result X AllocError)
    {e : AllocError} → IsErr result × IsErrAnd result (λ f. f ≡ e) → Goes Did Stops old new k l (Some e)
    → Goes Did Stops old new k l (error_of result)
err_goes result is goes = grind (arith, nat_tests)

-- memory may run out after a call
pub goes_exhausted : {Did : Effect} {Stops : Stop} {old new : View} {k l : Known} {error : Option AllocError}
    → IsExhausted error → Goes Did Stops old new k l None → Goes Did Stops old new k l error
goes_exhausted {error = None} exhausted goes = goes
goes_exhausted {error = Some e} exhausted goes = record {
  did = λ never. absurd (cc);
  stopped = λ j is. absurd (cc exhausted);
}

-- memory runs out
pub goes_out : {Did : Effect} {Stops : Stop} {old new : View} {k l : Known} {e : AllocError}
    → IsExhausted (Some e) → Goes Did Stops old new k l (Some e)
goes_out exhausted = record { did = λ never. absurd (cc); stopped = λ j is. absurd (cc exhausted) }

-- a refusal by the arena, in its answer
refused_as : (P : Answer → Type 0) (e : AllocError) (n : ℕ) → ◌≡◌ {A = Option AllocError} (Some e) (Some (AllocErr n))
    → (e ≢ CapacityOverflow → P (refusal e)) → P (Refused n)
refused_as P (AllocErr m) n is goes = let same : m ≡ n = cc is in subst (λ i. P (Refused i)) same (goes (λ no. absurd (cc)))
refused_as P OutOfMemory n is goes = absurd (cc is)
refused_as P CapacityOverflow n is goes = absurd (cc is)

-- ---- A definition

pub unnamed_goes : {old mid : View} {k : Known} {t : Symbols} {name : List ℕ} {e : AllocError} → AreNames old.memory k
    → Interns old mid k.symbols t name (Err e) → Goes (DoesName name) (StopsAtName name) old mid k (record k { symbols = t }) (Some e)
unnamed_goes {old} {mid} {k} {t} {name} {e} held interns = record {
  did = λ never. absurd (cc);
  stopped = λ n is. (
    record k { symbols = t },
    inl (refused_as (λ answer. IsTextDenied old mid k.symbols t name answer) e n is interns.denied),
  );
}

put_as : (b : Bool) (Y Z : Maps) → (if not b then Z else Y) ≡ (if b then Y else Z)
put_as true Y Z = refl
put_as false Y Z = refl

number : {old mid : View} {s t : Symbols} {name : List ℕ} {id : ℕ} → Interns old mid s t name (Ok id)
    → number_of (with_text (names_in old.memory s) name) name ≡ Some id
number {name = name} interns = ap (λ (l : List (List ℕ)). number_of l name) (sym interns.names) ∙ interns.number

numbered : {old mid : View} {k : Known} {t : Symbols} {name : List ℕ} {id : ℕ} (d : Scopes) → AreNames old.memory k
    → Interns old mid k.symbols t name (Ok id) → IsNumbered old mid k (record { symbols = t; scopes = d }) name id
numbered d held interns = record { took = interns.took; number = interns.number; same = (texts_moved held interns).1 }

module _ {old mid new : View} {k : Known} {t : Symbols} {d : Scopes} {name : List ℕ} {id : ℕ} (held : AreNames old.memory k)
    (interns : Interns old mid k.symbols t name (Ok id)) where
  defined_goes : {b : Bool} → Defines entry_item mid new k.scopes d id 0 (Ok b)
      → Goes (DoesName name) (StopsAtName name) old new k (record { symbols = t; scopes = d }) None
  defined_goes {b} puts =
      let one = texts_moved held interns in
      let two = scopes_moved one.0.held d puts.held puts.frame in
      let before = scopes_in entry_item mid.memory k.scopes in
      let put : scopes_in entry_item new.memory d ≡ with_id (Some id) before
      = puts.scopes ∙ ap (λ (is_new : Bool). if is_new then with_pair before id 0 else before) puts.says
      ∙ put_as (is_in_last before id) before (with_pair before id 0) in
      record {
        did = λ is. record {
          becomes = record {
            held = two.0.held;
            state = same_state (two.1 ∙ interns.names) (put ∙ ap (λ (o : Option ℕ). with_id o before) (sym (number interns))
                ∙ ap (with_id (number_of (with_text (names_in old.memory k.symbols) name) name)) one.1);
          };
          took = (mid, id, numbered d held interns, puts.took);
        };
        stopped = λ n never. absurd (cc);
      }

  pub define_goes : {result : Result Bool AllocError} → Defines entry_item mid new k.scopes d id 0 result
      → Goes (DoesName name) (StopsAtName name) old new k (record { symbols = t; scopes = d }) (error_of result)
  define_goes {result = Ok b} puts = defined_goes puts
  define_goes {result = Err e} puts = record {
    did = λ never. absurd (cc);
    stopped = λ n is. (
      record { symbols = t; scopes = d },
      inr (
        mid,
        id,
        numbered d held interns,
        refused_as (λ answer. IsPairDenied entry_item mid new k.scopes d id answer) e n is puts.denied,
      ),
    );
  }

-- ---- Blocks

pub begun_goes : {old new : View} {k : Known} {d : Scopes} {result : Result (Unit {0}) AllocError} → AreNames old.memory k
    → Enters entry_item old new k.scopes d result → Goes BeginsBlock StopsAtBlock old new k (record k { scopes = d }) (error_of result)
begun_goes {d = d} {result = Ok x} held enters = let one = scopes_moved held d enters.held enters.frame in record {
  did = λ is. record {
    becomes = record { held = one.0.held; state = same_state one.1 enters.scopes };
    symbols = refl;
    took = enters.took;
  };
  stopped = λ n never. absurd (cc);
}
begun_goes {old = old} {new = new} {k = k} {result = Err e} held enters = record {
  did = λ never. absurd (cc);
  stopped = λ n is. refused_as (λ answer. Asked (list_ask place_item k.scopes.starts) old new answer) e n is enters.denied;
}

has_two : (scopes : Maps) → 2 ≤ length scopes → has_outer scopes ≡ true
has_two [] two = absurd (omega (arith, two))
has_two (s ∷ []) two = absurd (omega (arith, two))
has_two (s ∷ t ∷ outer) two = refl

has_one : (scopes : Maps) → length scopes ≡ 1 → has_outer scopes ≡ false
has_one [] one = refl
has_one (s ∷ []) one = refl
has_one (s ∷ t ∷ outer) one = absurd (omega (arith, one))

-- the outer scopes, if there are any
abbrev outer_if : Bool → Maps → Maps
outer_if outer scopes = if outer then outer_of scopes else scopes

ended_state : {old new : View} (k : Known) {d : Scopes} (result : Bool) → Leaves entry_item old new k.scopes d result
    → scopes_in entry_item new.memory d
    ≡ outer_if (has_outer (scopes_in entry_item old.memory k.scopes)) (scopes_in entry_item old.memory k.scopes)
ended_state {old} k true leaves =
    let scopes = scopes_in entry_item old.memory k.scopes in
    leaves.left refl ∙ sym (ap (λ (b : Bool). outer_if b scopes) (has_two scopes (leaves.more refl)))
ended_state {old} {new} k {d} false leaves =
    let scopes = scopes_in entry_item old.memory k.scopes in
    let alone = leaves.alone refl in
    let same : scopes_in entry_item new.memory d ≡ scopes = rw (alone.1, alone.2) refl in
    same ∙ sym (ap (λ (b : Bool). outer_if b scopes) (has_one scopes alone.0))

pub ended_goes : {old new : View} {k : Known} {d : Scopes} (result : Bool) → AreNames old.memory k
    → Leaves entry_item old new k.scopes d result → EndsBlock old k new (record k { scopes = d })
ended_goes {k = k} {d = d} result held leaves = let moved = scopes_moved held d leaves.held leaves.frame in record {
  becomes = record { held = moved.0.held; state = same_state moved.1 (ended_state k result leaves) };
  symbols = refl;
  blocks = leaves.blocks;
  places = leaves.places;
}

module _ {old mid : View} {k l : Known} {s : Stmt} {ss : Stmts} (is : s ≡ tree.Block ss) where
  pub unbegun_stops : {e : AllocError} → Goes BeginsBlock StopsAtBlock old mid k l (Some e) → Goes (Does s) (StopsAt s) old mid k l (Some e)
  unbegun_stops goes = rw is (record { did = λ never. absurd (cc); stopped = λ n no. inl (goes.stopped n no) })

  module _ {new : View} {j : Known} (begun : Goes BeginsBlock StopsAtBlock old mid k l None) where
    pub body_stops : {e : AllocError} → Goes (DoesAll ss) (StopsIn ss) mid new l j (Some e) → Goes (Does s) (StopsAt s) old new k j (Some e)
    body_stops goes =
        rw is (record { did = λ never. absurd (cc); stopped = λ n no. inr (mid, l, begun.did refl, goes.stopped n no) })

    pub block_goes : {far : View} {i : Known} → Goes (DoesAll ss) (StopsIn ss) mid new l j None → EndsBlock new j far i
        → Goes (Does s) (StopsAt s) old far k i None
    block_goes goes ends = rw is (record {
      did = λ none. (mid, l, begun.did refl, new, j, goes.did refl, ends);
      stopped = λ n never. absurd (cc);
    })

-- ---- Some of the statements

pub goes_from : (ss : Stmts) (a : View) (k : Known) → GoesOn ss ss a a k k
goes_from ss a k = record { did = λ new j all. all; stopped = λ new answer stops. stops }

module _ {ss left rest : Stmts} {s : Stmt} {old now new : View} {k l j : Known} (is : left ≡ Then s rest)
    (on : GoesOn ss left old now k l) where
  pub goes_next : Goes (Does s) (StopsAt s) now new l j None → GoesOn ss rest old new k j
  goes_next goes = record {
    did = λ v i all. on.did v i (subst (λ (t : Stmts). DoesAll t now l v i) (sym is) (new, j, goes.did refl, all));
    stopped = λ v answer stops. on.stopped v answer
        (subst (λ (t : Stmts). StopsIn t now l v answer) (sym is) (inr (new, j, goes.did refl, stops)));
  }

  pub goes_short : {e : AllocError} → Goes (Does s) (StopsAt s) now new l j (Some e) → Goes (DoesAll ss) (StopsIn ss) old new k j (Some e)
  goes_short goes = record {
    did = λ never. absurd (cc);
    stopped = λ n no. on.stopped new (Refused n)
        (subst (λ (t : Stmts). StopsIn t now l new (Refused n)) (sym is) (inl (goes.stopped n no)));
  }

pub goes_all : {ss left : Stmts} {old now : View} {k l : Known} → left ≡ NoStmts → GoesOn ss left old now k l
    → Goes (DoesAll ss) (StopsIn ss) old now k l None
goes_all {now = now} {l = l} is on = record {
  did = λ none. on.did now l (subst (λ (t : Stmts). DoesAll t now l now l) (sym is) (refl, refl));
  stopped = λ n never. absurd (cc);
}
