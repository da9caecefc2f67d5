-- What a definition takes, and what the beginning and the end of a block do.
use Rattle.std.proofs.lemmas.Bool.Decides.{nat_tests}
use Rattle.std.proofs.Common.{◌≡◌, ℕ, ◌+◌, ◌*◌, ◌≤◌, List, [], ◌∷◌, length, length-append, ap, ◌∙◌, arith, Bool, Ok, Err, Some, None}
use Rattle.std.specs.Prelude.{Result, map, if◌then◌else◌}
use Rattle.std.proofs.lemmas.List.Sums.{sum_by-cons}
use Rattle.arena_chunks.specs.Source.{View}
use Rattle.arena_chunks.specs.Frame.{Frame}
use Rattle.arena_items.specs.Costs.{Costs}
use Rattle.arena_items.specs.declared.room.AllocError.{AllocError}
use Rattle.arena_items.specs.declared.room.AllocError.TheVariants.{CapacityOverflow}
use Rattle.arena_items.proofs.Layers.{costs_nothing}
use Rattle.arena_symbols.specs.Interner.{with_text, most_texts}
use Rattle.arena_symbols.specs.Interning.{Interns}
use Rattle.arena_symbols.specs.Named.{AreNames, all_credit}
use Rattle.arena_symbols.specs.Names.{names_in}
use Rattle.arena_symbols.specs.Paying.{far_up}
use Rattle.arena_symbols.specs.Scoping.{with_pair, outer_of, pair_count, most_scopes}
use Rattle.arena_symbols.specs.TableCalls.{Defines, Enters, Leaves}
use Rattle.arena_symbols.specs.Tables.{entry_item, IsTableIn, scopes_in, table_blocks, table_credit}
use Rattle.arena_symbols.specs.declared.scopes.Scopes.{Scopes}
use Rattle.arena_symbols.specs.declared.symbols.Symbols.{Symbols}
use Rattle.arena_symbols.specs.declared.names.Names.{Names as Known}
use Rattle.arena_symbols.proofs.Layers.{texts_moved, scopes_moved}
use Rattle.arena_tree.specs.Spending.{error_of}
use Rattle.arena_lint.specs.Spending.{Spends, Takes, numbers_in, walk_bytes}
use Rattle.arena_lint.proofs.SpendingLemmas.{frame_kind, spends_costs, spends_then, spends_nothing}

-- ---- Numbers

text_more : (texts : List (List ℕ)) (text : List ℕ) → length (with_text texts text) ≤ length texts + 1
text_more texts text = grind (arith, length-append)

-- the pairs and the scopes
abbrev size : List (List (ℕ × ℕ)) → ℕ
size scopes = pair_count scopes + length scopes

size_cons : (scope : List (ℕ × ℕ)) (outer : List (List (ℕ × ℕ))) → size (scope ∷ outer) ≡ 1 + length scope + size outer
size_cons scope outer =
    omega (arith, sum_by-cons (λ (n : ℕ). n) (length scope) (map (λ (s : List (ℕ × ℕ)). length s) outer))

size_push : (b : Bool) (scopes : List (List (ℕ × ℕ))) (id v : ℕ) → size (if b then with_pair scopes id v else scopes) ≤ size scopes + 1
size_push b scopes id v = grind (arith, nat_tests, size_cons, length-append)

size_outer : (scopes : List (List (ℕ × ℕ))) → size (outer_of scopes) ≤ size scopes
size_outer scopes = grind (arith, nat_tests, size_cons)

-- ---- A definition

name_spends : {old mid : View} (k : Known) {t : Symbols} {name : List ℕ} {result : Result ℕ AllocError}
    → numbers_in old.memory k + 2 * (1 + length name) ≤ most_texts → Interns old mid k.symbols t name result
    → Spends (1024 + length name) (all_credit k)
    (all_credit (record k { symbols = t })) old mid (error_of result)
name_spends {old} {mid} k {t} {name} few interns = spends_costs interns.pays.costs (frame_kind interns.texts.1.frame)
    (λ is. omega (arith, (interns.overflows.0 is).1, few))
    (omega arith) (omega arith)

pub unnamed_takes : {old mid : View} {k : Known} {t : Symbols} {name : List ℕ} {e : AllocError}
    → Interns old mid k.symbols t name (Err e) → Takes (1 + length name) old mid k (record k { symbols = t }) (Some e)
unnamed_takes {k = k} interns = record {
  numbers = λ never. absurd (cc);
  spends = λ few. spends_then (spends_nothing {bytes = 0} tt) (name_spends k few interns)
      (omega arith) (omega arith);
}

pub define_takes : {old mid new : View} {k : Known} {t : Symbols} {d : Scopes} {name : List ℕ} {id : ℕ} {result : Result Bool AllocError}
    → AreNames old.memory k → Interns old mid k.symbols t name (Ok id) → Defines entry_item mid new k.scopes d id 0 result
    → Takes (1 + length name) old new k (record { symbols = t; scopes = d }) (error_of result)
define_takes {old} {mid} {new} {k} {t} {d} {name} {id} {result} held interns puts =
    let one = texts_moved held interns in
    let names = (scopes_moved one.0.held d puts.held puts.frame).1 ∙ interns.names in record {
      numbers = λ is.
          let more : size (scopes_in entry_item new.memory d) ≤ size (scopes_in entry_item mid.memory k.scopes) + 1
          = grind (arith, puts.scopes, is, size_push) in omega (
            arith,
            ap (λ (l : List (List ℕ)). length l) names,
            text_more (names_in old.memory k.symbols) name,
            more,
            ap size one.1,
          );
      spends = λ few. spends_then {after = all_credit (record { symbols = t; scopes = d })} (name_spends k few interns)
          (spends_costs {many = 512} puts.pays.costs (frame_kind puts.frame)
          (λ is. omega (arith, (puts.overflows.0 is).1, ap pair_count one.1, few))
          (omega arith) (omega arith)) (omega arith) (omega arith);
    }

-- ---- Blocks

-- A call on the scopes leaves the texts.
scopes_take : {X : Type 0} {weight few : ℕ} {old new : View} {k : Known} {d : Scopes} {result : Result X AllocError} → AreNames old.memory k
    → IsTableIn entry_item new.memory d → Frame old.memory new.memory (table_blocks k.scopes) (table_blocks d)
    → Costs far_up few (table_credit k.scopes) (table_credit d) old new result → few ≤ walk_bytes weight
    → (result ≡ Err CapacityOverflow → most_scopes ≤ length (scopes_in entry_item old.memory k.scopes))
    → (error_of result ≡ None → size (scopes_in entry_item new.memory d) ≤ size (scopes_in entry_item old.memory k.scopes) + 2 * weight)
    → Takes weight old new k (record k { scopes = d }) (error_of result)
scopes_take {weight = weight} {old = old} {new = new} {k = k} {d = d} held there frame costs less overflows more = record {
  numbers = λ is. omega (arith, ap (λ (l : List (List ℕ)). length l) (scopes_moved held d there frame).1, more is);
  spends = λ fit.
      spends_costs costs (frame_kind frame) (λ is. omega (arith, overflows is, fit))
      (omega (arith, less)) (omega (arith, less));
}

pub begun_takes : {old new : View} {k : Known} {d : Scopes} {result : Result (Unit {0}) AllocError} → AreNames old.memory k
    → Enters entry_item old new k.scopes d result → Takes 1 old new k (record k { scopes = d }) (error_of result)
begun_takes {old} {new} {k} {d} {result} held enters = scopes_take held enters.held enters.frame enters.pays.costs (omega arith)
    enters.overflows.0 (λ is. grind (arith, enters.scopes, is, size_cons [] (scopes_in entry_item old.memory k.scopes)))

pub ended_takes : {old new : View} {k : Known} {d : Scopes} {result : Bool} → AreNames old.memory k
    → Leaves entry_item old new k.scopes d result → Takes 0 old new k (record k { scopes = d }) None
ended_takes {old} {new} {k} {d} {result} held leaves = scopes_take {result = Ok tt} held leaves.held leaves.frame
    (costs_nothing {X = Unit {0}} far_up 0 (table_credit k.scopes) (table_credit d) old new tt leaves.places (omega (arith, leaves.credit)))
    (omega arith) (λ never. absurd (cc)) (λ is. grind (arith, leaves.left, leaves.alone, size_outer))
