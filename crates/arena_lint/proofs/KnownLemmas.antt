-- The handles of a walk, as calls change them.
use Rattle.std.proofs.lemmas.Bool.Decides.{nat_tests}
use Rattle.std.proofs.Common.{◌≡◌, ℕ, ◌<◌, List, [], ◌∷◌, length, arith, Ok, Err, true, Bool, is_some}
use Rattle.std.specs.Prelude.{Result, OnOk}
use Rattle.arena_chunks.specs.Memory.{Memory}
use Rattle.arena_chunks.specs.Source.{View}
use Rattle.arena_items.specs.declared.room.AllocError.{AllocError}
use Rattle.arena_symbols.specs.Interning.{Interns}
use Rattle.arena_symbols.specs.Named.{AreNames, Moves}
use Rattle.arena_symbols.specs.Names.{names_in}
use Rattle.arena_symbols.specs.Scoping.{lookup, scopes_of, outer_of}
use Rattle.arena_symbols.specs.TableCalls.{Defines, Enters, Leaves}
use Rattle.arena_symbols.specs.Tables.{entry_item, pairs_of, entries_in, starts_in, scopes_in}
use Rattle.arena_symbols.specs.declared.scopes.Scopes.{Scopes}
use Rattle.arena_symbols.specs.declared.symbols.Symbols.{Symbols}
use Rattle.arena_symbols.specs.declared.names.Names.{Names as Known}
use Rattle.arena_symbols.proofs.Layers.{texts_moved, scopes_moved, moves_then}
use Rattle.tree_rules.specs.Report.{NameSet, defined}
use Rattle.arena_lint.specs.Knowing.{AreScopes, Knows, found_of}
use Rattle.arena_lint.specs.Steps.{IsNotEmpty}
use Rattle.arena_lint.proofs.KnowLemmas.{scopes_grown, answer, defined_is, no_names}

-- There is a scope, and so there is a set.
some_scope : (m : Memory) (s : Scopes) → 0 < length (scopes_in entry_item m s)
some_scope m s = by (pairs_of (entries_in entry_item m s)) (starts_in m s)
  where
    by : (pairs : List (ℕ × ℕ)) (starts : List ℕ) → 0 < length (scopes_of pairs starts)
    by pairs [] = omega arith
    by pairs (k ∷ ks) = omega arith

not_empty : (texts : List (List ℕ)) (sets : List NameSet) (scopes : List (List (ℕ × ℕ))) → 0 < length scopes → AreScopes texts sets scopes
    → IsNotEmpty sets
not_empty texts sets scopes some are = grind (arith, nat_tests)

-- ---- A definition

module _ {old mid new : View} {k : Known} {t : Symbols} {d : Scopes} {name : List ℕ} {id : ℕ} (held : AreNames old.memory k)
    (interns : Interns old mid k.symbols t name (Ok id)) where
  pub define_moves : {result : Result Bool AllocError} → Defines entry_item mid new k.scopes d id 0 result
      → Moves old.memory new.memory k (record { symbols = t; scopes = d })
  define_moves puts = let one = (texts_moved held interns).0 in moves_then one (scopes_moved one.held d puts.held puts.frame).0

  pub define_means : {is_new is_seen : Bool} → Defines entry_item mid new k.scopes d id 0 (Ok is_new)
      → is_seen ≡ is_some (lookup (scopes_in entry_item mid.memory k.scopes) id) → (sets : List NameSet) → Knows old.memory k sets
      → Knows new.memory (record { symbols = t; scopes = d }) (defined name sets).known
      × ((defined name sets).findings ≡ found_of (answer is_new is_seen) name)
  define_means {is_new} {is_seen} puts saw sets knows =
      let one = texts_moved held interns in
      let two = scopes_moved one.0.held d puts.held puts.frame in
      let texts = names_in mid.memory t in
      let scopes = scopes_in entry_item mid.memory k.scopes in
      let between : AreScopes texts sets scopes = rw (interns.names, one.1)
      (scopes_grown (names_in old.memory k.symbols) name sets (scopes_in entry_item old.memory k.scopes) knows) in
      rw two.1 (defined_is texts sets scopes (scopes_in entry_item new.memory d) name id is_new is_seen
      (some_scope mid.memory k.scopes) interns.number between puts.says saw puts.scopes)

-- ---- Blocks, as scopes

pub begun : {old new : View} {k : Known} {d : Scopes} {result : Result (Unit {0}) AllocError} → AreNames old.memory k
    → Enters entry_item old new k.scopes d result → Moves old.memory new.memory k (record k { scopes = d })
begun {d = d} held enters = (scopes_moved held d enters.held enters.frame).0

pub begun_knows : {old new : View} {k : Known} {d : Scopes} (result : Result (Unit {0}) AllocError) (sets : List NameSet)
    → AreNames old.memory k → Enters entry_item old new k.scopes d result → Knows old.memory k sets
    → OnOk result (Knows new.memory (record k { scopes = d }) ([] ∷ sets) × IsNotEmpty sets)
begun_knows (Err e) sets held enters knows = tt
begun_knows {old} {new} {k} {d} (Ok x) sets held enters knows =
    let texts = names_in old.memory k.symbols in
    let scopes = scopes_in entry_item old.memory k.scopes in
    let more : AreScopes texts ([] ∷ sets) ([] ∷ scopes) = (no_names texts, knows) in (
      rw ((scopes_moved held d enters.held enters.frame).1, enters.scopes) more,
      not_empty texts sets scopes (some_scope old.memory k.scopes) knows,
    )

pub ended_knows : {old new : View} {k : Known} {d : Scopes} {result : Bool} (names : NameSet) (sets : List NameSet) → AreNames old.memory k
    → Leaves entry_item old new k.scopes d result → Knows old.memory k (names ∷ sets) → IsNotEmpty sets
    → Knows new.memory (record k { scopes = d }) sets
ended_knows {old} {new} {k} {d} {result} names sets held leaves knows some =
    let outer = inner (scopes_in entry_item old.memory k.scopes) sets knows some in
    let left : result ≡ true = grind (arith, leaves.alone, outer.1) in
    rw ((scopes_moved held d leaves.held leaves.frame).1, leaves.left left) outer.0
  where
    inner : (scopes : List (List (ℕ × ℕ))) (sets : List NameSet) → AreScopes (names_in old.memory k.symbols) (names ∷ sets) scopes
        → IsNotEmpty sets → AreScopes (names_in old.memory k.symbols) sets (outer_of scopes) × (length scopes ≡ 1 → ⊥)
    inner [] sets are some = absurd are
    inner (scope ∷ []) [] are some = absurd some
    inner (scope ∷ []) (n ∷ sets) are some = absurd are.1
    inner (scope ∷ t ∷ scopes) sets are some = (are.1, λ one. omega (arith, one))
