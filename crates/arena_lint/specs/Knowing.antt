-- Which names a walk knows: its sets of names, as scopes over the numbers of texts.
use Rattle.std.specs.Prelude.{◌≡◌, ℕ, ◌≤◌, Bool, false, List, [], ◌∷◌, length, Option, Some, None, is_some}
use Rattle.std.specs.List.{AllZip}
use Rattle.arena_chunks.specs.Memory.{Memory}
use Rattle.arena_symbols.specs.Interner.{number_of}
use Rattle.arena_symbols.specs.Names.{names_in}
use Rattle.arena_symbols.specs.Scoping.{value_in}
use Rattle.arena_symbols.specs.Tables.{entry_item, scopes_in}
use Rattle.arena_symbols.specs.declared.names.Names.{Names as Known}
use Rattle.tree_rules.specs.Report.{NameSet, has_name, finding}
use Rattle.tree_rules.specs.declared.finding.Finding.{Finding}
use Rattle.tree_rules.specs.declared.finding.FindKind.{FindKind}

-- whether a scope has the number
abbrev pub has_number : List (ℕ × ℕ) → Option ℕ → Bool
has_number scope None = false
has_number scope (Some id) = is_some (value_in scope id)

-- The scope has the numbers of exactly these names, and no number that no text has.
pub record IsScope (texts : List (List ℕ)) (names : NameSet) (scope : List (ℕ × ℕ)) : Type 0 where
  pub same : (name : List ℕ) → has_name names name ≡ has_number scope (number_of texts name)
  pub within : (id : ℕ) → length texts ≤ id → value_in scope id ≡ None

-- the sets of names are these scopes, one by one
abbrev pub AreScopes : List (List ℕ) → List NameSet → List (List (ℕ × ℕ)) → Type 0
AreScopes texts known scopes = AllZip (IsScope texts) known scopes

-- the handles' scopes are these sets of names
abbrev pub Knows : Memory → Known → List NameSet → Type 0
Knows m k known = AreScopes (names_in m k.symbols) known (scopes_in entry_item m k.scopes)

-- the findings of a definition: one of this kind, or none
abbrev pub found_of : Option FindKind → List ℕ → List Finding
found_of None name = []
found_of (Some kind) name = finding kind name ∷ []
