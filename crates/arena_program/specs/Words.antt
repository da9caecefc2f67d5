-- The words that ask for scripts, or for sources to be linted.
use Rattle.std.specs.Prelude.{◌≡◌, ◌≢◌, ℕ, ◌%◌, ◌^◌, ◌-◌, ◌≤◌, List, [], ◌∷◌, Option, IfSome, MatchOption, Some, codes}
use Rattle.std.specs.Option.{option_map}
use Rattle.std.specs.Borrow.{Bor}
use Rattle.line_parts.specs.Numbers.{number}
use Rattle.arena_program.specs.declared.tasks.Lender.{Lender}
use Rattle.arena_program.specs.declared.tasks.Lender.TheVariants.{Standard, Keeping, Fixed}
use Rattle.arena_program.specs.declared.tasks.Task.{Task}

pub record IsWithin (least most n : ℕ) : Type 0 where
  pub low : least ≤ n
  pub high : n ≤ most

-- the words after the number of workers, which name the pool
abbrev pub lender_words : Lender → List (List ℕ)
lender_words Standard = []
lender_words (Keeping limit) = codes "keep" ∷ number limit ∷ []
lender_words (Fixed bytes arenas) = codes "fixed" ∷ number bytes ∷ number arenas ∷ []

-- each number is within its range
abbrev pub IsLender : Lender → Type 0
IsLender Standard = Unit {0}
IsLender (Keeping limit) = IsWithin 0 (2 ^ 64 - 1) limit
IsLender (Fixed bytes arenas) = IsWithin 48 16777216 bytes × (bytes % 16 ≡ 0) × IsWithin 1 64 arenas

-- scripts on this many workers, on the arenas of such a pool
pub record AsksScripts (words : List (List ℕ)) (task : Task) : Type 0 where
  pub all : words ≡ codes "scripts" ∷ number task.workers ∷ lender_words task.lender
  pub some_workers : IsWithin 1 64 task.workers
  pub lends : IsLender task.lender

-- sources that are linted on this many workers
pub record AsksLint (words : List (List ℕ)) (workers : ℕ) : Type 0 where
  pub all : words ≡ codes "lint" ∷ number workers ∷ []
  pub some_workers : IsWithin 1 64 workers

-- how many workers lint sources, or that the words don't ask for linting
abbrev pub AsksLinters : List (List ℕ) → Option ℕ → Type 0
AsksLinters words asked = MatchOption asked ((workers : ℕ) → AsksLint words workers → ⊥) (λ workers. AsksLint words workers)

-- what the words ask for, or that they don't ask for scripts
abbrev pub AsksTask : List (List ℕ) → Option Task → Type 0
AsksTask words asked = MatchOption asked ((task : Task) → AsksScripts words task → ⊥) (λ task. AsksScripts words task)

-- the pool that the words after the number of workers name, or that they name none
abbrev pub NamesLender : List (List ℕ) → Option Lender → Type 0
NamesLender words named =
    MatchOption named ((l : Lender) → IsLender l → words ≢ lender_words l) (λ l. IsLender l × (words ≡ lender_words l))

-- the number of the first word, and the words after it
pub record ReadsFirst (least most : ℕ) (words : List (List ℕ)) (read : Option (ℕ × List (List ℕ))) : Type 0 where
  pub found : IfSome read (λ x. IsWithin least most x.0 × (words ≡ number x.0 ∷ x.1))
  pub only : (n : ℕ) (rest : List (List ℕ)) → IsWithin least most n → words ≡ number n ∷ rest → read ≡ Some (n, rest)

abbrev pub ReadsWord : ℕ → ℕ → List (List ℕ) → Option (ℕ × Bor (List (List ℕ))) → Type 0
ReadsWord least most words read = ReadsFirst least most words (option_map (λ x. (x.0, x.1.now)) read)
