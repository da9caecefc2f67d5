-- Which words ask for what.
use Rattle.std.proofs.Common.{◌≡◌, ℕ, List, [], ◌∷◌, drop, get_or, refl, sym, ap, ◌∙◌, subst, arith}
use Rattle.arena_chunks.specs.Source.{Source}
use Rattle.script_rules.specs.declared.commands.Command.{Command}
use Rattle.script_rules.specs.declared.outcome.Outcome.{Outcome}
use Rattle.line_parts.proofs.ReadingLemmas.{number_same}
use Rattle.arena_workers.specs.declared.served.Starved.{Starved}
use Rattle.arena_calls.specs.Ends.{Outside, EndsBy}
use Rattle.arena_calls.specs.declared.status.Status.{Status}
use Rattle.arena_program.specs.Words.{AsksScripts, AsksLint, lender_words}
use Rattle.arena_program.specs.PoolEnds.{ScriptEnds, LintEnds}
use Rattle.arena_program.specs.MainEnds.{MainEnds}
use Rattle.arena_program.specs.declared.tasks.Lender.{Lender}
use Rattle.arena_program.specs.declared.tasks.Lender.TheVariants.{Standard, Keeping, Fixed}
use Rattle.arena_program.specs.declared.tasks.Task.{Task}

-- ---- Words that ask for scripts name one pool

-- the first letter of the first word
abbrev letter : List (List ℕ) → ℕ
letter [] = 0
letter (word ∷ words) = get_or word 0 0

same_lender : (a b : Lender) → lender_words a ≡ lender_words b → a ≡ b
same_lender Standard Standard e = refl
same_lender (Keeping limit) (Keeping other) e = ap Keeping (number_same limit other cc)
same_lender (Fixed bytes arenas) (Fixed others more) e =
    let same = number_same bytes others cc in
    let as_many = number_same arenas more cc in
    cc
same_lender a b e = let first : letter (lender_words a) ≡ letter (lender_words b) = ap letter e in absurd (omega (arith, first))

one_lender : (words : List (List ℕ)) (a b : Task) → AsksScripts words a → AsksScripts words b → a.lender ≡ b.lender
one_lender words a b p q = same_lender a.lender b.lender (ap (drop 2) (sym p.all ∙ q.all))

-- ---- How runs end, for words that ask for one thing

module _ {C : Type 0} (source : C → Source) (worked : List Command → Outcome → Type 0) (words : List (List ℕ)) (status : Status)
    (old new : Outside) (before after : List (ℕ × Starved C)) where
  pub scripts_end : (task : Task) → AsksScripts words task → ScriptEnds source worked task.lender status old new before after
      → MainEnds source worked words status old new before after
  scripts_end task asks ends = record {
    calls = λ calls. let first : ◌≡◌ {A = ℕ} 115 99 = ap letter (sym asks.all ∙ calls) in absurd (omega arith);
    gen = λ start count gen. let first : ◌≡◌ {A = ℕ} 115 103 = ap letter (sym asks.all ∙ gen.all) in absurd (omega arith);
    scripts = λ other asked. subst (λ lender. ScriptEnds source worked lender status old new before after)
        (one_lender words task other asks asked) ends;
    lint = λ workers lint. let first : ◌≡◌ {A = ℕ} 115 108 = ap letter (sym asks.all ∙ lint.all) in absurd (omega arith);
    other = λ calls gen scripts lint. absurd (scripts task asks);
    unstarved = λ none lint. absurd (none task asks);
  }

  pub lint_end : (workers : ℕ) → AsksLint words workers → LintEnds source status old new before after
      → MainEnds source worked words status old new before after
  lint_end workers asks ends = record {
    calls = λ calls. let first : ◌≡◌ {A = ℕ} 108 99 = ap letter (sym asks.all ∙ calls) in absurd (omega arith);
    gen = λ start count gen. let first : ◌≡◌ {A = ℕ} 108 103 = ap letter (sym asks.all ∙ gen.all) in absurd (omega arith);
    scripts = λ task scripts. let first : ◌≡◌ {A = ℕ} 108 115 = ap letter (sym asks.all ∙ scripts.all) in absurd (omega arith);
    lint = λ others asked. ends;
    other = λ calls gen scripts lint. absurd (lint workers asks);
    unstarved = λ scripts none. absurd (none workers asks);
  }

  pub calls_end : ((task : Task) → AsksScripts words task → ⊥) → ((workers : ℕ) → AsksLint words workers → ⊥)
      → EndsBy words status old new → after ≡ before
      → MainEnds source worked words status old new before after
  calls_end none unlinted ends kept = record {
    calls = ends.calls;
    gen = ends.gen;
    scripts = λ task asks. absurd (none task asks);
    lint = λ workers asks. absurd (unlinted workers asks);
    other = λ calls gen scripts lint. ends.other calls gen;
    unstarved = λ n m. kept;
  }
