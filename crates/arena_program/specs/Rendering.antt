-- What workers leave of the outcomes of pieces of work, and the texts of these.
use Rattle.std.specs.Prelude.{◌≡◌, ℕ, ◌+◌, Bool, List, [], ◌∷◌, ◌++◌, Option, Vec}
use Rattle.std.specs.List.{AllZip, flat_map}
use Rattle.std.specs.Global.{Global}
use Rattle.script_rules.specs.Outcomes.{told}
use Rattle.script_rules.specs.declared.outcome.Outcome.{Outcome}
use Rattle.script_lines.specs.Room.{outcome_text as text_of_told}
use Rattle.lint_reports.specs.Reports.{report_text}
use Rattle.arena_workers.specs.Working.{Terms}
use Rattle.arena_workers.specs.declared.served.Served.{Served}
use Rattle.arena_workers.specs.declared.served.Starved.{Starved}
use Rattle.arena_lint.specs.declared.parts.Linted.{Linted}
use Rattle.arena_program.specs.PoolEnds.{starved_of}
use Rattle.arena_program.specs.declared.rendered.Rendered.{Rendered}
use Rattle.arena_program.specs.declared.rendered.Rendered.TheVariants.{Text, Unrendered}
use Rattle.arena_program.specs.declared.printout.Printout.{Printout}

-- ---- Texts

-- the text of the script of this number, and of the source
abbrev pub script_text : ℕ → Outcome → List ℕ
script_text i outcome = text_of_told i (told outcome)

abbrev pub linted_text : {C : Type 0} → ℕ → Linted C → List ℕ
linted_text i linted = report_text i linted.report

-- the text of a result, where outcomes have this text
abbrev pub outcome_text : {O C : Type 0} → (ℕ → O → List ℕ) → ℕ → Served O C → List ℕ
outcome_text text i served = text i served.outcome

-- the text of all results, the first of which has this number, where each has this text
abbrev pub text_from : {S : Type 0} → (ℕ → S → List ℕ) → ℕ → List S → List ℕ
text_from text i [] = []
text_from text i (served ∷ all) = text i served ++ text_from text (i + 1) all

-- texts one after another
abbrev pub joined : List (Vec ℕ Global) → List ℕ
joined texts = flat_map (λ text. text.items) texts

-- The texts and what shows starving are those of such results of the pieces, in order.
pub record IsPrintout {P S C : Type 0} (promise : P → S → Type 0) (text : ℕ → S → List ℕ) (starved : S → Option (Starved C))
    (pieces : List P) (printout : Printout C) : Type 0 where
  pub all : List S
  pub alone : AllZip promise pieces all
  pub texts : joined printout.texts.items ≡ text_from text 0 all
  pub gained : printout.starved.items ≡ starved_of starved 0 all

-- ---- What workers leave

-- the text of the outcome of the piece of this number, by what is left of it; and whether it says that an arena refused
abbrev pub rendered_text : {O : Type 0} → (ℕ → O → List ℕ) → ℕ → Rendered O → List ℕ
rendered_text text i (Text bytes refused) = bytes.items
rendered_text text i (Unrendered outcome) = text i outcome

abbrev pub rendered_refused : {O : Type 0} → (O → Bool) → Rendered O → Bool
rendered_refused is_refused (Text bytes refused) = refused
rendered_refused is_refused (Unrendered outcome) = is_refused outcome

-- this is left of the outcome of the piece of this number
pub record Renders {O : Type 0} (text : ℕ → O → List ℕ) (is_refused : O → Bool) (i : ℕ) (outcome : O) (left : Rendered O) : Type 0 where
  pub same_text : rendered_text text i left ≡ text i outcome
  pub same_refused : rendered_refused is_refused left ≡ is_refused outcome

-- the same work, where this is left of an outcome
abbrev pub rendered_terms : {P O : Type 0} → (ℕ → O → List ℕ) → Terms P O → Terms P (Rendered O)
rendered_terms text terms = record {
  accepts = terms.accepts;
  done = λ i piece old new left. (outcome : _) × terms.done i piece old new outcome × Renders text terms.is_refused i outcome left;
  unserved = λ left. (outcome : _) × terms.unserved outcome × (left ≡ Unrendered outcome);
  is_refused = rendered_refused terms.is_refused;
}
