-- The texts of the outcomes of scripts and of the reports of sources, and what is promised of these.
use Rattle.std.proofs.Common.{◌≡◌, ℕ, ◌+◌, List, [], ◌∷◌, ◌++◌, map, refl, sym, ap, ◌∙◌}
use Rattle.std.specs.Prelude.{Result, Ok, Err, IfOk}
use Rattle.std.specs.List.{flat_map, enumerate_from}
use Rattle.std.proofs.lemmas.Grind.{flat_map-append}
use Rattle.line_parts.specs.Numbers.{with_feed}
use Rattle.script_rules.specs.Outcomes.{told, outcome_lines, lines_from}
use Rattle.script_rules.specs.declared.outcome.Outcome.{Outcome}
use Rattle.arena_chunks.specs.Source.{Source}
use Rattle.arena_pool.specs.declared.kind.PoolKind.{PoolKind}
use Rattle.arena_workers.specs.Working.{IsServed}
use Rattle.arena_workers.specs.declared.served.Served.{Served}
use Rattle.lint_reports.specs.Reports as reports
use Rattle.lint_reports.specs.declared.report.FileReport.{FileReport}
use Rattle.lint_reports.proofs.ReportLemmas.{reports_more}
use Rattle.arena_lint.specs.All.{IsLintedAlone, lint_terms, linted}
use Rattle.arena_lint.specs.declared.parts.Linted.{Linted}
use Rattle.arena_lint.proofs.AllLemmas.{all_alone as linted_alone}
use Rattle.script_workers.specs.Serving.{IsServedAlone, script_terms}
use Rattle.script_workers.proofs.AloneLemmas.{all_alone as scripts_alone}
use Rattle.script_rules.specs.declared.commands.Command.{Command}
use Rattle.arena_program.specs.PoolEnds.{shown, starved_of}
use Rattle.arena_program.specs.Rendering.{script_text, linted_text, outcome_text, text_from, IsPrintout}
use Rattle.arena_program.specs.declared.printout.Printout.{Printout}

-- ---- The texts of all

pub scripts_from : {C : Type 0} (i : ℕ) (all : List (Served Outcome C)) → text_from (outcome_text script_text) i all
    ≡ flat_map with_feed (lines_from i (map told (map (λ served. served.outcome) all)))
scripts_from i [] = refl
scripts_from i (served ∷ all) = ap (λ xs. script_text i served.outcome ++ xs) (scripts_from (i + 1) all)
    ∙ sym (flat_map-append with_feed (outcome_lines i (told served.outcome)) (lines_from (i + 1) (map told (map (λ s. s.outcome) all))))

pub reports_from : {C : Type 0} (i : ℕ) (all : List (Linted C))
    → text_from linted_text i all ≡ flat_map with_feed (reports.lines_from i (map (λ linted. linted.report) all))
reports_from i [] = refl
reports_from i (linted ∷ all) = ap (λ xs. linted_text i linted ++ xs) (reports_from (i + 1) all)
    ∙ sym (reports_more i linted.report (map (λ l. l.report) all))

-- ---- What is promised of scripts and of sources

module _ {C : Type 0} (source : C → Source) (kind : PoolKind) where
  pub each_script : {E : Type 0} (worked : List Command → Outcome → Type 0) (scripts : List (List Command)) (r : Result (Printout C) E)
      → IfOk r (IsPrintout (IsServed source kind (script_terms worked)) (outcome_text script_text) (λ s. s.starved)
      (enumerate_from 0 scripts))
      → IfOk r (IsPrintout (IsServedAlone source kind worked) (outcome_text script_text) (λ s. s.starved) scripts)
  each_script worked scripts (Ok printout) is = record {
    all = is.all;
    alone = scripts_alone source kind worked scripts is.all is.alone;
    texts = is.texts;
    gained = is.gained;
  }
  each_script worked scripts (Err e) is = tt

  linted_texts : (i : ℕ) (all : List (Served FileReport C))
      → text_from (outcome_text reports.report_text) i all ≡ text_from linted_text i (map linted all)
  linted_texts i [] = refl
  linted_texts i (served ∷ all) = ap (λ xs. reports.report_text i served.outcome ++ xs) (linted_texts (i + 1) all)

  linted_starved : (i : ℕ) (all : List (Served FileReport C))
      → starved_of (λ s. s.starved) i all ≡ starved_of (λ l. l.starved) i (map linted all)
  linted_starved i [] = refl
  linted_starved i (served ∷ all) = ap (λ xs. shown i served.starved ++ xs) (linted_starved (i + 1) all)

  pub each_source : {E : Type 0} (sources : List (List ℕ)) (r : Result (Printout C) E)
      → IfOk r (IsPrintout (IsServed source kind lint_terms) (outcome_text reports.report_text) (λ s. s.starved) (enumerate_from 0 sources))
      → IfOk r (IsPrintout (IsLintedAlone source kind) linted_text (λ l. l.starved) sources)
  each_source sources (Ok printout) is = record {
    all = map linted is.all;
    alone = linted_alone source kind sources is.all is.alone;
    texts = is.texts ∙ linted_texts 0 is.all;
    gained = is.gained ∙ linted_starved 0 is.all;
  }
  each_source sources (Err e) is = tt
