-- What is promised of work on a lent arena, where the work is a source, is what is promised of the source alone.
use Rattle.std.proofs.Common.{ℕ, ◌+◌, inl, inr, List, [], ◌∷◌, map, length, refl, ap, arith}
use Rattle.std.specs.List.{AllZip, enumerate_from}
use Rattle.arena_chunks.specs.Source.{Source, View}
use Rattle.arena_pool.specs.Kinds.{IsOfKind}
use Rattle.arena_pool.specs.declared.kind.PoolKind.{PoolKind}
use Rattle.arena_items.specs.Costs.{KeepsKind}
use Rattle.arena_workers.specs.Working.{IsServed}
use Rattle.arena_workers.specs.declared.served.Served.{Served}
use Rattle.arena_workers.proofs.KindLemmas.{kind_kept as still_of_kind}
use Rattle.arena_workers.proofs.StarvedLemmas.{too_small, standard, shown}
use Rattle.lint_reports.specs.declared.report.FileReport.{FileReport}
use Rattle.arena_lint.specs.Linting.{lint_bytes}
use Rattle.arena_lint.specs.All.{IsLintedAlone, linted, is_refused, lint_terms}

-- An arena that keeps its kind is still of the pool's kind.
pub kind_kept : (old new : View) → KeepsKind old.memory new.memory → (kind : PoolKind) → IsOfKind kind old.memory.state
    → IsOfKind kind new.memory.state
kind_kept old new keeps = still_of_kind old.memory.state new.memory.state keeps.is_growing keeps.allocated

module _ {C : Type 0} (source : C → Source) (kind : PoolKind) (i : ℕ) (bytes : List ℕ) (served : Served FileReport C) where
  alone : IsServed source kind lint_terms (i, bytes) served → IsLintedAlone source kind bytes (linted served)
  alone (inr none) = record {
    reports = rw none.unserved tt;
    stopped = rw none.unserved (inr refl);
    full = λ e. absurd (cc none.unserved);
    refused = λ e. absurd (cc none.unserved);
    other = λ other. none.none;
    ran = inr none.unserved;
  }
  alone (inl done) = let ran = done.done in let most = lint_bytes (length bytes) in record {
    reports = ran.reports;
    stopped = grind (arith, ran.stopped);
    full = λ e. too_small source kind done.old done.new done.unused done.low most (ran.full e);
    refused = λ e. (
      standard source kind done.old done.new done.unused done.low most (ran.refused e).starved,
      shown source kind done.old done.new done.unused done.low most most (omega arith) (ran.refused e).asks (ran.refused e).starved
          served.starved (done.refused (ap is_refused e)),
    );
    other = λ other. done.other (grind (arith, other));
    ran = inl (record {
      old = done.old;
      new = done.new;
      unused = done.unused;
      low = done.low;
      ran = ran;
      kept = λ e. done.refused (ap is_refused e);
    });
  }

alone_from : {C : Type 0} (source : C → Source) (kind : PoolKind) (i : ℕ) (sources : List (List ℕ))
    (all : List (Served FileReport C)) → AllZip (IsServed source kind lint_terms) (enumerate_from i sources) all
    → AllZip (IsLintedAlone source kind) sources (map linted all)
alone_from source kind i [] [] h = tt
alone_from source kind i (bytes ∷ sources) (served ∷ all) h =
    (alone source kind i bytes served h.0, alone_from source kind (i + 1) sources all h.1)
alone_from source kind i _ _ h = absurd h

pub all_alone : {C : Type 0} (source : C → Source) (kind : PoolKind) (sources : List (List ℕ)) (all : List (Served FileReport C))
    → AllZip (IsServed source kind lint_terms) (enumerate_from 0 sources) all
    → AllZip (IsLintedAlone source kind) sources (map linted all)
all_alone source kind = alone_from source kind 0
