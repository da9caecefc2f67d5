use Rattle.std.proofs.Common.{Ok, Err, refl, sym, ap, ◌∙◌}
use Rattle.lint_reports.specs.Sources.{sources}
use Rattle.arena_calls.proofs.StatusLemmas.{OneReading, within}
use Rattle.arena_program.specs.PoolEnds.{SourcesOf, lint_word}
use Rattle.arena_program.proofs.laws.one_lint_status.Goals as goal

one_reading : OneReading SourcesOf
one_reading bytes (Ok all) (Ok also) a b = ap Ok (a ∙ sym b)
one_reading bytes (Err n) s a b = absurd a
one_reading bytes (Ok all) (Err n) a b = absurd b

pub returns-clause-within : goal.returns-clause-within
returns-clause-within g c = λ status old new before after bytes ends whole is small.
    within (lint_word g.C.ChunkSource.source before after) old new one_reading status bytes (Ok (sources bytes)) ends whole is small refl
