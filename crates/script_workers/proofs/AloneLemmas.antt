-- What is promised of work on a lent arena, where the work is a script, is what is promised of the script alone.
use Rattle.std.proofs.Common.{◌≡◌, ◌≢◌, ℕ, ◌+◌, ◌⊎◌, inl, inr, false, List, [], ◌∷◌, length, take, sym, refl, ap, ◌∙◌, arith}
use Rattle.std.specs.List.{AllZip, enumerate_from}
use Rattle.arena_chunks.specs.Source.{Source, View}
use Rattle.arena_pool.specs.Kinds.{IsOfKind}
use Rattle.arena_pool.specs.declared.kind.PoolKind.{PoolKind}
use Rattle.script_rules.specs.Objects.{need}
use Rattle.script_rules.specs.Machine.{run, run_from, cost_of}
use Rattle.script_rules.specs.declared.commands.Command.{Command}
use Rattle.script_rules.specs.declared.commands.Ended.{Ended}
use Rattle.script_rules.specs.declared.commands.ScriptReply.{ScriptReply}
use Rattle.script_rules.specs.declared.commands.Ended.TheVariants as ended
use Rattle.script_rules.specs.declared.outcome.Outcome.{Outcome}
use Rattle.script_rules.proofs.RunLemmas.{first_within}
use Rattle.arena_script.specs.Acts.{used}
use Rattle.arena_items.specs.Costs.{KeepsKind}
use Rattle.arena_script.specs.Running.{IsStoppedAt, cost_with_next, objects_so_far}
use Rattle.arena_workers.specs.Working.{IsDone, IsServed, IsUnserved as HasNoArena}
use Rattle.arena_workers.specs.declared.served.Served.{Served}
use Rattle.arena_workers.proofs.KindLemmas.{kind_kept as still_of_kind}
use Rattle.arena_workers.proofs.StarvedLemmas.{too_small, standard, shown}
use Rattle.script_workers.specs.Serving.{IsUnserved, IsServedAlone, is_refused, script_terms}

-- ---- Kinds

-- An arena that keeps its kind is still of the pool's kind.
pub kind_kept : (old new : View) → KeepsKind old.memory new.memory → (kind : PoolKind) → IsOfKind kind old.memory.state
    → IsOfKind kind new.memory.state
kind_kept old new keeps = still_of_kind old.memory.state new.memory.state keeps.is_growing keeps.allocated

-- ---- Endings

not_refused : (e : Ended) → e ≢ ended.Refused → is_refused e ≡ false
not_refused ended.Done other = refl
not_refused ended.Full other = refl
not_refused ended.Refused other = absurd (other refl)
not_refused ended.OutOfMemory other = refl

module _ {C : Type 0} (source : C → Source) (kind : PoolKind) (worked : List Command → Outcome → Type 0) (i : ℕ)
    (script : List Command) (served : Served Outcome C) where
  -- ---- A script that wasn't started

  unserved_alone : HasNoArena (script_terms worked) served → IsServedAlone source kind worked script served
  unfolding run_from
  unserved_alone none = let u = none.unserved in record {
    replies = record {
      first = u.replies ∙ sym (ap (λ n. take n (run script).replies) (ap length u.replies));
      all = λ e. let f : ended.OutOfMemory ≡ ended.Done = sym u.ended ∙ e in absurd (cc);
    };
    most = omega (arith, u.used);
    least = λ e. let f : ended.OutOfMemory ≡ ended.Done = sym u.ended ∙ e in absurd (cc);
    so_far = let none : need (objects_so_far script served.outcome) ≡ 0
        = ap (λ (rs : List ScriptReply). need (run (take (length rs) script)).objects) u.replies in omega (arith, none);
    stopped = λ other. inl u;
    full = λ e. let f : ended.OutOfMemory ≡ ended.Full = sym u.ended ∙ e in absurd (cc);
    refused = λ e. let f : ended.OutOfMemory ≡ ended.Refused = sym u.ended ∙ e in absurd (cc);
    other = λ other. none.none;
    ran = inr u;
    relation = inr u;
  }

  -- ---- A script that was run on a lent arena

  module _ (done : IsDone source kind (script_terms worked) (i, script) served) where
    stopped_alone : served.outcome.ended ≢ ended.Done → IsUnserved served.outcome ⊎ IsStoppedAt script served.outcome
    stopped_alone other = elim (done.done.ran.stopped other) [
      | inl unbegun ↦ inl (record {
        replies = unbegun.none;
        ended = unbegun.exhausted;
        used = done.done.ran.used ∙ ap used unbegun.same ∙ done.unused.used;
      })
      | inr at ↦ inr at
    ]

    done_alone : IsServedAlone source kind worked script served
    done_alone = let ran = done.done.ran in let cost = cost_with_next script served.outcome in record {
      replies = ran.replies;
      most = ran.most;
      least = ran.least;
      so_far = ran.so_far;
      stopped = stopped_alone;
      full = λ e. too_small source kind done.old done.new done.unused done.low cost (ran.full e);
      refused = λ e. (
        standard source kind done.old done.new done.unused done.low cost (ran.refused e).starved,
        shown source kind done.old done.new done.unused done.low cost (cost_of script)
            (first_within (length served.outcome.replies + 1) script) (ran.refused e).asks (ran.refused e).starved served.starved
            (done.refused (ap is_refused e)),
      );
      other = λ other. done.other (not_refused served.outcome.ended other);
      ran = inl (record {
        old = done.old;
        new = done.new;
        unused = done.unused;
        low = done.low;
        ran = ran;
        kept = λ e. done.refused (ap is_refused e);
      });
      relation = inl done.done.did;
    }

  alone : IsServed source kind (script_terms worked) (i, script) served → IsServedAlone source kind worked script served
  alone is = elim is [ inl done ↦ done_alone done | inr none ↦ unserved_alone none ]

-- ---- All scripts

alone_from : {C : Type 0} (source : C → Source) (kind : PoolKind) (worked : List Command → Outcome → Type 0) (i : ℕ)
    (scripts : List (List Command)) (all : List (Served Outcome C))
    → AllZip (IsServed source kind (script_terms worked)) (enumerate_from i scripts) all
    → AllZip (IsServedAlone source kind worked) scripts all
alone_from source kind worked i [] [] are = tt
alone_from source kind worked i (script ∷ scripts) (served ∷ all) are =
    (alone source kind worked i script served are.0, alone_from source kind worked (i + 1) scripts all are.1)
alone_from source kind worked i _ _ are = absurd are

pub all_alone : {C : Type 0} (source : C → Source) (kind : PoolKind) (worked : List Command → Outcome → Type 0)
    (scripts : List (List Command)) (all : List (Served Outcome C))
    → AllZip (IsServed source kind (script_terms worked)) (enumerate_from 0 scripts) all
    → AllZip (IsServedAlone source kind worked) scripts all
all_alone source kind worked = alone_from source kind worked 0
