-- An input that was read to its end, and the text of the results of its pieces.
use Rattle.std.proofs.Common.{◌≡◌, ℕ, ◌≤◌, List, [], length, Option, Some, None, Ok, sym, ◌∙◌, subst}
use Rattle.std.specs.Prelude.{Result}
use Rattle.std.proofs.lemmas.List.{append-nil}
use Rattle.arena_workers.specs.declared.served.Starved.{Starved}
use Rattle.arena_calls.specs.ReadAll.{limit, TakesFront, TakesWhole}
use Rattle.arena_calls.specs.Ends.{Outside, Prints, EndsAs}
use Rattle.arena_calls.specs.declared.status.Status.{Status}
use Rattle.arena_calls.proofs.RunLemmas.{finished}
use Rattle.arena_program.specs.PoolEnds.{RunsPieces, pool_word}

pub whole_front : (old new : Option (List ℕ)) (bytes : List ℕ) → TakesWhole old new bytes → length bytes ≤ limit
    → TakesFront old new (λ n. n ≤ limit)
whole_front None new bytes whole small = tt
whole_front (Some all) new bytes whole small =
    let taken : TakesFront (Some all) (Some []) (λ n. n ≤ limit) = (bytes, sym whole.0 ∙ sym (append-nil bytes), small) in
    subst (λ left. TakesFront (Some all) left (λ n. n ≤ limit)) (sym whole.1) taken

-- the text of the results was printed
pub pieces_printed : {P S C : Type 0} (reads : List ℕ → Result (List P) ℕ → Type 0) (promise : P → S → Type 0)
    (starved : S → Option (Starved C)) (text : List S → List ℕ) (before after : List (ℕ × Starved C)) (old new : Outside)
    (end : Status) (shown bytes : List ℕ) (pieces : List P) (all : List S) → TakesWhole old.left new.left bytes → length bytes ≤ limit
    → reads bytes (Ok pieces) → RunsPieces promise starved old new before after pieces all → new.read_faults ≡ old.read_faults
    → shown ≡ text all → Prints shown end old.written old.write_faults new.written new.write_faults
    → EndsAs (pool_word reads promise starved text before after) end old new
pieces_printed reads promise starved text before after old new end shown bytes pieces all told small lines runs same is =
    finished (pool_word reads promise starved text before after) old new end shown pieces
    (record { bytes = bytes; whole = record { told = told; small = small }; lines = lines }) same
    (λ wrote. (all, runs, rw is at wrote)) (λ wrote. (all, runs, rw is at wrote))
