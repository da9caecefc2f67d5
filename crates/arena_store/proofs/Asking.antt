-- The search after some refusals: what remains to ask for, and what the source reports.
use Rattle.std.proofs.Common.{◌≡◌, ℕ, suc, ◌+◌, ◌≤◌, arith, refl, sym, ap, ◌∙◌, Some, List, [], ◌∷◌, ◌++◌, length, take, drop, max, zero, length-drop, drop-drop, take_all}
use Rattle.std.proofs.lemmas.List.{map-append}
use Rattle.std.proofs.Math.Seq.{take-add}
use Rattle.std.specs.Prelude.{slice_get}
use Rattle.arena_rules.specs.Search.{requests}
use Rattle.arena_rules.specs.Causes.{TellsRequests}
use Rattle.arena_rules.proofs.CauseLemmas.{counted_none}
use Rattle.arena_store.specs.Source.{Source, IsAsked}
use Rattle.arena_store.proofs.AskedLemmas.{asked_none, asked_more}

pub record Asking (all rest : List (ℕ × ℕ)) (align refused : ℕ) (before now : Source) : Type 0 where
  pub left : drop refused all ≡ rest
  pub within : refused ≤ length all
  pub asked : IsAsked before now refused (requests align (take refused all))

pub asking_first : (all : List (ℕ × ℕ)) (align : ℕ) (source : Source) → Asking all all align 0 source source
unfolding requests
asking_first all align source = record { left = refl; within = omega arith; asked = asked_none source }

-- the next entry
pub asking_at : (all rest : List (ℕ × ℕ)) (e : ℕ × ℕ) (refused : ℕ) → drop refused all ≡ e ∷ rest → slice_get all refused ≡ Some e
asking_at all rest e zero left = rw left refl
asking_at [] rest e (suc refused) left = cc
asking_at (x ∷ xs) rest e (suc refused) left = asking_at xs rest e refused left

-- one more request was made, and granted or refused
pub asked_next : (all rest : List (ℕ × ℕ)) (base size align refused k : ℕ) (before mid now : Source)
    → drop refused all ≡ (base, size) ∷ rest
    → IsAsked before mid refused (requests align (take refused all)) → IsAsked mid now k ((size, max align 16) ∷ [])
    → IsAsked before now (refused + k) (requests align (take (refused + 1) all))
unfolding requests
asked_next all rest base size align refused k before mid now left first second =
    let more : take (refused + 1) all ≡ take refused all ++ (base, size) ∷ [] = take-add refused 1 all
    ∙ ap (λ (l : List (ℕ × ℕ)). take refused all ++ take 1 l) left in
    rw (more, map-append)
    (asked_more before mid now refused k (requests align (take refused all)) ((size, max align 16) ∷ []) first second)

pub asking_refused : (all rest : List (ℕ × ℕ)) (base size align refused : ℕ) (before mid now : Source)
    → Asking all ((base, size) ∷ rest) align refused before mid → IsAsked mid now 1 ((size, max align 16) ∷ [])
    → Asking all rest align (refused + 1) before now
asking_refused all rest base size align refused before mid now asking asked = record {
  left = sym (drop-drop 1 refused all) ∙ ap (λ (l : List (ℕ × ℕ)). drop 1 l) asking.left;
  within = omega (arith, length-drop refused all, ap length asking.left);
  asked = asked_next all rest base size align refused 1 before mid now asking.left asking.asked asked;
}

pub asking_granted : (all rest : List (ℕ × ℕ)) (base size align refused : ℕ) (before mid now : Source)
    → drop refused all ≡ (base, size) ∷ rest
    → IsAsked before mid refused (requests align (take refused all)) → now.refusals ≡ mid.refusals
    → TellsRequests mid.asked now.asked ((size, max align 16) ∷ [])
    → IsAsked before now refused (requests align (take (refused + 1) all))
asking_granted all rest base size align refused before mid now left asked same told =
    let none : refused + 0 ≡ refused = omega arith in
    rw none at (asked_next all rest base size align refused 0 before mid now left asked
    (record { refusals = same ∙ sym (counted_none mid.refusals); bounded = λ some. absurd (omega arith); requests = told }))

-- if nothing remains, all were refused
pub asking_over : (all : List (ℕ × ℕ)) (align refused : ℕ) (before now : Source) → Asking all [] align refused before now
    → (refused ≡ length all) × IsAsked before now refused (requests align (take (refused + 1) all))
asking_over all align refused before now asking =
    let whole : refused ≡ length all = omega (arith, asking.within, length-drop refused all, ap length asking.left) in
    let same : take (refused + 1) all ≡ take refused all = take_all (refused + 1) all (omega arith)
    ∙ sym (take_all refused all (omega arith)) in
    (whole, rw same asking.asked)
