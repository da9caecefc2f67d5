-- What steps and runs keep, and what they cost.
use Rattle.std.proofs.lemmas.Bool.Decides.{nat_tests}
use Rattle.std.proofs.Common.{◌≡◌, ℕ, zero, suc, ◌+◌, ◌≤◌, refl, ap, arith, true, true≢false, Some, None, List, [], ◌∷◌, ◌++◌, length, take}
use Rattle.std.specs.List.{AllByRecursion}
use Rattle.std.proofs.lemmas.List.{take_all}
use Rattle.script_rules.specs.Objects.{get, Objects, need, IsObject, AreObjects}
use Rattle.script_rules.specs.Effects.{Effect, effect}
use Rattle.script_rules.specs.Machine.{Answer, settle, step, is_refusal, answer_first, run_from, run, ran_on, sum, cost_of, cost_of_first}
use Rattle.script_rules.specs.Outcomes.{HasBytes}
use Rattle.script_rules.specs.declared.commands.Command.{Command}
use Rattle.script_rules.proofs.EntryLemmas.{all_filter, all_bind, rising_bind, rising_unbind, get_among, need_bind, need_unbind}
use Rattle.script_rules.proofs.EffectLemmas.{HoldsObject, Serves, serves}

-- ---- One step

-- What an answer leaves: a refused command leaves the objects, and costs nothing.
pub record IsSettled (objects : Objects) (answer : Answer) : Type 0 where
  pub keeps : AreObjects answer.objects
  pub needs : need answer.objects ≤ need objects + answer.cost
  pub refused : is_refusal answer.reply ≡ true → (answer.objects ≡ objects) × (answer.cost ≡ 0)
  pub bytes : HasBytes answer.reply

settled : (objects : Objects) (e : Effect) → AreObjects objects → Serves (get objects) e → IsSettled objects (settle objects e)
settled objects e are s = grind (arith, nat_tests, rising_bind, all_bind, need_bind, true≢false, rising_unbind, all_filter, need_unbind)

pub stepped : (c : Command) (objects : Objects) → AreObjects objects → IsSettled objects (step c objects)
stepped c objects are = settled objects (effect c (get objects)) are (serves c (get objects) held)
  where
    held : (n : ℕ) → HoldsObject (get objects n)
    held n = elim (get objects n) as (λ o. get objects n ≡ o → HoldsObject o) [
      | None ↦ λ e. tt
      | Some o ↦ λ e. get_among IsObject objects n o are.each e
    ] refl

pub step_keeps : (c : Command) (objects : Objects) → AreObjects objects → AreObjects (step c objects).objects
step_keeps c objects are = (stepped c objects are).keeps

-- ---- A run

pub no_objects : AreObjects []
no_objects = record { rising = refl; each = tt }

pub run_keeps : (objects : Objects) (script : List Command) → AreObjects objects → AreObjects (run_from objects script).objects
unfolding run_from
run_keeps objects [] are = are
run_keeps objects (c ∷ script) are = run_keeps (step c objects).objects script (step_keeps c objects are)

pub run_need : (objects : Objects) (script : List Command) → AreObjects objects
    → need (run_from objects script).objects ≤ need objects + sum (run_from objects script).costs
unfolding run_from
run_need objects [] are = omega arith
run_need objects (c ∷ script) are =
    omega (arith, (stepped c objects are).needs, run_need (step c objects).objects script (step_keeps c objects are))

pub script_need : (script : List Command) → need (run script).objects ≤ cost_of script
script_need script = omega (arith, run_need [] script no_objects)

pub run_bytes : (objects : Objects) (script : List Command) → AreObjects objects → AllByRecursion HasBytes (run_from objects script).replies
unfolding run_from
run_bytes objects [] are = tt
run_bytes objects (c ∷ script) are = ((stepped c objects are).bytes, run_bytes (step c objects).objects script (step_keeps c objects are))

pub reply_count : (objects : Objects) (script : List Command) → length (run_from objects script).replies ≡ length script
unfolding run_from
reply_count objects [] = refl
reply_count objects (c ∷ script) = ap suc (reply_count (step c objects).objects script)

pub cost_count : (objects : Objects) (script : List Command) → length (run_from objects script).costs ≡ length script
unfolding run_from
cost_count objects [] = refl
cost_count objects (c ∷ script) = ap suc (cost_count (step c objects).objects script)

-- ---- First commands, and more

pub goes_on : (objects : Objects) (a b : List Command) → run_from objects (a ++ b) ≡ ran_on (run_from objects a) b
unfolding run_from
goes_on objects [] b = refl
goes_on objects (c ∷ a) b = ap (answer_first (step c objects)) (goes_on (step c objects).objects a b)

first_from : (objects : Objects) (i : ℕ) (script : List Command)
    → ((run_from objects (take i script)).replies ≡ take i (run_from objects script).replies)
    × ((run_from objects (take i script)).costs ≡ take i (run_from objects script).costs)
unfolding run_from
first_from objects zero script = (refl, refl)
first_from objects (suc i) [] = (refl, refl)
first_from objects (suc i) (c ∷ script) =
    let answer = step c objects in
    let rest = first_from answer.objects i script in
    (ap (λ rs. answer.reply ∷ rs) rest.0, ap (λ ns. answer.cost ∷ ns) rest.1)

pub first_replies : (i : ℕ) (script : List Command) → (run (take i script)).replies ≡ take i (run script).replies
first_replies i script = (first_from [] i script).0

pub first_cost : (i : ℕ) (script : List Command) → cost_of (take i script) ≡ cost_of_first i script
first_cost i script = ap sum (first_from [] i script).1

sum_take : (i j : ℕ) (ns : List ℕ) → i ≤ j → sum (take i ns) ≤ sum (take j ns)
sum_take zero j ns h = omega arith
sum_take (suc i) zero ns h = absurd (omega arith)
sum_take (suc i) (suc j) [] h = omega arith
sum_take (suc i) (suc j) (n ∷ ns) h = omega (arith, sum_take i j ns (omega arith))

pub cost_rises : (i j : ℕ) (script : List Command) → i ≤ j → cost_of_first i script ≤ cost_of_first j script
cost_rises i j script h = sum_take i j (run script).costs h

pub first_within : (i : ℕ) (script : List Command) → cost_of_first i script ≤ cost_of script
first_within i script = let ns = (run script).costs in
    rw (take_all (i + length ns) ns (omega arith)) at (sum_take i (i + length ns) ns (omega arith))

pub ruleset run_laws = (run_keeps, run_need, reply_count, cost_count, no_objects, script_need)

pub ruleset prefix_laws = (goes_on, first_replies, first_cost, cost_rises, first_within)
