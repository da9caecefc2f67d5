-- A script, command after command.
use Rattle.std.proofs.lemmas.Bool.Decides.{nat_tests}
use Rattle.std.proofs.Common.{◌≡◌, ℕ, ◌+◌, ◌^◌, refl, sym, ap, ◌∙◌, subst, arith, Ok, Err, Option, List, [], ◌∷◌, ◌++◌, take}
use Rattle.arena_chunks.specs.Source.{View}
use Rattle.arena_items.specs.Costs.{Costs, KeepsKind}
use Rattle.arena_items.specs.declared.room.AllocError.{AllocError}
use Rattle.arena_items.proofs.Layers.{still, costs_ok, costs_then}
use Rattle.std.proofs.Math.Path.{fun_ext}
use Rattle.arena_chunks.specs.Memory.{Memory}
use Rattle.script_rules.specs.Objects.{get, Object, Objects}
use Rattle.script_rules.specs.Effects.{effect}
use Rattle.script_rules.specs.Machine.{step, run, run_from, sum, cost_of}
use Rattle.script_rules.specs.declared.commands.Command.{Command}
use Rattle.script_rules.specs.declared.commands.ScriptReply.{ScriptReply}
use Rattle.script_rules.proofs.RunLemmas.{goes_on, no_objects}
use Rattle.arena_script.specs.Things.{Things, objects_in, seen}
use Rattle.arena_script.specs.Asks.{Blocks, asks}
use Rattle.arena_script.specs.Places.{Places, AreServed, block_at, no_blocks}
use Rattle.arena_script.proofs.ThingLemmas.{get_mapped}
use Rattle.arena_script.specs.Acts.{used, far, CostsGiven}
use Rattle.arena_script.specs.Serves.{Serves, Stops, IsAfter, credits_of}
use Rattle.arena_script.proofs.CostFacts.{nothing_given}

-- ---- One more command

sum_append : (xs ys : List ℕ) → sum (xs ++ ys) ≡ sum xs + sum ys
sum_append [] ys = omega arith
sum_append (x ∷ xs) ys = omega (arith, sum_append xs ys)

-- what the plain machine does with one more command
pub record GoesOn (script : List Command) (i : ℕ) (c : Command) : Type 0 where
  pub objects : (run (take (i + 1) script)).objects ≡ (step c (run (take i script)).objects).objects
  pub replies : (run (take (i + 1) script)).replies
      ≡ (run (take i script)).replies ++ (step c (run (take i script)).objects).reply ∷ []
  pub cost : cost_of (take (i + 1) script) ≡ cost_of (take i script) + (step c (run (take i script)).objects).cost

one_more : (script : List Command) (i : ℕ) (c : Command) → take (i + 1) script ≡ take i script ++ c ∷ [] → GoesOn script i c
unfolding run_from
one_more script i c is = grind (arith, nat_tests, goes_on, sum_append)

-- the objects as the plain machine has them
pub seen_is : (m : Memory) (things : Things) {objects : Objects} → objects_in m things ≡ objects → seen m things ≡ get objects
seen_is m things is = sym (fun_ext (get_mapped m things)) ∙ ap (λ (o : Objects). get o) is

places_seen : (m : Memory) (things : Things) {objects : Objects} (blocks later : Blocks) (old new : View) (c : Command)
    → objects_in m things ≡ objects → Places (effect c (seen m things)) (asks c (seen m things) blocks) blocks old later new
    → Places (effect c (get objects)) (asks c (get objects) blocks) blocks old later new
places_seen m things {objects} blocks later old new c is places =
    subst (λ (of : ℕ → Option Object). Places (effect c of) (asks c of blocks) blocks old later new) (seen_is m things is) places

-- one more command was served
served_more : (commands : List Command) (objects : Objects) (blocks : Blocks) (old : View) (among later : Blocks) (mid new : View) (c : Command)
    → AreServed commands objects blocks old among mid
    → Places (effect c (get (run_from objects commands).objects)) (asks c (get (run_from objects commands).objects) among) among mid later new
    → AreServed (commands ++ c ∷ []) objects blocks old later new
unfolding AreServed run_from
served_more [] objects blocks old among later mid new c (is, same) places = (
  later,
  new,
  subst (λ b. Places (effect c (get objects)) (asks c (get objects) b) b old later new) is
      (subst (λ v. Places (effect c (get objects)) (asks c (get objects) among) among v later new) same places),
  (refl, refl),
)
served_more (d ∷ commands) objects blocks old among later mid new c (first, between, takes, rest) places =
    (first, between, takes, served_more commands (step d objects).objects first between among later mid new c rest places)

pub none_replied : [] ≡ (run []).replies
unfolding run_from
none_replied = refl

-- Before the first command there are no things.
pub after_none : (script : List Command) (start : View) → used start ≡ 0 → IsAfter script start start [] 0
unfolding run_from AreServed
after_none script start unused =
    let costs = nothing_given 0 0 0 start start (still start) (omega arith) in
    let served : AreServed [] [] no_blocks start (block_at []) start = (refl, refl) in grind (arith, costs, no_objects, served)

kind_then : (old mid new : View) → KeepsKind old.memory mid.memory → KeepsKind mid.memory new.memory → KeepsKind old.memory new.memory
kind_then old mid new one two = grind (arith, one, two)

-- how far up the newest data end may be for a run not to be starved by itself
abbrev pub run_far : ℕ
run_far = 2 ^ 62

module _ {script : List Command} {start now : View} {things : Things} {i : ℕ} (c : Command)
    (at : take (i + 1) script ≡ take i script ++ c ∷ []) (after : IsAfter script start now things i) where
  -- the plain machine's step from here
  abbrev cost : ℕ
  cost = (step c (objects_in now.memory things)).cost

  more : GoesOn script i c
  more = one_more script i c at

  pub cost_more : cost_of (take i script) + cost ≡ cost_of (take (i + 1) script)
  cost_more = ap (λ o. cost_of (take i script) + (step c o).cost) after.objects ∙ sym more.cost

  -- After one more command that was served.
  pub after_more : {next : View} {later : Things} {reply : ScriptReply} → Serves c now next things later reply
      → IsAfter script start next later (i + 1)
  after_more {next} {later} serves = record {
    are = serves.are;
    objects = serves.objects ∙ ap (λ o. (step c o).objects) after.objects ∙ sym more.objects;
    served = subst (λ s. AreServed s [] no_blocks start (block_at later) next) (sym at)
        (served_more (take i script) [] no_blocks start (block_at things) (block_at later) now next c after.served
        (places_seen now.memory things (block_at things) (block_at later) now next c after.objects serves.places));
    least = omega (arith, serves.least, after.least);
    costs = subst (λ n. CostsGiven n 0 (credits_of later) start next) cost_more
        (costs_then far (cost_of (take i script)) cost 0 (credits_of things) (credits_of later) start now next (Ok tt) (Ok tt)
        after.kind.is_growing after.kind.allocated refl after.costs
        (costs_ok far (far + 2 ^ 61) cost (credits_of things) (credits_of later) now next (Ok tt) refl serves.costs));
    kind = kind_then start now next after.kind serves.kind;
  }

  pub reply_more : {next : View} {later : Things} {reply : ScriptReply} {replies : List ScriptReply}
      → replies ≡ (run (take i script)).replies
      → Serves c now next things later reply → replies ++ reply ∷ [] ≡ (run (take (i + 1) script)).replies
  reply_more are serves = grind (arith, nat_tests, more)

  -- What a command that wasn't served costs, with those before it.
  module _ {next : View} {e : AllocError} (stops : Stops c now next things e) where
    pub stopped_costs : Costs {X = Unit {0}} run_far (cost_of (take (i + 1) script)) 0 0 start next (Err e)
    stopped_costs = subst (λ n. Costs {X = Unit {0}} run_far n 0 0 start next (Err e)) cost_more
        (costs_then run_far (cost_of (take i script)) cost 0 (credits_of things) 0 start now next (Ok (tt {0})) (Err e)
        after.kind.is_growing after.kind.allocated refl
        (costs_ok far run_far (cost_of (take i script)) 0 (credits_of things) start now (Ok tt) refl after.costs) stops.costs)

    pub stopped_kind : KeepsKind start.memory next.memory
    stopped_kind = kind_then start now next after.kind stops.kind
