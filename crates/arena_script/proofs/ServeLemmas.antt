-- What a command leaves of all things.
use Rattle.std.proofs.lemmas.Bool.Decides.{nat_tests}
use Rattle.std.proofs.Common.{◌≡◌, ◌≢◌, ℕ, ◌-◌, ◌≤◌, refl, sym, ap, ◌∙◌, subst, arith, Bool, true, false, Option, Some, None, Result, Ok, Err, inl, inr, [], ◌∷◌, eqb-true}
use Rattle.std.specs.Prelude.{◌⊎◌, IfSome, ◌==◌, ◌||◌, if◌then◌else◌, IsTrue}
use Rattle.std.specs.Option.{option_map, option_and_then}
use Rattle.arena_rules.specs.State.{State, used_bytes}
use Rattle.arena_chunks.specs.Memory.{Memory}
use Rattle.arena_chunks.specs.Source.{View}
use Rattle.arena_chunks.proofs.Layers.{blocks_turned}
use Rattle.arena_items.specs.Asks.{Ask, NoBlock, Fresh, Larger, solid, Asked, TakesBlock, refusal}
use Rattle.arena_items.specs.declared.room.AllocError.{AllocError}
use Rattle.arena_items.specs.declared.room.AllocError.TheVariants.{OutOfMemory}
use Rattle.arena_items.proofs.Layers.{still}
use Rattle.script_rules.specs.Objects.{get, bind, unbind, are_rising, Objects, AreObjects}
use Rattle.script_rules.specs.Effects.{effect}
use Rattle.script_rules.specs.Effects as effects
use Rattle.script_rules.specs.Machine.{Answer, settle, step}
use Rattle.script_rules.specs.declared.commands.Command.{Command}
use Rattle.script_rules.specs.declared.commands.ScriptReply.{ScriptReply}
use Rattle.script_rules.specs.declared.commands.ScriptReply.TheVariants.{Done}
use Rattle.script_rules.proofs.EntryLemmas.{rising_bind, rising_unbind, total_get, total_bind, total_unbind}
use Rattle.script_rules.proofs.LookupLemmas.{get_bind, get_unbind, same_by_get}
use Rattle.script_rules.proofs.RunLemmas.{step_keeps}
use Rattle.arena_script.specs.Things.{Things, IsThingIn, object_in, objects_in, block_of, blocks_of, seen, AreHeldApart, AreThings, size_of, size_held, credit_of, credit_held}
use Rattle.arena_script.specs.Wants.{tells_much, takes_room}
use Rattle.arena_script.specs.Asks.{asks}
use Rattle.arena_script.specs.Places.{block_at, with_block, Places, DeniedBlock, RunsOut}
use Rattle.arena_chunks.specs.Answers.Answer.{Placed}
use Rattle.arena_store.specs.declared.block.Block.{Block}
use Rattle.std.proofs.Math.Path.{fun_ext}
use Rattle.arena_script.specs.Acts.{far, GivesThing, GivesNothing, HasNoPlace, Acts, CostsGiven, CostsRefused}
use Rattle.arena_items.specs.Costs.{KeepsKind}
use Rattle.arena_script.specs.Serves.{Serves, Stops, ServesOrStops, Settles, credits_of}
use Rattle.arena_script.specs.declared.act.Act.{Act}
use Rattle.arena_script.specs.declared.act.Act.TheVariants.{Tells, Gives, LetsGo}
use Rattle.arena_script.specs.declared.thing.Thing.{Thing}
use Rattle.arena_script.proofs.CostFacts.{nothing_given, costs_beside}
use Rattle.arena_script.proofs.ThingLemmas.{StaysThing, get_mapped, effect_seen, rising_mapped, others_stay, seen_again, other_name}

or_right : (a b : Bool) → IsTrue b → IsTrue (a || b)
or_right a b h = grind (arith, nat_tests)

same_kind : (a : View) → KeepsKind a.memory a.memory
same_kind a = record { is_growing = refl; allocated = λ stays. refl }

pub no_place_within : {few many : ℕ} {a : View} → few ≤ many → HasNoPlace few a → HasNoPlace many a
no_place_within le denied = record {
  size = denied.size;
  align = denied.align;
  layout = denied.layout;
  within = omega (arith, denied.within, le);
  none = denied.none;
}

-- What was given costs as much if memory runs out afterwards.
costs_exhausted : {cost before after : ℕ} {old new : View} → CostsGiven cost before after old new
    → CostsRefused cost before after old new OutOfMemory
costs_exhausted costs = grind (arith, costs)

-- ---- One name holds another thing, or none

-- All other things are unchanged, and the name holds this.
record IsChanged (things later : Things) (old new : Memory) (name : ℕ) (o : Option Thing) : Type 0 where
  are : AreThings old things
  held : IfSome o (IsThingIn new)
  at : (q : ℕ) → get later q ≡ (if q == name then o else get things q)
  rising : IsTrue (are_rising later)
  stay : (q : ℕ) → q ≢ name → IfSome (get things q) (StaysThing old new (blocks_of o))

module _ {things later : Things} {old new : Memory} {name : ℕ} {o : Option Thing} (is : IsChanged things later old new name o) where
  same_at : (q : ℕ) → seen new later q ≡ (if q == name then option_map (object_in new) o else get (objects_in old things) q)
  same_at q = grind (arith, nat_tests, seen_again, other_name, get_mapped)

  -- They represent the objects as before at all other names.
  objects_are : (os : Objects) → IsTrue (are_rising os)
      → ((q : ℕ) → get os q ≡ (if q == name then option_map (object_in new) o else get (objects_in old things) q))
      → objects_in new later ≡ os
  objects_are os rising at = grind (arith, nat_tests, same_by_get, rising_mapped, get_mapped, same_at)

  held_then : (n : ℕ) → IfSome (get later n) (IsThingIn new)
  held_then n = subst (λ x. IfSome x (IsThingIn new)) (sym (is.at n))
      (elim (n == name) as (λ b. (n == name) ≡ b → IfSome (if b then o else get things n) (IsThingIn new)) [
        | true ↦ λ test. is.held
        | false ↦ λ test. held_of (get things n) (is.stay n (other_name n name test))
      ] refl)
    where
      held_of : (x : Option Thing) → IfSome x (StaysThing old new (blocks_of o)) → IfSome x (IsThingIn new)
      held_of None stays = tt
      held_of (Some u) stays = stays.held

  apart_then : (n k : ℕ) → n ≢ k → AreHeldApart (get later n) (get later k)
  apart_then n k other = subst (λ x. AreHeldApart x (get later k)) (sym (is.at n))
      (subst (λ x. AreHeldApart (if n == name then o else get things n) x) (sym (is.at k)) (by (n == name) (k == name) refl refl))
    where
      new_first : (o x : Option Thing) → IfSome x (StaysThing old new (blocks_of o)) → AreHeldApart o x
      new_first None x stays = tt
      new_first (Some t) None stays = tt
      new_first (Some t) (Some u) stays = blocks_turned (block_of u) (block_of t) stays.apart.0

      new_last : (o x : Option Thing) → IfSome x (StaysThing old new (blocks_of o)) → AreHeldApart x o
      new_last o None stays = tt
      new_last None (Some u) stays = tt
      new_last (Some t) (Some u) stays = stays.apart.0

      by : (a b : Bool) → (n == name) ≡ a → (k == name) ≡ b
          → AreHeldApart (if a then o else get things n) (if b then o else get things k)
      by true true one two = absurd (other (eqb-true n name one ∙ sym (eqb-true k name two)))
      by true false one two = new_first o (get things k) (is.stay k (other_name k name two))
      by false true one two = new_last o (get things n) (is.stay n (other_name n name one))
      by false false one two = is.are.apart n k other

  changed_things : AreObjects (objects_in new later) → AreThings new later
  changed_things objects = record { rising = is.rising; held = held_then; apart = apart_then; objects = objects }

-- ---- The blocks of names

abbrev block_in : Option Thing → Option Block
block_in o = option_and_then (λ t. solid (block_of t)) o

block_chosen : (b : Bool) (o u : Option Thing) → block_in (if b then o else u) ≡ (if b then block_in o else block_in u)
block_chosen true o u = refl
block_chosen false o u = refl

block_bound : (things : Things) (name : ℕ) (t : Thing) → block_at (bind things name t) ≡ with_block (block_at things) name (solid (block_of t))
block_bound things name t = fun_ext (λ q. ap block_in (get_bind things name t q) ∙ block_chosen (q == name) (Some t) (get things q))

block_unbound : (things : Things) (name : ℕ) → block_at (unbind things name) ≡ with_block (block_at things) name None
block_unbound things name = fun_ext (λ q. ap block_in (get_unbind things name q) ∙ block_chosen (q == name) None (get things q))

-- What is taken is taken, if memory runs out then.
taken_out : (ask : Ask Block) (before after : Option Block) (old new : View) → TakesBlock ask before old new after
    → (new.memory.state ≡ old.memory.state) ⊎ ((block : Block) × Asked ask old new (Placed block))
taken_out NoBlock before after old new takes = inl takes.1.state
taken_out (Fresh size align) before after old new takes = inr (takes.0, takes.2)
taken_out (Larger c size align) before after old new takes = inr (takes.0, takes.2)

out_still : (e : effects.Effect) (ask : Ask Block) (old new : View) → new.memory.state ≡ old.memory.state → RunsOut e ask old new
out_still (effects.Tells reply) ask old new same = same
out_still (effects.Gives name object reply cost) ask old new same = inl same
out_still (effects.LetsGo name) ask old new same = same

-- ---- A name gets a thing

module _ {command : Command} {things : Things} {old new : View} {name : ℕ} {t : Thing} {reply : ScriptReply}
    (are : AreThings old.memory things) (gives : GivesThing command things old new name t reply) where
  abbrev before : Objects
  before = objects_in old.memory things

  abbrev later : Things
  later = bind things name t

  -- the plain machine's answer
  answer_is : step command before ≡ record { reply = reply; cost = gives.cost; objects = bind before name (object_in new.memory t) }
  answer_is = ap (settle before) (effect_seen command old.memory things ∙ gives.effect_is)

  within : credit_held (get things name) ≤ credits_of things
  within = total_get credit_of things name

  changed : IsChanged things later old.memory new.memory name (Some t)
  changed = record {
    are = are;
    held = gives.held;
    at = get_bind things name t;
    rising = rising_bind things name t are.rising;
    stay = others_stay old.memory new.memory things name (block_of t ∷ []) gives.frame are.held are.apart;
  }

  objects_then : objects_in new.memory later ≡ (step command before).objects
  objects_then = objects_are changed (bind before name (object_in new.memory t))
      (rising_bind before name (object_in new.memory t) are.objects.rising) (get_bind before name (object_in new.memory t))
      ∙ sym (ap (λ (a : Answer). a.objects) answer_is)

  kind_stays : KeepsKind old.memory new.memory
  kind_stays = record { is_growing = gives.frame.is_growing; allocated = gives.frame.allocated }

  -- the credits of the other things stay
  costs_all : (kept : ℕ) → kept ≤ credits_of later → CostsGiven gives.cost (credits_of things) kept old new
  costs_all kept less =
      costs_beside far gives.cost (credit_held (get things name)) (credit_of t) (credits_of things) kept
      (credits_of things - credit_held (get things name)) old new (Ok tt) (omega (arith, within))
      (omega (arith, less, within, total_bind credit_of things name t are.rising)) gives.costs

  abbrev ask : Ask Block
  ask = asks command (seen old.memory things) (block_at things)

  places_then : Places (effect command (seen old.memory things)) ask (block_at things) old (block_at later) new
  places_then = subst (λ e. Places e ask (block_at things) old (block_at later) new) (sym gives.effect_is)
      (solid (block_of t), block_bound things name t, gives.takes)

  pub given_serves : Serves command old new things later reply
  given_serves =
      let all = changed_things changed (subst AreObjects (sym objects_then) (step_keeps command before are.objects)) in
      let costs = costs_all (credits_of later) (omega arith) in
      grind (arith, answer_is, objects_then, all, places_then, gives.least, total_bind size_of things name t are.rising, costs, kind_stays)

  -- If memory runs out for the name, it is a new one.
  pub given_stops : get things name ≡ None → Stops command old new things OutOfMemory
  given_stops none =
      let taken = or_right (tells_much command) (takes_room command) (gives.taken none) in
      let empty : size_held (get things name) ≡ 0 = ap size_held none in
      let costs = costs_exhausted (costs_all 0 (omega arith)) in
      let left : RunsOut (effect command (seen old.memory things)) ask old new = subst (λ e. RunsOut e ask old new) (sym gives.effect_is)
      (taken_out ask (block_at things name) (solid (block_of t)) old new gives.takes) in
      grind (arith, taken, empty, gives.least, costs, answer_is, kind_stays, left)

-- ---- Nothing changes, or a name is removed

module _ (command : Command) (a : View) {things : Things} (are : AreThings a.memory things) where
  abbrev here : Objects
  here = objects_in a.memory things

  pub told_serves : {reply : ScriptReply} → effect command (seen a.memory things) ≡ effects.Tells reply
      → Serves command a a things things reply
  told_serves {reply} is =
      let answer : step command here ≡ record { reply = reply; cost = 0; objects = here } =
      ap (settle here) (effect_seen command a.memory things ∙ is) in
      let same = effect_seen command a.memory things ∙ is in
      let costs = nothing_given 0 (credits_of things) (credits_of things) a a (still a) (omega arith) in
      let places : Places (effect command (seen a.memory things)) (asks command (seen a.memory things) (block_at things)) (block_at things) a
      (block_at things) a = subst (λ e. Places e (asks command (seen a.memory things) (block_at things)) (block_at things) a (block_at things) a)
      (sym is) (refl, refl) in
      grind (arith, answer, same, are, costs, places, same_kind a)

  module _ {name : ℕ} (is : effect command (seen a.memory things) ≡ effects.LetsGo name) where
    gone : step command here ≡ record { reply = Done; cost = 0; objects = unbind here name }
    gone = ap (settle here) (effect_seen command a.memory things ∙ is)

    left : IsChanged things (unbind things name) a.memory a.memory name None
    left = record {
      are = are;
      held = tt;
      at = get_unbind things name;
      rising = rising_unbind things name are.rising;
      stay = λ q other. stays (get things q) (are.held q);
    }
      where
        stays : (o : Option Thing) → IfSome o (IsThingIn a.memory) → IfSome o (StaysThing a.memory a.memory [])
        stays None held = tt
        stays (Some t) held = record { held = held; means = refl; apart = tt }

    objects_left : objects_in a.memory (unbind things name) ≡ (step command here).objects
    objects_left = objects_are left (unbind here name) (rising_unbind here name are.objects.rising) (get_unbind here name)
        ∙ sym (ap (λ (x : Answer). x.objects) gone)

    pub let_go_serves : Serves command a a things (unbind things name) Done
    let_go_serves =
        let less = total_unbind credit_of things name in
        let costs = nothing_given 0 (credits_of things) (credits_of (unbind things name)) a a (still a) (omega (arith, less)) in
        let all = changed_things left (subst AreObjects (sym objects_left) (step_keeps command here are.objects)) in
        let places : Places (effect command (seen a.memory things)) (asks command (seen a.memory things) (block_at things)) (block_at things) a
        (block_at (unbind things name)) a =
        subst (λ e. Places e (asks command (seen a.memory things) (block_at things)) (block_at things) a (block_at (unbind things name)) a)
        (sym is) (block_unbound things name, refl) in
        grind (arith, gone, objects_left, all, places, total_unbind size_of things name, costs, same_kind a)

-- ---- Nothing is given

nothing_stops : {command : Command} {things : Things} {old new : View} {e : AllocError} → GivesNothing command things old new e
    → Stops command old new things e
nothing_stops {command} {things} {old} {new} {e} gives =
    let before = objects_in old.memory things in
    let answer : step command before ≡ settle before (effects.Gives gives.name gives.object gives.reply gives.cost) =
    ap (settle before) (effect_seen command old.memory things ∙ gives.effect_is) in record {
      fits = gives.fits;
      taken = or_right (tells_much command) (takes_room command) gives.taken;
      least = omega (arith, ap (λ (s : State). used_bytes s) gives.same);
      costs = subst (λ n. CostsRefused n (credits_of things) 0 old new e) (sym (ap (λ (a : Answer). a.cost) answer))
          (costs_beside far gives.cost (credit_held (get things gives.name)) (credit_held (get things gives.name)) (credits_of things) 0
          (credits_of things - credit_held (get things gives.name)) old new (Err e)
          (omega (arith, total_get credit_of things gives.name)) (omega arith) gives.costs);
      asked = λ k is. subst (λ f. DeniedBlock f (asks command (seen old.memory things) (block_at things)) old new k) (sym gives.effect_is)
          (subst (λ x. Asked (asks command (seen old.memory things) (block_at things)) old new (refusal x)) is gives.asked);
      left = out_still (effect command (seen old.memory things)) (asks command (seen old.memory things) (block_at things)) old new gives.same;
      denied = λ k is. no_place_within
          (omega (arith, ap (λ (a : Answer). a.cost) answer, total_get credit_of things gives.name)) (gives.denied k is);
      kind = rw gives.same (record { is_growing = refl; allocated = λ stays. refl });
    }

-- If memory ran out for the reply, nothing changed.
untold_stops : {command : Command} {things : Things} {old : View} → IsTrue (tells_much command) → Stops command old old things OutOfMemory
untold_stops {command} {things} {old} much =
    let left : RunsOut (effect command (seen old.memory things)) (asks command (seen old.memory things) (block_at things)) old old =
    out_still (effect command (seen old.memory things)) (asks command (seen old.memory things) (block_at things)) old old refl in
    grind (arith, nat_tests, costs_exhausted, nothing_given, still, left)

-- ---- The names after a command

pub acted_settled : (command : Command) (things after : Things) (old new : View) (act : Act) (result : Result ScriptReply AllocError)
    → AreThings old.memory things → Acts command things old new (Ok act) → Settles act things after result
    → ServesOrStops command old new things after result
acted_settled command things after old new (Tells reply) result are acts settles =
    rw (settles.0, settles.1, acts.1) (told_serves command old are acts.0)
acted_settled command things after old new (Gives name thing reply) (Ok told) are acts settles =
    rw (settles.0, settles.1) (given_serves are acts)
acted_settled command things after old new (Gives name thing reply) (Err e) are acts settles = rw settles.0 (given_stops are acts settles.1)
acted_settled command things after old new (LetsGo name) result are acts settles =
    rw (settles.0, settles.1, acts.1) (let_go_serves command old are acts.0)

pub acted_not : (command : Command) (things : Things) (old new : View) (e : AllocError) → Acts command things old new (Err e)
    → Stops command old new things e
acted_not command things old new e (inl gives) = nothing_stops gives
acted_not command things old new e (inr untold) = rw (untold.same, untold.exhausted) (untold_stops untold.much)
