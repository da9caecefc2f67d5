-- What copies of things do: those of any kind, and of lists.
use Rattle.std.specs.Option.{option_map}
use Rattle.std.proofs.Common.{◌≡◌, ℕ, zero, suc, ◌-◌, ◌*◌, refl, sym, ap, ◌∙◌, subst, arith, Ok, Err, Some, None, Result, length}
use Rattle.arena_chunks.specs.Memory.{Memory}
use Rattle.arena_chunks.specs.Source.{View}
use Rattle.arena_items.specs.Room.{capacity_after}
use Rattle.arena_items.specs.Values.{IsHeld}
use Rattle.arena_items.specs.Asks.{room_ask, solid, Asked, TakesBlock, refusal}
use Rattle.arena_items.specs.declared.room.AllocError.{AllocError}
use Rattle.arena_items.proofs.Layers.{length-elements, growth_taken, growth_asked}
use Rattle.arena_vec.specs.Credit as vectors
use Rattle.arena_vec.specs.Growth.{new_growth}
use Rattle.arena_vec.specs.Held.{empty_block}
use Rattle.arena_vec.specs.Storage.{Makes}
use Rattle.arena_vec.specs.Vecs.{vec_list}
use Rattle.arena_vec.specs.declared.vec.Vec.{Vec}
use Rattle.script_rules.specs.Objects.{get, AList, copy_cost}
use Rattle.script_rules.specs.Effects.{Gives, effect}
use Rattle.script_rules.specs.declared.commands.Command.TheVariants.{CopyTo}
use Rattle.script_rules.specs.declared.commands.ScriptReply.TheVariants.{Done}
use Rattle.arena_script.specs.Kinds.{short}
use Rattle.arena_script.specs.Things.{Things, object_in, seen}
use Rattle.arena_script.specs.Asks.{list_of, copy_ask, asks}
use Rattle.arena_script.specs.Places.{block_at}
use Rattle.arena_script.specs.Acts.{GivesThing, GivesNothing}
use Rattle.arena_script.specs.declared.thing.Thing.{Thing}
use Rattle.arena_script.specs.declared.thing.Thing.TheVariants as thing
use Rattle.arena_script.proofs.CostFacts.{IsPaid, IsRefused, grown_least, grown_costs, grown_refused}
use Rattle.arena_script.proofs.GivingLemmas.{IsGiven, made, kept}
use Rattle.arena_script.proofs.ListLemmas.{GrowthRule, all_paid}
use Rattle.arena_script.proofs.ThingLemmas.{Holds}

-- ---- Copies of any kind

pub copy_given : {things : Things} {m : Memory} {name : ℕ} {t : Thing} → Holds things m name t → (other : ℕ) → get things other ≡ None
    → effect (CopyTo name other) (seen m things) ≡ Gives other (object_in m t) Done (copy_cost (object_in m t))
unfolding effect
copy_given h other none = rw (h.found, none) refl

-- a copy asks for what its object says
pub copy_asks : {things : Things} {m : Memory} {name : ℕ} {t : Thing} → Holds things m name t → (other : ℕ)
    → asks (CopyTo name other) (seen m things) (block_at things) ≡ copy_ask (Some (object_in m t))
copy_asks {things} {m} h other = ap (λ o. copy_ask (option_map (object_in m) o)) h.found

module _ {things : Things} {old new : View} {name other : ℕ} {t : Thing} (h : Holds things old.memory name t)
    (none : get things other ≡ None) {cost : ℕ} (costs : copy_cost (object_in old.memory t) ≡ cost) where
  pub copy_gives : (w : Thing) → object_in new.memory w ≡ object_in old.memory t → IsGiven cost (copy_ask (Some (object_in old.memory t))) old new None w
      → GivesThing (CopyTo name other) things old new other w Done
  copy_gives w is copied = made none refl (rw (copy_given h other none, costs, is) refl) (copy_asks h other) copied

  pub copy_gives_nothing : {e : AllocError} → Asked (copy_ask (Some (object_in old.memory t))) old new (refusal e)
      → IsRefused cost 0 old new e
      → GivesNothing (CopyTo name other) things old new e
  copy_gives_nothing {e} asked refused =
      kept {cost = cost} {reply = Done} {object = object_in old.memory t} none refl (rw (copy_given h other none, costs) refl)
      (copy_asks h other) asked refused

-- ---- Lists

module _ (rule : GrowthRule) (old new : View) (other : ℕ) {things : Things} {name : ℕ} {v : Vec ℕ}
    (h : Holds things old.memory name (thing.List v)) (none : get things other ≡ None) (one : old.memory.state.min_align ≡ 1) where
  abbrev n : ℕ
  n = v.raw.len

  counted : length (vec_list short old.memory v) ≡ n
  counted = length-elements 4 short.decoded n _

  place : IsHeld (0 * 4) 4 old.memory.state (empty_block 4)
  place = record { readable = refl; of_size = refl; of_align = refl }

  abbrev later : ℕ
  later = vectors.credit_of 4 n (capacity_after (new_growth 4 n) 0)

  paid : IsPaid 4 4 0 (new_growth 4 n) (24 * n) 0 later
  paid = all_paid rule n (omega (arith, h.is, counted))

  abbrev Copied : ℕ → Result (Vec ℕ) AllocError → Type 0
  Copied room result = Makes short (λ w. w.raw) old new room (vec_list short old.memory v) result

  -- a new list asks for its numbers' block, if there are any
  asks_by : (k : ℕ) → n ≡ k → room_ask 4 4 None (new_growth 4 k) ≡ list_of k
  asks_by zero is = rw (rule.stays 4 0 0 0 (omega arith)) refl
  asks_by (suc k) is = rw (rule.grows 4 0 (suc k) (suc k) (omega arith) (omega (arith, h.is, counted, is)) (omega (arith, h.is, counted, is))) refl

  asks_is : room_ask 4 4 None (new_growth 4 n) ≡ copy_ask (Some (object_in old.memory (thing.List v)))
  asks_is = asks_by n refl ∙ ap list_of (sym counted)

  -- a split at the start
  from_start : {result : Result (Vec ℕ) AllocError} → Copied (n - 0) result → Copied n result
  from_start {result} makes = let e : n - 0 ≡ n = omega arith in subst (λ k. Copied k result) e makes

  pub list_copy_gives : {w : Vec ℕ} → Copied (n - 0) (Ok w) → GivesThing (CopyTo name other) things old new other (thing.List w) Done
  list_copy_gives {w} split = let makes = from_start split in
      copy_gives h none (ap (λ k. 24 * k) counted) (thing.List w) (ap AList makes.list_is) (record {
        held = makes.held;
        takes = subst (λ a. TakesBlock a None old new (solid w.raw.block)) asks_is
            (growth_taken old new (empty_block 4) 4 4 0 (λ (w : Vec ℕ). w.raw.block) (λ e. refl) (λ more. absurd (omega (arith, more)))
            (new_growth 4 n) w makes.made);
        least = grown_least old new (empty_block 4) 4 4 0 (λ (w : Vec ℕ). w.raw.block) (24 * n) 0 later one place (omega arith)
            (new_growth 4 n) w paid (makes.held.place.of_size ∙ ap (λ k. k * 4) makes.cap) makes.made;
        costs = rw (makes.cap, makes.len, counted) (grown_costs old new (empty_block 4) 4 4 0 (λ (w : Vec ℕ). w.raw.block) (24 * n) 0
            later one place (omega arith) (new_growth 4 n) w paid makes.made);
        frame = makes.frame;
      })

  pub list_copy_gives_nothing : {e : AllocError} → Copied (n - 0) (Err e) → GivesNothing (CopyTo name other) things old new e
  list_copy_gives_nothing {e} split = let makes = from_start split in
      let refused = grown_refused old new (empty_block 4) 4 4 0 (λ (w : Vec ℕ). w.raw.block)
      (24 * n) 0 later one place (omega arith) (new_growth 4 n) e paid (ap (λ m. m.state) makes.err) makes.made in
      copy_gives_nothing h none (ap (λ k. 24 * k) counted)
      (subst (λ a. Asked a old new (refusal e)) asks_is (growth_asked old new (empty_block 4) 4 4 0 (λ (w : Vec ℕ). w.raw.block)
      (λ e. refl) (λ more. absurd (omega (arith, more))) (new_growth 4 n) e refused.fits makes.made)) refused
