-- Things that a call on another block doesn't touch, and things under names.
use Rattle.std.proofs.Common.{◌≡◌, ℕ, refl, sym, ap, ◌∙◌, subst, true, false, cond, arith, ◌&&◌, Option, Some, None, List, [], ◌∷◌, map, nat_cmp, is_lt}
use Rattle.std.specs.Prelude.{IfSome, ◌==◌, ◌≢◌}
use Rattle.std.specs.Option.{option_map}
use Rattle.std.specs.Ordering.{eq_by_cmp}
use Rattle.std.specs.FinMap.Entries.{below_all}
use Rattle.std.proofs.lemmas.Bool.Decides.{nat_tests}
use Rattle.std.proofs.Math.Path.{fun_ext}
use Rattle.arena_chunks.specs.Memory.{Memory}
use Rattle.arena_chunks.specs.Frame.{Frame, IsApart, AreAllApart}
use Rattle.arena_store.specs.declared.block.Block.{Block}
use Rattle.arena_chunks.proofs.Layers.{apart_empty, frame_keeps_all}
use Rattle.arena_items.proofs.Layers.{stays_readable, stays_agree, stays_apart}
use Rattle.script_rules.specs.Objects.{get, are_rising, IsObject}
use Rattle.script_rules.specs.Effects.{effect}
use Rattle.script_rules.specs.declared.commands.Command.{Command}
use Rattle.script_rules.proofs.EntryLemmas.{get_among}
use Rattle.arena_script.specs.Kinds.{pairs}
use Rattle.arena_script.specs.Things.{Things, IsThingIn, object_in, objects_in, block_of, blocks_in, blocks_of, seen, AreHeldApart, AreThings}
use Rattle.arena_script.specs.laws.ThingLaws.{thing_readable, same_object, thing_again}
use Rattle.arena_script.specs.declared.thing.Thing.{Thing}
use Rattle.arena_script.specs.declared.thing.Thing.TheVariants as thing

-- ---- Calls on other blocks

-- the keys of a map have no texts
texts_apart : (ps : List (ℕ × ℕ)) (others : List Block) → AreAllApart (map (λ (p : ℕ × ℕ). pairs.key.text p.0) ps) others
texts_apart [] others = tt
texts_apart (p ∷ ps) others = (apart_empty 1 0 others refl, texts_apart ps others)

-- so a thing's blocks are apart where its own is
all_apart : (m : Memory) (t : Thing) (others : List Block) → IsApart (block_of t).addr (block_of t).size others
    → AreAllApart (blocks_in m t) others
all_apart m (thing.Map h) others apart = (apart, texts_apart _ others)
all_apart m _ others apart = (apart, tt)

own_apart : (m : Memory) (t : Thing) (others : List Block) → AreAllApart (blocks_in m t) others
    → IsApart (block_of t).addr (block_of t).size others
own_apart m (thing.Map h) others all = all.0
own_apart m _ others all = all.0

-- After a call on other blocks a thing is unchanged, and apart from the blocks that the call then has.
pub record StaysThing (old new : Memory) (after : List Block) (t : Thing) : Type 0 where
  pub held : IsThingIn new t
  pub means : object_in new t ≡ object_in old t
  pub apart : IsApart (block_of t).addr (block_of t).size after

pub thing_stays : (old new : Memory) (before after : List Block) (t : Thing) → Frame old new before after → IsThingIn old t
    → IsApart (block_of t).addr (block_of t).size before → StaysThing old new after t
thing_stays old new before after t frame held apart =
    let blocks = blocks_in old t in
    let stays = frame_keeps_all old new before after blocks frame (thing_readable old t held) (all_apart old t before apart) in
    let agree = stays_agree old new after blocks stays in record {
      held = thing_again old new t held agree (stays_readable old new after blocks stays);
      means = sym (same_object old new t agree);
      apart = own_apart old t after (stays_apart old new after blocks stays);
    }

-- ---- Under names

pub other_name : (a b : ℕ) → (a == b) ≡ false → a ≢ b
other_name a b test same = grind (arith, nat_tests)

pub get_mapped : (m : Memory) (things : Things) (n : ℕ) → get (objects_in m things) n ≡ seen m things n
get_mapped m [] n = refl
get_mapped m (e ∷ es) n =
    elim (eq_by_cmp nat_cmp n e.0) as (λ b. cond b (Some (object_in m e.1)) (get (objects_in m es) n)
    ≡ option_map (object_in m) (cond b (Some e.1) (get es n))) [ true ↦ refl | false ↦ get_mapped m es n ]

pub effect_seen : (command : Command) (m : Memory) (things : Things) → effect command (get (objects_in m things)) ≡ effect command
    (seen m things)
effect_seen command m things = ap (effect command) (fun_ext (get_mapped m things))

below_mapped : (m : Memory) (things : Things) (n : ℕ) → below_all nat_cmp n (objects_in m things) ≡ below_all nat_cmp n things
below_mapped m [] n = refl
below_mapped m (e ∷ es) n = ap (λ b. is_lt (nat_cmp n e.0) && b) (below_mapped m es n)

pub rising_mapped : (m : Memory) (things : Things) → are_rising (objects_in m things) ≡ are_rising things
rising_mapped m [] = refl
rising_mapped m (e ∷ es) = λ i. below_mapped m es e.0 i && rising_mapped m es i

-- ---- What a call on the thing of one name leaves unchanged

module _ (old new : Memory) (things : Things) (name : ℕ) (after : List Block) (frame : Frame old new (blocks_of (get things name)) after)
    (held : (n : ℕ) → IfSome (get things n) (IsThingIn old)) (apart : (n k : ℕ) → n ≢ k → AreHeldApart (get things n) (get things k)) where
  apart_from : (t : Thing) (o : Option Thing) → AreHeldApart (Some t) o → IsApart (block_of t).addr (block_of t).size (blocks_of o)
  apart_from t o is = grind (arith, nat_tests)

  pub others_stay : (n : ℕ) → n ≢ name → IfSome (get things n) (StaysThing old new after)
  others_stay n other = by (get things n) (held n) (apart n name other)
    where
      by : (o : Option Thing) → IfSome o (IsThingIn old) → AreHeldApart o (get things name) → IfSome o (StaysThing old new after)
      by None is lies = tt
      by (Some t) is lies = thing_stays old new (blocks_of (get things name)) after t frame is (apart_from t (get things name) lies)

-- an unchanged thing represents the same object
pub seen_again : (old new : Memory) (after : List Block) (o : Option Thing) → IfSome o (StaysThing old new after)
    → option_map (object_in new) o ≡ option_map (object_in old) o
seen_again old new after o stays = grind (arith, nat_tests)

-- What a name holds is well formed, and an object.
pub record Holds (things : Things) (m : Memory) (name : ℕ) (t : Thing) : Type 0 where
  pub found : get things name ≡ Some t
  pub held : IsThingIn m t
  pub is : IsObject (object_in m t)

pub holds : {m : Memory} {things : Things} {t : Thing} → AreThings m things → (name : ℕ) → get things name ≡ Some t → Holds things m name t
holds {m} {things} {t} are name found = record {
  found = found;
  held = subst (λ o. IfSome o (IsThingIn m)) found (are.held name);
  is = get_among IsObject (objects_in m things) name (object_in m t) are.objects.each
      (get_mapped m things name ∙ ap (option_map (object_in m)) found);
}
