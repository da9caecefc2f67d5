-- What copies of texts do.
use Rattle.std.proofs.lemmas.Bool.Decides.{nat_tests}
use Rattle.std.proofs.Common.{IsPermutation, ◌≡◌, ℕ, ◌+◌, ◌*◌, ◌^◌, ◌≤◌, sym, ap, ◌∙◌, subst, arith, IsTrue, Ok, Err, None, Result, [], ◌∷◌, length}
use Rattle.std.proofs.lemmas.List.{take_all}
use Rattle.arena_rules.specs.Rounding.{is_layout}
use Rattle.arena_chunks.specs.Source.{View}
use Rattle.arena_chunks.specs.Frame.{Frame}
use Rattle.arena_store.specs.declared.block.Block.{Block}
use Rattle.arena_chunks.specs.declared.allocator.text.Str.{Str}
use Rattle.arena_items.specs.Values.{text_bytes}
use Rattle.arena_items.specs.Asks.{Fresh, solid, Asked, TakesBlock, refusal}
use Rattle.arena_items.specs.declared.room.AllocError.{AllocError}
use Rattle.arena_text.specs.Builders.{builder_bytes}
use Rattle.arena_text.specs.declared.text.StringBuilder.{StringBuilder}
use Rattle.arena_clone.specs.Copies.{Copies}
use Rattle.arena_clone.specs.Kinds.{text}
use Rattle.arena_kinds.specs.declared.ids.CloneInSemanticIds.TheVariants.{With}
use Rattle.script_rules.specs.Objects.{get, AText}
use Rattle.script_rules.specs.declared.commands.Command.TheVariants.{CopyTo}
use Rattle.script_rules.specs.declared.commands.ScriptReply.TheVariants.{Done}
use Rattle.arena_script.specs.Things.{Things, object_in, credit_of, IsWordsIn}
use Rattle.arena_script.specs.Acts.{GivesThing, GivesNothing}
use Rattle.arena_script.specs.declared.thing.Thing.TheVariants as thing
use Rattle.arena_script.proofs.AskLemmas.{copy_taken, copy_refused}
use Rattle.arena_script.proofs.CopyActs.{copy_gives, copy_gives_nothing}
use Rattle.arena_script.proofs.ThingLemmas.{Holds}
use Rattle.arena_script.proofs.TakenLemmas.{IsTaken, taken, not_taken, one_block}
use Rattle.arena_script.proofs.TextLemmas.{bytes_layout}

module _ (old new : View) (other : ℕ) {things : Things} {name : ℕ} {t : StringBuilder} (h : Holds things old.memory name (thing.Text t))
    (none : get things other ≡ None) (s : Str) (one : old.memory.state.min_align ≡ 1)
    (count : t.len ≡ length (builder_bytes old.memory t)) (bytes_are : text_bytes old.memory s ≡ builder_bytes old.memory t)
    (size : s.block.size ≡ t.len) where
  abbrev Cloned : Result Str AllocError → Type 0
  Cloned result = Copies text With old.memory old new s result

  abbrev cost : ℕ
  cost = 32 + 4 * t.len

  few : s.block.size ≤ 2 ^ 60
  few = omega (arith, h.is.1, count, size)

  layout : IsTrue (is_layout s.block.size 1)
  layout = bytes_layout s.block.size (omega (arith, few))

  -- a text of as many bytes
  abbrev now : Str → StringBuilder
  now copy = record { block = copy.block; len = t.len; cap = t.len }

  pub text_copy_gives_nothing : {e : AllocError} → Cloned (Err e) → GivesNothing (CopyTo name other) things old new e
  text_copy_gives_nothing {e} copies = copy_gives_nothing h none (ap (λ k. 32 + 4 * k) (sym count))
      (subst (λ k. Asked (Fresh k 1) old new (refusal e)) (size ∙ count)
      (copy_refused old new s.block.size 1 copies.blocks e copies.placed.asked))
      (not_taken old new s.block.size 1 copies.blocks cost one layout (omega arith) few e (omega (arith, size)) copies.placed.asked)

  module _ {copy : Str} (copies : Cloned (Ok copy)) where
    is_taken : IsTaken old new s.block.size 1 copies.blocks cost one layout (omega arith) few (credit_of (thing.Text (now copy)))
    is_taken = grind (arith, nat_tests, taken, layout, few)

    own : copy.block ≡ is_taken.block
    own = sym (one_block copy.block is_taken.block (subst (λ bs. IsPermutation (copy.block ∷ []) bs) is_taken.is copies.made.deep))

    text_held : IsWordsIn new.memory (now copy)
    text_held = grind (arith, nat_tests, own, is_taken)

    bytes_same : builder_bytes new.memory (now copy) ≡ builder_bytes old.memory t
    bytes_same = grind (arith, nat_tests, take_all)

    text_is : object_in new.memory (thing.Text (now copy)) ≡ object_in old.memory (thing.Text t)
    text_is = ap AText bytes_same

    pub text_copy_gives : GivesThing (CopyTo name other) things old new other (thing.Text (now copy)) Done
    text_copy_gives = copy_gives h none (ap (λ k. 32 + 4 * k) (sym count)) (thing.Text (now copy)) text_is (record {
      held = text_held;
      takes = subst (λ k. TakesBlock (Fresh k 1) None old new (solid copy.block)) (size ∙ count)
          (copy_taken old new s.block.size 1 copies.blocks copy.block (is_taken.is ∙ ap (λ (b : Block). b ∷ []) (sym own)) copies.placed.asked);
      least = omega (arith, is_taken.least, is_taken.of_size, ap (λ (b : Block). b.size) own);
      costs = is_taken.costs;
      frame = subst (λ bs. Frame old.memory new.memory [] bs) (is_taken.is ∙ ap (λ (b : Block). b ∷ []) (sym own)) copies.placed.frame;
    })
