-- New values of two parts, one made after the other.
use Rattle.std.proofs.Common.{◌≡◌, sym, subst, ap, ◌∙◌, List, ◌++◌, Ok, Err}
use Rattle.std.specs.Prelude.{IsPermutation}
use Rattle.std.proofs.lemmas.List.Sorted.{IsPermutation-append}
use Rattle.arena_chunks.specs.Source.{View}
use Rattle.arena_items.specs.declared.room.AllocError.{AllocError}
use Rattle.arena_clone.specs.Asks.{Ask}
use Rattle.arena_clone.specs.Kinds.{Kind, both_of}
use Rattle.arena_clone.specs.laws.KindLaws.{IsLawful}
use Rattle.arena_clone.specs.Copies.{MakesNew}
use Rattle.arena_kinds.proofs.Layers.{made_stays, made_readable, apart_of_none, places_then}

module _ {T A B : Type 0} (first : Kind A) (second : Kind B) (a : T → A) (b : T → B) (is : IsLawful first) {meaning : first.Whole}
    {meant : second.Whole} {xs ys : List Ask} {old mid new : View} {v : A} (makes : MakesNew first meaning xs old mid (Ok v)) where
  -- A value with both parts is made of what they are made of.
  pub makes_both : {u : B} {w : T} → a w ≡ v → b w ≡ u → MakesNew second meant ys mid new (Ok u)
      → MakesNew (both_of first second a b) (meaning, meant) (xs ++ ys) old new (Ok w)
  makes_both {u} {w} left right then =
      let stays = made_stays is then.placed.frame makes.made (apart_of_none makes.blocks) in
      let made = then.made in
      record {
        blocks = makes.blocks ++ then.blocks;
        placed = places_then (made_readable is makes.made) makes.placed then.placed;
        made = record {
          held = (subst (first.is_held new.memory) (sym left) stays.held, subst (second.is_held new.memory) (sym right) made.held);
          means = λ i. ((ap (first.whole new.memory) left ∙ stays.means) i, (ap (second.whole new.memory) right ∙ made.means) i);
          trim = (subst (first.is_trim new.memory) (sym left) stays.trim, subst (second.is_trim new.memory) (sym right) made.trim);
          deep = subst (λ v'. IsPermutation (first.deep new.memory v' ++ second.deep new.memory (b w)) (makes.blocks ++ then.blocks))
              (sym left)
              (subst (λ u'. IsPermutation (first.deep new.memory v ++ second.deep new.memory u') (makes.blocks ++ then.blocks)) (sym right)
              (IsPermutation-append (first.deep new.memory v) makes.blocks (second.deep new.memory u) then.blocks stays.deep made.deep));
        };
      }

  -- If the second part is refused, so is the value.
  pub second_refused : {e : AllocError} → MakesNew second meant ys mid new (Err e)
      → MakesNew (both_of first second a b) (meaning, meant) (xs ++ ys) old new (Err e)
  second_refused then = record {
    blocks = makes.blocks ++ then.blocks;
    placed = places_then (made_readable is makes.made) makes.placed then.placed;
    made = tt;
  }
