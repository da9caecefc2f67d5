-- Items that are appended, one after another.
use Rattle.std.proofs.Common.{◌≡◌, ℕ, List, [], ◌∷◌, ◌++◌, refl, sym, ap, ◌∙◌, append_assoc, append-nil, Ok, Err, Option, Some}
use Rattle.std.specs.Iterator.{Count, Yields}
use Rattle.std.specs.Iterator.SizeHint.{IsWithinCount}
use Rattle.arena_chunks.specs.Source.{View}
use Rattle.arena_chunks.proofs.Layers.{frame_then}
use Rattle.arena_items.specs.declared.item.Item.{Ghosts}
use Rattle.arena_items.proofs.Layers.{Yields-push}
use Rattle.arena_vec.specs.Vecs.{vec_list}
use Rattle.arena_vec.specs.Changes.{Grows}
use Rattle.arena_vec.specs.Extending.{hinted_growth, PutsOne, Extends, TakesSome}
use Rattle.arena_items.specs.declared.room.AllocError.{AllocError}
use Rattle.arena_vec.specs.declared.vec.Vec.{Vec}

module _ {T I : Type 0} (item : Ghosts T) (steps : I → Option T → I → Type 0) (left : I → Count) where
  -- one item more
  Extends-push : (iter : I) (old : View) (v : Vec T) {now next : I} {mid new : View} {u w : Vec T} {x : T} (xs : List T)
      → Extends item steps left iter old v xs now mid u → steps now (Some x) next → PutsOne item (left next) mid new u x w
      → Extends item steps left iter old v (xs ++ x ∷ []) next new w
  Extends-push iter old v {next = next} {new = new} {w = w} [] run step put =
      (next, new, w, rw run.0 at step, rw (run.1, run.2) at put, (refl, refl, refl))
  Extends-push iter old v (y ∷ ys) run step put =
      (run.0, run.1, run.2, run.3, run.4, Extends-push run.0 run.1 run.2 ys run.5 step put)

  -- these items were taken and appended
  pub record IsExtending (iter now : I) (old new : View) (v w : Vec T) : Type 0 where
    pub items : List T
    pub yields : Yields steps iter items now
    pub list_is : vec_list item new.memory w ≡ vec_list item old.memory v ++ items
    pub extends : Extends item steps left iter old v items now new w

  -- none yet
  pub extending_none : (iter : I) (a : View) (v : Vec T) → IsExtending iter iter a a v v
  extending_none iter a v = record {
    items = [];
    yields = refl;
    list_is = sym (append-nil (vec_list item a.memory v));
    extends = (refl, refl, refl);
  }

  module _ {iter now next : I} {old mid new : View} {v u w : Vec T} {x : T} {hint : ℕ} (before : IsExtending iter now old mid v u)
      (step : steps now (Some x) next) (told : IsWithinCount hint (left next)) where
    -- one more
    pub extending_more : Grows {X = Unit {0}} item mid new u (hinted_growth item.SIZE u.raw.cap u.raw.len hint)
        (vec_list item mid.memory u ++ x ∷ []) w (Ok tt) → IsExtending iter next old new v w
    extending_more grows = record {
      items = before.items ++ x ∷ [];
      yields = Yields-push steps iter before.items now x next before.yields step;
      list_is = grows.list_is ∙ ap (λ l. l ++ x ∷ []) before.list_is ∙ append_assoc (vec_list item old.memory v) before.items (x ∷ []);
      extends = Extends-push iter old v before.items before.extends step (record { hint = hint; told = told; grows = grows });
    }

    -- no room for one more
    pub extending_refused : {e : AllocError} → Grows {X = Unit {0}} item mid new u (hinted_growth item.SIZE u.raw.cap u.raw.len hint)
        (vec_list item mid.memory u ++ x ∷ []) w (Err e) → TakesSome item steps left iter old new v w e
    extending_refused grows = rw grows.err.0 (record {
      items = before.items;
      last = x;
      list_is = ap (λ m. vec_list item m u) grows.err.1 ∙ before.list_is;
      now = now;
      between = mid;
      extends = before.extends;
      rest = next;
      step = step;
      hint = hint;
      told = told;
      refused = rw grows.err.0 at grows;
    })

pub ruleset extend_laws = (extending_none, extending_more, extending_refused, frame_then)
