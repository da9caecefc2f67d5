-- Pairs that are inserted in order.
use Rattle.std.proofs.Common.{◌≡◌, ℕ, ◌+◌, ◌<◌, List, [], ◌∷◌, ◌++◌, length, take, get_or, refl, ap, sym, ◌∙◌, add-one, Ok, Err}
use Rattle.std.proofs.Math.Seq.{take-suc}
use Rattle.arena_chunks.specs.Source.{View}
use Rattle.arena_hash.specs.Finite.{Finite, with_pair, with_all}
use Rattle.arena_items.specs.Costs.{Costs}
use Rattle.arena_items.specs.declared.room.AllocError.{AllocError}
use Rattle.arena_items.specs.declared.room.AllocError.TheVariants.{AllocErr}

-- The last pair of a list is inserted last.
pub with_more : {K V : Type 0} (content : K → List ℕ) (m : Finite K V) (pairs : List (K × V)) (p : K × V)
    → with_all content m (pairs ++ p ∷ []) ≡ with_pair (with_all content m pairs) (content p.0) p.0 p.1
with_more content m [] p = refl
with_more content m (q ∷ pairs) p = with_more content (with_pair m (content q.0) q.0 q.1) pairs p

-- The next pair of a list is inserted after the first i.
pub put_more : {K V : Type 0} (content : K → List ℕ) (m : Finite K V) (pairs : List (K × V)) (i : ℕ) (d : K × V) → i < length pairs
    → with_pair (with_all content m (take i pairs)) (content (get_or pairs i d).0) (get_or pairs i d).0 (get_or pairs i d).1
    ≡ with_all content m (take (i + 1) pairs)
put_more content m pairs i d within =
    sym (with_more content m (take i pairs) (get_or pairs i d))
    ∙ ap (with_all content m) (sym (ap (λ k. take k pairs) (add-one i) ∙ take-suc pairs i d within))

-- The cost of calls doesn't depend on the value that they return.
module _ {X Y : Type 0} (far bytes before after : ℕ) (old new : View) where
  pub ok_costs : (x : X) (y : Y) → Costs far bytes before after old new (Ok x) → Costs far bytes before after old new (Ok y)
  ok_costs x y costs = record {
    takes = costs.takes;
    asks = costs.asks;
    starved = λ growing k no. absurd (cc);
    full = λ still k no. absurd (cc);
  }

  pub err_costs : (e : AllocError) → Costs {X = X} far bytes before after old new (Err e)
      → Costs {X = Y} far bytes before after old new (Err e)
  err_costs e costs = record {
    takes = costs.takes;
    asks = costs.asks;
    starved = λ growing k is. costs.starved growing k (let same : e ≡ AllocErr k = cc in ap Err same);
    full = λ still k is. costs.full still k (let same : e ≡ AllocErr k = cc in ap Err same);
  }
