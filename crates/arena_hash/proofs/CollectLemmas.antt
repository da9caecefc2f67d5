-- Pairs that are inserted into a map, one after another.
use Rattle.std.proofs.Common.{◌≡◌, ◌+◌, ◌*◌, ◌≤◌, ℕ, List, [], ◌∷◌, ◌++◌, length, refl, sym, ap, subst, ◌∙◌, arith, Ok, Err, Option, Some, None, IsTrue}
use Rattle.std.proofs.lemmas.List.{length_push}
use Rattle.std.specs.Iterator.{Yields}
use Rattle.arena_rules.specs.State.{used_bytes}
use Rattle.arena_chunks.specs.Memory.{is_readable}
use Rattle.arena_chunks.specs.Source.{View}
use Rattle.arena_chunks.specs.Frame.{Frame}
use Rattle.arena_chunks.proofs.Layers.{empty_after, frame_keeps, frame_reflexive, frame_then}
use Rattle.arena_items.proofs.Layers.{Yields-push}
use Rattle.arena_items.specs.declared.room.AllocError.{AllocError}
use Rattle.hash_ring.specs.Finite.{Finite, empty, with_pair, with_all}
use Rattle.arena_table.specs.Contents.{Kind, content_in}
use Rattle.arena_hash.specs.Accounts.{unit_of, credit_of, used}
use Rattle.arena_hash.specs.Changes.{IsNew, Puts, is_value}
use Rattle.arena_hash.specs.Collecting.{PutsAll, CollectsAll, CollectsSome}
use Rattle.arena_hash.specs.Maps.{IsMapIn, map_in}
use Rattle.arena_hash.specs.declared.map.HashMap.{HashMap}
use Rattle.arena_hash.proofs.CostLemmas.{insert-most}

-- The map of pairs and one more is their map with that one inserted.
with_all-push : {K V : Type 0} (content : K → List ℕ) (is : Finite K V) (ps : List (K × V)) (p : K × V)
    → with_all content is (ps ++ p ∷ []) ≡ with_pair (with_all content is ps) (content p.0) p.0 p.1
with_all-push content is [] p = refl
with_all-push content is (q ∷ ps) p = with_all-push content (with_pair is (content q.0) q.0 q.1) ps p

-- one pair more
PutsAll-push : {K V S : Type 0} (k : Kind K V S) (old mid new : View) (m u w : HashMap K V S) (ps : List (K × V)) (p : K × V)
    (before : Option V)
    → PutsAll k old m ps mid u → Puts k mid new u p.0 p.1 is_value w (Ok before) → PutsAll k old m (ps ++ p ∷ []) new w
PutsAll-push k old mid new m u w [] p before run put = (
  new,
  w,
  before,
  subst (λ a. Puts k a new m p.0 p.1 is_value w (Ok before)) run.0 (subst (λ b. Puts k mid new b p.0 p.1 is_value w (Ok before)) run.1 put),
  (refl, refl),
)
PutsAll-push k old mid new m u w (q ∷ ps) p before run put =
    (run.0, run.1, run.2, run.3, PutsAll-push k run.0 mid new run.1 u w ps p before run.4 put)

module _ {K V S I : Type 0} (k : Kind K V S) (steps : I → Option (K × V) → I → Type 0) where
  -- these pairs were taken from the iterator and inserted into a new map
  pub record IsCollecting (iter now : I) (old new : View) (m : HashMap K V S) : Type 0 where
    pub held : IsMapIn k new.memory m
    pub frame : Frame old.memory new.memory [] (m.table.block ∷ [])
    pub pairs : List (K × V)
    pub yields : Yields steps iter pairs now
    pub map_is : map_in k new.memory m ≡ with_all (content_in k.key old.memory) empty pairs
    pub bytes : used new + credit_of k m ≤ used old + 2 * unit_of k * length pairs
    pub first : HashMap K V S
    pub is_new : IsNew k first.hasher first
    pub puts : PutsAll k old first pairs new m

  -- none yet
  pub collecting-none : (iter : I) (a : View) (m : HashMap K V S) → IsNew k m.hasher m → IsCollecting iter iter a a m
  collecting-none iter a m new = record {
    held = new.held a.memory;
    frame = (empty_after a.memory a.memory [] [] [] m.table.block new.block).1 (frame_reflexive a.memory []);
    pairs = [];
    yields = refl;
    map_is = new.map_is a.memory;
    bytes = omega (arith, new.credit);
    first = m;
    is_new = new;
    puts = (refl, refl);
  }

  module _ (iter now next : I) (old mid new : View) (u w : HashMap K V S) (p : K × V) (c : IsCollecting iter now old mid u)
      (step : steps now (Some p) next) where
    -- one more
    pub collecting-more : IsTrue (is_readable old.memory.state (k.key.text p.0)) → (before : Option V)
        → Puts k mid new u p.0 p.1 is_value w (Ok before) → IsCollecting iter next old new w
    collecting-more readable before put = record {
      held = put.held;
      frame = frame_then old.memory mid.memory new.memory [] (u.table.block ∷ []) (w.table.block ∷ []) c.frame put.frame;
      pairs = c.pairs ++ p ∷ [];
      yields = Yields-push steps iter c.pairs now p next c.yields step;
      map_is =
          put.map_is
          ∙ ap (λ q. with_pair (map_in k mid.memory u) q p.0 p.1) content
          ∙ ap (λ is. with_pair is (content_in k.key old.memory p.0) p.0 p.1) c.map_is
          ∙ sym (with_all-push (content_in k.key old.memory) empty c.pairs p);
      bytes = subst (λ n. used new + credit_of k w ≤ used old + 2 * unit_of k * n) (sym (length_push c.pairs p))
          (omega (arith, c.bytes, insert-most k mid new u w _ (Ok before) put.costs put.err));
      first = c.first;
      is_new = c.is_new;
      puts = PutsAll-push k old mid new c.first u w c.pairs p before c.puts put;
    }
      where
        -- its text is unchanged since the start
        content : content_in k.key mid.memory p.0 ≡ content_in k.key old.memory p.0
        content =
            ap (k.key.content p.0)
            (frame_keeps old.memory mid.memory [] (u.table.block ∷ []) (k.key.text p.0) c.frame readable tt).bytes

    -- no room for one more
    pub collecting-refused : (e : AllocError) → Puts {X = Option V} k mid new u p.0 p.1 is_value w (Err e)
        → CollectsSome k steps iter old new e
    collecting-refused e put = record {
      pairs = c.pairs;
      now = now;
      yields = c.yields;
      bytes = omega (arith, c.bytes, ap (λ memory. used_bytes memory.state) put.err.1);
      first = c.first;
      is_new = c.is_new;
      between = mid;
      map = u;
      puts = c.puts;
      last = p;
      rest = next;
      step = step;
      refused = subst (λ b. Puts {X = Option V} k mid new u p.0 p.1 is_value b (Err e)) put.err.0 put;
    }

  -- all
  pub collecting-all : (iter now rest : I) (old new : View) (m : HashMap K V S) → IsCollecting iter now old new m → steps now None rest
      → CollectsAll k steps iter old new m
  collecting-all iter now rest old new m c end = record {
    pairs = c.pairs;
    drains = (rest, (now, c.yields, end));
    map_is = c.map_is;
    bytes = c.bytes;
    first = c.first;
    is_new = c.is_new;
    puts = c.puts;
  }
