-- A walk in which a test picks the values to remove.
use Rattle.std.proofs.Common.{◌≡◌, List, [], ◌∷◌, ◌++◌, refl, sym, ap, ◌∙◌, Option, Bool, false, append_assoc, append-nil}
use Rattle.std.specs.List.Retain.{ExtractsNext}
use Rattle.arena_chunks.specs.Frame.{Frame}
use Rattle.arena_chunks.proofs.Layers.{frame_then, frame_reflexive}
use Rattle.arena_items.specs.Room.{SamePlaces}
use Rattle.arena_items.specs.declared.item.Item.{Ghosts}
use Rattle.arena_items.proofs.Layers.{same_then}
use Rattle.arena_vec.specs.Filtering.{IsFilter, Filters, untested, stayed}
use Rattle.arena_vec.specs.declared.drain_filter.DrainFilter.{DrainFilter}

module _ {T S F : Type 0} {item : Ghosts T} {can : List T → F → Type 0} {R : F → T → Bool → F → T → Type 0} {r : Option T}
    {d e : DrainFilter T S F} (vec : e.vec ≡ d.vec) where
  -- One was picked, or none is left.
  pub filters_end : e.arena ≡ d.arena → stayed item e ≡ stayed item d → ExtractsNext R d.pred (untested item d) r e.pred [] (untested item e)
      → IsFilter item can e → Filters item can R d r e
  filters_end arena stays extracts filters = record {
    kept = [];
    extracts = extracts;
    stays = stays ∙ sym (append-nil (stayed item d));
    same_vec = ap (λ v. v.ghost_name) vec;
    same_arena = ap (λ a. a.ghost_name) arena;
    vec = ap (λ v. v.now) vec;
    places = rw arena (record { state = refl; statistics = refl; source = refl });
    frame = rw arena (frame_reflexive d.arena.now.memory (d.vec.now.raw.block ∷ []));
    filters = filters;
  }

  -- One more was tested and stays, and then the walk went on.
  pub filters_more : {x : T} {last : DrainFilter T S F} → (y : T) → untested item d ≡ x ∷ untested item e → R d.pred x false e.pred y
      → stayed item e ≡ stayed item d ++ y ∷ [] → e.arena.ghost_name ≡ d.arena.ghost_name → SamePlaces d.arena.now e.arena.now
      → Frame d.arena.now.memory e.arena.now.memory (d.vec.now.raw.block ∷ []) (d.vec.now.raw.block ∷ [])
      → Filters item can R e r last → Filters item can R d r last
  filters_more {last = last} y first told put arena places frame rest = record {
    kept = y ∷ rest.kept;
    extracts = rw first (false, e.pred, y, told, (rest.kept, rest.extracts, refl));
    stays = rest.stays ∙ ap (λ l. l ++ rest.kept) put ∙ append_assoc (stayed item d) (y ∷ []) rest.kept;
    same_vec = rest.same_vec ∙ ap (λ v. v.ghost_name) vec;
    same_arena = rest.same_arena ∙ arena;
    vec = rest.vec ∙ ap (λ v. v.now) vec;
    places = same_then d.arena.now e.arena.now last.arena.now places rest.places;
    frame = frame_then _ _ _ _ _ _ frame (rw vec at rest.frame);
    filters = rest.filters;
  }
