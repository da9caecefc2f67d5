-- A tree in another arena that has the bytes of its blocks; and what handles mean, as proofs name it.
use Rattle.std.proofs.Common.{◌≡◌, ℕ, List, [], ◌∷◌, ◌++◌, ap, subst}
use Rattle.arena_chunks.specs.Frame.{AreAllApart}
use Rattle.arena_chunks.specs.Memory.{Memory}
use Rattle.arena_store.specs.declared.block.Block.{Block}
use Rattle.arena_items.specs.Footprint.{AreReadable, Agree}
use Rattle.arena_items.specs.laws.FootprintLaws.{held_again, readable_both, readable_parts, agree_parts}
use Rattle.arena_items.specs.Beside.{AreBeside}
use Rattle.arena_items.specs.Values.{elements}
use Rattle.arena_items.specs.declared.item.Item.{Ghosts}
use Rattle.arena_items.specs.declared.beside.Beside.{Beside}
use Rattle.arena_items.specs.declared.values.InArena.{Ghosts as Values}
use Rattle.arena_vec.specs.Vecs.{vec_list}
use Rattle.arena_vec.specs.declared.vec.Vec.{Vec}
use Rattle.arena_symbols.specs.laws.NameLaws.{names_readable, names_same_footprint, names_same, names_held_again}
pub use Rattle.arena_symbols.specs.contracts.values.ScopesInArena.TheImpl.{ghosts as scopes_kind}
use Rattle.arena_ast.specs.contracts.lists.U32IndexList.TheImpl.{ghosts}
use Rattle.arena_ast.specs.Asts.{AreOrdered, IsAstIn, ast_blocks}
use Rattle.arena_ast.specs.Rows.{Rows, rows_in}
use Rattle.arena_ast.specs.declared.ast.Ast.{Ast}

module _ {T : Type 0} (item : Ghosts T) (is_after : ℕ → T → Type 0) where
  pub ast_readable : (m : Memory) (t : Ast T) → IsAstIn item is_after m t → AreReadable m.state (ast_blocks m t)
  ast_readable m t held = (held.nodes.held.place.readable, names_readable m t.names held.names)

  module _ (a c : Memory) (t : Ast T) (agree : Agree a c (ast_blocks a t)) where
    pub ast_same_footprint : ast_blocks a t ≡ ast_blocks c t
    ast_same_footprint = ap (λ (bs : List Block). t.nodes.raw.block ∷ bs) (names_same_footprint a c t.names agree.1)

    nodes_same : vec_list item a t.nodes ≡ vec_list item c t.nodes
    nodes_same = ap (elements item.SIZE item.decoded t.nodes.raw.len) agree.0

    pub ast_same : rows_in item a t ≡ rows_in item c t
    ast_same = λ i. record { names = names_same a c t.names agree.1 i; nodes = nodes_same i }

    pub ast_held_again : IsAstIn item is_after a t → AreReadable c.state (ast_blocks a t) → IsAstIn item is_after c t
    ast_held_again held readable = record {
      nodes = record {
        held = record {
          place = held_again _ item.ALIGN a.state c.state t.nodes.raw.block held.nodes.held.place readable.0;
          within = held.nodes.held.within;
          no_bytes = held.nodes.held.no_bytes;
        };
        ordered = subst (AreOrdered is_after) nodes_same held.nodes.ordered;
      };
      names = names_held_again a c t.names agree.1 held.names readable.1;
      apart = subst (λ (bs : List Block). AreAllApart bs (t.nodes.raw.block ∷ [])) (names_same_footprint a c t.names agree.1) held.apart;
    }

  -- what the handle of a tree means: the rows that it has
  abbrev pub ast_kind : Values (Ast T)
  ast_kind = record {
    Meaning = Rows T;
    footprint = ast_blocks;
    is_held = IsAstIn item is_after;
    means = rows_in item;
    readable = ast_readable;
    same_footprint = λ a c t agree. ast_same_footprint a c t agree;
    same_meaning = λ a c t agree. ast_same a c t agree;
    held_again = λ a c t held agree readable. ast_held_again a c t agree held readable;
  }

-- what two values beside each other mean
abbrev pub beside_kind : {V W : Type 0} → Values V → Values W → Values (Beside V W)
beside_kind one other = record {
  Meaning = one.Meaning × other.Meaning;
  footprint = λ m p. one.footprint m p.first ++ other.footprint m p.second;
  is_held = λ m p. AreBeside one other m p.first p.second;
  means = λ m p. (one.means m p.first, other.means m p.second);
  readable = λ m p held. readable_both m.state (one.footprint m p.first) (other.footprint m p.second)
      (one.readable m p.first held.first) (other.readable m p.second held.second);
  same_footprint = λ a c p agree.
      let parts = agree_parts a c (one.footprint a p.first) (other.footprint a p.second) agree in
      λ i. one.same_footprint a c p.first parts.0 i ++ other.same_footprint a c p.second parts.1 i;
  same_meaning = λ a c p agree.
      let parts = agree_parts a c (one.footprint a p.first) (other.footprint a p.second) agree in
      λ i. (one.same_meaning a c p.first parts.0 i, other.same_meaning a c p.second parts.1 i);
  held_again = λ a c p held agree readable.
      let parts = agree_parts a c (one.footprint a p.first) (other.footprint a p.second) agree in
      let again = readable_parts c.state (one.footprint a p.first) (other.footprint a p.second) readable in
      record {
        first = one.held_again a c p.first held.first parts.0 again.0;
        second = other.held_again a c p.second held.second parts.1 again.1;
        apart = subst (λ bs. AreAllApart bs (other.footprint c p.second)) (one.same_footprint a c p.first parts.0)
            (subst (λ bs. AreAllApart (one.footprint a p.first) bs) (other.same_footprint a c p.second parts.1) held.apart);
      };
}

-- what a list of indices means
abbrev pub indices_kind : Values (Vec ℕ)
indices_kind = ghosts.kind
