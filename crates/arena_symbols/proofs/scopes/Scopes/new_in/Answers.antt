use Rattle.std.proofs.Common.{ℕ, [], ◌∷◌, reverse, refl, ap, arith}
use Rattle.std.specs.Int.{w32, to_le_bytes}
use Rattle.arena_rules.specs.Rounding.{up}
use Rattle.arena_chunks.proofs.Layers.{apart_empty}
use Rattle.arena_items.specs.Layout.{pair_size, second_at, option_size}
use Rattle.arena_hash.specs.Finite.{Finite, value_of}
use Rattle.arena_symbols.specs.Scoping.{scopes_of}
use Rattle.arena_symbols.specs.laws.TableLaws.{table_of}
use Rattle.arena_symbols.specs.Tables.{pairs_of}
use Rattle.arena_symbols.proofs.scopes.Scopes.new_in.Goals as goal

pub returns : goal.returns
unfolding up pair_size second_at option_size
returns c =
    let map = c.new_in.ensures.map in
    let pairs = c.new_in-2.ensures in
    let starts = c.new_in-3.ensures in
    let v = c.new_in-2.result.raw.block in
    let w = c.new_in-3.result.raw.block in
    let none = ap (λ b. b.size) pairs.block in
    let nothing = ap (λ b. b.size) starts.block in
    record {
      held = λ memory. table_of {es = []} {ks = []} (ap reverse (pairs.list memory)) (ap reverse (starts.list memory)) (record {
        ids = map.held memory;
        pairs = pairs.held memory;
        starts = starts.held memory;
        apart = (apart_empty c.new_in.result.table.block.addr _ (v ∷ w ∷ []) map.block, (apart_empty v.addr _ (w ∷ []) none, (tt, tt)));
        places = λ id fits. ap (λ (f : Finite ℕ ℕ). value_of (f (to_le_bytes w32 id))) (map.map_is memory);
        hidden = tt;
        begins = tt;
        start = refl;
        depth = omega (arith, starts.len);
        count = map.len;
      });
      scopes = λ memory. (λ i. scopes_of (pairs_of (pairs.list memory i)) (reverse (starts.list memory i)));
      apart = λ others. (apart_empty _ _ others map.block, (apart_empty _ _ others none, (apart_empty _ _ others nothing, tt)));
      credit = omega (arith, map.credit, pairs.len, pairs.cap, starts.len, starts.cap);
    }
