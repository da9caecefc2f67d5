use Rattle.std.proofs.Common.{ℕ, List, [], map, refl, sym, subst, ap, ◌∙◌, arith}
use Rattle.std.specs.List.{Contains}
use Rattle.std.proofs.lemmas.List.{nil_from_length}
use Rattle.arena_store.specs.declared.block.Block.{Block}
use Rattle.arena_chunks.specs.declared.allocator.text.Str.{Str}
use Rattle.arena_chunks.proofs.Layers.{apart_empty}
use Rattle.arena_hash.specs.Finite.{Finite, value_of}
use Rattle.arena_hash.specs.Maps.{pairs_in}
use Rattle.arena_symbols.specs.laws.NameLaws.{interner_of}
use Rattle.arena_symbols.specs.Names.{name_kind, contents_of}
use Rattle.arena_symbols.proofs.NumberLemmas.{distinct_none}
use Rattle.arena_symbols.proofs.symbols.Symbols.new_in.Goals as goal

pub returns : goal.returns
returns c =
    let map_is = c.new_in.ensures.map in
    let vec = c.new_in-2.ensures in
    let none = ap (λ b. b.size) vec.block in
    record {
      held = λ memory. interner_of memory _ [] [] (vec.list memory) refl (record {
        numbers = map_is.held memory;
        texts = vec.held memory;
        readable = tt;
        apart = (((λ some more. absurd (omega (arith, map_is.block, some))), tt), (tt, tt));
        texts_apart = tt;
        keys = λ b among. subst (λ (bs : List Block). Contains bs b) (ap (map (λ (p : Str × ℕ). p.0.block))
            (nil_from_length (pairs_in name_kind memory c.new_in.result) (sym (map_is.held memory).count ∙ map_is.len))) among;
        count = map_is.len ∙ sym vec.len;
        places = λ q. ap (λ (f : Finite Str ℕ). value_of (f q)) (map_is.map_is memory);
        distinct = distinct_none;
      });
      names = λ memory. ap (contents_of memory) (vec.list memory);
      apart = λ memory others. (apart_empty _ _ others map_is.block, (apart_empty _ _ others none, rw (vec.list memory) tt));
      credit = omega (arith, map_is.credit, vec.len, vec.cap);
    }
