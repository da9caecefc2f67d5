-- A map in two arenas that agree on its footprint.
use Rattle.std.proofs.Common.{◌≡◌, ℕ, List, [], ◌∷◌, map, length, sym, ap, subst, ◌∙◌, Option}
use Rattle.std.specs.Prelude.{bytes_eq}
use Rattle.std.specs.List.{IsDistinct}
use Rattle.arena_chunks.specs.Memory.{Memory}
use Rattle.arena_chunks.specs.Frame.{AreAllApart}
use Rattle.arena_items.specs.Footprint.{AreReadable, Agree}
use Rattle.arena_items.specs.laws.FootprintLaws.{held_again}
use Rattle.arena_items.specs.Values.{bytes_of}
pub use Rattle.hash_ring.specs.laws.AgreeLaws.{has-items, away-agree, behind-agree, ordered-agree, contents-same, under-agree}
use Rattle.hash_ring.specs.Finite.{first_of, AreOnce}
use Rattle.hash_ring.specs.Marks.{home_of, mark_of}
use Rattle.hash_ring.specs.Slots.{items, Has}
use Rattle.arena_table.specs.Contents.{Kind, content_in}
use Rattle.arena_table.specs.Tables.{slots_in, slots_of, pair_hash, IsTable}
use Rattle.arena_hash.specs.Maps.{IsMapIn, map_in, texts_in, footprint}
use Rattle.arena_hash.specs.declared.map.HashMap.{HashMap}

module _ {K V S : Type 0} (k : Kind K V S) (a c : Memory) (m : HashMap K V S) (agree : Agree a c (footprint k a m)) where
  abbrev slots : Memory → List (Option (K × V))
  slots memory = slots_in k.keys k.values memory m.table

  pub slots-same : slots a ≡ slots c
  slots-same = ap (slots_of k.keys k.values m.table.slots) agree.0

  pub content-same : (p : K × V) → Has (slots a) p → content_in k.key c p.0 ≡ content_in k.key a p.0
  content-same p h =
      ap (k.key.content p.0)
      (sym (has-items (λ b. bytes_of a b ≡ bytes_of c b) (λ p. k.key.text p.0) (slots a) h.0 p h.1 agree.1))

  hash-same : (p : K × V) → Has (slots a) p → pair_hash k c m.hasher p ≡ pair_hash k a m.hasher p
  hash-same p h = ap (k.hash m.hasher) (content-same p h)

  abbrev pub home_by : Memory → K × V → ℕ
  home_by memory p = home_of m.table.slots (pair_hash k memory m.hasher p)

  pub homes-same : (p : K × V) → Has (slots a) p → home_by c p ≡ home_by a p
  homes-same p h = ap (home_of m.table.slots) (hash-same p h)

  texts-same : texts_in k a m ≡ texts_in k c m
  texts-same = ap (λ s. map (λ p. k.key.text p.0) (items s)) slots-same

  -- It has the same footprint,
  pub footprint-agree : footprint k a m ≡ footprint k c m
  footprint-agree = ap (λ bs. m.table.block ∷ bs) texts-same

  -- means the same,
  pub meaning-agree : map_in k a m ≡ map_in k c m
  meaning-agree =
      sym (under-agree (content_in k.key a) (content_in k.key c) (slots a) content-same)
      ∙ ap (λ s. first_of (content_in k.key c) (items s)) slots-same

  -- and is held if its footprint is readable.
  pub held-agree : IsMapIn k a m → AreReadable c.state (footprint k a m) → IsMapIn k c m
  held-agree held readable = record {
    handle = record {
      place = held_again _ _ a.state c.state m.table.block held.handle.place readable.0;
      ring = held.handle.ring;
    };
    table = subst (λ bs. IsTable k.keys k.values (pair_hash k c m.hasher) m.table.slots bs) agree.0
        (record {
          ordered = ordered-agree (home_by a) (home_by c) m.table.slots (slots a) homes-same held.table.ordered;
          marks = λ i d p away.
              held.table.marks i d p
              (away-agree (home_by c) (home_by a) m.table.slots (slots a) (λ q h. sym (homes-same q h)) i p d away)
              ∙ ap (λ h. mark_of h d) (sym (hash-same p (i, away.there)));
        });
    texts = subst (λ bs. AreReadable c.state bs) texts-same readable.1;
    apart = subst (λ bs. AreAllApart bs (m.table.block ∷ [])) texts-same held.apart;
    once = subst (λ s. AreOnce (content_in k.key c) (items s)) slots-same
        (subst (IsDistinct bytes_eq) (sym (contents-same (content_in k.key a) (content_in k.key c) (slots a) content-same)) held.once);
    count = held.count ∙ ap (λ s. length (items s)) slots-same;
    within = held.within;
  }
