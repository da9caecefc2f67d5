-- An interner in two arenas that agree on its footprint.
use Rattle.std.proofs.Common.{◌≡◌, ℕ, zero, suc, List, [], ◌∷◌, ◌++◌, refl, sym, ap, subst, ◌∙◌, arith}
use Rattle.std.specs.List.{AllByRecursion, Contains}
use Rattle.arena_chunks.specs.Memory.{Memory}
use Rattle.arena_store.specs.declared.block.Block.{Block}
use Rattle.arena_chunks.specs.declared.allocator.text.Str.{Str}
use Rattle.arena_items.specs.Footprint.{AreReadable, Agree}
use Rattle.arena_items.specs.laws.FootprintLaws.{held_again}
use Rattle.arena_items.specs.Values.{elements}
use Rattle.arena_hash.specs.laws.AgreeLaws.{footprint-agree, meaning-agree, held-agree}
use Rattle.arena_hash.specs.Finite.{Finite, value_of}
use Rattle.arena_hash.specs.Maps.{texts_in as map_texts, footprint as map_footprint}
use Rattle.arena_symbols.specs.Names.{name_kind, blocks_of, contents_of, texts_in, names_in, own_blocks, names_footprint, IsInternerOf, IsInternerIn}
use Rattle.arena_symbols.specs.declared.symbols.Symbols.{Symbols}

-- What holds of each holds of those that are among them.
pub all_at : {X : Type 0} (P : X → Type 0) (xs : List X) (x : X) → AllByRecursion P xs → Contains xs x → P x
all_at P [] x all (k, less, is) = absurd (omega arith)
all_at P (y ∷ ys) x all (zero, less, is) = subst P is all.0
all_at P (y ∷ ys) x all (suc k, less, is) = all_at P ys x all.1 (k, omega arith, is)

all_of : {X : Type 0} (P : X → Type 0) (xs : List X) → ((x : X) → Contains xs x → P x) → AllByRecursion P xs
all_of P [] each = tt
all_of P (x ∷ xs) each =
    (each x (0, omega arith, refl), all_of P xs (λ y among. each y (suc among.0, omega (arith, among.1), among.2)))

-- The contents of texts in two arenas that agree on them, and an interner from its parts.
pub contents_agree : (a c : Memory) (list : List Str) → Agree a c (blocks_of list) → contents_of a list ≡ contents_of c list
contents_agree a c [] agree = refl
contents_agree a c (t ∷ ts) agree = (λ i. agree.0 i ∷ contents_agree a c ts agree.1 i)

pub interner_of : (memory : Memory) (s : Symbols) (list : List Str) (names : List (List ℕ)) → texts_in memory s ≡ list
    → contents_of memory list ≡ names → IsInternerOf memory s list names → IsInternerIn memory s
interner_of memory s list names is named of = subst (λ (l : List Str). IsInternerOf memory s l (contents_of memory l)) (sym is)
    (subst (IsInternerOf memory s list) (sym named) of)

-- equal lists have equal tails
pub behind_same : (x y : Block) (xs ys : List Block) → x ∷ xs ≡ y ∷ ys → xs ≡ ys
behind_same x y xs ys same = ap behind same
  where
    behind : List Block → List Block
    behind [] = []
    behind (b ∷ bs) = bs

-- Its footprint is readable.
pub names_readable : (m : Memory) (s : Symbols) → IsInternerIn m s → AreReadable m.state (names_footprint m s)
names_readable m s held = (held.numbers.handle.place.readable, (held.texts.place.readable, held.readable))

module _ (a c : Memory) (s : Symbols) (agree : Agree a c (names_footprint a s)) where
  pub texts_same : texts_in a s ≡ texts_in c s
  texts_same = ap (elements name_kind.keys.SIZE name_kind.keys.decoded s.texts.raw.len) agree.1.0

  -- It has the same footprint,
  pub names_same_footprint : names_footprint a s ≡ names_footprint c s
  names_same_footprint = ap (λ (l : List Str). own_blocks s ++ blocks_of l) texts_same

  -- has the same texts,
  pub names_same : names_in a s ≡ names_in c s
  names_same = contents_agree a c (texts_in a s) agree.1.1 ∙ ap (contents_of c) texts_same

  -- and is held if its footprint is readable, which includes what its map reads.
  pub names_held_again : IsInternerIn a s → AreReadable c.state (names_footprint a s) → IsInternerIn c s
  names_held_again held readable =
      let within : (P : Block → Type 0) → AllByRecursion P (blocks_of (texts_in a s)) → AllByRecursion P (map_texts name_kind a s.numbers) =
      λ P all. all_of P (map_texts name_kind a s.numbers) (λ b among. all_at P (blocks_of (texts_in a s)) b all (held.keys b among)) in
      let map_agree : Agree a c (map_footprint name_kind a s.numbers) = (agree.0, within _ agree.1.1) in
      let map_same = footprint-agree name_kind a c s.numbers map_agree in
      interner_of c s (texts_in a s) (names_in a s) (sym texts_same) (sym (contents_agree a c (texts_in a s) agree.1.1)) (record {
        numbers = held-agree name_kind a c s.numbers map_agree held.numbers (readable.0, within _ readable.1.1);
        texts = record {
          place = held_again _ name_kind.keys.ALIGN a.state c.state s.texts.raw.block held.texts.place readable.1.0;
          within = held.texts.within;
          no_bytes = held.texts.no_bytes;
        };
        readable = readable.1.1;
        apart = held.apart;
        texts_apart = held.texts_apart;
        keys = λ b among. held.keys b (subst (λ (bs : List Block). Contains bs b) (sym (behind_same _ _ _ _ map_same)) among);
        count = held.count;
        places = λ q. ap (λ (f : Finite Str ℕ). value_of (f q)) (sym (meaning-agree name_kind a c s.numbers map_agree)) ∙ held.places q;
        distinct = held.distinct;
      })
