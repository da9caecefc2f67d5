-- Interners in an arena, as calls change them.
use Rattle.std.proofs.Common.{◌≡◌, ℕ, ◌+◌, ◌<◌, ◌⊎◌, inl, inr, List, [], ◌∷◌, ◌++◌, length, length-append, refl, sym, ap, subst, ◌∙◌, arith, Some, None, Option, Ok, Err, Bool, IsTrue, cond}
use Rattle.std.specs.Prelude.{bytes_eq, slice_get, if◌then◌else◌, ◌↔◌}
use Rattle.std.specs.List.{Contains}
use Rattle.std.proofs.lemmas.Option.{slice_get-map, slice_get_within, get_or_from_slice_get}
use Rattle.std.proofs.lemmas.List.{length-map, map-append}
use Rattle.std.proofs.lemmas.List.Elements.{Contains-append_left, Contains-append_right}
use Rattle.arena_chunks.specs.Memory.{Memory, is_readable}
use Rattle.arena_chunks.specs.Source.{View}
use Rattle.arena_chunks.specs.Frame.{Frame, IsApart, AreAllApart}
use Rattle.arena_store.specs.declared.block.Block.{Block}
use Rattle.arena_chunks.specs.declared.allocator.text.Str.{Str}
use Rattle.arena_chunks.proofs.Layers.{all_from_both, all_of_both, all_among, all_each, apart_both, frame_keeps_all, frame_weaken}
use Rattle.arena_items.specs.Footprint.{AreReadable}
use Rattle.arena_items.specs.laws.FootprintLaws.{readable_both}
use Rattle.arena_items.specs.Values.{bytes_of}
use Rattle.arena_items.proofs.Layers.{length-elements, stays_readable, stays_agree, stays_apart}
use Rattle.arena_items.specs.declared.room.AllocError.{AllocError}
use Rattle.arena_hash.specs.Finite.{Finite, value_of, with_pair}
use Rattle.arena_hash.specs.Maps.{map_in, texts_in as map_texts}
use Rattle.hash_ring.specs.declared.hasher.FxHasher.{FxHasher}
use Rattle.arena_hash.specs.declared.map.HashMap.{HashMap}
use Rattle.arena_vec.specs.declared.vec.Vec.{Vec}
use Rattle.arena_symbols.specs.Interner.{number_of, most_texts}
use Rattle.arena_symbols.specs.Interning.{KeepsTexts}
use Rattle.arena_symbols.specs.Listing.{CanList, Lists}
use Rattle.arena_symbols.specs.laws.NameLaws.{all_at, behind_same, interner_of, names_readable, names_same, texts_same, names_held_again}
use Rattle.arena_symbols.specs.Names.{name_kind, blocks_of, contents_of, texts_in, names_in, own_blocks, names_footprint, IsInternerIn}
use Rattle.arena_symbols.specs.declared.symbols.Symbols.{Symbols}
use Rattle.arena_symbols.proofs.BesideLemmas.{texts_beside}
use Rattle.arena_symbols.proofs.NumberLemmas.{number_push, distinct_push}

-- ---- Lists

pub blocks_push : (list : List Str) (t : Str) → blocks_of (list ++ t ∷ []) ≡ blocks_of list ++ t.block ∷ []
blocks_push list t = map-append (λ (t : Str). t.block) list (t ∷ [])

-- Texts that are kept, with more behind: only the interner's blocks, and new ones, were written.
pub kept_frame : {old new : View} {s t : Symbols} (more : List Block) → KeepsTexts old new s t more
    → Frame old.memory new.memory (names_footprint old.memory s) (names_footprint new.memory t)
kept_frame {old = old} {new = new} {s = s} {t = t} more keeps = rw keeps.blocks (frame_weaken old.memory new.memory (own_blocks s)
    (names_footprint old.memory s) (own_blocks t ++ more) (own_blocks t ++ (blocks_of (texts_in old.memory s) ++ more))
    (λ addr n some apart. (apart.0, (apart.1.0, tt)))
    (λ addr n some apart after. (after.0, (after.1.0, apart_both addr n _ _ apart.1.1 after.1.1))) keeps.frame)

-- the contents of a text in a list, which is readable with the others
pub name_at : (m : Memory) (list : List Str) (n : ℕ) (t : Str) → slice_get list n ≡ Some t
    → slice_get (contents_of m list) n ≡ Some (bytes_of m t.block)
name_at m list n t there = slice_get-map (λ (t : Str). bytes_of m t.block) list n ∙ rw there refl

pub text_readable : (m : Memory) (list : List Str) (n : ℕ) (t : Str) → AreReadable m.state (blocks_of list) → slice_get list n ≡ Some t
    → IsTrue (is_readable m.state t.block)
text_readable m list n t readable there = all_at (λ (b : Block). IsTrue (is_readable m.state b)) (blocks_of list) t.block readable
    (let at : slice_get (blocks_of list) n ≡ Some t.block = slice_get-map (λ (t : Str). t.block) list n ∙ rw there refl in
    (n, slice_get_within (blocks_of list) n t.block at, get_or_from_slice_get (blocks_of list) n t.block t.block at))

-- ---- What an interner knows

pub length_names : (memory : Memory) (s : Symbols) → length (names_in memory s) ≡ s.texts.raw.len
length_names memory s = simp length-map (length-elements _ _ _ _)

-- for automatic proof
pub ruleset text_laws = (length_names, name_at, text_readable)

-- the number that its map has for a text is the text's number
pub number_is : {memory : Memory} {s : Symbols} {o : Option ℕ} (text : List ℕ) → IsInternerIn memory s
    → o ≡ value_of (map_in name_kind memory s.numbers text) → number_of (names_in memory s) text ≡ o
number_is text held told = sym (told ∙ held.places text)

pub value_if : {K V : Type 0} (here : Bool) (one other : Option (K × V))
    → value_of (if here then one else other) ≡ (if here then value_of one else value_of other)
value_if here one other = grind arith

-- ---- A call on other blocks

-- An interner whose blocks are apart is held, and means the same.
pub record InternerStays (old new : Memory) (after : List Block) (s : Symbols) : Type 0 where
  pub held : IsInternerIn new s
  pub texts : texts_in new s ≡ texts_in old s
  pub names : names_in new s ≡ names_in old s
  pub apart : AreAllApart (names_footprint old s) after

pub interner_beside : {old new : Memory} {before after : List Block} (s : Symbols) → Frame old new before after → IsInternerIn old s
    → AreAllApart (names_footprint old s) before → InternerStays old new after s
interner_beside {old = old} {new = new} {before = before} {after = after} s frame held apart =
    let blocks = names_footprint old s in
    let stays = frame_keeps_all old new before after blocks frame (names_readable old s held) apart in
    let agree = stays_agree old new after blocks stays in
    let again = names_held_again old new s agree held (stays_readable old new after blocks stays) in
    grind (arith, again, texts_same old new s agree, names_same old new s agree, stays_apart old new after blocks stays)

-- ---- An appended text

-- a text that an interner doesn't have: it is readable, and apart from the interner's own blocks
pub record IsNewText (memory : Memory) (s : Symbols) (t : Str) : Type 0 where
  pub readable : IsTrue (is_readable memory.state t.block)
  pub apart : IsApart t.block.addr t.block.size (own_blocks s)
  pub new : number_of (names_in memory s) (bytes_of memory t.block) ≡ None

-- It may be appended to the vector and inserted into the map.
pub can_append : {memory : Memory} {s : Symbols} {t : Str} → IsInternerIn memory s → s.texts.raw.len < most_texts → IsNewText memory s t
    → CanList name_kind.keys name_kind memory s.numbers s.texts t
can_append {memory = memory} {s = s} held few fresh =
    let list = blocks_of (texts_in memory s) in
    let own = s.texts.raw.block ∷ [] in
    let apart = ((all_from_both list (s.numbers.table.block ∷ []) own).0 held.texts_apart).1 in
    let keys = all_each (map_texts name_kind memory s.numbers) own (λ b among. all_among list own b apart (held.keys b among)) in
    grind (arith, held.numbers, held.texts, held.apart, held.count, keys, fresh.readable, fresh.apart, few)

-- A map's texts are those of its keys.
abbrev pub AreTexts : Memory → HashMap Str ℕ FxHasher → Type 0
AreTexts memory m = (b : Block) → Contains (map_texts name_kind memory m) b
    ↔ ((q : List ℕ) × (p : Str × ℕ) × (map_in name_kind memory m q ≡ Some p) × (p.0.block ≡ b))

-- If a pair was put under a new content, a key of the map was one before, or is this text.
key_before : (before : Finite Str ℕ) (q at : List ℕ) (key : Str) (n : ℕ) (p : Str × ℕ) → before q ≡ None
    → with_pair before q key n at ≡ Some p → (before at ≡ Some p) ⊎ (key.block ≡ p.0.block)
key_before before q at key n p none is = grind (arith, none, is)

module _ (old new : View) {s : Symbols} {t : Str} (n : HashMap Str ℕ FxHasher) (v : Vec Str) (held : IsInternerIn old.memory s)
    (fresh : IsNewText old.memory s t) where
  abbrev list : List Str
  list = texts_in old.memory s

  abbrev names : List (List ℕ)
  names = names_in old.memory s

  abbrev text : List ℕ
  text = bytes_of old.memory t.block

  -- Both have it at their end,
  pub appended : {at : ℕ} → AreTexts old.memory s.numbers → AreTexts new.memory n
      → Lists name_kind.keys name_kind old new s.numbers s.texts t t n v (Ok at)
      → IsInternerIn new.memory (record { numbers = n; texts = v })
      × (contents_of new.memory (list ++ t ∷ []) ≡ names ++ text ∷ [])
  appended had has_now lists =
      let blocks = blocks_push list t in
      let stay = texts_beside lists.frame (list ++ t ∷ [])
      (rw blocks (readable_both old.memory.state (blocks_of list) (t.block ∷ []) held.readable (fresh.readable, tt)))
      (rw blocks ((all_of_both (blocks_of list) (t.block ∷ []) (own_blocks s)).1 (held.texts_apart, (fresh.apart, tt)))) in
      let named = stay.contents ∙ map-append (λ (t : Str). bytes_of old.memory t.block) list (t ∷ []) in
      let nothing : map_in name_kind old.memory s.numbers text ≡ None = grind (arith, held.places text, fresh.new) in
      let len : v.raw.len ≡ s.texts.raw.len + 1 = simp (length-append, length-elements) at
      (ap {A = List Str} {B = ℕ} (λ l. length l) lists.list_is) in (
        interner_of new.memory (record { numbers = n; texts = v }) (list ++ t ∷ []) (names ++ text ∷ []) lists.list_is named (record {
          numbers = lists.map;
          texts = lists.list;
          readable = stay.readable;
          apart = ((lists.apart, tt), (tt, tt));
          texts_apart = stay.apart;
          keys = λ b among.
              let at = (has_now b).0 among in
              rw blocks (elim (key_before (map_in name_kind old.memory s.numbers) text at.0 t s.texts.raw.len at.1 nothing
              (ap (λ (f : Finite Str ℕ). f at.0) (sym lists.map_is) ∙ at.2)) [
                | inl earlier ↦ Contains-append_left (blocks_of list) (t.block ∷ []) b (held.keys b ((had b).1 (at.0, at.1, earlier, at.3)))
                | inr is ↦ Contains-append_right (blocks_of list) (t.block ∷ []) b (0, omega arith, is ∙ at.3)
              ]);
          count = omega (arith, rw nothing at lists.len, held.count, len);
          places = λ q. ap (λ (f : Finite Str ℕ). value_of (f q)) lists.map_is ∙ value_if (bytes_eq q text) _ _
              ∙ (λ i. cond (bytes_eq q text) (Some (sym (length_names old.memory s) i)) (held.places q i))
              ∙ sym (number_push names text q fresh.new);
          distinct = distinct_push names text held.distinct fresh.new;
        }),
        named,
      )

  -- or neither.
  pub not_appended : {e : AllocError} → Lists name_kind.keys name_kind old new s.numbers s.texts t t n v (Err e)
      → IsInternerIn new.memory (record { numbers = n; texts = v }) × (contents_of new.memory list ≡ names)
  not_appended lists =
      let same = lists.kept in
      let stay = texts_beside lists.frame list held.readable held.texts_apart in
      let len : v.raw.len ≡ s.texts.raw.len = simp length-elements at (ap {A = List Str} {B = ℕ} (λ l. length l) same.1) in (
        interner_of new.memory (record { numbers = n; texts = v }) list names same.1 stay.contents (record {
          numbers = lists.map;
          texts = lists.list;
          readable = stay.readable;
          apart = ((lists.apart, tt), (tt, tt));
          texts_apart = stay.apart;
          keys = λ b among. held.keys b (subst (λ (bs : List Block). Contains bs b) (behind_same _ _ _ _ same.3) (rw same.0 at among));
          count = ap (λ (m : HashMap Str ℕ FxHasher). m.len) same.0 ∙ held.count ∙ sym len;
          places = λ q. (rw same.0 (ap (λ (f : Finite Str ℕ). value_of (f q)) same.2)) ∙ held.places q;
          distinct = held.distinct;
        }),
        stay.contents,
      )
