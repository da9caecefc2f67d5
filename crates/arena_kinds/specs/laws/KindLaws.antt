-- The blocks of a value determine what it is, for each kind of values.
use Rattle.std.proofs.Common.{◌≡◌, ◌*◌, ◌<◌, ap, sym, refl, subst, ◌∙◌, Option, Some, None, List, [], ◌∷◌, ◌++◌, IsTrue}
use Rattle.std.specs.List.{AllByRecursion}
use Rattle.std.proofs.lemmas.Bool.{and_parts, false≢true}
use Rattle.arena_chunks.specs.Memory.{Memory, is_readable}
use Rattle.arena_store.specs.declared.block.Block.{Block}
use Rattle.arena_items.specs.Footprint.{AreReadable, Agree}
use Rattle.arena_items.specs.laws.FootprintLaws.{held_again}
use Rattle.arena_items.specs.Values.{bytes_of, elements, box_value, IsSliceIn, slice_list}
use Rattle.arena_items.specs.declared.item.Item.{Ghosts}
use Rattle.arena_items.specs.declared.boxes.Box.{Box}
use Rattle.arena_vec.specs.Vecs.{IsVecIn, vec_list}
use Rattle.arena_kinds.specs.Asks.{Ask, vector_ask}
use Rattle.arena_kinds.specs.Asks.Ask.{Room}
use Rattle.arena_kinds.specs.Copies.{IsFlat}
use Rattle.arena_kinds.specs.laws.FlatLaws.{plain_flat, option_flat, row_flat, both_flat}
use Rattle.arena_kinds.specs.Kinds.{Kind, plain, text, option_of, both_of, row_of, row_in, box_of, slice_of, vec_of}
use Rattle.arena_kinds.specs.declared.ids.CloneInSemanticIds.{CloneInSemanticIds}
use Rattle.arena_kinds.specs.declared.ids.CloneInSemanticIds.TheVariants.{With}

-- A value that is held has readable blocks. In two memories with the same bytes in them, and where they are readable,
-- it is the same in all respects. A copy with ids means what its source means, and a kind whose values are copied by
-- their bytes is flat.
pub record IsLawful {T : Type 0} (kind : Kind T) : Type 0 where
  pub readable : (m : Memory) (v : T) → kind.is_held m v → AreReadable m.state (kind.deep m v)
  pub held : (a c : Memory) (v : T) → kind.is_held a v → Agree a c (kind.deep a v) → AreReadable c.state (kind.deep a v)
      → kind.is_held c v
  pub trim : (a c : Memory) (v : T) → kind.is_trim a v → Agree a c (kind.deep a v) → kind.is_trim c v
  pub deep : (a c : Memory) (v : T) → Agree a c (kind.deep a v) → kind.deep c v ≡ kind.deep a v
  pub whole : (a c : Memory) (v : T) → Agree a c (kind.deep a v) → kind.whole c v ≡ kind.whole a v
  pub asks : (a c : Memory) (v : T) → Agree a c (kind.deep a v) → kind.asks c v ≡ kind.asks a v
  pub kept : (w : kind.Whole) → kind.by_ids With w ≡ w
  pub flat : (ids : CloneInSemanticIds) → IsTrue (kind.is_flat ids) → IsFlat kind ids

-- ---- Values with no others in them

pub plain_lawful : {T : Type 0} → IsLawful (plain {T = T})
plain_lawful = record {
  readable = λ m v held. tt;
  held = λ a c v held agree readable. tt;
  trim = λ a c v trim agree. tt;
  deep = λ a c v agree. refl;
  whole = λ a c v agree. refl;
  asks = λ a c v agree. refl;
  kept = λ w. refl;
  flat = λ ids moved. plain_flat ids;
}

pub text_lawful : IsLawful text
text_lawful = record {
  readable = λ m v held. (held, tt);
  held = λ a c v held agree readable. readable.0;
  trim = λ a c v trim agree. tt;
  deep = λ a c v agree. refl;
  whole = λ a c v agree. sym agree.0;
  asks = λ a c v agree. refl;
  kept = λ w. refl;
  flat = λ ids is. absurd (false≢true is);
}

-- ---- Blocks of several values

all_both : {X : Type 0} (P : X → Type 0) (xs ys : List X) → AllByRecursion P xs → AllByRecursion P ys → AllByRecursion P (xs ++ ys)
all_both P [] ys first second = second
all_both P (x ∷ xs) ys first second = (first.0, all_both P xs ys first.1 second)

pub all_each : {X : Type 0} (P : X → Type 0) (xs ys : List X) → AllByRecursion P (xs ++ ys) → AllByRecursion P xs × AllByRecursion P ys
all_each P [] ys all = (tt, all)
all_each P (x ∷ xs) ys all = let rest = all_each P xs ys all.1 in ((all.0, rest.0), rest.1)

-- what is readable, and what is the same, of two values
pub readable_both : (m : Memory) (bs cs : List Block) → AreReadable m.state bs → AreReadable m.state cs → AreReadable m.state (bs ++ cs)
readable_both m = all_both (λ (b : Block). IsTrue (is_readable m.state b))

pub readable_each : (m : Memory) (bs cs : List Block) → AreReadable m.state (bs ++ cs) → AreReadable m.state bs × AreReadable m.state cs
readable_each m = all_each (λ (b : Block). IsTrue (is_readable m.state b))

pub agree_each : (a c : Memory) (bs cs : List Block) → Agree a c (bs ++ cs) → Agree a c bs × Agree a c cs
agree_each a c = all_each (λ (b : Block). bytes_of a b ≡ bytes_of c b)

-- ---- Values that are made of others

module _ {T : Type 0} (kind : Kind T) (is : IsLawful kind) where
  pub option_lawful : IsLawful (option_of kind)
  option_lawful = record {
    readable = reads;
    held = holds;
    trim = trims;
    deep = names;
    whole = means;
    asks = asks_same;
    kept = keeps;
    flat = λ ids moved. option_flat (is.flat ids moved);
  }
    where
      keeps : (o : Option kind.Whole) → (option_of kind).by_ids With o ≡ o
      keeps None = refl
      keeps (Some w) = ap Some (is.kept w)

      reads : (m : Memory) (o : Option T) → (option_of kind).is_held m o → AreReadable m.state ((option_of kind).deep m o)
      reads m None held = tt
      reads m (Some v) held = is.readable m v held

      holds : (a c : Memory) (o : Option T) → (option_of kind).is_held a o → Agree a c ((option_of kind).deep a o)
          → AreReadable c.state ((option_of kind).deep a o) → (option_of kind).is_held c o
      holds a c None held agree readable = tt
      holds a c (Some v) held agree readable = is.held a c v held agree readable

      trims : (a c : Memory) (o : Option T) → (option_of kind).is_trim a o → Agree a c ((option_of kind).deep a o)
          → (option_of kind).is_trim c o
      trims a c None trim agree = tt
      trims a c (Some v) trim agree = is.trim a c v trim agree

      names : (a c : Memory) (o : Option T) → Agree a c ((option_of kind).deep a o)
          → (option_of kind).deep c o ≡ (option_of kind).deep a o
      names a c None agree = refl
      names a c (Some v) agree = is.deep a c v agree

      means : (a c : Memory) (o : Option T) → Agree a c ((option_of kind).deep a o)
          → (option_of kind).whole c o ≡ (option_of kind).whole a o
      means a c None agree = refl
      means a c (Some v) agree = λ i. Some (is.whole a c v agree i)

      asks_same : (a c : Memory) (o : Option T) → Agree a c ((option_of kind).deep a o)
          → (option_of kind).asks c o ≡ (option_of kind).asks a o
      asks_same a c None agree = refl
      asks_same a c (Some v) agree = is.asks a c v agree

  pub row_lawful : IsLawful (row_of kind)
  row_lawful = record {
    readable = reads;
    held = holds;
    trim = trims;
    deep = names;
    whole = means;
    asks = asks_same;
    kept = keeps;
    flat = λ ids moved. row_flat (is.flat ids moved);
  }
    where
      keeps : (ws : List kind.Whole) → (row_of kind).by_ids With ws ≡ ws
      keeps [] = refl
      keeps (w ∷ ws) = λ i. is.kept w i ∷ keeps ws i

      -- the bytes of the first value's blocks, and of the others
      parts : (a c : Memory) (v : T) (vs : List T) → Agree a c ((row_of kind).deep a (v ∷ vs))
          → Agree a c (kind.deep a v) × Agree a c ((row_of kind).deep a vs)
      parts a c v vs = agree_each a c (kind.deep a v) ((row_of kind).deep a vs)

      reads : (m : Memory) (vs : List T) → (row_of kind).is_held m vs → AreReadable m.state ((row_of kind).deep m vs)
      reads m [] held = tt
      reads m (v ∷ vs) held =
          readable_both m (kind.deep m v) ((row_of kind).deep m vs) (is.readable m v held.0) (reads m vs held.1)

      holds : (a c : Memory) (vs : List T) → (row_of kind).is_held a vs → Agree a c ((row_of kind).deep a vs)
          → AreReadable c.state ((row_of kind).deep a vs) → (row_of kind).is_held c vs
      holds a c [] hs agree readable = tt
      holds a c (v ∷ vs) hs agree readable =
          let same = parts a c v vs agree in
          let read = readable_each c (kind.deep a v) ((row_of kind).deep a vs) readable in
          (is.held a c v hs.0 same.0 read.0, holds a c vs hs.1 same.1 read.1)

      trims : (a c : Memory) (vs : List T) → (row_of kind).is_trim a vs → Agree a c ((row_of kind).deep a vs)
          → (row_of kind).is_trim c vs
      trims a c [] ts agree = tt
      trims a c (v ∷ vs) ts agree =
          let same = parts a c v vs agree in (is.trim a c v ts.0 same.0, trims a c vs ts.1 same.1)

      names : (a c : Memory) (vs : List T) → Agree a c ((row_of kind).deep a vs)
          → (row_of kind).deep c vs ≡ (row_of kind).deep a vs
      names a c [] agree = refl
      names a c (v ∷ vs) agree =
          let same = parts a c v vs agree in λ i. is.deep a c v same.0 i ++ names a c vs same.1 i

      means : (a c : Memory) (vs : List T) → Agree a c ((row_of kind).deep a vs)
          → (row_of kind).whole c vs ≡ (row_of kind).whole a vs
      means a c [] agree = refl
      means a c (v ∷ vs) agree =
          let same = parts a c v vs agree in λ i. is.whole a c v same.0 i ∷ means a c vs same.1 i

      asks_same : (a c : Memory) (vs : List T) → Agree a c ((row_of kind).deep a vs)
          → (row_of kind).asks c vs ≡ (row_of kind).asks a vs
      asks_same a c [] agree = refl
      asks_same a c (v ∷ vs) agree =
          let same = parts a c v vs agree in λ i. is.asks a c v same.0 i ++ asks_same a c vs same.1 i

module _ {T A B : Type 0} (first : Kind A) (second : Kind B) (a : T → A) (b : T → B) (is : IsLawful first) (other : IsLawful second) where
  pub both_lawful : IsLawful (both_of first second a b)
  both_lawful = record {
    readable = λ m v held.
        readable_both m (first.deep m (a v)) (second.deep m (b v)) (is.readable m (a v) held.0) (other.readable m (b v) held.1);
    held = λ m n v held agree readable.
        let same = parts m n v agree in
        let read = readable_each n (first.deep m (a v)) (second.deep m (b v)) readable in
        (is.held m n (a v) held.0 same.0 read.0, other.held m n (b v) held.1 same.1 read.1);
    trim = λ m n v trim agree.
        let same = parts m n v agree in (is.trim m n (a v) trim.0 same.0, other.trim m n (b v) trim.1 same.1);
    deep = λ m n v agree. let same = parts m n v agree in λ i. is.deep m n (a v) same.0 i ++ other.deep m n (b v) same.1 i;
    whole = λ m n v agree. let same = parts m n v agree in λ i. (is.whole m n (a v) same.0 i, other.whole m n (b v) same.1 i);
    asks = λ m n v agree. let same = parts m n v agree in λ i. is.asks m n (a v) same.0 i ++ other.asks m n (b v) same.1 i;
    kept = λ w i. (is.kept w.0 i, other.kept w.1 i);
    flat = λ ids moved.
        let each = and_parts (first.is_flat ids) (second.is_flat ids) moved in
        both_flat a b (is.flat ids each.0) (other.flat ids each.1);
  }
    where
      parts : (m n : Memory) (v : T) → Agree m n ((both_of first second a b).deep m v)
          → Agree m n (first.deep m (a v)) × Agree m n (second.deep m (b v))
      parts m n v = agree_each m n (first.deep m (a v)) (second.deep m (b v))

module _ {T : Type 0} (item : Ghosts T) (kind : Kind T) (is : IsLawful kind) where
  pub box_lawful : IsLawful (box_of item kind)
  box_lawful = record {
    readable = λ m b held.
        readable_both m (kind.deep m (box_value item m b)) (b.block ∷ []) (is.readable m _ held.1) (held.0.readable, tt);
    held = λ a c b held agree readable.
        let read = readable_each c (kind.deep a (box_value item a b)) (b.block ∷ []) readable in (
          held_again item.SIZE item.ALIGN a.state c.state b.block held.0 read.1.0,
          subst (kind.is_held c) (same a c b agree) (is.held a c _ held.1 (value a c b agree) read.0),
        );
    trim = λ a c b trim agree. subst (kind.is_trim c) (same a c b agree) (is.trim a c _ trim (value a c b agree));
    deep = λ a c b agree. ap (λ bs. bs ++ b.block ∷ []) (ap (kind.deep c) (sym (same a c b agree)) ∙ is.deep a c _ (value a c b agree));
    whole = λ a c b agree. ap (kind.whole c) (sym (same a c b agree)) ∙ is.whole a c _ (value a c b agree);
    asks = λ a c b agree. ap (λ xs. xs ++ Room item.SIZE item.ALIGN ∷ [])
        (ap (kind.asks c) (sym (same a c b agree)) ∙ is.asks a c _ (value a c b agree));
    kept = is.kept;
    flat = λ ids moved. absurd (false≢true moved);
  }
    where
      parts : (a c : Memory) (b : Box T) → Agree a c ((box_of item kind).deep a b)
          → Agree a c (kind.deep a (box_value item a b)) × Agree a c (b.block ∷ [])
      parts a c b = agree_each a c (kind.deep a (box_value item a b)) (b.block ∷ [])

      value : (a c : Memory) (b : Box T) → Agree a c ((box_of item kind).deep a b) → Agree a c (kind.deep a (box_value item a b))
      value a c b agree = (parts a c b agree).0

      same : (a c : Memory) (b : Box T) → Agree a c ((box_of item kind).deep a b) → box_value item a b ≡ box_value item c b
      same a c b agree = ap item.decoded (parts a c b agree).1.0

  module _ {V : Type 0} (block : V → Block) (is_in : Memory → V → Type 0) (values : Memory → V → List T) (is_trim : V → Type 0)
      (ask : V → Ask) (read : (m : Memory) (v : V) → is_in m v → IsTrue (is_readable m.state (block v)))
      (again : (a c : Memory) (v : V) → is_in a v → IsTrue (is_readable c.state (block v)) → is_in c v)
      (same : (a c : Memory) (v : V) → bytes_of a (block v) ≡ bytes_of c (block v) → values a v ≡ values c v) where
    -- sequences of values that are reached through a handle, whose block determines them
    row_in_lawful : IsLawful (row_in item kind block is_in values is_trim ask)
    row_in_lawful = record {
      readable = λ m v held. (read m v held.0, row.readable m (values m v) held.1);
      held = λ a c v held agree readable. (
        again a c v held.0 readable.0,
        subst ((row_of kind).is_held c) (same a c v agree.0) (row.held a c (values a v) held.1 agree.1 readable.1),
      );
      trim = λ a c v trim agree.
          (trim.0, subst ((row_of kind).is_trim c) (same a c v agree.0) (row.trim a c (values a v) trim.1 agree.1));
      deep = λ a c v agree. ap (λ bs. block v ∷ bs)
          (ap ((row_of kind).deep c) (sym (same a c v agree.0)) ∙ row.deep a c (values a v) agree.1);
      whole = λ a c v agree. ap ((row_of kind).whole c) (sym (same a c v agree.0)) ∙ row.whole a c (values a v) agree.1;
      asks = λ a c v agree. ap (λ xs. ask v ∷ xs)
          (ap ((row_of kind).asks c) (sym (same a c v agree.0)) ∙ row.asks a c (values a v) agree.1);
      kept = row.kept;
      flat = λ ids moved. absurd (false≢true moved);
    }
      where
        row : IsLawful (row_of kind)
        row = row_lawful kind is

  pub slice_lawful : IsLawful (slice_of item kind)
  slice_lawful = row_in_lawful (λ s. s.block) (IsSliceIn item) (slice_list item) (λ s. Unit {0})
      (λ s. Room (s.length * item.SIZE) item.ALIGN)
      (λ m s held. held.readable)
      (λ a c s held. held_again (s.length * item.SIZE) item.ALIGN a.state c.state s.block held)
      (λ a c s bytes. ap (elements item.SIZE item.decoded s.length) bytes)

  pub vec_lawful : IsLawful (vec_of item kind)
  vec_lawful = row_in_lawful (λ v. v.raw.block) (IsVecIn item) (vec_list item) (λ v. 0 < item.SIZE → v.raw.cap ≡ v.raw.len)
      (λ v. vector_ask item.SIZE item.ALIGN v.raw.len)
      (λ m v held. held.place.readable)
      (λ a c v held readable. record {
        place = held_again (v.raw.cap * item.SIZE) item.ALIGN a.state c.state v.raw.block held.place readable;
        within = held.within;
        no_bytes = held.no_bytes;
      })
      (λ a c v bytes. ap (elements item.SIZE item.decoded v.raw.len) bytes)
