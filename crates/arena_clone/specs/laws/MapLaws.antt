-- The blocks of a pair, and of a map, determine what it is.
use Rattle.std.proofs.Common.{◌≡◌, ℕ, inl, inr, ap, sym, refl, subst, ◌∙◌, arith, zero, suc, ◌<◌, Option, Some, List, [], ◌∷◌, ◌++◌, length, get_or, true, false, IsTrue}
use Rattle.std.proofs.Math.Path.{fun_ext}
use Rattle.std.specs.Prelude.{Bool, map, cond, bytes_eq}
use Rattle.std.specs.List.{AllByRecursion, find}
use Rattle.std.proofs.lemmas.Bool.{eq-eqb, or_left, false≢true}
use Rattle.arena_chunks.specs.Memory.{Memory, is_readable, image}
use Rattle.arena_store.specs.declared.block.Block.{Block}
use Rattle.arena_chunks.proofs.Layers.{no_bytes}
use Rattle.arena_items.specs.Footprint.{AreReadable, Agree}
use Rattle.arena_items.specs.Values.{bytes_of}
use Rattle.arena_hash.specs.laws.AgreeLaws.{meaning-agree, held-agree}
use Rattle.arena_hash.specs.Contents.{content_in}
use Rattle.arena_hash.specs.Contents.{Kind as MapTypes}
use Rattle.arena_hash.specs.Finite.{Finite}
use Rattle.arena_hash.specs.Maps.{map_in, pairs_in, footprint}
use Rattle.arena_hash.specs.Slots.{items}
use Rattle.arena_hash.specs.Tables.{slots_of}
use Rattle.arena_hash.specs.declared.map.HashMap.{HashMap}
use Rattle.arena_clone.specs.Kinds.{Kind, of_some, row_of}
use Rattle.arena_clone.specs.laws.KindLaws.{IsLawful, option_lawful, both_lawful, row_lawful, readable_each, agree_each}
use Rattle.arena_clone.specs.MapKind.{KeepsContent, pair_of, map_of, table_ask}

pub pair_lawful : {K V : Type 0} (keys : Kind K) (values : Kind V) → IsLawful keys → IsLawful values → IsLawful (pair_of keys values)
pair_lawful keys values one two = both_lawful keys values (λ p. p.0) (λ p. p.1) one two

-- what holds of each block of a list holds of one of them
pub at_block : (P : Block → Type 0) (bs : List Block) (i : ℕ) (b : Block) → AllByRecursion P bs → i < length bs → get_or bs i b ≡ b → P b
at_block P [] i b all below is = absurd (omega arith)
at_block P (c ∷ cs) zero b all below is = subst P is all.0
at_block P (c ∷ cs) (suc i) b all below is = at_block P cs i b all.1 (omega arith) is

module _ {K V S : Type 0} (k : MapTypes K V S) (keys : Kind K) (values : Kind V) (keeps : KeepsContent k.key keys) (one : IsLawful keys)
    (two : IsLawful values) where
  pairs_lawful : IsLawful (row_of (pair_of keys values))
  pairs_lawful = row_lawful (pair_of keys values) (pair_lawful keys values one two)

  -- The text of a key is empty, or one of its blocks.
  pub text_agree : (a c : Memory) (key : K) → Agree a c (keys.deep a key) → bytes_of a (k.key.text key) ≡ bytes_of c (k.key.text key)
  text_agree a c key agree = elim (keeps.text a key) [
    | inl none ↦ no_bytes (image a) (k.key.text key).addr (k.key.text key).size none
        ∙ sym (no_bytes (image c) (k.key.text key).addr (k.key.text key).size none)
    | inr found ↦ at_block (λ b. bytes_of a b ≡ bytes_of c b) (keys.deep a key) found.0 (k.key.text key) agree found.1 found.2
  ]

  texts_agree : (a c : Memory) (ps : List (K × V)) → Agree a c ((row_of (pair_of keys values)).deep a ps)
      → Agree a c (map (λ p. k.key.text p.0) ps)
  texts_agree a c [] agree = tt
  texts_agree a c (p ∷ ps) agree =
      let same = agree_each a c (keys.deep a p.0 ++ values.deep a p.1) ((row_of (pair_of keys values)).deep a ps) agree in
      (text_agree a c p.0 (agree_each a c (keys.deep a p.0) (values.deep a p.1) same.0).0, texts_agree a c ps same.1)

  pub text_readable : (a c : Memory) (key : K) → AreReadable c.state (keys.deep a key) → IsTrue (is_readable c.state (k.key.text key))
  text_readable a c key read = elim (keeps.text a key) [
    | inl none ↦ or_left _ _ (eq-eqb _ _ none)
    | inr found ↦ at_block (λ b. IsTrue (is_readable c.state b)) (keys.deep a key) found.0 (k.key.text key) read found.1 found.2
  ]

  texts_readable : (a c : Memory) (ps : List (K × V)) → AreReadable c.state ((row_of (pair_of keys values)).deep a ps)
      → AreReadable c.state (map (λ p. k.key.text p.0) ps)
  texts_readable a c [] read = tt
  texts_readable a c (p ∷ ps) read =
      let both = readable_each c (keys.deep a p.0 ++ values.deep a p.1) ((row_of (pair_of keys values)).deep a ps) read in
      (text_readable a c p.0 (readable_each c (keys.deep a p.0) (values.deep a p.1) both.0).0, texts_readable a c ps both.1)

  -- the meaning of the value of a pair, if there is one
  abbrev meant : Memory → Option (K × V) → Option values.Whole
  meant m = of_some (λ (p : K × V). values.whole m p.1)

  module _ (a c : Memory) (h : HashMap K V S)
      (agree : Agree a c (h.table.block ∷ (row_of (pair_of keys values)).deep a (pairs_in k a h))) where
    pairs_same : pairs_in k a h ≡ pairs_in k c h
    pairs_same = ap (λ bytes. items (slots_of k.keys k.values h.table.slots bytes)) agree.0

    print_agree : Agree a c (footprint k a h)
    print_agree = (agree.0, texts_agree a c (pairs_in k a h) agree.1)

    -- What is found means the same.
    found_same : (f : K × V → Bool) (ps : List (K × V)) → Agree a c ((row_of (pair_of keys values)).deep a ps)
        → meant c (find f ps) ≡ meant a (find f ps)
    found_same f [] agree = refl
    found_same f (p ∷ ps) agree =
        let same = agree_each a c (keys.deep a p.0 ++ values.deep a p.1) ((row_of (pair_of keys values)).deep a ps) agree in
        cond_same (f p) p (find f ps) (two.whole a c p.1 (agree_each a c (keys.deep a p.0) (values.deep a p.1) same.0).1)
        (found_same f ps same.1)
      where
        cond_same : (b : Bool) (p : K × V) (o : Option (K × V)) → values.whole c p.1 ≡ values.whole a p.1
            → meant c o ≡ meant a o → meant c (cond b (Some p) o) ≡ meant a (cond b (Some p) o)
        cond_same true p o here rest = ap Some here
        cond_same false p o here rest = rest

    meanings : (q : List ℕ) → meant c (map_in k c h q) ≡ meant a (map_in k a h q)
    meanings q =
        sym (ap (λ (is : Finite K V). meant c (is q)) (meaning-agree k a c h print_agree))
        ∙ found_same (λ p. bytes_eq (content_in k.key a p.0) q) (pairs_in k a h) agree.1

  pub map_lawful : (is_default : S → Type 0) → IsLawful (map_of k is_default keys values)
  map_lawful is_default = record {
    readable = λ m h held. (held.0.handle.place.readable, pairs_lawful.readable m (pairs_in k m h) held.1);
    held = λ a c h held agree readable. (
      held-agree k a c h (print_agree a c h agree) held.0 (readable.0, texts_readable a c (pairs_in k a h) readable.1),
      subst ((row_of (pair_of keys values)).is_held c) (pairs_same a c h agree)
          (pairs_lawful.held a c (pairs_in k a h) held.1 agree.1 readable.1),
    );
    trim = λ a c h trim agree. (
      trim.0,
      trim.1,
      subst ((row_of (pair_of keys values)).is_trim c) (pairs_same a c h agree)
          (pairs_lawful.trim a c (pairs_in k a h) trim.2 agree.1),
    );
    deep = λ a c h agree. ap (λ bs. h.table.block ∷ bs) (ap ((row_of (pair_of keys values)).deep c) (sym (pairs_same a c h agree))
        ∙ pairs_lawful.deep a c (pairs_in k a h) agree.1);
    whole = λ a c h agree. fun_ext (meanings a c h agree);
    asks = λ a c h agree. ap (λ xs. table_ask k h.len ∷ xs) (ap ((row_of (pair_of keys values)).asks c) (sym (pairs_same a c h agree))
        ∙ pairs_lawful.asks a c (pairs_in k a h) agree.1);
    kept = λ is. fun_ext (λ q. (option_lawful values two).kept (is q));
    flat = λ ids moved. absurd (false≢true moved);
  }
