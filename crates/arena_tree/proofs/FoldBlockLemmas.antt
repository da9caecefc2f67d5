-- The blocks of trees that are folded one after another.
use Rattle.std.proofs.lemmas.Bool.Decides.{nat_tests}
use Rattle.std.proofs.Common.{arith, refl, List, [], ◌∷◌, ◌++◌}
use Rattle.arena_chunks.specs.Memory.{Memory}
use Rattle.arena_chunks.specs.Frame.{AreAllApart, ArePairwiseApart}
use Rattle.arena_store.specs.declared.block.Block.{Block}
use Rattle.arena_chunks.proofs.Layers.{apart_both, apart_each, pairwise_both, all_of_both, all_from_both, frame_then, frame_weaken, frame_reflexive}
use Rattle.arena_kinds.proofs.Layers.{all_turned}
use Rattle.arena_items.specs.Footprint.{AreReadable, Agree}
use Rattle.arena_tree.specs.Folding.{IsWithin}
use Rattle.arena_tree.specs.FoldingParts.{IsClear, WritesIn, Shrinks}
use Rattle.tree_nodes.proofs.StayLemmas.{stay_all}

-- ---- A list's own block, the blocks of its first tree, and those of the others

pairwise_each : (xs ys : List Block) → ArePairwiseApart (xs ++ ys) → ArePairwiseApart xs × ArePairwiseApart ys × AreAllApart xs ys
pairwise_each [] ys h = (tt, h, tt)
pairwise_each (x ∷ xs) ys h =
    let rest = pairwise_each xs ys h.1 in
    let one = apart_each x.addr x.size xs ys h.0 in
    ((one.0, rest.0), rest.1, (one.1, rest.2))

-- Some blocks are apart from these lists and texts.
abbrev pub AreBeside : List Block → List Block → List Block → Type 0
AreBeside ws ls ts = AreAllApart ws ls × AreAllApart ws ts

pub record Split (v : Block) (b q bt qt : List Block) : Type 0 where
  pub first : IsClear b bt
  pub others : IsClear (v ∷ q) qt
  pub beside_first : AreBeside (v ∷ q) b bt
  pub beside_others : AreBeside (v ∷ b) q qt

pub split_of : (v : Block) (b q bt qt : List Block) → IsClear (v ∷ (b ++ q)) (bt ++ qt) → Split v b q bt qt
split_of v b q bt qt clear =
    let pairs = pairwise_each b q clear.lists.1 in
    let own = apart_each v.addr v.size b q clear.lists.0 in
    let texts = (all_from_both (v ∷ (b ++ q)) bt qt).0 clear.texts in
    let first = (all_of_both b q bt).0 texts.0.1 in
    let others = (all_of_both b q qt).0 texts.1.1 in
    record {
      first = record { lists = pairs.0; texts = first.0 };
      others = record { lists = (own.1, pairs.1); texts = (texts.1.0, others.1) };
      beside_first = ((own.0, all_turned b q pairs.2), (texts.0.0, first.1));
      beside_others = ((own.1, pairs.2), (texts.1.0, others.0));
    }

-- ---- What is left of blocks

pub shrinks_none : (ls ts : List Block) → Shrinks ls ts ls ts
shrinks_none ls ts = record { pairs = λ h. h; lists_in = λ addr n h. h; texts_in = λ addr n h. h }

pub shrinks_then : {ls ts ls' ts' ls'' ts'' : List Block} → Shrinks ls ts ls' ts' → Shrinks ls' ts' ls'' ts'' → Shrinks ls ts ls'' ts''
shrinks_then one two = grind (arith, nat_tests)

all_within : (ws bs bs' : List Block) → IsWithin bs bs' → AreAllApart ws bs → AreAllApart ws bs'
all_within [] bs bs' within h = tt
all_within (w ∷ ws) bs bs' within h = (within w.addr w.size h.0, all_within ws bs bs' within h.1)

-- what is apart from blocks is apart from what is left of them
pub beside : {ls ts ls' ts' : List Block} → Shrinks ls ts ls' ts' → (ws : List Block) → AreBeside ws ls ts → AreBeside ws ls' ts'
beside {ls} {ts} {ls'} {ts'} s ws h = (all_within ws ls ls' s.lists_in h.0, all_within ws ts ts' s.texts_in h.1)

pub texts_within : {ls ts ls' ts' : List Block} → Shrinks ls ts ls' ts' → AreAllApart ts ls → AreAllApart ts' ls'
texts_within {ls} {ts} {ls'} {ts'} s h =
    all_turned ls' ts' (all_within ls' ts ts' s.texts_in (all_turned ts ls' (all_within ts ls ls' s.lists_in h)))

within_both : (bs cs bs' cs' : List Block) → IsWithin bs bs' → IsWithin cs cs' → IsWithin (bs ++ cs) (bs' ++ cs')
within_both bs cs bs' cs' one two addr n h =
    let each = apart_each addr n bs cs h in apart_both addr n bs' cs' (one addr n each.0) (two addr n each.1)

pub shrinks_both : {b bt q qt a at z zt : List Block} → Shrinks b bt a at → Shrinks q qt z zt
    → Shrinks (b ++ q) (bt ++ qt) (a ++ z) (at ++ zt)
shrinks_both {b} {bt} {q} {qt} {a} {at} {z} {zt} one two = record {
  pairs = λ h.
      let each = pairwise_each b q h in
      let others = all_within b q z two.lists_in each.2 in
      pairwise_both a z (one.pairs each.0) (two.pairs each.1) (all_turned z a (all_within z b a one.lists_in (all_turned b z others)));
  lists_in = within_both b q a z one.lists_in two.lists_in;
  texts_in = within_both bt qt at zt one.texts_in two.texts_in;
}

-- with a block and texts that stay
pub shrinks_own : {q qt z zt : List Block} (v : Block) (own : List Block) → Shrinks q qt z zt
    → Shrinks (v ∷ q) (own ++ qt) (v ∷ z) (own ++ zt)
shrinks_own {q} {qt} {z} {zt} v own s = record {
  pairs = λ h. (s.lists_in v.addr v.size h.0, s.pairs h.1);
  lists_in = λ addr n h. (h.0, s.lists_in addr n h.1);
  texts_in = within_both own qt own zt (λ addr n h. h) s.texts_in;
}

-- ---- Writes

pub writes_none : (m : Memory) (bs : List Block) → WritesIn m m bs
writes_none m bs = record { frame = frame_reflexive m bs; state = refl }

pub writes_more : {old new : Memory} {bs : List Block} (more : List Block) → IsWithin more bs → WritesIn old new bs → WritesIn old new more
writes_more {old} {new} {bs} more within w = grind (arith, nat_tests, frame_weaken)

pub writes_then : {old mid new : Memory} {ls : List Block} → WritesIn old mid ls → WritesIn mid new ls → WritesIn old new ls
writes_then {old} {mid} {new} {ls} one two = grind (arith, nat_tests, frame_then)

-- blocks apart from the written ones hold the same bytes
pub agree_beside : {old new : Memory} {written : List Block} (bs : List Block) → WritesIn old new written → AreReadable old.state bs
    → AreAllApart bs written → Agree old new bs
agree_beside {old} {new} {written} bs w readable apart = (stay_all old new written written bs w.frame readable apart).agree
