-- A chain by its links, and that it means the same wherever its blocks have the same bytes.
use Rattle.std.specs.Prelude.{◌≡◌, ℕ, ◌∷◌, []}
use Rattle.std.proofs.Common.{ap, ◌∙◌, sym, subst}
use Rattle.arena_chunks.specs.Memory.{Memory}
use Rattle.arena_chunks.specs.Frame.{ArePairwiseApart}
use Rattle.arena_items.specs.declared.item.Item.{Ghosts}
use Rattle.arena_items.specs.Footprint.{AreReadable, Agree}
use Rattle.arena_items.specs.laws.FootprintLaws.{held_again}
use Rattle.arena_items.specs.Values.{IsBoxIn, box_value}
use Rattle.example_blocks.specs.declared.linked.Chain.{Chain}
use Rattle.example_blocks.specs.Chains.{First, Second, IsChain, second, third, numbers, blocks}

module _ (outer : Ghosts First) (inner : Ghosts Second) (number : Ghosts ℕ) where
  -- the values of its boxes
  module _ (m : Memory) (v : Chain) (p : First) (q : Second) (z : ℕ)
      (head : box_value outer m v.first ≡ p) (link : box_value inner m p.1 ≡ q) (last : box_value number m q.1 ≡ z) where
    second_is : second outer m v ≡ p.1
    second_is = ap (λ (r : First). r.1) head

    link_is : box_value inner m (second outer m v) ≡ q
    link_is = ap (box_value inner m) second_is ∙ link

    third_is : third outer inner m v ≡ q.1
    third_is = ap (λ (r : Second). r.1) link_is

    -- They determine its blocks,
    pub blocks_are : blocks outer inner m v ≡ v.first.block ∷ p.1.block ∷ q.1.block ∷ []
    blocks_are = λ i. v.first.block ∷ (second_is i).block ∷ (third_is i).block ∷ []

    -- and its numbers;
    pub numbers_are : numbers outer inner number m v ≡ p.0 ∷ q.0 ∷ z ∷ []
    numbers_are = λ i. (head i).0 ∷ (link_is i).0 ∷ (ap (box_value number m) third_is ∙ last) i ∷ []

    -- and it is held if the boxes are.
    pub chain_is : IsBoxIn outer m v.first → IsBoxIn inner m p.1 → IsBoxIn number m q.1
        → ArePairwiseApart (v.first.block ∷ p.1.block ∷ q.1.block ∷ []) → IsChain outer inner number m v
    chain_is first_held second_held third_held apart = record {
      first = first_held;
      second = subst (IsBoxIn inner m) (sym second_is) second_held;
      third = subst (IsBoxIn number m) (sym third_is) third_held;
      apart = subst ArePairwiseApart (sym blocks_are) apart;
    }

  -- Its blocks are readable.
  pub chain_readable : (m : Memory) (v : Chain) → IsChain outer inner number m v → AreReadable m.state (blocks outer inner m v)
  chain_readable m v is = (is.first.readable, (is.second.readable, (is.third.readable, tt)))

  module _ (a c : Memory) (v : Chain) (agree : Agree a c (blocks outer inner a v)) where
    head_same : box_value outer c v.first ≡ box_value outer a v.first
    head_same = sym (ap outer.decoded agree.0)

    link_same : box_value inner c (second outer a v) ≡ box_value inner a (second outer a v)
    link_same = sym (ap inner.decoded agree.1.0)

    last_same : box_value number c (third outer inner a v) ≡ box_value number a (third outer inner a v)
    last_same = sym (ap number.decoded agree.1.1.0)

    -- If they have the same bytes, the chain has the same blocks,
    pub chain_blocks : blocks outer inner a v ≡ blocks outer inner c v
    chain_blocks = sym (blocks_are c v _ _ _ head_same link_same last_same)

    -- and the same numbers,
    pub chain_numbers : numbers outer inner number a v ≡ numbers outer inner number c v
    chain_numbers = sym (numbers_are c v _ _ _ head_same link_same last_same)

    -- and is held if they are readable.
    pub chain_again : IsChain outer inner number a v → AreReadable c.state (blocks outer inner a v) → IsChain outer inner number c v
    chain_again is readable = chain_is c v _ _ _ head_same link_same last_same
        (held_again outer.SIZE outer.ALIGN a.state c.state _ is.first readable.0)
        (held_again inner.SIZE inner.ALIGN a.state c.state _ is.second readable.1.0)
        (held_again number.SIZE number.ALIGN a.state c.state _ is.third readable.1.1.0)
        is.apart
