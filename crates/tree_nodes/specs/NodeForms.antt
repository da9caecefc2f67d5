-- The byte form of a node.
use Rattle.std.specs.Prelude.{◌≡◌, ℕ, ◌^◌, ◌<◌, List, ◌++◌, ◌==◌, if◌then◌else◌, refl, slice_index, take, drop}
use Rattle.std.specs.Int.{w32, w64, to_le_bytes, from_le_bytes}
use Rattle.std.proofs.Common.{arith}
use Rattle.arena_items.specs.ByteForms.{IsBlockValue, block_bytes, block_of}
use Rattle.arena_items.specs.laws.HandleLaws.{block_back}
use Rattle.arena_items.specs.laws.NumberLaws.{bytes_back}
use Rattle.arena_items.specs.Layout.{IsItemLayout}
use Rattle.arena_items.specs.Layout.IsAlign.{eight}
use Rattle.arena_chunks.specs.declared.allocator.text.Str.{Str}
use Rattle.arena_vec.specs.Held.{empty_block}
use Rattle.tree_nodes.specs.declared.node.Kind.{Kind}
use Rattle.tree_nodes.specs.declared.node.Kind.TheVariants.{Num, Name, Neg, Sum, Prod, Let, Show, Block}
use Rattle.tree_nodes.specs.declared.node.Node.{Node}

abbrev pub code : Kind → ℕ
code Num = 0
code Name = 1
code Neg = 2
code Sum = 3
code Prod = 4
code Let = 5
code Show = 6
code Block = 7

abbrev pub kind_from_5 : ℕ → Kind
kind_from_5 c = if c == 5 then Let else (if c == 6 then Show else Block)

abbrev pub kind_from_3 : ℕ → Kind
kind_from_3 c = if c == 3 then Sum else (if c == 4 then Prod else kind_from_5 c)

-- any greater code is a block's
abbrev pub kind_of : ℕ → Kind
kind_of c = if c == 0 then Num else (if c == 1 then Name else (if c == 2 then Neg else kind_from_3 c))

-- its numbers fit
pub record IsNodeValue (n : Node) : Type 0 where
  pub number : n.number < 2 ^ 64
  pub text : IsBlockValue n.text.block
  pub kids : IsBlockValue n.kids
  pub len : n.len < 2 ^ 32
  pub cap : n.cap < 2 ^ 32

abbrev pub node_bytes : Node → List ℕ
node_bytes n =
    to_le_bytes w64 (code n.kind) ++ (to_le_bytes w64 n.number ++ (block_bytes n.text.block ++ (block_bytes n.kids
    ++ (to_le_bytes w32 n.len ++ to_le_bytes w32 n.cap))))

abbrev pub node_of : List ℕ → Node
node_of bs = record {
  kind = kind_of (slice_index bs 0);
  number = from_le_bytes w64 (take 8 (drop 8 bs));
  text = record { block = block_of (take 32 (drop 16 bs)) };
  kids = block_of (take 32 (drop 48 bs));
  len = from_le_bytes w32 (take 4 (drop 80 bs));
  cap = from_le_bytes w32 (drop 84 bs);
}

kind_read : (k : Kind) → kind_of (slice_index (to_le_bytes w64 (code k)) 0) ≡ k
kind_read Num = refl
kind_read Name = refl
kind_read Neg = refl
kind_read Sum = refl
kind_read Prod = refl
kind_read Let = refl
kind_read Show = refl
kind_read Block = refl

pub node_back : (n : Node) → IsNodeValue n → node_of (node_bytes n) ≡ n
node_back n h = λ i. record {
  kind = kind_read n.kind i;
  number = bytes_back 7 n.number h.number i;
  text = record { block = block_back n.text.block h.text i };
  kids = block_back n.kids h.kids i;
  len = bytes_back 3 n.len h.len i;
  cap = bytes_back 3 n.cap h.cap i;
}

pub plain_88_8 : IsItemLayout 88 8
plain_88_8 = record { is_align = eight; whole = refl; bounded = omega arith }

-- the text of a node that has none
abbrev pub no_text : Str
no_text = record { block = empty_block 1 }

-- the node of a number
abbrev pub number_node : ℕ → Node
number_node n = record { kind = Num; number = n; text = no_text; kids = empty_block 8; len = 0; cap = 0 }
