-- The bytes that copies of lists and of texts bring into use.
use Rattle.std.proofs.Common.{◌≡◌, ℕ, ◌+◌, ◌-◌, ◌*◌, ◌^◌, ◌≤◌, subst, arith, Option, None, List, [], ◌∷◌, Bool, true, IsTrue}
use Rattle.std.specs.Prelude.{nat_le, if◌then◌else◌}
use Rattle.std.proofs.lemmas.Bool.{cases_eq}
use Rattle.std.proofs.lemmas.Bool.Decides.{nat_tests}
use Rattle.arena_rules.specs.Rounding.{is_layout}
use Rattle.arena_chunks.specs.Source.{View}
use Rattle.arena_store.specs.declared.block.Block.{Block}
use Rattle.arena_items.specs.Layout.{IsAlign}
use Rattle.arena_items.specs.Layout.IsAlign.{one}
use Rattle.arena_items.specs.laws.LayoutLaws.{IsAlign-bounds}
use Rattle.arena_items.specs.declared.room.Growth.{Growth}
use Rattle.arena_items.specs.declared.room.Growth.TheVariants.{Stays, GrowsTo, Overflows}
use Rattle.arena_items.specs.declared.room.AllocError.{AllocError}
use Rattle.arena_text.specs.Growth.{new_growth as text_growth, growth_to as text_growth_to}
use Rattle.arena_vec.specs.Growth.{new_growth, fits, growth_to}
use Rattle.arena_clone.specs.Asks.{Ask, AsksFor, ask_by, vector_ask}
use Rattle.arena_clone.specs.Kinds.{text_ask}
use Rattle.arena_clone.specs.Asks.Ask.{Room, Empty, TooMuch}
use Rattle.arena_clone.specs.AskBytes.{have_layouts, least_of, most_of, BringsBytes}
use Rattle.arena_clone.proofs.AskBytesLemmas.{asks_least, asks_most, one_none}
use Rattle.arena_clone.proofs.LayoutLemmas.{fits_layout}

-- a growth that takes room for exactly this many bytes, if it takes any
abbrev pub IsRoomOf : ℕ → ℕ → ℕ → Growth → Type 0
IsRoomOf bytes size align Stays = bytes ≡ 0
IsRoomOf bytes size align (GrowsTo more) = (more * size ≡ bytes) × IsTrue (is_layout (more * size) align)
IsRoomOf bytes size align Overflows = Unit {0}

room_of : (is_there can : Bool) (bytes size align n : ℕ) → (is_there ≡ true → bytes ≡ 0)
    → (can ≡ true → (n * size ≡ bytes) × IsTrue (is_layout (n * size) align))
    → IsRoomOf bytes size align (if is_there then Stays else (if can then GrowsTo n else Overflows))
room_of is_there can bytes size align n none some = grind (arith, nat_tests)

-- A new vector takes room for exactly its values,
vector_room : (size align n : ℕ) → IsAlign align → IsRoomOf (n * size) size align (new_growth size n)
unfolding fits growth_to
vector_room size align n is = grind (arith, nat_tests, room_of, cases_eq, fits_layout)

-- and a new text for its bytes.
text_room : (n : ℕ) → IsRoomOf n 1 1 (text_growth n)
unfolding text_growth_to
text_room n = room_of (nat_le n 0) (nat_le n (2 ^ 63 - 1)) n 1 1 n (λ below. grind (arith, nat_tests))
    (λ can. (omega arith, fits_layout (n * 1) 1 one (grind (arith, nat_tests))))

module _ (old new : View) (bs : List Block) (end : Option AllocError) where
  -- One block that is asked for, by its bytes.
  one_brings : (x : Ask) (bytes : ℕ) → have_layouts (x ∷ []) → (end ≡ None → least_of x ≡ bytes) → most_of x ≤ bytes + 15
      → AsksFor (x ∷ []) old new bs end → BringsBytes bytes old new end
  one_brings x bytes fit least most asked = record {
    least = λ none.
        let all = asks_least (x ∷ []) old new bs fit (subst (AsksFor (x ∷ []) old new bs) none asked) in
        omega (arith, all, least none);
    most = let all = asks_most (x ∷ []) old new bs end fit asked in omega (arith, all, most);
    refused = λ e some. one_none x old new bs e fit (subst (AsksFor (x ∷ []) old new bs) some asked);
  }

  growth_brings : (growth : Growth) (bytes size align : ℕ) → align ≤ 16 → IsRoomOf bytes size align growth
      → AsksFor (ask_by size align growth ∷ []) old new bs end → BringsBytes bytes old new end
  growth_brings Stays bytes size align small is asked =
      one_brings (Empty align) bytes (tt, tt) (λ none. omega (arith, is)) (omega (arith, is)) asked
  growth_brings (GrowsTo more) bytes size align small is asked =
      one_brings (Room (more * size) align) bytes (is.1, tt) (λ none. is.0) (grind (arith, nat_tests, is.0, small)) asked
  growth_brings Overflows bytes size align small is asked =
      one_brings TooMuch bytes (tt, tt) (λ none. absurd (let no = asked.0 in cc (no, none))) (omega arith) asked

  pub vector_brings : (size align n : ℕ) → IsAlign align → AsksFor (vector_ask size align n ∷ []) old new bs end
      → BringsBytes (n * size) old new end
  vector_brings size align n is =
      growth_brings (new_growth size n) (n * size) size align (IsAlign-bounds align is).1 (vector_room size align n is)

  pub text_brings : (n : ℕ) → AsksFor (text_ask n ∷ []) old new bs end → BringsBytes n old new end
  text_brings n = growth_brings (text_growth n) n 1 1 (omega arith) (text_room n)
