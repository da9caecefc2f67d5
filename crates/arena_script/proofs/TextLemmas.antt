-- Texts in an arena: how their growth is paid.
use Rattle.std.proofs.Common.{◌≡◌, ℕ, ◌+◌, ◌-◌, ◌*◌, ◌^◌, ◌<◌, ◌≤◌, max, subst, arith, IsTrue, inl, inr}
use Rattle.std.proofs.lemmas.Bool.{cases_lt}
use Rattle.std.proofs.lemmas.Bool.Decides.{nat_tests}
use Rattle.arena_rules.specs.Rounding.{is_layout, is_power_among}
use Rattle.arena_rules.proofs.RoundingLemmas.{up_same}
use Rattle.arena_chunks.specs.Memory.{Memory}
use Rattle.arena_items.specs.Room.{capacity_after}
use Rattle.arena_items.specs.declared.room.Growth.{Growth}
use Rattle.arena_items.specs.declared.room.Growth.TheVariants.{Stays, GrowsTo}
use Rattle.arena_items.specs.Values.{IsHeld}
use Rattle.arena_text.specs.Growth.{amortised_growth, IsRoomFor}
use Rattle.arena_text.specs.declared.text.StringBuilder.{StringBuilder}
use Rattle.arena_script.specs.Things.{IsWordsIn, credit_of}
use Rattle.arena_script.specs.declared.thing.Thing.TheVariants as thing
use Rattle.arena_script.proofs.CostFacts.{IsPaid}

-- How texts grow: not at all where there is room, and otherwise by what is added, by as much again or by 8.
pub record GrowthRule : Type 0 where
  pub stays : (cap len n : ℕ) → len + n ≤ cap → amortised_growth cap len n ≡ Stays
  pub grows : (cap len n : ℕ) → cap < len + n → len ≤ cap → cap + max n (max cap 8) < 2 ^ 63
      → amortised_growth cap len n ≡ GrowsTo (cap + max n (max cap 8))

pub bytes_layout : (n : ℕ) → n < 2 ^ 62 → IsTrue (is_layout n 1)
unfolding is_power_among
bytes_layout n few = grind (arith, nat_tests, up_same)

-- More bytes are paid by four for each and the credit, and the room is at most twice the bytes and eight.
module _ (rule : GrowthRule) {m : Memory} (t : StringBuilder) (n : ℕ) (held : IsWordsIn m t) (small : t.len + n < 2 ^ 32) where
  abbrev pub growth : Growth
  growth = amortised_growth t.cap t.len n

  abbrev pub later : ℕ
  later = (32 + 4 * (t.len + n)) - 2 * capacity_after growth t.cap

  pub text_paid : IsPaid 1 1 t.cap growth (4 * n) (credit_of (thing.Text t)) later × IsRoomFor (t.len + n) (capacity_after growth t.cap)
  text_paid = elim (cases_lt t.cap (t.len + n)) [
    | inr there ↦ rw (rule.stays t.cap t.len n (omega arith)) (omega (arith, held.room), omega (arith, held.room))
    | inl full ↦ (
        let room : t.cap + max n (max t.cap 8) ≤ 2 * (t.len + n) + 8 = omega (arith, held.held.within) in
        rw (rule.grows t.cap t.len n full held.held.within (omega (arith, room))) (
          (
            omega arith,
            bytes_layout ((t.cap + max n (max t.cap 8)) * 1) (omega (arith, room)),
            omega (arith, room),
            omega (arith, room, held.room),
          ),
          room,
        ))
  ]

  pub text_place : IsHeld (t.cap * 1) 1 m.state t.block
  text_place = let e : t.cap ≡ t.cap * 1 = omega arith in subst (λ c. IsHeld c 1 m.state t.block) e held.held.place
