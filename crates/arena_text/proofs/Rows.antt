-- Growth near the greatest capacity, computed.
use Rattle.std.proofs.Common.{◌≡◌, ◌+◌, ◌-◌, ◌^◌, refl}
use Rattle.arena_items.specs.declared.room.Growth.TheVariants.{GrowsTo, Overflows}
use Rattle.arena_text.specs.Growth.{growth_to, amortised, amortised_growth, new_growth}

-- ---- New texts

most_bytes : new_growth (2 ^ 63 - 1) ≡ GrowsTo (2 ^ 63 - 1)
unfolding growth_to
most_bytes = refl

one_too_many : new_growth (2 ^ 63) ≡ Overflows
unfolding growth_to
one_too_many = refl

-- ---- Full texts

twice_as_many_just_fit : amortised_growth (2 ^ 62 - 1) (2 ^ 62 - 1) 1 ≡ GrowsTo (2 ^ 63 - 2)
unfolding growth_to amortised
twice_as_many_just_fit = refl

twice_as_many_are_one_too_many : amortised_growth (2 ^ 62) (2 ^ 62) 1 ≡ GrowsTo (2 ^ 62 + 1)
unfolding growth_to amortised
twice_as_many_are_one_too_many = refl

up_to_the_most : amortised_growth (2 ^ 62) (2 ^ 62) (2 ^ 62 - 1) ≡ GrowsTo (2 ^ 63 - 1)
unfolding growth_to amortised
up_to_the_most = refl

past_the_most : amortised_growth (2 ^ 62) (2 ^ 62) (2 ^ 62) ≡ Overflows
unfolding growth_to amortised
past_the_most = refl

one_more_than_the_most : amortised_growth (2 ^ 63 - 1) (2 ^ 63 - 1) 1 ≡ Overflows
unfolding growth_to amortised
one_more_than_the_most = refl
