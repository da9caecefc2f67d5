-- Lines of calls and replies, as examples.
use Rattle.std.proofs.Common.{◌≡◌, refl, codes, [], ◌∷◌}
use Rattle.line_parts.specs.Numbers.{digits, number}
use Rattle.call_rules.specs.Grammar.{call_line}
use Rattle.call_rules.specs.Replies.{reply_line}
use Rattle.call_rules.specs.declared.calls.Call.TheVariants.{Write}
use Rattle.call_rules.specs.declared.calls.Reply.TheVariants.{Placed}

great_number : number 9223372036854775807 ≡ codes "9223372036854775807"
unfolding number digits
great_number = refl

write_row : call_line (Write 7 0 (0 ∷ 171 ∷ [])) ≡ codes "write 7 0 00ab"
unfolding number digits
write_row = refl

placed_row : reply_line (Placed 4096 12) ≡ codes "placed 4096 refused 12"
unfolding number digits
placed_row = refl
