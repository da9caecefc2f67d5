use Rattle.std.proofs.Common.{◌<◌, length, arith, rules}
use Rattle.arena_bits.proofs.PrintLemmas.{byte_digits, printed_some}
use Rattle.arena_bits.proofs.printed.push_words.Goals as goal

pub returns : goal.returns
returns c =
    let some : 0 < length c.args.bytes.now = search rules in
    let top = c.highest-top in
    let bytes = c.args.bytes.now in
    rw (
      c.in_ok-push_lower.ensures,
      c.in_ok-push_digits.ensures,
      byte_digits bytes (λ i. (c.type_inv.bytes i).fits) c.requires top.result (top.ensures.within some),
    )
    (printed_some c.args.text.now _ _ (length bytes) top.result (omega (arith, c.requires)) (omega (arith, c.requires)) top.ensures.value)
