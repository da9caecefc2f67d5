-- The calls of a generator.
use Rattle.std.proofs.Common.{◌≡◌, ℕ, zero, suc, ◌+◌, ◌/◌, ◌%◌, ◌^◌, ◌<◌, ◌≤◌, Bool, true, false, length, arith}
use Rattle.std.specs.Prelude.{nat_lt, ◌==◌, if◌then◌else◌, map}
use Rattle.std.specs.List.{AllByRecursion, range_with_len}
use Rattle.std.proofs.Math.Nat.{pow-le-pow_right}
use Rattle.std.proofs.lemmas.List.FromFn.{length-map-range_with_len}
use Rattle.call_rules.specs.Grammar.{Fits}
use Rattle.call_rules.specs.Generator.{call_at, call_of_kind, is_last_of_turn, align_in, seed_before, gen_calls, kind_in, name_in, drawn, next_seed}
use Rattle.call_rules.specs.declared.calls.Call.{Call}

either_fits : (test : Bool) (a b : Call) → Fits a → Fits b → Fits (if test then a else b)
either_fits true a b p q = p
either_fits false a b p q = q

kind_fits : (kind name q : ℕ) → name < 2 ^ 32 → Fits (call_of_kind kind name q)
kind_fits kind name q named =
    let small : q / 512 % 5 ≤ 4 = omega arith in
    let most : align_in q ≤ 2 ^ 4 = pow-le-pow_right (omega arith) small in
    let align : align_in q < 2 ^ 64 = omega arith in
    let size : q % 512 < 2 ^ 64 = omega arith in
    let fill : q / 4096 % 256 < 2 ^ 8 = omega arith in
    let byte : q / 512 % 256 < 2 ^ 8 = omega arith in
    either_fits (nat_lt kind 3) _ _ (named, size, align, fill)
    (either_fits (kind == 3) _ _ (named, size, align, fill)
    (either_fits (kind == 4) _ _ (named, size, align)
    (either_fits (kind == 5) _ _ named
    (either_fits (kind == 6) _ _ (named, size, (byte, tt)) named))))

call_fits : (i seed : ℕ) → Fits (call_at i seed)
call_fits i seed =
    either_fits (is_last_of_turn i) _ _ tt
    (kind_fits (kind_in (drawn seed)) (name_in (drawn seed)) (drawn (next_seed seed)) (omega arith))

pub fit_from : (start i n : ℕ) → AllByRecursion Fits (map (λ j. call_at j (seed_before start j)) (range_with_len i n))
fit_from start i zero = tt
fit_from start i (suc n) = (call_fits i (seed_before start i), fit_from start (i + 1) n)

pub generated_count : (start count : ℕ) → length (gen_calls start count) ≡ count
generated_count start count = length-map-range_with_len (λ i. call_at i (seed_before start i)) 0 count
