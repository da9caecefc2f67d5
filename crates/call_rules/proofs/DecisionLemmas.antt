-- All bytes have a reading: of each line it is decided whether it is a call.
use Rattle.std.proofs.Common.{◌≡◌, ℕ, ◌+◌, ◌<◌, ◌^◌, Bool, true, false, List, [], ◌∷◌, ◌++◌, inl, inr, refl, ap, ◌∙◌, arith, Ok, Err}
use Rattle.std.specs.Prelude.{Result, ◌⊎◌, nat_eq, nat_lt}
use Rattle.std.specs.Bool.{Decides}
use Rattle.std.specs.List.{AllByRecursion}
use Rattle.std.specs.Cmp.Lexicographic.{pointwise, bytes_decides}
use Rattle.std.proofs.lemmas.Bool.Decides.{Decides-ltb, not_from_Decides}
use Rattle.line_parts.specs.Numbers.{IsByte, lines_of}
use Rattle.call_rules.specs.Grammar.{call_line, Fits, IsCall, AreCalls, IsFirstRefused, CallsOf}
use Rattle.call_rules.specs.declared.calls.Call.{Call}
use Rattle.call_rules.specs.declared.calls.Call.TheVariants.{Alloc, Grow, Shrink, Dealloc, Write, Read, Mark, Back}
use Rattle.line_parts.proofs.DecisionLemmas.{Decided, turned, three, four, both, below, are_bytes, same}
use Rattle.call_rules.proofs.ReadingLemmas.{read_call, read_call_back}

fits : (call : Call) → Decided (Fits call)
fits (Alloc name size align fill) = four (below name (2 ^ 32)) (below size (2 ^ 64)) (below align (2 ^ 64)) (below fill (2 ^ 8))
fits (Grow name size align fill) = four (below name (2 ^ 32)) (below size (2 ^ 64)) (below align (2 ^ 64)) (below fill (2 ^ 8))
fits (Shrink name size align) = three (below name (2 ^ 32)) (below size (2 ^ 64)) (below align (2 ^ 64))
fits (Dealloc name) = below name (2 ^ 32)
fits (Write name at bytes) = three (below name (2 ^ 32)) (below at (2 ^ 64)) (are_bytes bytes)
fits (Read name) = below name (2 ^ 32)
fits (Mark name) = below name (2 ^ 32)
fits (Back name) = below name (2 ^ 32)
fits _ = inl tt

-- a line is a call, or none is
decided_call : (line : List ℕ) → Decided ((call : Call) × IsCall line call)
decided_call line =
    let read = read_call (line ++ 10 ∷ []) in
    turned (λ h. (read, record { fits = h.0; text = h.1 }))
    (λ h. let same : read ≡ h.0 = ap (λ text. read_call (text ++ 10 ∷ [])) h.1.text ∙ read_call_back h.0 h.1.fits in
    (rw same h.1.fits, rw same h.1.text)) (both (fits read) (same line (call_line read)))

abbrev IsRead : List (List ℕ) → Type 0
IsRead lines = ((calls : List Call) × AreCalls lines calls) ⊎ ((n : ℕ) × IsFirstRefused lines n)

-- a line that isn't refused, in front of other lines
behind_good : (line : List ℕ) (lines : List (List ℕ))
    → ((calls : List Call) (before : List (List ℕ)) → AreCalls before calls → (more : List Call) × AreCalls (line ∷ before) more)
    → IsRead lines → IsRead (line ∷ lines)
behind_good line lines good (inl read) = inl (good read.0 lines read.1)
behind_good line lines good (inr refused) =
    let r = refused.1 in
    let front = good r.calls r.before r.good in
    inr (
      refused.0 + 1,
      record {
        before = line ∷ r.before;
        calls = front.0;
        line = r.line;
        after = r.after;
        all = ap (λ ls. line ∷ ls) r.all;
        number = omega (arith, r.number);
        good = front.1;
        bad = r.bad;
      },
    )

read_lines : (lines : List (List ℕ)) → IsRead lines
read_lines [] = inl ([], tt)
read_lines ([] ∷ lines) = behind_good [] lines (λ calls before are. (calls, are)) (read_lines lines)
read_lines ((b ∷ line) ∷ lines) = elim (decided_call (b ∷ line)) [
  | inl first ↦ behind_good (b ∷ line) lines (λ calls before are. (first.0 ∷ calls, (first.1, are))) (read_lines lines)
  | inr none ↦ inr (
    1,
    record {
      before = [];
      calls = [];
      line = b ∷ line;
      after = lines;
      all = refl;
      number = refl;
      good = tt;
      bad = record { some = λ e. cc; none = λ call is. none (call, is) };
    },
  )
]

pub some_reading : (bytes : List ℕ) → (r : Result (List Call) ℕ) × CallsOf bytes r
some_reading bytes = elim (read_lines (lines_of bytes)) [ inl read ↦ (Ok read.0, read.1) | inr refused ↦ (Err refused.0, refused.1) ]
