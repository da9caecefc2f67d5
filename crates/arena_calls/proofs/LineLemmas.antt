-- Lines of calls, one after another.
use Rattle.std.proofs.Common.{◌≡◌, ◌≢◌, ℕ, true, false, List, [], ◌∷◌, ◌++◌, length, Option, Some, refl, sym, ap, ◌∙◌, subst, arith, length-append}
use Rattle.std.specs.Prelude.{IfSome}
use Rattle.line_parts.specs.Numbers.{lines_of, fields, hex}
use Rattle.call_rules.specs.Grammar.{Fits, AreCalls, IsCall, IsFirstRefused, call_line}
use Rattle.call_rules.specs.declared.calls.Call.{Call}
use Rattle.call_rules.specs.declared.calls.Call.TheVariants.{Alloc, Grow, Shrink, Dealloc, Write, Read, Mark, Back}
use Rattle.line_parts.specs.Reads.{ReadsFront}
use Rattle.line_parts.specs.Lines.{is_line_end, lines_behind, TakesLine, RefusesLine}
use Rattle.line_parts.proofs.LineLemmas.{has_feed, plain, plain_fields, plain_hex, ended, first_line, no_line}

-- ---- A call has no line feed

plain_call : (call : Call) → has_feed (call_line call) ≡ false
plain_call (Alloc name size align fill) = plain_fields (name ∷ size ∷ align ∷ fill ∷ [])
plain_call (Grow name size align fill) = plain_fields (name ∷ size ∷ align ∷ fill ∷ [])
plain_call (Shrink name size align) = plain_fields (name ∷ size ∷ align ∷ [])
plain_call (Dealloc name) = plain_fields (name ∷ [])
plain_call (Write name at bytes) = plain (fields (name ∷ at ∷ [])) (32 ∷ hex bytes) (plain_fields (name ∷ at ∷ [])) (plain_hex bytes)
plain_call (Read name) = plain_fields (name ∷ [])
plain_call (Mark name) = plain_fields (name ∷ [])
plain_call (Back name) = plain_fields (name ∷ [])
plain_call call = refl

-- ---- The first line

pub takes_empty : (bytes : List ℕ) (calls : List Call) → true ≡ is_line_end bytes → TakesLine AreCalls bytes bytes calls calls
takes_empty bytes calls e = record {
  line = [];
  first = ended [] bytes refl (sym e);
  shorter = omega arith;
  adds = λ lines are. adds lines calls are;
}
  where
    adds : (lines : List (List ℕ)) (old : List Call) → AreCalls lines old → AreCalls (lines ++ [] ∷ []) old
    adds [] [] are = tt
    adds [] (call ∷ old) are = are
    adds ([] ∷ lines) old are = adds lines old are
    adds ((b ∷ line) ∷ lines) [] are = absurd are
    adds ((b ∷ line) ∷ lines) (call ∷ old) are = (are.0, adds lines old are.1)

add_call : (line : List ℕ) (call : Call) → line ≢ [] → IsCall line call → (lines : List (List ℕ)) (old : List Call) → AreCalls lines old
    → AreCalls (lines ++ line ∷ []) (old ++ call ∷ [])
add_call [] call some is [] old are = absurd (some refl)
add_call (b ∷ line) call some is [] [] are = (is, tt)
add_call (b ∷ line) call some is [] (c ∷ old) are = absurd are
add_call line call some is ([] ∷ lines) old are = add_call line call some is lines old are
add_call line call some is ((b ∷ l) ∷ lines) [] are = absurd are
add_call line call some is ((b ∷ l) ∷ lines) (c ∷ old) are = (are.0, add_call line call some is lines old are.1)

-- a call's line isn't empty
some_line : (call : Call) → call_line call ≢ []
some_line (Alloc name size align fill) e = cc
some_line call e = cc

pub takes_call : (bytes behind : List ℕ) (call : Call) (old new : List Call) → ReadsFront Fits call_line bytes (Some (call, behind))
    → true ≡ is_line_end behind → new ≡ old ++ call ∷ [] → TakesLine AreCalls bytes behind old new
takes_call bytes behind call old new read e pushed =
    let line = call_line call in
    record {
      line = line;
      first = ap lines_of read.found.1 ∙ ended line behind (plain_call call) (sym e);
      shorter = omega (arith, ap length read.found.1, length-append line behind);
      adds = λ lines are. subst (AreCalls (lines ++ line ∷ [])) (sym pushed)
          (add_call line call (some_line call) (record { fits = read.found.0; text = refl }) lines old are);
    }

-- nothing was read of the first line, or less than the line
pub refuses : (bytes : List ℕ) (calls : List Call) (read : Option (Call × List ℕ)) → false ≡ is_line_end bytes
    → ReadsFront Fits call_line bytes read → IfSome read (λ x. false ≡ is_line_end x.1) → RefusesLine AreCalls IsFirstRefused bytes calls
refuses bytes calls read some h more = λ before are.
    let s = first_line bytes in
    record {
      before = before;
      calls = calls;
      line = s.line;
      after = lines_behind s.rest;
      all = ap (λ ls. before ++ ls) (ap lines_of s.all ∙ ended s.line s.rest s.plain_line s.ends);
      number = refl;
      good = are;
      bad = record {
        some = λ e. let all : bytes ≡ s.rest = s.all ∙ ap (λ xs. xs ++ s.rest) e in let ends : is_line_end bytes ≡ true = ap is_line_end all
            ∙ s.ends in cc;
        none = λ call is. no_line Fits call_line bytes read h more call s.rest is.fits s.ends
            (s.all ∙ ap (λ xs. xs ++ s.rest) is.text);
      };
    }
