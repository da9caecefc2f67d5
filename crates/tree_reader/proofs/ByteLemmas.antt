-- Runs of bytes, and the numbers that digits spell.
use Rattle.std.proofs.Common.{◌≡◌, ◌≢◌, ℕ, zero, suc, ◌+◌, ◌-◌, ◌*◌, ◌^◌, ◌<◌, ◌≤◌, Bool, true, false, List, [], ◌∷◌, length, take, drop, get_or, cond, refl, sym, ap, ◌∙◌, subst, arith, codes, add-one, drop-drop, inl, inr}
use Rattle.std.proofs.Math.Seq.{drop-cons}
use Rattle.std.proofs.Math.ListN.{drop_of_length-le}
use Rattle.std.specs.Prelude.{slice_range, bytes_eq}
use Rattle.std.proofs.lemmas.Bool.{false_from_ne_true}
use Rattle.std.proofs.lemmas.Slice.Eq.{bytes_eq-Decides}
use Rattle.tree_rules.specs.Tokens.{Token, is_space, is_digit, is_name_start, is_name_byte, run, word, value, has_needless_zero, number_token, sign, Number, Word, LetKey, Other, Front, word_front, number_front, sign_front, front, Placed, placed, tokens_from}
use Rattle.tree_reader.specs.declared.token.Seen.{Seen}
use Rattle.tree_reader.specs.Seen.{IsSeen, IsBegin, IsNext, IsFront, IsUnsigned, BeginsUnsigned, tokens_at}
use Rattle.tree_reader.specs.declared.token.Lexeme.{Lexeme}

pub not_three : (xs : List ℕ) → length xs ≢ 3 → bytes_eq xs (codes "let") ≡ false
not_three xs other = false_from_ne_true _ (λ t. other (ap length ((bytes_eq-Decides xs (codes "let")).0 t)))

value_grows : (n : ℕ) (ds : List ℕ) → n ≤ value n ds
value_grows n [] = omega arith
value_grows n (d ∷ ds) = omega (arith, value_grows (n * 10 + (d - 48)) ds)

pub value_over : (n i v : ℕ) (ds : List ℕ) → i < length ds → value n (drop i ds) ≡ v → 2 ^ 64 ≤ n * 10 + (get_or ds i 0 - 48) → 2 ^ 64 ≤ v
value_over n i v ds h is over =
    let next = n * 10 + (get_or ds i 0 - 48) in
    let e : value next (drop (suc i) ds) ≡ v = ap (value n) (sym (drop-cons ds i 0 h)) ∙ is in
    omega (arith, value_grows next (drop (suc i) ds))

-- ---- Tokens from a byte on

run_take : (passes : ℕ → Bool) (xs : List ℕ) → take (length (run passes xs)) xs ≡ run passes xs
run_take passes [] = refl
run_take passes (x ∷ xs) =
    elim (passes x) as (λ b. take (length (cond b (x ∷ run passes xs) [])) (x ∷ xs) ≡ cond b (x ∷ run passes xs) []) [
      | true ↦ ap (λ ys. x ∷ ys) (run_take passes xs)
      | false ↦ refl
    ]

-- the part of a text that a run takes
run_part : (passes : ℕ → Bool) (xs : List ℕ) (at : ℕ) → slice_range xs at (at + length (run passes (drop at xs))) ≡ run passes (drop at xs)
run_part passes xs at =
    let n = length (run passes (drop at xs)) in
    let same : at + n - at ≡ n = omega arith in
    ap (λ k. take k (drop at xs)) same ∙ run_take passes (drop at xs)

-- a run that begins has a byte
run_some : (passes : ℕ → Bool) (x : ℕ) (xs : List ℕ) → passes x ≡ true → 0 < length (run passes (x ∷ xs))
run_some passes x xs h = rw h (omega arith)

tokens_skip : (at skip : ℕ) (bytes : List ℕ) → tokens_from at skip bytes ≡ tokens_from (at + skip) 0 (drop skip bytes)
unfolding tokens_from
tokens_skip at zero bytes = let e : at + 0 ≡ at = omega arith in ap (λ k. tokens_from k 0 bytes) (sym e)
tokens_skip at (suc skip) [] = refl
tokens_skip at (suc skip) (b ∷ bytes) =
    let e : suc at + skip ≡ at + suc skip = omega arith in
    tokens_skip (suc at) skip bytes ∙ ap (λ k. tokens_from k 0 (drop skip bytes)) e

tokens_space : (at b : ℕ) (bytes : List ℕ) → is_space b ≡ true → tokens_from at 0 (b ∷ bytes) ≡ tokens_from (suc at) 0 bytes
unfolding tokens_from
tokens_space at b bytes h = rw (h, tokens_from) refl

tokens_front : (at b : ℕ) (bytes : List ℕ) → is_space b ≡ false
    → tokens_from at 0 (b ∷ bytes) ≡ placed at (front b bytes) ∷ tokens_from (suc at) ((front b bytes).length - 1) bytes
unfolding tokens_from
tokens_front at b bytes h = rw (h, tokens_from) refl

-- one space further
pub space_further : (bytes : List ℕ) (at : ℕ) → at < length bytes → is_space (get_or bytes at 0) ≡ true
    → tokens_at bytes at ≡ tokens_at bytes (at + 1)
space_further bytes at h space =
    ap (tokens_from at 0) (drop-cons bytes at 0 h)
    ∙ tokens_space at (get_or bytes at 0) (drop (suc at) bytes) space
    ∙ ap (λ k. tokens_from k 0 (drop k bytes)) (sym (add-one at))

-- no token after the end
pub none_behind : (bytes : List ℕ) (at : ℕ) → length bytes ≤ at → tokens_at bytes at ≡ []
unfolding tokens_from
none_behind bytes at h = ap (tokens_from at 0) (drop_of_length-le bytes h)

abbrev pub front_of : List ℕ → ℕ → Front
front_of src at = front (get_or src at 0) (drop (suc at) src)

-- the first token is the front of the text there, and the others follow its end
front_tokens : (bytes : List ℕ) (from at end : ℕ) → IsBegin bytes from at → end ≡ at + (front_of bytes at).length
    → 0 < (front_of bytes at).length → tokens_at bytes from ≡ placed at (front_of bytes at) ∷ tokens_at bytes end
front_tokens bytes from at end begin is some =
    let b = get_or bytes at 0 in
    let rest = drop (suc at) bytes in
    let n = (front b rest).length in
    let one : suc at + (n - 1) ≡ end = omega (arith, is, some) in
    begin.same
    ∙ ap (tokens_from at 0) (drop-cons bytes at 0 begin.within)
    ∙ tokens_front at b rest begin.unspaced
    ∙ ap (λ ts. placed at (front b rest) ∷ ts)
    (tokens_skip (suc at) (n - 1) rest
    ∙ ap (λ xs. tokens_from (suc at + (n - 1)) 0 xs) (drop-drop (n - 1) (suc at) bytes)
    ∙ ap (λ k. tokens_from k 0 (drop k bytes)) one)

pub front_next : (bytes : List ℕ) (from at : ℕ) (l : Lexeme) → IsBegin bytes from at → IsFront bytes at (front_of bytes at) l
    → 0 < (front_of bytes at).length → l.end ≤ length bytes → IsNext bytes from l
front_next bytes from at l begin f some within =
    let token = (front_of bytes at).token in
    let at_is : placed at (front_of bytes at) ≡ record { at = l.at; token = token }
    = ap (λ k. placed k (front_of bytes at)) (sym f.at_is) in
    record {
      behind = omega (arith, f.at_is, begin.behind);
      some = omega (arith, f.at_is, f.end_is, some);
      within = within;
      token = token;
      seen = subst (λ k. IsSeen l.seen (slice_range bytes k l.end) token) (sym f.at_is) f.seen;
      tokens_are =
          front_tokens bytes from at l.end begin f.end_is some ∙ ap (λ (t : Placed). t ∷ tokens_at bytes l.end) at_is;
    }

-- ---- The front of a text

pub digits_at : (src : List ℕ) (at : ℕ) → at < length src → is_digit (get_or src at 0) ≡ true
    → front_of src at ≡ number_front (run is_digit (drop at src))
unfolding front
digits_at src at h d = rw (drop-cons src at 0 h, d) refl

pub word_at : (src : List ℕ) (at : ℕ) → at < length src → is_digit (get_or src at 0) ≡ false → is_name_start (get_or src at 0) ≡ true
    → front_of src at ≡ word_front (run is_name_byte (drop at src))
unfolding front
word_at src at h d s = rw (drop-cons src at 0 h, d, s) refl

sign_at : (src : List ℕ) (at : ℕ) → is_digit (get_or src at 0) ≡ false → is_name_start (get_or src at 0) ≡ false
    → front_of src at ≡ sign_front (get_or src at 0)
unfolding front
sign_at src at d s = rw (d, s) refl

run_begins : (passes : ℕ → Bool) (src : List ℕ) (at : ℕ) → at < length src → passes (get_or src at 0) ≡ true
    → 0 < length (run passes (drop at src))
run_begins passes src at h d =
    subst (λ xs. 0 < length (run passes xs)) (sym (drop-cons src at 0 h)) (run_some passes (get_or src at 0) (drop (suc at) src) d)

-- the front of a text is not empty
pub front_some : (src : List ℕ) (at : ℕ) → at < length src → 0 < (front_of src at).length
front_some src at h = by (is_digit (get_or src at 0)) refl (is_name_start (get_or src at 0)) refl
  where
    by : (d : Bool) → is_digit (get_or src at 0) ≡ d → (s : Bool) → is_name_start (get_or src at 0) ≡ s → 0 < (front_of src at).length
    by true d s start = rw (digits_at src at h d) (run_begins is_digit src at h d)
    by false d true start = rw (word_at src at h d start) (run_begins is_name_byte src at h (rw start refl))
    by false d false start = rw (sign_at src at d start) (omega arith)

-- a first token that begins neither a number nor a name, and one that begins a name
pub first_sign : (bytes : List ℕ) (from at : ℕ) → IsBegin bytes from at → is_digit (get_or bytes at 0) ≡ false
    → is_name_start (get_or bytes at 0) ≡ false
    → tokens_at bytes from ≡ record { at = at; token = sign (get_or bytes at 0) } ∷ tokens_at bytes (at + 1)
first_sign bytes from at begin d s =
    let is = sign_at bytes at d s in
    let one : (front_of bytes at).length ≡ 1 = ap (λ (f : Front). f.length) is in
    front_tokens bytes from at (at + 1) begin (omega (arith, one)) (omega (arith, one))
    ∙ ap (λ (f : Front). placed at f ∷ tokens_at bytes (at + 1)) is

pub first_word : (bytes : List ℕ) (from at end : ℕ) → IsBegin bytes from at → is_digit (get_or bytes at 0) ≡ false
    → is_name_start (get_or bytes at 0) ≡ true → end ≡ at + length (run is_name_byte (drop at bytes))
    → (tokens_at bytes from ≡ record { at = at; token = word (slice_range bytes at end) } ∷ tokens_at bytes end) × (at < end)
first_word bytes from at end begin d s is =
    let f = word_at bytes at begin.within d s in
    let some = front_some bytes at begin.within in
    let long : (front_of bytes at).length ≡ length (run is_name_byte (drop at bytes)) = ap (λ (f : Front). f.length) f in
    let part : slice_range bytes at end ≡ run is_name_byte (drop at bytes)
    = ap (slice_range bytes at) is ∙ run_part is_name_byte bytes at in (
      front_tokens bytes from at end begin (omega (arith, is, long)) some
          ∙ ap (λ (f : Front). placed at f ∷ tokens_at bytes end) f
          ∙ ap (λ xs. record { at = at; token = word xs } ∷ tokens_at bytes end) (sym part),
      omega (arith, is, long, some),
    )

-- what is seen of a run from a byte on
pub run_front : (src : List ℕ) (at end : ℕ) (passes : ℕ → Bool) (seen : Seen) (token : List ℕ → Token)
    → end ≡ at + length (run passes (drop at src)) → IsSeen seen (slice_range src at end) (token (slice_range src at end))
    → IsFront src at (record { token = token (run passes (drop at src)); length = length (run passes (drop at src)) })
    (record { seen = seen; at = at; end = end })
run_front src at end passes seen token is h = record {
  at_is = refl;
  end_is = is;
  seen = subst (λ xs. IsSeen seen (slice_range src at end) (token xs)) (ap (slice_range src at) is ∙ run_part passes src at) h;
}

one_byte : (src : List ℕ) (at : ℕ) → at < length src → slice_range src at (at + 1) ≡ get_or src at 0 ∷ []
one_byte src at h =
    let one : at + 1 - at ≡ 1 = omega arith in
    ap (λ k. take k (drop at src)) one ∙ ap (take 1) (drop-cons src at 0 h)

-- what is seen of a byte that begins neither a number nor a name
pub sign_seen : (src : List ℕ) (at : ℕ) (seen : Seen) → at < length src → is_digit (get_or src at 0) ≡ false
    → is_name_start (get_or src at 0) ≡ false → IsSeen seen (get_or src at 0 ∷ []) (sign (get_or src at 0))
    → IsFront src at (front_of src at) (record { seen = seen; at = at; end = at + 1 })
sign_seen src at seen h d s is = subst (λ (f : Front). IsFront src at f (record { seen = seen; at = at; end = at + 1 })) (sym (sign_at src
    at d s))
    (record {
      at_is = refl;
      end_is = refl;
      seen = subst (λ xs. IsSeen seen xs (sign (get_or src at 0))) (sym (one_byte src at h)) is;
    })

pub number_read : (digits : List ℕ) → has_needless_zero digits ≡ false → number_token digits ≡ Number (value 0 digits)
number_read digits h = rw h refl

-- a byte that is no sign begins no sign
unsigned_front : (b : ℕ) (bytes : List ℕ) → sign b ≡ Other → IsUnsigned (front b bytes).token
unfolding front
unsigned_front b bytes other = by (is_digit b) (is_name_start b)
  where
    number : (zero : Bool) (n : ℕ) → IsUnsigned (cond zero Other (Number n))
    number true n = inr (inr (inr refl))
    number false n = inl (n, refl)

    name : (is : Bool) (bytes : List ℕ) → IsUnsigned (cond is LetKey (Word bytes))
    name true bytes = inr (inr (inl refl))
    name false bytes = inr (inl (bytes, refl))

    by : (d s : Bool) → IsUnsigned (cond d (number_front (run is_digit (b ∷ bytes))) (cond s (word_front (run is_name_byte (b ∷ bytes)))
        (sign_front b))).token
    by true s = number (has_needless_zero (run is_digit (b ∷ bytes))) (value 0 (run is_digit (b ∷ bytes)))
    by false true = name (bytes_eq (run is_name_byte (b ∷ bytes)) (codes "let")) (run is_name_byte (b ∷ bytes))
    by false false = inr (inr (inr other))

pub begins_unsigned : (bytes : List ℕ) (at here : ℕ) → IsBegin bytes at here → sign (get_or bytes here 0) ≡ Other
    → BeginsUnsigned (tokens_at bytes at)
begins_unsigned bytes at here begin other =
    let b = get_or bytes here 0 in
    let rest = drop (suc here) bytes in
    subst BeginsUnsigned
    (sym (begin.same ∙ ap (tokens_from here 0) (drop-cons bytes here 0 begin.within) ∙ tokens_front here b rest begin.unspaced))
    (unsigned_front b rest other)
