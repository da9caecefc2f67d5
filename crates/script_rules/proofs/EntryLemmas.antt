-- Entries by rising keys: what holds of each, and sums over them.
use Rattle.std.proofs.Common.{◌≡◌, ℕ, ◌+◌, ◌-◌, ◌<◌, ◌≤◌, refl, sym, ap, ◌∙◌, subst, arith, Bool, true, false, cond, not, T, ◌&&◌, is_some, IsTrue, Some, None, Option, List, [], ◌∷◌, length, Less, Equal, Greater, nat_cmp, is_lt, is_eq}
use Rattle.std.specs.Prelude.{nat_lt, IfSome, if◌then◌else◌}
use Rattle.std.specs.Ordering.{eq_by_cmp}
use Rattle.std.specs.Cmp.{nat_cmp_total}
use Rattle.std.specs.List.{AllByRecursion, filter}
use Rattle.std.specs.Option.{option_map_or}
use Rattle.std.specs.FinMap.{put, is_sorted, nat_cmp-IsAntisymmetric}
use Rattle.std.specs.FinMap.Entries.{by_order, below_all, is_sorted-put, is_sorted-where_key, length-put}
use Rattle.std.proofs.lemmas.Bool.Decides.{nat_tests}
use Rattle.script_rules.specs.Objects.{Entries, total, get, bind, unbind, are_rising, Bits, united, Object, Objects, need_of, need}

pub of_T : (b : Bool) → T b → IsTrue b
of_T b h = grind (arith, nat_tests)

pub to_T : (b : Bool) → IsTrue b → T b
to_T b h = subst T (sym h) tt

pub all_filter : {X : Type 0} (P : X → Type 0) (p : X → Bool) (xs : List X) → AllByRecursion P xs → AllByRecursion P (filter p xs)
all_filter P p [] all = tt
all_filter P p (x ∷ xs) all = elim (p x) as (λ b. AllByRecursion P (cond b (x ∷ filter p xs) (filter p xs))) [
  | true ↦ (all.0, all_filter P p xs all.1)
  | false ↦ all_filter P p xs all.1
]

pub length_filter : {X : Type 0} (p : X → Bool) (xs : List X) → length (filter p xs) ≤ length xs
length_filter p [] = omega arith
length_filter p (x ∷ xs) = elim (p x) as (λ b. length (cond b (x ∷ filter p xs) (filter p xs)) ≤ length (x ∷ xs)) [
  | true ↦ omega (arith, length_filter p xs)
  | false ↦ omega (arith, length_filter p xs)
]

pub all_bind : {X : Type 0} (P : ℕ × X → Type 0) (es : Entries X) (k : ℕ) (v : X) → P (k, v) → AllByRecursion P es
    → AllByRecursion P (bind es k v)
all_bind P [] k v p all = (p, tt)
all_bind {X} P (e ∷ es) k v p all =
    elim (nat_cmp k e.0) as (λ r. nat_cmp k e.0 ≡ r
    → AllByRecursion P (by_order r ((k, v) ∷ e ∷ es) ((e.0, v) ∷ es) (e ∷ put nat_cmp k v es))) [
      | Less ↦ λ c. (p, all)
      | Equal ↦ λ c. (subst (λ x. P (x, v)) (nat_cmp-IsAntisymmetric k e.0 c) p, all.1)
      | Greater ↦ λ c. (all.0, all_bind P es k v p all.1)
    ] refl

pub rising_bind : {X : Type 0} (es : Entries X) (k : ℕ) (v : X) → IsTrue (are_rising es) → IsTrue (are_rising (bind es k v))
rising_bind es k v h = of_T _ (is_sorted-put nat_cmp nat_cmp_total k v es (to_T _ h))

pub rising_unbind : {X : Type 0} (es : Entries X) (k : ℕ) → IsTrue (are_rising es) → IsTrue (are_rising (unbind es k))
rising_unbind es k h = of_T _ (is_sorted-where_key nat_cmp (λ x. not (eq_by_cmp nat_cmp k x)) es (to_T _ h))

pub length_bind : {X : Type 0} (es : Entries X) (k : ℕ) (v : X) → IsTrue (are_rising es)
    → length (bind es k v) ≡ cond (is_some (get es k)) (length es) (length es + 1)
length_bind es k v h = length-put nat_cmp nat_cmp_total k v es (to_T _ h)

-- what is found is one of the entries
pub get_among : {X : Type 0} (P : X → Type 0) (es : Entries X) (k : ℕ) (x : X) → AllByRecursion (λ (e : ℕ × X). P e.1) es
    → get es k ≡ Some x → P x
get_among P [] k x all found = absurd (subst (λ o. T (not (is_some o))) found tt)
get_among P (e ∷ es) k x all found =
    elim (eq_by_cmp nat_cmp k e.0) as (λ b. cond b (Some e.1) (get es k) ≡ Some x → P x) [
      | true ↦ λ f. subst (λ o. IfSome o P) f all.0
      | false ↦ λ f. get_among P es k x all.1 f
    ] found

pub all_united : (P : ℕ × Unit {0} → Type 0) (end : ℕ) (bits more : Bits) → AllByRecursion P bits → ((bit : ℕ) → bit < end → P (bit, tt))
    → AllByRecursion P (united end bits more)
all_united P end bits [] all below = all
all_united P end bits (e ∷ more) all below = all_united P end (if nat_lt e.0 end then bind bits e.0 tt else bits) more
    (elim (nat_lt e.0 end) as (λ b. nat_lt e.0 end ≡ b → AllByRecursion P (if b then bind bits e.0 tt else bits)) [
      | true ↦ λ t. all_bind P bits e.0 tt (below e.0 (grind (arith, nat_tests))) all
      | false ↦ λ t. all
    ] refl) below

pub rising_united : (end : ℕ) (bits more : Bits) → IsTrue (are_rising bits) → IsTrue (are_rising (united end bits more))
rising_united end bits [] h = h
rising_united end bits (e ∷ more) h = rising_united end (if nat_lt e.0 end then bind bits e.0 tt else bits) more
    (elim (nat_lt e.0 end) as (λ b. IsTrue (are_rising (if b then bind bits e.0 tt else bits))) [
      | true ↦
          rising_bind bits e.0 tt h
      | false ↦ h
    ])

-- ---- What objects need

-- what the object of a name needs, if there is one
abbrev pub need_held : Option Object → ℕ
need_held o = option_map_or need_of o 0

pub both_true : (a b : Bool) → IsTrue (a && b) → IsTrue a × IsTrue b
both_true a b h = grind (arith, nat_tests)

-- a key below all others is not found
pub none_below : {X : Type 0} (k m : ℕ) (es : Entries X) → k ≤ m → IsTrue (below_all nat_cmp m es) → get es k ≡ None
none_below k m [] h all = refl
none_below k m (e ∷ es) h all =
    let both = both_true (is_lt (nat_cmp m e.0)) (below_all nat_cmp m es) all in
    let later : m < e.0 = later_of m e.0 both.0 in
    let test : eq_by_cmp nat_cmp k e.0 ≡ false = apart k e.0 (omega arith) in
    ap (λ b. cond b (Some e.1) (get es k)) test ∙ none_below k m es h both.1
  where
    later_of : (x y : ℕ) → IsTrue (is_lt (nat_cmp x y)) → x < y
    later_of x y t = grind (arith, nat_tests)

    apart : (x y : ℕ) → x < y → eq_by_cmp nat_cmp x y ≡ false
    apart x y l = grind (arith, nat_tests)

-- removing a key removes one entry, where the key was among them
pub length_unbind : {X : Type 0} (es : Entries X) (k : ℕ) → IsTrue (are_rising es)
    → length (unbind es k) ≡ cond (is_some (get es k)) (length es - 1) (length es)
length_unbind {X} es k h =
    elim (is_some (get es k)) as (λ b. is_some (get es k) ≡ b → length (unbind es k) ≡ cond b (length es - 1) (length es)) [
      | true ↦ λ t. omega (arith, rw t at (with_gone es h))
      | false ↦ λ t. omega (arith, rw t at (with_gone es h))
    ] refl
  where
    same_key : (x y : ℕ) → eq_by_cmp nat_cmp x y ≡ true → x ≡ y
    same_key x y t = grind (arith, nat_tests)

    with_gone : (fs : Entries X) → IsTrue (are_rising fs) → length (unbind fs k) + cond (is_some (get fs k)) 1 0 ≡ length fs
    with_gone [] rises = refl
    with_gone (e ∷ fs) rises =
        let both = both_true (below_all nat_cmp e.0 fs) (is_sorted nat_cmp fs) rises in
        let rest = with_gone fs both.1 in
        elim (eq_by_cmp nat_cmp k e.0) as (λ b. eq_by_cmp nat_cmp k e.0 ≡ b
        → length (cond (not b) (e ∷ unbind fs k) (unbind fs k)) + cond (is_some (cond b (Some e.1) (get fs k))) 1 0 ≡ length (e ∷ fs)) [
          | true ↦ λ t.
              let none : get fs k ≡ None = none_below k e.0 fs (omega (arith, same_key k e.0 t)) both.0 in
              let gone : length (unbind fs k) + 0 ≡ length fs = rw none at rest in omega arith
          | false ↦ λ t. omega arith
        ] refl

-- the total weight of entries, by their values
abbrev weight : {X : Type 0} → (X → ℕ) → Entries X → ℕ
weight {X} w es = total (λ (e : ℕ × X). w e.1) es

-- the value of a key weighs no more than all
pub total_get : {X : Type 0} (w : X → ℕ) (es : Entries X) (k : ℕ) → option_map_or w (get es k) 0 ≤ weight w es
total_get w [] k = omega arith
total_get w (e ∷ es) k =
    elim (eq_by_cmp nat_cmp k e.0) as (λ b. option_map_or w (cond b (Some e.1) (get es k)) 0 ≤ weight w (e ∷ es)) [
      | true ↦ omega arith
      | false ↦ omega (arith, total_get w es k)
    ]

-- the weight of a key's new value replaces that of the old one
pub total_bind : {X : Type 0} (w : X → ℕ) (es : Entries X) (k : ℕ) (v : X) → IsTrue (are_rising es)
    → weight w (bind es k v) + option_map_or w (get es k) 0 ≡ weight w es + w v
total_bind w [] k v h = omega arith
total_bind {X} w (e ∷ es) k v h =
    let parts = both_true (below_all nat_cmp e.0 es) (is_sorted nat_cmp es) h in
    elim (nat_cmp k e.0) as (λ r. nat_cmp k e.0 ≡ r
    → weight w (by_order r ((k, v) ∷ e ∷ es) ((e.0, v) ∷ es) (e ∷ put nat_cmp k v es)) + option_map_or w
    (cond (is_eq r) (Some e.1) (get es k)) 0 ≡ weight w (e ∷ es) + w v) [
      | Less ↦ λ c.
          let none : option_map_or w (get es k) 0
          ≡ 0 = ap (λ (o : Option X). option_map_or w o 0) (none_below k e.0 es (omega (arith, sooner k e.0 c)) parts.0) in
          omega (arith, none)
      | Equal ↦ λ c. omega arith
      | Greater ↦ λ c. omega (arith, total_bind w es k v parts.1)
    ] refl
  where
    sooner : (x y : ℕ) → nat_cmp x y ≡ Less → x < y
    sooner x y c = let t : IsTrue (is_lt (nat_cmp x y)) = ap is_lt c in grind (arith, nat_tests)

-- removing a key doesn't add weight
pub total_unbind : {X : Type 0} (w : X → ℕ) (es : Entries X) (k : ℕ) → weight w (unbind es k) ≤ weight w es
total_unbind w [] k = omega arith
total_unbind w (e ∷ es) k =
    elim (not (eq_by_cmp nat_cmp k e.0)) as (λ b. weight w (cond b (e ∷ unbind es k) (unbind es k)) ≤ weight w (e ∷ es)) [
      | true ↦ omega (arith, total_unbind w es k)
      | false ↦ omega (arith, total_unbind w es k)
    ]

pub need_bind : (objects : Objects) (k : ℕ) (o : Object) → IsTrue (are_rising objects)
    → need (bind objects k o) + need_held (get objects k) ≡ need objects + need_of o
need_bind objects k o h = total_bind need_of objects k o h

pub need_unbind : (objects : Objects) (k : ℕ) → need (unbind objects k) ≤ need objects
need_unbind objects k = total_unbind need_of objects k
