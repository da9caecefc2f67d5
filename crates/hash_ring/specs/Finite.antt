-- Finite maps from contents to pairs of a key and a value.
use Rattle.std.specs.Prelude.{ℕ, Bool, List, [], ◌∷◌, map, Option, Some, None, is_some, bytes_eq, if◌then◌else◌}
use Rattle.std.specs.List.{find}

-- a finite map: for each content the key that has it, and its value
abbrev pub Finite : (K V : Type 0) → Type 0
Finite K V = List ℕ → Option (K × V)

-- the empty map
abbrev pub empty : {K V : Type 0} → Finite K V
empty q = None

-- whether a map has a content
abbrev pub has : {K V : Type 0} → Finite K V → List ℕ → Bool
has m q = is_some (m q)

-- the key of a pair, or else this one
abbrev pub key_or : {K V : Type 0} → Option (K × V) → K → K
key_or None k = k
key_or (Some p) k = p.0

-- the value of a pair
abbrev pub value_of : {K V : Type 0} → Option (K × V) → Option V
value_of None = None
value_of (Some p) = Some p.1

-- A map with a pair inserted under a content. A key that the map has stays.
abbrev pub with_pair : {K V : Type 0} → Finite K V → List ℕ → K → V → Finite K V
with_pair m content k v q = if bytes_eq q content then Some (key_or (m content) k, v) else m q

-- a map without a content
abbrev pub without : {K V : Type 0} → Finite K V → List ℕ → Finite K V
without m content q = if bytes_eq q content then None else m q

-- The map of a list of pairs: each content has the first pair whose key has it.
abbrev pub first_of : {K V : Type 0} → (K → List ℕ) → List (K × V) → Finite K V
first_of content pairs q = find (λ p. bytes_eq (content p.0) q) pairs

-- A map with pairs inserted one after another: a later one replaces the value.
abbrev pub with_all : {K V : Type 0} → (K → List ℕ) → Finite K V → List (K × V) → Finite K V
with_all content m [] = m
with_all content m (p ∷ ps) = with_all content (with_pair m (content p.0) p.0 p.1) ps

-- no two pairs have the same content
abbrev pub AreOnce : {K V : Type 0} → (K → List ℕ) → List (K × V) → Type 0
AreOnce content pairs = Rattle.std.specs.List.IsDistinct bytes_eq (map (λ p. content p.0) pairs)
