-- Objects of the program as those of the definitions.
use Rattle.std.specs.Prelude.{◌≡◌, ℕ, List, [], zero, suc}
use Rattle.std.specs.Coded.{Coded, code_by, coded×, coded_ℕ, coded_list}
use base.Stored.{coded_unit}
use Rattle.script_rules.specs.Objects.{Object, AList, AText, ASet, AMap, AValue, Bits, Entries}
use Rattle.plain_scripts.specs.declared.object.Kind.{Kind}
use Rattle.plain_scripts.specs.declared.object.Kind.TheVariants as kind
use mathlib.Core.Path.{refl}

abbrev pub object_of : Kind → Object
object_of (kind.List items) = AList items.items
object_of (kind.Text bytes) = AText bytes
object_of (kind.Bits capacity bits) = ASet capacity bits
object_of (kind.Map pairs) = AMap pairs
object_of (kind.Value value) = AValue value

-- which kind, a number, numbers, bits and pairs
abbrev pub Parts : Type 0
Parts = ℕ × (ℕ × (List ℕ × (Bits × Entries ℕ)))

abbrev pub parts : Object → Parts
parts (AList items) = (0, (0, (items, ([], []))))
parts (AText bytes) = (1, (0, (bytes, ([], []))))
parts (ASet capacity bits) = (2, (capacity, ([], (bits, []))))
parts (AMap pairs) = (3, (0, ([], ([], pairs))))
parts (AValue value) = (4, (value, ([], ([], []))))

abbrev pub of_parts : ℕ → Parts → Object
of_parts zero p = AList p.1.1.0
of_parts (suc zero) p = AText p.1.1.0
of_parts (suc (suc zero)) p = ASet p.1.0 p.1.1.1.0
of_parts (suc (suc (suc zero))) p = AMap p.1.1.1.1
of_parts (suc (suc (suc (suc n)))) p = AValue p.1.0

pub back : (o : Object) → of_parts (parts o).0 (parts o) ≡ o
back (AList items) = refl
back (AText bytes) = refl
back (ASet capacity bits) = refl
back (AMap pairs) = refl
back (AValue value) = refl

abbrev pub object_code : Coded Object
object_code = code_by Parts
    (coded× coded_ℕ (coded× coded_ℕ
    (coded× (coded_list coded_ℕ) (coded× (coded_list (coded× coded_ℕ coded_unit)) (coded_list (coded× coded_ℕ coded_ℕ))))))
    parts (λ p. of_parts p.0 p) back
