-- Reads and writes one after another.
use Rattle.std.proofs.Common.{◌≡◌, ℕ, ◌+◌, ◌-◌, ◌≤◌, List, ◌++◌, length, take, drop, Option, Some, None, sym, ap, ◌∙◌, subst, arith, append_assoc, length-append, length-take, Ok, Err, inl, inr}
use Rattle.std.specs.Prelude.{Result, OnOk, OnErr, ◌⊎◌}
use Rattle.std.proofs.lemmas.List.{take_rest, take-append-le}
use Rattle.std.proofs.Math.Seq.{take-add, take-append-add}
use Rattle.arena_calls.specs.Streams.{Takes, Writes, WritesPart}
use Rattle.arena_calls.specs.ReadAll.{TakesAll, limit}
use Rattle.arena_calls.specs.declared.streams.all.ReadErr.TheVariants.{TooLong}

pub writes_more : (old mid new : Option (List ℕ)) (bytes : List ℕ) (at n : ℕ) → Writes old mid (take at bytes)
    → Writes mid new (take n (take (length bytes - at) (drop at bytes))) → Writes old new (take (at + n) bytes)
writes_more None mid new bytes at n p q = tt
writes_more (Some a) None new bytes at n p q = absurd p
writes_more (Some a) (Some b) None bytes at n p q = absurd q
writes_more (Some a) (Some b) (Some d) bytes at n p q =
    let more = take n (take (length bytes - at) (drop at bytes)) in
    q ∙ ap (λ xs. xs ++ more) p ∙ append_assoc a (take at bytes) more
    ∙ ap (λ xs. a ++ (take at bytes ++ take n xs)) (take_rest bytes at) ∙ ap (λ xs. a ++ xs) (sym (take-add at n bytes))

pub takes_more : (old mid new : Option (List ℕ)) (before bytes : List ℕ) → Takes old mid before → Takes mid new bytes
    → Takes old new (before ++ bytes)
takes_more None mid new before bytes p q = tt
takes_more (Some a) None new before bytes p q = absurd p
takes_more (Some a) (Some b) None before bytes p q = absurd q
takes_more (Some a) (Some b) (Some d) before bytes p q = p ∙ ap (λ xs. before ++ xs) q ∙ sym (append_assoc before bytes d)

-- one byte past the limit was taken
pub too_long : (old mid new : Option (List ℕ)) (before buffer : List ℕ) (count : ℕ) → Takes old mid before
    → Takes mid new (take count buffer) → count ≤ length buffer → length before + count ≡ limit + 1 → TakesAll old new (Err TooLong)
too_long old mid new before buffer count p q within long = at old new (takes_more old mid new before (take count buffer) p q)
  where
    at : (o n : Option (List ℕ)) → Takes o n (before ++ take count buffer) → TakesAll o n (Err TooLong)
    at None n t = tt
    at (Some a) None t = absurd t
    at (Some a) (Some d) t = (
      before ++ take count buffer,
      t,
      omega (arith, length-append before (take count buffer), length-take count buffer),
    )

-- ---- One text after another

pub writes_both : (old mid new : Option (List ℕ)) (xs ys : List ℕ) → Writes old mid xs → Writes mid new ys → Writes old new (xs ++ ys)
writes_both None mid new xs ys p q = tt
writes_both (Some a) None new xs ys p q = absurd p
writes_both (Some a) (Some b) None xs ys p q = absurd q
writes_both (Some a) (Some b) (Some d) xs ys p q = q ∙ ap (λ zs. zs ++ ys) p ∙ append_assoc a xs ys

pub part_of_first : (old new : Option (List ℕ)) (xs ys : List ℕ) → WritesPart old new xs → WritesPart old new (xs ++ ys)
part_of_first old new xs ys p = record {
  count = p.count;
  less = omega (arith, p.less, length-append xs ys);
  front = subst (Writes old new) (sym (take-append-le p.count xs ys (omega (arith, p.less)))) p.front;
}

pub part_of_second : (old mid new : Option (List ℕ)) (xs ys : List ℕ) → Writes old mid xs → WritesPart mid new ys
    → WritesPart old new (xs ++ ys)
part_of_second old mid new xs ys first p = record {
  count = length xs + p.count;
  less = omega (arith, p.less, length-append xs ys);
  front = subst (Writes old new) (sym (take-append-add xs ys p.count)) (writes_both old mid new xs (take p.count ys) first p.front);
}

pub on_err : {A E P : Type 0} (r : Result A E) → P → OnErr r P
on_err (Ok a) p = tt
on_err (Err e) p = p

-- it was written, or a first part of it
pub in_either : {X E A B C D : Type 0} (r : Result X E) → OnOk r A → OnErr r B → OnOk r C → OnErr r D → (A × C) ⊎ (B × D)
in_either (Ok x) a b c d = inl (a, c)
in_either (Err e) a b c d = inr (b, d)
