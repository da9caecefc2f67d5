-- Marks, and what becomes of them as the state changes.
use Rattle.std.proofs.Common.{◌≡◌, ℕ, suc, ◌-◌, ◌<◌, ◌≤◌, arith, ap, refl, sym, ◌∙◌, subst, length, List, [], ◌∷◌, Some, Option, Bool, true, false, IsTrue}
use Rattle.std.specs.Prelude.{◌==◌, if◌then◌else◌}
use Rattle.std.specs.List.{remove}
use Rattle.std.proofs.lemmas.Option.{none-some, same_Some}
use Rattle.arena_rules.specs.State.{State, Chunk, top_of}
use Rattle.arena_rules.specs.Moves.{alloc, grow, growing, shrink, shrinking, dealloc}
use Rattle.arena_rules.specs.Back.{Point, first_chunks, accepts, back, KeepsMark}
use Rattle.call_rules.specs.Machine.{Held, Marks, mark_named, marks_to}
use Rattle.arena_rules.proofs.BackLemmas.{is_mark}
use Rattle.arena_rules.proofs.MarkLemmas.{alloc_keeps, resize_keeps, dealloc_keeps_mark, back_keeps}
use Rattle.plain_machine.specs.Answers.{leaves}
use Rattle.plain_machine.specs.Holding.{EndBelow, AreMarks}
use Rattle.plain_machine.proofs.HoldingLemmas.{end_later}

-- ---- The first of a list is removed

pub one_chunk_less : (n : ℕ) (chunks : List Chunk) → n < length chunks → first_chunks n (remove chunks 0) ≡ first_chunks n chunks
one_chunk_less n [] more = absurd (omega arith)
one_chunk_less n (newest ∷ older) more = let next : length (newest ∷ older) - n ≡ suc (length older - n) = omega arith in rw next refl

-- ---- The marks of a state

each_later : (old new : State) (n : ℕ) (marks : Marks) → ((mark : Point) → IsTrue (accepts mark old) → KeepsMark mark old new)
    → AreMarks old n marks → AreMarks new n marks
each_later old new n [] keeps are = tt
each_later old new n (m ∷ older) keeps are = (are.0, (keeps m.1 are.1).accepted, each_later old new m.1.chunks older keeps are.2)

within : (state : State) (n : ℕ) (marks : Marks) → AreMarks state n marks → AreMarks state (length state.chunks) marks
within state n [] are = tt
within state n (m ∷ older) are = ((is_mark m.1 state are.1).within, are.1, are.2)

-- What holds of the blocks and the marks of a machine holds after a call that keeps each mark, with its blocks in place.
both_later : (old new : State) (n : ℕ) (held : Held) (marks : Marks) → ((mark : Point) → IsTrue (accepts mark old) → KeepsMark mark old new)
    → top_of old.chunks ≤ top_of new.chunks → EndBelow (top_of old.chunks) held × AreMarks old n marks
    → EndBelow (top_of new.chunks) held × AreMarks new (length new.chunks) marks
both_later old new n held marks keeps later are =
    (end_later _ _ _ later are.0, within new n marks (each_later old new n marks keeps are.1))

module _ (old new : State) (n k : ℕ) (held : Held) (marks : Marks) {told : Option (Option ℕ)} {a : Option ℕ} (is : told ≡ Some a) where
  pub alloc_later : (size align : ℕ) → leaves new told ≡ alloc old size align k → top_of old.chunks ≤ top_of new.chunks
      → EndBelow (top_of old.chunks) held × AreMarks old n marks → EndBelow (top_of new.chunks) held × AreMarks new (length new.chunks) marks
  alloc_later size align step =
      both_later old new n held marks (λ mark holds. alloc_keeps mark old size align k (record { answer = a; state = new }) holds (sym step ∙ ap (leaves new) is))

  pub grow_later : (p size align new_size new_align : ℕ) → leaves new told ≡ grow old p size align new_size new_align k
      → top_of old.chunks ≤ top_of new.chunks
      → EndBelow (top_of old.chunks) held × AreMarks old n marks → EndBelow (top_of new.chunks) held × AreMarks new (length new.chunks) marks
  unfolding grow
  grow_later p size align new_size new_align step =
      both_later old new n held marks (λ mark holds. resize_keeps mark (growing old p size align new_size new_align) old p new_size new_align k
      (record { answer = a; state = new }) holds (sym step ∙ ap (leaves new) is))

  pub shrink_later : (p size align new_size new_align : ℕ) → leaves new told ≡ shrink old p size align new_size new_align k
      → top_of old.chunks ≤ top_of new.chunks
      → EndBelow (top_of old.chunks) held × AreMarks old n marks → EndBelow (top_of new.chunks) held × AreMarks new (length new.chunks) marks
  unfolding shrink
  shrink_later p size align new_size new_align step =
      both_later old new n held marks (λ mark holds. resize_keeps mark (shrinking old p size align new_size new_align) old p new_size new_align k
      (record { answer = a; state = new }) holds (sym step ∙ ap (leaves new) is))

pub marks_dealloc : (state : State) (p size n : ℕ) (marks : Marks) → AreMarks state n marks
    → AreMarks (dealloc state p size) (length (dealloc state p size).chunks) marks
marks_dealloc state p size n marks are =
    within (dealloc state p size) n marks (each_later state _ n marks (λ mark holds. dealloc_keeps_mark mark state p size holds) are)

each_back : (newer : Point) (state : State) (n : ℕ) (marks : Marks) → n ≤ newer.chunks → IsTrue (accepts newer state)
    → AreMarks state n marks → AreMarks (back newer state) n marks
each_back newer state n [] low holds are = tt
each_back newer state n (m ∷ older) low holds are =
    let lower : m.1.chunks ≤ newer.chunks = omega (arith, low, are.0) in
    (are.0, (back_keeps m.1 newer state lower are.1 holds).accepted, each_back newer state m.1.chunks older lower holds are.2)

-- The state accepts a name's mark, and after going back to it, that mark and the older ones.
pub marks_back : (state : State) (n : ℕ) (marks : Marks) (name : ℕ) (mark : Point) → AreMarks state n marks
    → mark_named marks name ≡ Some mark
    → IsTrue (accepts mark state) × AreMarks (back mark state) (length (back mark state).chunks) (marks_to marks name)
marks_back state n [] name mark are found = absurd (none-some mark found)
marks_back state n (m ∷ older) name mark are found = go (m.0 == name) found (marks_back state m.1.chunks older name mark are.2)
  where
    go : (b : Bool) → (if b then Some m.1 else mark_named older name) ≡ Some mark
        → (mark_named older name ≡ Some mark → IsTrue (accepts mark state)
        × AreMarks (back mark state) (length (back mark state).chunks) (marks_to older name))
        → IsTrue (accepts mark state) × AreMarks (back mark state) (length (back mark state).chunks)
        (if b then m ∷ older else marks_to older name)
    go true same rest = subst (λ (p : Point). IsTrue (accepts p state) × AreMarks (back p state) (length (back p state).chunks) (m ∷ older))
        (same_Some m.1 mark same) (
          are.1,
          within (back m.1 state) m.1.chunks (m ∷ older)
              (each_back m.1 state m.1.chunks (m ∷ older) (omega arith) are.1 (omega arith, are.1, are.2)),
        )
    go false same rest = rest same
