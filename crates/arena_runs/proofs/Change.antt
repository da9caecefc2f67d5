-- What a call that changes one name's block does to the others.
use Rattle.std.proofs.lemmas.Bool.Decides.{nat_tests}
use Rattle.std.proofs.Common.{◌≡◌, ◌≢◌, ℕ, ◌+◌, ◌-◌, ◌%◌, ◌<◌, ◌≤◌, ◌⊎◌, inl, inr, ap, sym, subst, ◌∙◌, arith, List, true, Some, IsTrue, length, eq-eqb}
use Rattle.std.specs.Prelude.{◌==◌}
use Rattle.std.specs.FinMap as finite
use Rattle.std.proofs.lemmas.Bool.{cases_eq, cases_lt, or_left, or_right}
use Rattle.std.proofs.lemmas.Option.{same_Some}
use Rattle.arena_rules.specs.Rounding.{is_layout}
use Rattle.arena_rules.specs.State.{State, IsValid, is_used, is_range_used, AreApart, is_place_used}
use Rattle.arena_rules.specs.Back.{Point, accepts, KeepsMark}
use Rattle.arena_rules.specs.Blocks.{IsBlock, IsMovedBlock, padded_size}
use Rattle.call_rules.specs.Machine.{Held, Contents, Marks, step, refused_of}
use Rattle.arena_rules.specs.declared.place.Place.{Place}
use Rattle.call_rules.specs.declared.calls.Call.{Call}
use Rattle.call_rules.specs.declared.calls.Reply.{Reply}
use Rattle.arena_rules.proofs.RoundingLemmas.{up_ge, up_same, up_least, min_align_positive}
use Rattle.arena_rules.proofs.UsedLemmas.{used_part}
use Rattle.arena_rules.proofs.ReturnLemmas.{used_filled}
use Rattle.arena_store.specs.Memory.{Memory, Writes, image, bytes_from}
use Rattle.arena_store.specs.Source.{Source, view}
use Rattle.arena_core.specs.Frame.{IsApart, Frame}
use Rattle.arena_runs.specs.Runs.{HoldsBytes}
use Rattle.arena_runs.specs.Serving.{machine_of, Holds, IsBeside, Keeps, Asks, Serves}
use Rattle.arena_store.specs.declared.block.Block.{Block}
use Rattle.name_map.proofs.EntryLemmas.{get-inserted, get-insert_other}
use Rattle.arena_core.proofs.FrameLemmas.{apart_turned, apart_unpadded, beside_range}
use Rattle.arena_store.proofs.BytesLemmas.{written_beside}
use Rattle.arena_core.proofs.WrittenLemmas.{bytes_same}

-- ---- Apart from a place

-- a part of a range that is apart from a padded place is, too
beside_part : (m : ℕ) (b : Place) (addr n i : ℕ) → i < n → IsBeside m b addr n → IsBeside m b (addr + i) 1
beside_part m b addr n i below beside = grind (arith, nat_tests)

-- an empty padded place at a multiple has no addresses
pub padded_empty : (m : ℕ) (b : Place) → 0 < m → b.addr % m ≡ 0 → b.size ≡ 0 → padded_size m b.addr b.size ≡ 0
padded_empty m b positive aligned none = grind (arith, nat_tests, up_same)

used_place : (state : State) (p : Place) → (0 < p.size → IsTrue (is_range_used state.chunks p.addr p.size)) → IsTrue (is_place_used state p)
used_place state p used = elim (cases_lt 0 p.size) [
  | inl some ↦ or_right (p.size == 0) (is_range_used state.chunks p.addr p.size) (used some)
  | inr none ↦ or_left (p.size == 0) (is_range_used state.chunks p.addr p.size) (eq-eqb _ _ (omega arith))
]

-- other names' places are apart from a held one
others_beside : (state : State) (names : Held) (name : ℕ) (b : Place) → Holds state names → finite.get names name ≡ Some b
    → (q : ℕ) (p : Place) → q ≢ name → finite.get names q ≡ Some p → 0 < p.size → IsBeside state.min_align b p.addr p.size
others_beside state names name b holds found q p other at some = λ padded many.
    let positive = min_align_positive state.min_align holds.valid.min_align in
    elim (cases_lt 0 b.size) [
      | inr none ↦ absurd (omega (arith, padded_empty state.min_align b positive (holds.each name b found).min_aligned (omega arith)))
      | inl filled ↦ elim (holds.apart name q b p (λ same. other (sym same)) found at filled some) [
        | inl above ↦ inl (omega (arith, up_least (b.addr + b.size) state.min_align p.addr positive (holds.each q p at).min_aligned above))
        | inr under ↦ inr under
      ]
    ]

-- ---- A change of one name's block

-- The name's block at a is removed, if it isn't empty, and one at b is added. What was in use apart from the first
-- stays in use, with its bytes, and is apart from the second. The names afterwards are the others as they were, and
-- this one, if it holds b.
pub record IsChange (old new : Memory) (names after : Held) (name : ℕ) (a b : Place) : Type 0 where
  pub valid : IsValid new.state
  pub min_align : new.state.min_align ≡ old.state.min_align
  pub used : (addr n : ℕ) → 0 < n → IsTrue (is_range_used old.state.chunks addr n) → IsBeside old.state.min_align a addr n
      → IsTrue (is_range_used new.state.chunks addr n)
  pub bytes : (addr : ℕ) → IsTrue (is_used old.state addr) → IsBeside old.state.min_align a addr 1 → image new addr ≡ image old addr
  pub gone : 0 < padded_size old.state.min_align a.addr a.size → finite.get names name ≡ Some a
  pub beside : (addr : ℕ) → IsTrue (is_used old.state addr) → IsBeside old.state.min_align a addr 1 → IsBeside old.state.min_align b addr 1
  pub rest : (q : ℕ) → q ≢ name → finite.get after q ≡ finite.get names q
  pub own : (p : Place) → finite.get after name ≡ Some p → (b ≡ p) × IsBlock new.state b
  pub marks : (mark : Point) → IsTrue (accepts mark old.state) → KeepsMark mark old.state new.state

-- the step of a call, with the bytes after it
pub record IsStep (call : Call) (k : ℕ) (reply : Reply) (old new : Memory) (names after : Held) (name : ℕ) (b : Place) (marks : Marks)
    (bytes : Contents) : Type 0 where
  pub next : Contents
  pub step : step call k (machine_of old names marks bytes) ≡ Some (reply, machine_of new after marks next)
  pub rest : (q : ℕ) → q ≢ name → finite.get next q ≡ finite.get bytes q
  pub own : finite.get after name ≡ Some b → finite.get next name ≡ Some (bytes_from (image new) b.addr b.size)

module _ (old new : Memory) (names after : Held) (name : ℕ) (a b : Place) (holds : Holds old.state names)
    (change : IsChange old new names after name a b) where
  -- a held place is the changed name's, or another's that was held before
  held_cases : (q : ℕ) (p : Place) → finite.get after q ≡ Some p → ((q ≡ name) × (b ≡ p) × IsBlock new.state b)
      ⊎ ((q ≢ name) × (finite.get names q ≡ Some p))
  held_cases q p at = elim (cases_eq q name) [
    | inl same ↦ let own = change.own p (ap (finite.get after) (sym same) ∙ at) in inl (same, own.0, own.1)
    | inr other ↦ inr (other, sym (change.rest q other) ∙ at)
  ]

  others : (q : ℕ) (p : Place) → q ≢ name → finite.get names q ≡ Some p → 0 < p.size → IsBeside old.state.min_align a p.addr p.size
  others q p other at some = λ padded. others_beside old.state names name a holds (change.gone padded) q p other at some padded

  -- each address of another name's place is in use, apart from the place that is removed
  others_part : (q : ℕ) (p : Place) → q ≢ name → finite.get names q ≡ Some p → (i : ℕ) → i < p.size
      → IsTrue (is_used old.state (p.addr + i)) × IsBeside old.state.min_align a (p.addr + i) 1
  others_part q p other at i below =
      let some : 0 < p.size = omega arith in (
        used_part p.addr p.size (p.addr + i) 1 old.state.chunks (omega arith) (omega arith)
            (used_filled old.state p some (holds.each q p at).used),
        beside_part old.state.min_align a p.addr p.size i below (others q p other at some),
      )

  bytes_stay : (q : ℕ) (p : Place) → q ≢ name → finite.get names q ≡ Some p
      → bytes_from (image new) p.addr p.size ≡ bytes_from (image old) p.addr p.size
  bytes_stay q p other at = grind (arith, nat_tests, bytes_same, others_part)

  away : (q : ℕ) (p : Place) → q ≢ name → finite.get names q ≡ Some p → AreApart b.addr b.size p.addr p.size
  away q p other at = λ filled some.
      let ends = up_ge (b.addr + b.size) old.state.min_align (min_align_positive old.state.min_align holds.valid.min_align) in
      elim (cases_lt (b.addr - p.addr) p.size) [
        | inl below ↦
            let part = others_part q p other at (b.addr - p.addr) below in
            elim (change.beside (p.addr + (b.addr - p.addr)) part.0 part.1 (omega arith) (omega arith)) [
              | inl above ↦ inl (omega arith)
              | inr under ↦ absurd (omega arith)
            ]
        | inr past ↦ inr (omega arith)
      ]

  holds_changed : Holds new.state after
  holds_changed = record {
    valid = change.valid;
    each = λ q p at. elim (held_cases q p at) [
      | inl own ↦ subst (IsBlock new.state) own.1 own.2
      | inr other ↦
          let held = holds.each q p other.1 in
          record {
            layout = held.layout;
            aligned = held.aligned;
            min_aligned = rw change.min_align held.min_aligned;
            used = used_place new.state p (λ some. change.used p.addr p.size some (used_filled old.state p some held.used)
                (others q p other.0 other.1 some));
          }
    ];
    apart = λ m n p q differ first second. elim (held_cases m p first) [
      | inl left ↦ elim (held_cases n q second) [
        | inl right ↦ absurd (differ (left.0 ∙ sym right.0))
        | inr right ↦ subst (λ (x : Place). AreApart x.addr x.size q.addr q.size) left.1 (away n q right.0 right.1)
      ]
      | inr left ↦ elim (held_cases n q second) [
        | inl right ↦ subst (λ (x : Place). AreApart p.addr p.size x.addr x.size) right.1
            (apart_turned b.addr b.size p.addr p.size (away m p left.0 left.1))
        | inr right ↦ holds.apart m n p q differ left.1 right.1
      ]
    ];
  }

  keeps_changed : (entry : Memory) → Keeps entry old names → Keeps entry new after
  keeps_changed entry keeps =
      let gone : (addr : ℕ) → IsTrue (is_used entry.state addr) → IsBeside old.state.min_align a addr 1 = λ addr used padded.
      keeps.beside name a (change.gone padded) addr used padded in
      record {
        kept = record {
          used = λ addr used. change.used addr 1 (omega arith) (keeps.kept.used addr used) (gone addr used);
          bytes = λ addr used. change.bytes addr (keeps.kept.used addr used) (gone addr used) ∙ keeps.kept.bytes addr used;
        };
        beside = λ q p at addr used. rw change.min_align (elim (held_cases q p at) [
          | inl own ↦ subst (λ (x : Place). IsBeside old.state.min_align x addr 1) own.1
              (change.beside addr (keeps.kept.used addr used) (gone addr used))
          | inr other ↦ keeps.beside q p other.1 addr used
        ]);
      }

  bytes_changed : (call : Call) (k : ℕ) (reply : Reply) (marks : Marks) (bytes : Contents) → HoldsBytes old names bytes
      → (stepped : IsStep call k reply old new names after name b marks bytes) → HoldsBytes new after stepped.next
  bytes_changed call k reply marks bytes held stepped = grind (arith, nat_tests, held_cases, bytes_stay)

  pub serves_changed : (call : Call) (reply : Reply) (before later : Source)
      → ((marks : Marks) (bytes : Contents) → HoldsBytes old names bytes
      → IsStep call (refused_of reply) reply old new names after name b marks bytes)
      → Asks call reply (view old before) (view new later) names → Serves call reply (view old before) (view new later) names after
  serves_changed call reply before later steps asks = record {
    steps = λ marks bytes held. let stepped = steps marks bytes held in
        (stepped.next, stepped.step, bytes_changed call (refused_of reply) reply marks bytes held stepped);
    asks = asks;
    holds = holds_changed;
    keeps = keeps_changed;
    marks = change.marks;
  }

-- A change after which bytes were written in the block that was added.
pub change_written : (old mid new : Memory) (names after : Held) (name : ℕ) (a b : Place) (at : ℕ) (list : List ℕ) → IsValid old.state
    → IsChange old mid names after name a b
    → at + length list ≤ b.size → new.state ≡ mid.state → Writes mid new (b.addr + at) list → IsChange old new names after name a b
change_written old mid new names after name a b at list valid change within same writes = record {
  valid = subst IsValid (sym same) change.valid;
  min_align = ap (λ (s : State). s.min_align) same ∙ change.min_align;
  used = λ addr n some used beside. subst (λ (s : State). IsTrue (is_range_used s.chunks addr n)) (sym same)
      (change.used addr n some used beside);
  bytes = λ addr used beside. writes addr
      ∙ written_beside (image mid) (b.addr + at) addr list
      (beside_range addr b.addr b.size (b.addr + at) (length list)
      (apart_unpadded old.state b.addr b.size addr 1 valid (change.beside addr used beside)) (omega arith) (omega arith))
      ∙ change.bytes addr used beside;
  gone = change.gone;
  beside = change.beside;
  rest = change.rest;
  own = λ p is. ((change.own p is).0, subst (λ (s : State). IsBlock s b) (sym same) (change.own p is).1);
  marks = λ mark accepted. subst (KeepsMark mark old.state) (sym same) (change.marks mark accepted);
}

-- A block was placed for a name, in place of the one that it had, or of none.
pub change_placed : (old new : Memory) (names : Held) (name size align p : ℕ) (a : Place) (before blocks : List Block)
    → Holds old.state names
    → (0 < padded_size old.state.min_align a.addr a.size → finite.get names name ≡ Some a) → true ≡ is_layout size align
    → IsMovedBlock old.state a size align p new.state → IsValid new.state
    → Frame old new before blocks → ((addr n : ℕ) → IsBeside old.state.min_align a addr n → IsApart addr n before)
    → ((mark : Point) → IsTrue (accepts mark old.state) → KeepsMark mark old.state new.state)
    → IsChange old new names (finite.insert names name (record { addr = p; size = size; align = align })) name a
    (record { addr = p; size = size; align = align })
change_placed old new names name size align p a before blocks holds gone good moved valid frame apart marks =
    grind (arith, nat_tests, get-insert_other, same_Some, get-inserted, used_place)
