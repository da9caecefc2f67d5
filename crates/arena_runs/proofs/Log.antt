-- The log of names and the marks: how it grows, and which names going back removes.
use Rattle.std.proofs.Common.{◌≡◌, ◌≢◌, ℕ, ◌-◌, ◌<◌, ◌≤◌, ◌⊎◌, inl, inr, ap, refl, sym, subst, ◌∙◌, arith, List, [], ◌∷◌, ◌++◌, Bool, true, false, IsTrue, Option, Some, None, length, take, get_or, lt-ltb}
use Rattle.std.specs.Prelude.{◌||◌, ◌&&◌, nat_lt, if◌then◌else◌}
use Rattle.std.specs.Option.{option_map_or}
use Rattle.std.specs.FinMap as finite
use Rattle.std.proofs.lemmas.Bool.{cases_eq, cases_lt, and_cases, and_right}
use Rattle.std.proofs.lemmas.Bool.Decides.{nat_tests}
use Rattle.std.proofs.lemmas.List.{length-map, length-append, take_at}
use Rattle.std.proofs.lemmas.Option.{none-some, same_Some}
use Rattle.arena_rules.specs.State.{State, Chunk, cursor_of, is_range_used, is_place_used}
use Rattle.call_rules.specs.Machine.{Held, is_left}
use Rattle.arena_rules.specs.declared.place.Place.{Place}
use Rattle.arena_rules.proofs.ReturnLemmas.{used_filled}
use Rattle.arena_runs.specs.Marks.{Noted, named, AreWithin, IsAtCursor, Notes, stands, LetsGo}
use Rattle.arena_runs.specs.Serving.{Holds}
use Rattle.arena_runs.specs.declared.marks.Mark.{Mark}
use Rattle.name_map.proofs.EntryLemmas.{get-inserted, get-insert_other, get-removed, get-remove_other, less_removed}

-- a test has one outcome
pub not_both : {P : Type 0} (b : Bool) → b ≡ true → b ≡ false → P
not_both b is_true is_false = absurd (cc)

-- a name whose block isn't left, and one whose block is
pub not_standing : (state : State) (names : Held) (name : ℕ) → is_left state names name ≡ false → false ≡ stands state names name
not_standing state names name lost = by (finite.get names name) refl
  where
    by : (o : Option Place) → finite.get names name ≡ o → false ≡ stands state names name
    by None at = rw at refl
    by (Some p) at = rw at (sym (and_right (nat_lt 0 p.size) (is_place_used state p) (rw at at lost)))

pub standing : (state : State) (names : Held) (name : ℕ) (p : Place) → finite.get names name ≡ Some p → is_left state names name ≡ true
    → nat_lt 0 p.size ≡ stands state names name
standing state names name p at left =
    let used : is_place_used state p ≡ true = rw at at left in rw (at, used) (both (nat_lt 0 p.size))
  where
    both : (b : Bool) → b ≡ b && true
    both true = refl
    both false = refl

-- ---- One more name

-- a call that places no block
pub notes_still : (state : State) (names held : Held) (noted : Noted)
    → ((q : ℕ) (p : Place) → finite.get held q ≡ Some p → finite.get names q ≡ Some p) → Notes state names held noted noted
notes_still state names held noted less = record { marks = refl; log = λ some. inl (refl, λ q p at. (p, less q p at, refl, omega arith)) }

-- a name was noted, and the note was removed again if the block stayed
pub notes_settled : (state : State) (names held : Held) (old mid new : Noted) (name : ℕ) (stayed : Bool) → mid.marks ≡ old.marks
    → (0 < length old.marks → mid.log ≡ old.log ++ name ∷ []) → new.marks ≡ mid.marks
    → (0 < length mid.marks → new.log ≡ (if stayed then take (length mid.log - 1) mid.log else mid.log))
    → (stayed ≡ true → AreWithin names held)
    → (stayed ≡ false → IsAtCursor state names held name) → Notes state names held old new
notes_settled state names held old mid new name stayed same noted still settled within there =
    record { marks = still ∙ same; log = λ some. by some stayed refl }
  where
    by : 0 < length old.marks → (b : Bool) → stayed ≡ b
        → ((new.log ≡ old.log) × AreWithin names held) ⊎ ((q : ℕ) × (new.log ≡ old.log ++ q ∷ []) × IsAtCursor state names held q)
    by some true is =
        let log : new.log ≡ take (length mid.log - 1) mid.log = settled (omega (arith, ap length same))
        ∙ ap (λ (b : Bool). if b then take (length mid.log - 1) mid.log else mid.log) is in
        let back = take_at old.log (name ∷ []) _ (omega (arith, length-append old.log (name ∷ []))) in
        inl (log ∙ ap (λ (l : List ℕ). take (length l - 1) l) (noted some) ∙ back, within is)
    by some false is =
        let log : new.log ≡ mid.log = settled (omega (arith, ap length same))
        ∙ ap (λ (b : Bool). if b then take (length mid.log - 1) mid.log else mid.log) is in
        inr (name, log ∙ noted some, there is)

-- the note is removed again if the call was refused
pub notes_refused : (state : State) (names : Held) (old mid new : Noted) (name : ℕ) → mid.marks ≡ old.marks
    → (0 < length old.marks → mid.log ≡ old.log ++ name ∷ [])
    → new.marks ≡ mid.marks → (0 < length mid.marks → new.log ≡ take (length mid.log - 1) mid.log) → Notes state names names old new
notes_refused state names old mid new name same noted still settled =
    notes_settled state names names old mid new name true same noted still settled (λ is q p at. (p, at, refl, omega arith))
    (λ is. absurd (cc))

-- a block was placed for a name
pub inserted_at_cursor : (state : State) (names : Held) (name : ℕ) (b : Place) → Holds state (finite.insert names name b)
    → (0 < length state.chunks → b.addr ≡ cursor_of state.chunks)
    → IsAtCursor state names (finite.insert names name b) name
inserted_at_cursor state names name b holds at_cursor = record {
  own = λ p at some.
      let same : b ≡ p = same_Some b p (sym (get-inserted names name b) ∙ at) in
      ap (λ (x : Place). x.addr) (sym same)
      ∙ at_cursor (chunk state.chunks p.addr p.size (used_filled state p some (holds.each name p at).used));
  rest = λ q other. get-insert_other names name q b other;
}
  where
    chunk : (chunks : List Chunk) (addr n : ℕ) → IsTrue (is_range_used chunks addr n) → 0 < length chunks
    chunk [] addr n used = cc
    chunk (newest ∷ older) addr n used = omega arith

-- a name's block that stayed where it was has no more bytes
pub inserted_within : (names : Held) (name : ℕ) (a b : Place) → finite.get names name ≡ Some a → a.addr ≡ b.addr → b.size ≤ a.size
    → AreWithin names (finite.insert names name b)
inserted_within names name a b found same smaller q p at = elim (cases_eq q name) [
  | inr other ↦ (p, sym (get-insert_other names name q b other) ∙ at, refl, omega arith)
  | inl own ↦
      let is : b ≡ p = same_Some b p (sym (get-inserted names name b)
      ∙ subst (λ (x : ℕ). finite.get (finite.insert names name b) x ≡ Some p) own at) in (
        a,
        ap (finite.get names) own ∙ found,
        same ∙ ap (λ (x : Place). x.addr) is,
        omega (arith, smaller, ap (λ (x : Place). x.size) is),
      )
]

-- a call that resizes a block may take memory if there is a mark
pub noting : (first : Bool) (marks : List Mark) → 0 < length marks → IsTrue (first || false || (nat_lt 0 (length (named marks)) && true))
noting first marks some = grind (arith, nat_tests, lt-ltb, length-map)

-- ---- Names that are removed

pub letting_first : (state : State) (names : Held) (log : List ℕ) (from : ℕ) → from ≡ length log → LetsGo state names names from log
letting_first state names log from all = grind (arith, nat_tests)

-- one more name was read, and removed if its block isn't left
pub letting_next : (state : State) (names held next : Held) (from name : ℕ) (log : List ℕ) → 0 < from → name ≡ get_or log (from - 1) 0
    → stands state held name ≡ false
    → (IsTrue (is_left state held name) → next ≡ held) → (is_left state held name ≡ false → next ≡ finite.remove held name)
    → LetsGo state names held from log
    → LetsGo state names next (from - 1) log
letting_next state names held next from name log some read fallen stays goes lets = by (is_left state held name) refl
  where
    of_name : (q i : ℕ) → i < from → from - 1 ≤ i → get_or log i 0 ≡ q → name ≡ q
    of_name q i below low at_i =
        let last : i ≡ from - 1 = omega arith in
        read ∙ ap (λ (j : ℕ). get_or log j 0) (sym last) ∙ at_i

    empty : is_left state held name ≡ true → (p : Place) → finite.get held name ≡ Some p → p.size ≡ 0
    empty left p at =
        let none : nat_lt 0 p.size ≡ false = elim (and_cases (nat_lt 0 p.size) (is_place_used state p) (rw at at fallen)) [
          | inl less ↦ less
          | inr unused ↦ not_both (is_place_used state p) (rw at at left) unused
        ] in
        grind (arith, nat_tests)

    by : (b : Bool) → is_left state held name ≡ b → LetsGo state names next (from - 1) log
    by true left = rw (stays left) (record {
      within = omega (arith, lets.within);
      left = lets.left;
      less = lets.less;
      ended = λ q p there at. elim (cases_lt there.0 from) [
        | inr past ↦ lets.ended q p (there.0, past, there.2, there.3) at
        | inl here ↦ empty left p (ap (finite.get held) (of_name q there.0 here there.1 there.3) ∙ at)
      ];
    })
    by false gone = rw (goes gone) (record {
      within = omega (arith, lets.within);
      left = λ q is. get-remove_other held name q (other q is) ∙ lets.left q is;
      less = λ q p at. lets.less q p (less_removed held name q p at);
      ended = λ q p there at. elim (cases_lt there.0 from) [
        | inr past ↦ lets.ended q p (there.0, past, there.2, there.3) (less_removed held name q p at)
        | inl here ↦ absurd (none-some p (sym (get-removed held name)
            ∙ ap (finite.get (finite.remove held name)) (of_name q there.0 here there.1 there.3) ∙ at))
      ];
    })
      where
        other : (q : ℕ) → IsTrue (is_left state names q) → q ≢ name
        other q is same = not_both (is_left state held name) (ap (is_left state held) (sym same)
            ∙ ap (λ (o : Option Place). option_map_or (is_place_used state) o false) (lets.left q is) ∙ is) gone
