-- Going back to a mark: which names and marks remain, and what is true of them.
use Rattle.std.proofs.Common.{◌≡◌, ℕ, ◌+◌, ◌-◌, ◌<◌, ◌≤◌, inl, inr, ap, refl, sym, subst, ◌∙◌, arith, List, [], ◌∷◌, Bool, cond, true, false, IsTrue, Option, Some, None, length, take, get_or, eq-eqb, leb-true}
use Rattle.std.specs.Prelude.{◌==◌, nat_lt, if◌then◌else◌}
use Rattle.std.specs.Option.{option_map_or}
use Rattle.std.specs.List.{AllByRecursion}
use Rattle.std.specs.FinMap as finite
use Rattle.std.specs.FinMap.{get-retain_keys, same_map, nat_cmp-IsAntisymmetric}
use Rattle.std.specs.Cmp.{nat_cmp_total}
use Rattle.std.proofs.lemmas.Bool.{and_from, and_parts, cases_lt, cases_Bool, or_left, or_right}
use Rattle.std.proofs.lemmas.List.{length-take-le, get_or-take}
use Rattle.std.proofs.lemmas.Option.{none-some, same_Some}
use Rattle.arena_rules.specs.State.{State, IsValid, is_used, is_range_used, is_place_used}
use Rattle.arena_rules.specs.Back.{back, is_in_part, KeepsMark}
use Rattle.call_rules.specs.Machine.{Held, is_left, mark_named, marks_to, step}
use Rattle.call_rules.specs.Requests.{placed_anew}
use Rattle.arena_rules.specs.declared.place.Place.{Place}
use Rattle.call_rules.specs.declared.calls.Call.TheVariants.{Back as GoBack}
use Rattle.call_rules.specs.declared.calls.Reply.TheVariants.{Done}
use Rattle.arena_rules.proofs.MarkLemmas.{back_keeps}
use Rattle.arena_rules.proofs.MarkPartLemmas.{part_left, left_part}
use Rattle.arena_rules.proofs.ReturnLemmas.{used_filled}
use Rattle.arena_rules.proofs.UsedLemmas.{used_part}
use Rattle.arena_store.specs.Memory.{Memory, image}
use Rattle.arena_store.specs.Source.{Source, view}
use Rattle.arena_core.specs.Checkpoints.{mark_at, is_accepted, sent_back, GoesBack}
use Rattle.arena_runs.specs.Marks.{Noted, named, marks_from, IsNoted, Lies, TracksMark, IsOlder, AreTracked, Tracks, KeepEntry, stands, LetsGo}
use Rattle.arena_runs.specs.Serving.{Holds, ServesRun}
use Rattle.arena_runs.specs.declared.marks.Mark.{Mark}
use Rattle.arena_store.proofs.AskedLemmas.{asked_none}
use Rattle.arena_runs.proofs.Log.{not_both}
use Rattle.arena_runs.proofs.Marking.{lay}
use Rattle.arena_core.proofs.WrittenLemmas.{bytes_same}

module _ {P : List Mark → Type 0} (more : (m : Mark) (older : List Mark) → P (m ∷ older) → P older) where
  -- what holds of marks and so of the older ones holds from a name's on
  pub from_some : (name : ℕ) (marks : List Mark) → P marks → P (marks_from name marks)
  from_some name [] is = is
  from_some name (m ∷ older) is = by (m.name == name) (from_some name older (more m older is))
    where
      by : (b : Bool) → P (marks_from name older) → P (if b then m ∷ older else marks_from name older)
      by true rest = is
      by false rest = rest

pub named_from : (name : ℕ) (marks : List Mark) → marks_to (named marks) name ≡ named (marks_from name marks)
named_from name [] = refl
named_from name (m ∷ older) = by (m.name == name) (named_from name older)
  where
    by : (b : Bool) → marks_to (named older) name ≡ named (marks_from name older)
        → (if b then named (m ∷ older) else marks_to (named older) name) ≡ named (if b then m ∷ older else marks_from name older)
    by true rest = refl
    by false rest = rest

pub found_from : (name : ℕ) (marks : List Mark) (m : Mark) (older : List Mark) → marks_from name marks ≡ m ∷ older
    → mark_named (named marks) name ≡ Some (mark_at m.checkpoint)
found_from name [] m older is = absurd (cc)
found_from name (o ∷ rest) m older is = by (o.name == name) (λ same. found_from name rest m older same) is
  where
    by : (b : Bool) → (marks_from name rest ≡ m ∷ older → mark_named (named rest) name ≡ Some (mark_at m.checkpoint))
        → (if b then o ∷ rest else marks_from name rest) ≡ m ∷ older
        → (if b then Some (mark_at o.checkpoint) else mark_named (named rest) name) ≡ Some (mark_at m.checkpoint)
    by true later same = let first : o ≡ m = cc in ap (λ (x : Mark). Some (mark_at x.checkpoint)) first
    by false later same = later same

module _ (state : State) (names : Held) (noted : Noted) (name : ℕ) (m : Mark) (older : List Mark) (tracks : Tracks state names noted)
    (from : marks_from name noted.marks ≡ m ∷ older) where
  suffix_tracked : AreTracked state names noted.log (m ∷ older)
  suffix_tracked = subst (AreTracked state names noted.log) from
      (from_some {P = AreTracked state names noted.log} (λ o rest are. are.2) name noted.marks tracks)

  pub back_accepted : IsTrue (is_accepted m.checkpoint state)
  back_accepted = and_from _ _ (eq-eqb m.checkpoint.generation state.generation suffix_tracked.0.generation) suffix_tracked.0.accepted

module _ (old : Memory) (names held : Held) (noted : Noted) (name : ℕ) (m : Mark) (older : List Mark) (count : ℕ)
    (holds : Holds old.state names) (tracks : Tracks old.state names noted) (found : marks_from name noted.marks ≡ m ∷ older)
    (lets : LetsGo (back (mark_at m.checkpoint) old.state) names held count noted.log) (over : 0 < count
    → IsTrue (stands (back (mark_at m.checkpoint) old.state) held (get_or noted.log (count - 1) 0))) where
  abbrev now : State
  now = back (mark_at m.checkpoint) old.state

  suffix : AreTracked old.state names noted.log (m ∷ older)
  suffix = suffix_tracked old.state names noted name m older tracks found

  tracked : TracksMark old.state names noted.log m
  tracked = suffix.0

  -- a name that was read in the log and still holds its block holds no bytes
  looked_at : {P : Type 0} (q : ℕ) (p : Place) → IsNoted noted.log count q → finite.get held q ≡ Some p → 0 < p.size → P
  looked_at q p there at some = absurd (omega (arith, lets.ended q p there at))

  -- the name at which the removal ended
  stays_last : 0 < count → Lies true old.state names m (get_or noted.log (count - 1) 0)
  stays_last some = by (finite.get held (get_or noted.log (count - 1) 0)) refl
    where
      by : (o : Option Place) → finite.get held (get_or noted.log (count - 1) 0) ≡ o
          → Lies true old.state names m (get_or noted.log (count - 1) 0)
      by None at = absurd (let stood : IsTrue false = rw at at (over some) in cc)
      by (Some p) at =
          let both = and_parts (nat_lt 0 p.size) (is_place_used now p) (rw at at (over some)) in
          let filled : 0 < p.size = leb-true _ _ both.0 in (
            p,
            lets.less (get_or noted.log (count - 1) 0) p at,
            filled,
            left_part (mark_at m.checkpoint) old.state p.addr p.size holds.valid filled (used_filled now p filled both.1),
          )

  lost : (q : ℕ) (p : Place) → finite.get names q ≡ Some p → is_place_used now p ≡ false → Lies false old.state names m q
  lost q p at unused = elim (cases_lt 0 p.size) [
    | inr none ↦ not_both (is_place_used now p) (or_left (p.size == 0) (is_range_used now.chunks p.addr p.size) (eq-eqb _ _ (omega arith)))
        unused
    | inl some ↦ elim (cases_Bool (is_in_part (mark_at m.checkpoint) old.state p.addr)) [
      | inr outside ↦ (p, at, some, outside)
      | inl inside ↦ not_both (is_place_used now p)
          (or_right (p.size == 0) (is_range_used now.chunks p.addr p.size)
          (part_left (mark_at m.checkpoint) old.state p.addr p.size holds.valid some
          (used_filled old.state p some (holds.each q p at).used) inside))
          unused
    ]
  ]

  gone : (q : ℕ) (p : Place) → finite.get names q ≡ Some p → is_place_used now p ≡ false → finite.get held q ≡ None
  gone q p at unused = by (finite.get held q) refl
    where
      lies : Lies false old.state names m q
      lies = lost q p at unused

      there : IsNoted noted.log count q
      there = elim (cases_lt 0 count) [
        | inr none ↦ (let all = tracked.noted q lies in (all.0, omega arith, all.2, all.3))
        | inl some ↦
            let behind = tracked.behind (count - 1) (omega (arith, lets.within)) (stays_last some) q lies in
            (behind.0, omega (arith, behind.1), behind.2, behind.3)
      ]

      by : (o : Option Place) → finite.get held q ≡ o → finite.get held q ≡ None
      by None is = is
      by (Some x) is =
          let same : lies.0 ≡ x = same_Some lies.0 x (sym lies.1 ∙ lets.less q x is) in
          looked_at q x there is (omega (arith, lies.2, ap (λ (y : Place). y.size) same))

  -- The names that remain hold what they held.
  held_left : held ≡ finite.retain_keys names (is_left now names)
  held_left = same_map nat_cmp_total nat_cmp-IsAntisymmetric _ _ (λ q.
      by q (is_left now names q) refl ∙ sym (get-retain_keys names (is_left now names) q
      (λ x same. ap (is_left now names) (sym (nat_cmp-IsAntisymmetric q x same)))))
    where
      none : (q : ℕ) (o : Option Place) → finite.get names q ≡ o → is_left now names q ≡ false → finite.get held q ≡ None
      none q (Some p) at unused = gone q p at (sym (ap (λ (o : Option Place). option_map_or (is_place_used now) o false) at) ∙ unused)
      none q None at unused = absent (finite.get held q) refl
        where
          absent : (o : Option Place) → finite.get held q ≡ o → finite.get held q ≡ None
          absent None is = is
          absent (Some p) is = absurd (none-some p (sym at ∙ lets.less q p is))

      by : (q : ℕ) (b : Bool) → is_left now names q ≡ b → finite.get held q ≡ cond (is_left now names q) (finite.get names q) None
      by q true is = rw is (lets.left q is)
      by q false is = rw is (none q (finite.get names q) refl is)

  -- the block of a name that is still held is in the part that remains
  held_used : (q : ℕ) (p : Place) → finite.get held q ≡ Some p → (finite.get names q ≡ Some p) × IsTrue (is_place_used now p)
      × IsTrue (is_left now names q)
  held_used q p at =
      let before = lets.less q p at in
      elim (cases_Bool (is_place_used now p)) [
        | inl used ↦ (before, used, ap (λ (o : Option Place). option_map_or (is_place_used now) o false) before ∙ used)
        | inr unused ↦ absurd (none-some p (sym (gone q p before unused) ∙ at))
      ]

  -- the mark, and each older one, is tracked by what remains of the log
  mark_back : (o : Mark) → o.checkpoint.chunks ≤ m.checkpoint.chunks → TracksMark old.state names noted.log o
      → TracksMark now held (take count noted.log) o
  mark_back o under was = record {
    generation = was.generation;
    accepted = kept.accepted;
    noted = λ q ends. first 0 q ends (was.noted q (before false q ends));
    behind = λ i below stays q ends.
        let entry = get_or-take count noted.log i 0 (omega (arith, below, many)) in
        first (i + 1) q ends (was.behind i (omega (arith, below, many, lets.within))
        (before true (get_or noted.log i 0) (subst (Lies true now held o) entry stays)) q (before false q ends));
  }
    where
      kept : KeepsMark (mark_at o.checkpoint) old.state now
      kept = back_keeps (mark_at o.checkpoint) (mark_at m.checkpoint) old.state under was.accepted tracked.accepted

      many : length (take count noted.log) ≡ count
      many = length-take-le count noted.log lets.within

      before : (inside : Bool) (q : ℕ) → Lies inside now held o q → Lies inside old.state names o q
      before inside q lies = lay inside old.state now names held o q kept (λ p at. (p, lets.less q p at, refl, omega arith)) lies

      first : (low q : ℕ) → Lies false now held o q → IsNoted noted.log low q → IsNoted (take count noted.log) low q
      first low q ends there = elim (cases_lt there.0 count) [
        | inl here ↦ (there.0, there.1, omega (arith, many), get_or-take count noted.log there.0 0 here ∙ there.3)
        | inr past ↦ looked_at q ends.0 (there.0, past, there.2, there.3) ends.1 ends.2
      ]

  tracked_back : AreTracked now held (take count noted.log) (m ∷ older)
  tracked_back = (mark_back m (omega arith) tracked, suffix.1, go older suffix.1 suffix.2)
    where
      go : (marks : List Mark) → AllByRecursion (IsOlder m) marks → AreTracked old.state names noted.log marks
          → AreTracked now held (take count noted.log) marks
      go [] below all = tt
      go (o ∷ rest) below all = (mark_back o below.0 all.0, all.1, go rest below.1 all.2)

  holds_back : IsValid now → Holds now held
  holds_back valid = record {
    valid = valid;
    each = λ q p at.
        let was = held_used q p at in
        let block = holds.each q p was.0 in
        record { layout = block.layout; aligned = block.aligned; min_aligned = block.min_aligned; used = was.1 };
    apart = λ a b p q differ first second. holds.apart a b p q differ (held_used a p first).0 (held_used b q second).0;
  }

  entry_back : (entry : State) → ((addr : ℕ) → IsTrue (is_used entry addr) → IsTrue (is_used now addr)) → (marks : List Mark)
      → AllByRecursion (IsOlder m) marks → AreTracked old.state names noted.log marks → KeepEntry entry old.state marks
      → KeepEntry entry now marks
  entry_back entry used [] under are keep = tt
  entry_back entry used (o ∷ rest) under are keep = (
    λ addr in_use. (back_keeps (mark_at o.checkpoint) (mark_at m.checkpoint) old.state under.0 are.0.accepted tracked.accepted).used addr 1
        (used addr in_use) (keep.0 addr in_use),
    entry_back entry used rest under.1 are.2 keep.1,
  )

  pub serves_back : (later : Noted) (source : Source) → GoesBack old (sent_back m.checkpoint old) → later.marks ≡ m ∷ older
      → later.log ≡ take count noted.log
      → ServesRun (GoBack name) Done (view old source) (view (sent_back m.checkpoint old) source) names held noted later
  unfolding step placed_anew
  serves_back later source goes marks log = record {
    steps = λ bytes holds_bytes. (
      finite.retain_keys bytes (is_left now names),
      rw (found_from name noted.marks m older found, named_from name noted.marks, found, marks, held_left) refl,
      record {
        each = λ q p at.
            let was = held_used q p at in
            get-retain_keys bytes (is_left now names) q (λ x same. ap (is_left now names) (sym (nat_cmp-IsAntisymmetric q x same)))
            ∙ ap (λ (b : Bool). cond b (finite.get bytes q) None) was.2 ∙ holds_bytes.each q p was.0
            ∙ ap Some (sym (bytes_same (image (sent_back m.checkpoint old)) (image old) p.addr p.size (λ i below. goes.bytes (p.addr + i)
            (used_part p.addr p.size (p.addr + i) 1 now.chunks (omega arith) (omega arith) (used_filled now p (omega arith) was.1)))));
      },
    );
    asks = record { asked = λ marks bytes. asked_none source; statistics = λ marks bytes. refl };
    holds = holds_back goes.valid.exit;
    tracks = rw marks (subst (λ (l : List ℕ). AreTracked now held l (m ∷ older)) (sym log) tracked_back);
    keeps = λ still entry kept keep_all.
        let keep : KeepEntry entry.state old.state (m ∷ older) =
        rw found at (from_some {P = KeepEntry entry.state old.state} (λ o rest both. both.1) name noted.marks keep_all) in (
          record {
            kept = record { used = keep.0; bytes = λ addr in_use. goes.bytes addr (keep.0 addr in_use) ∙ kept.kept.bytes addr in_use };
            beside = λ q p at addr in_use. kept.beside q p (lets.less q p at) addr in_use;
          },
          rw marks (entry_back entry.state keep.0 (m ∷ older) (omega arith, suffix.1) suffix keep),
        );
  }
