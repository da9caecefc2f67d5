-- What it costs to append nodes to a list.
use Rattle.std.proofs.lemmas.Bool.Decides.{nat_tests}
use Rattle.std.proofs.Common.{◌≡◌, ℕ, suc, ◌+◌, ◌-◌, ◌*◌, ◌^◌, ◌<◌, ◌≤◌, refl, sym, ap, subst, ◌∙◌, arith, IsTrue, Ok, Err, List, [], ◌++◌, length, length-append, ◌⊎◌, inl, inr, max, None}
use Rattle.std.proofs.Math.Nat.{pow-suc}
use Rattle.std.proofs.lemmas.Bool.{cases_lt}
use Rattle.std.specs.Prelude.{Result, Option, IfOk, OnOk, OnErr}
use Rattle.arena_rules.specs.Rounding.{is_layout}
use Rattle.arena_rules.specs.Search.{place}
use Rattle.arena_rules.specs.State.{allocated_bytes, top_of}
use Rattle.arena_rules.proofs.GrownLemmas.{alloc_failed}
use Rattle.arena_rules.proofs.RoundingLemmas.{layout_power}
use Rattle.arena_chunks.specs.Memory.{Memory}
use Rattle.arena_chunks.specs.Source.{View}
use Rattle.arena_chunks.specs.Answers.Answer.{Refused}
use Rattle.arena_chunks.specs.Asking.{IsRefusedBySource, IsCounted}
use Rattle.arena_chunks.specs.BlockCalls.{PlacesBlock}
use Rattle.arena_chunks.specs.Frame.{Frame}
use Rattle.arena_chunks.proofs.Layers.{frame_reflexive}
use Rattle.arena_items.specs.Costs.{Costs, used, farthest}
use Rattle.arena_items.specs.Denied.{IsDenied}
use Rattle.arena_items.specs.Room.{capacity_after}
use Rattle.arena_items.specs.declared.room.AllocError.{AllocError}
use Rattle.arena_items.specs.declared.room.AllocError.TheVariants.{AllocErr, CapacityOverflow, OutOfMemory}
use Rattle.arena_items.specs.declared.room.Growth.{Growth}
use Rattle.arena_items.specs.declared.room.Growth.TheVariants.{Stays, GrowsTo, Overflows}
use Rattle.arena_items.proofs.Layers.{row_is_layout, room_costs, room_refused_as, costs_nothing}
use Rattle.arena_vec.specs.Changes.{Grows}
use Rattle.arena_vec.specs.Credit.{asked_by, credit_of}
use Rattle.arena_vec.specs.Growth.{amortised, growth_to, amortised_growth}
use Rattle.arena_vec.specs.Vecs.{IsVecIn}
use Rattle.arena_vec.specs.declared.vec.Vec.{Vec}
use Rattle.tree_nodes.specs.NodeForms.{plain_88_8}
use Rattle.tree_nodes.specs.TreesAt.{node_item}
use Rattle.tree_nodes.specs.Layouts.{ListOf, LongerList, ListFor, IsDoubled}
use Rattle.tree_nodes.specs.Spending.{IsStarvedBehind, Stops, Spends, SpendsOnMore, error_of}
use Rattle.tree_nodes.specs.declared.node.Node.{Node}
use Rattle.tree_nodes.proofs.SpendingLemmas.{frame_kind, spends_more, asks_of, asks_any}

-- A refused block reports the refusals by which the source's count rose.
pub told : (old new : View) (size align k : ℕ) → PlacesBlock old new size align (Refused k) → IsCounted k old new
told old new size align k places =
    let asked = places.1.outcome.1.asked in
    elim (cases_lt (2 ^ 64 - 1 - old.source.refusals) k) [
      | inl more ↦ inr (omega (arith, asked.refusals, asked.bounded (omega (arith, places.1.outcome.0, more)), places.1.outcome.0))
      | inr within ↦ inl (omega (arith, asked.refusals, places.1.outcome.0))
    ]

-- A block that was refused has no place, before and after.
pub refused_place : (old new : View) (size align k : ℕ) → IsTrue (is_layout size align) → PlacesBlock old new size align (Refused k)
    → place new.memory.state size align ≡ None
refused_place old new size align k layout places = grind (arith, nat_tests, alloc_failed, layout_power)

pub pushed_length : (ns ks : List Node) (len : ℕ) → length ns ≡ len → length (ns ++ ks) ≡ len + length ks
pushed_length ns ks len is = omega (arith, length-append ns ks, is)

pub unchanged : {old new : Memory} → new ≡ old → Frame old new [] []
unchanged {old} same = subst (λ m. Frame old m [] []) (sym same) (frame_reflexive old [])

-- How lists grow: growth is paid ahead, the capacity never falls, what fits doesn't overflow, nothing grows where there
-- is room, and otherwise the capacity is doubled.
pub record Paid : Type 0 where
  pub keeps : (size cap required : ℕ) → cap ≤ capacity_after (amortised_growth size cap required) cap
  pub asks : (size cap len n : ℕ) → len ≤ cap → 0 < size → (len + n) * (2 * size) ≤ 2 ^ 32
      → asked_by size (amortised_growth size cap (len + n)) + credit_of size (len + n)
      (capacity_after (amortised_growth size cap (len + n)) cap)
      ≤ credit_of size len cap + 4 * n * size
  pub fits : (old new : View) (v w : Vec Node) (required : ℕ) (list : List Node) (result : Result (Unit {0}) AllocError) → required < 2 ^ 32
      → required * 88 < 2 ^ 32 → Grows node_item old new v (amortised_growth 88 v.raw.cap required) list w result
      → ¬ (result ≡ Err CapacityOverflow)
  pub stays : (size cap required wanted : ℕ) → required ≤ cap → growth_to size cap required wanted ≡ Stays
  pub doubles : (size cap required : ℕ) → max (2 * cap) required < 2 ^ 32 → max (2 * cap) required * size < 2 ^ 32
      → amortised size cap required ≡ max (2 * cap) required
  pub grows : (size cap required wanted : ℕ) → cap < required → required < 2 ^ 32 → required * size < 2 ^ 32
      → growth_to size cap required wanted ≡ GrowsTo wanted

-- room for so many more than a full list has is a power of two, if its capacity is one or 0
more_doubled : (n power len cap : ℕ) → n ≡ 2 ^ power → len ≤ cap → cap < len + n → IsDoubled n cap → IsDoubled n (max (2 * cap) (len + n))
more_doubled n power len cap many within full (inl none) = inr (omega arith, power, omega (arith, many, within, none))
more_doubled n power len cap many within full (inr is) =
    inr (omega (arith, is.0), suc is.1, omega (arith, within, full, is.0, is.2, pow-suc 2 is.1))

-- What the capacity becomes for so many more nodes.
module _ (paid : Paid) (len cap n : ℕ) (few : len + n ≤ 2 ^ 24 + 4) where
  full_grows : cap < len + n → amortised_growth 88 cap (len + n) ≡ GrowsTo (max (2 * cap) (len + n))
  full_grows full = grind (arith, nat_tests)

  pub cap_doubled : (power : ℕ) → n ≡ 2 ^ power → len ≤ cap → IsDoubled n cap
      → IsDoubled n (capacity_after (amortised_growth 88 cap (len + n)) cap)
  cap_doubled power many within doubled = by (cases_lt cap (len + n))
    where
      by : (cap < len + n) ⊎ (len + n ≤ cap) → IsDoubled n (capacity_after (amortised_growth 88 cap (len + n)) cap)
      by (inl full) = subst (λ (g : Growth). IsDoubled n (capacity_after g cap)) (sym (full_grows full))
          (more_doubled n power len cap many within full doubled)
      by (inr room) = subst (λ (g : Growth). IsDoubled n (capacity_after g cap))
          (sym (paid.stays 88 cap (len + n) (amortised 88 cap (len + n)) room)) doubled

module _ (paid : Paid) (old new : View) (v w : Vec Node) (list : List Node) (one : old.memory.state.min_align ≡ 1)
    (held : IsVecIn node_item old.memory v) (n : ℕ) (some : 1 ≤ n) (few : v.raw.len + n ≤ 2 ^ 24 + 4) (longer : length list ≡ v.raw.len + n) where
  abbrev pub growth : Growth
  growth = amortised_growth 88 v.raw.cap (v.raw.len + n)

  abbrev pub credit : ℕ
  credit = credit_of 88 v.raw.len v.raw.cap

  abbrev pub later : ℕ
  later = credit_of 88 w.raw.len w.raw.cap

  abbrev Pushes : Result (Unit {0}) AllocError → Type 0
  Pushes result = Grows {X = Unit {0}} node_item old new v growth list w result

  asked : asked_by 88 growth + credit_of 88 (v.raw.len + n) (capacity_after growth v.raw.cap) ≤ credit + 352 * n
  asked = omega (arith, paid.asks 88 v.raw.cap v.raw.len n held.within (omega arith) (omega arith))

  small : (more : ℕ) → growth ≡ GrowsTo more → more * 88 ≤ credit + 352 * n
  small more is = omega (arith, rw is at asked)

  layout : (more : ℕ) → growth ≡ GrowsTo more → IsTrue (is_layout (more * 88) 8)
  layout more is = row_is_layout more 88 8 plain_88_8 (omega (arith, small more is)) (omega arith)

  -- No growth overflows.
  never : (result : Result (Unit {0}) AllocError) → growth ≡ Overflows → Pushes result → ⊥
  never result is grows = paid.fits old new v w (v.raw.len + n) list result (omega arith) (omega arith) grows (rw is at grows.made).0

  -- The nodes are paid by their cost and by what the list saved.
  costs : (g : Growth) → growth ≡ g → (result : Result (Unit {0}) AllocError) → Pushes result
      → Costs {X = Unit {0}} farthest (359 * n) credit later old new result
  costs Stays is (Ok tt) grows =
      let kept : w.raw.cap ≡ v.raw.cap = rw is at grows.cap in
      costs_nothing farthest (359 * n) credit later old new tt (rw is at grows.made).1 (omega (arith, rw is at asked, kept, grows.len, longer))
  costs Stays is (Err e) grows = absurd (rw is at grows.made).0
  costs (GrowsTo more) is result grows =
      room_costs old new v.raw.block 88 8 v.raw.cap more (λ (x : Unit {0}). w.raw.block) (359 * n) credit later one held.place result
      (rw is at (paid.keeps 88 v.raw.cap (v.raw.len + n))) (record {
        layout = layout more is;
        small = omega arith;
        bounded = omega (arith, small more is);
        within = omega (arith, rw is at asked);
        ok = ok result grows;
        err = err result grows;
      }) (rw is at grows.made)
    where
      ok : (result : Result (Unit {0}) AllocError) → Pushes result → OnOk result (more * 88 + (8 - 1) + later ≤ 359 * n + credit)
      ok (Ok tt) grows = let kept : w.raw.cap ≡ more = rw is at grows.cap in omega (arith, rw is at asked, kept, grows.len, longer)
      ok (Err e) grows = tt

      err : (result : Result (Unit {0}) AllocError) → Pushes result → OnErr result (later ≤ 359 * n + credit)
      err (Ok tt) grows = tt
      err (Err e) grows = omega (arith, ap (λ (u : Vec Node). credit_of 88 u.raw.len u.raw.cap) grows.err.0)
  costs Overflows is result grows = absurd (never result is grows)

  -- the list that is asked for where there is no room
  becomes_longer : (more : ℕ) → growth ≡ GrowsTo more → LongerList v.raw.len v.raw.cap n (more * 88) 8
  becomes_longer more is = by (cases_lt v.raw.cap (v.raw.len + n))
    where
      by : (v.raw.cap < v.raw.len + n) ⊎ (v.raw.len + n ≤ v.raw.cap) → LongerList v.raw.len v.raw.cap n (more * 88) 8
      by (inl full) =
          let grown = full_grows paid v.raw.len v.raw.cap n few full in
          let same : more ≡ max (2 * v.raw.cap) (v.raw.len + n) = cc (is, grown) in
          (omega (arith, full), (ap (λ n. n * 88) same, refl))
      by (inr room) = let none = paid.stays 88 v.raw.cap (v.raw.len + n) (amortised 88 v.raw.cap (v.raw.len + n)) room in absurd (cc (is, none))

  denied : (g : Growth) (k : ℕ) → growth ≡ g → Pushes (Err (AllocErr k))
      → IsDenied (LongerList v.raw.len v.raw.cap n) new × IsCounted k old new
  denied Stays k is grows = absurd (rw is at grows.made).0
  denied (GrowsTo more) k is grows =
      let refused = room_refused_as old new v.raw.block 88 8 v.raw.cap (λ (x : Unit {0}). w.raw.block) more one held.place (layout more is)
      (AllocErr k) grows.err.1 (rw is at grows.made) in (
        record {
          size = more * 88;
          align = 8;
          asked = becomes_longer more is;
          none = refused_place old new (more * 88) 8 k (layout more is) refused;
        },
        told old new (more * 88) 8 k refused,
      )
  denied Overflows k is grows = absurd (never (Err (AllocErr k)) is grows)

  pub node_spends : (result : Result (Unit {0}) AllocError) → Grows node_item old new v growth list w result
      → Spends (LongerList v.raw.len v.raw.cap n) (359 * n) credit later old new (error_of result)
  node_spends result grows =
      let cost = costs growth refl result grows in
      record { takes = cost.takes; asks = cost.asks; kind = frame_kind grows.frame; stops = stops result grows cost }
    where
      far : (farthest < top_of old.memory.state.chunks) ⊎ (2 ^ 60 ≤ allocated_bytes new.memory.state) ⊎ IsRefusedBySource old new
          → IsStarvedBehind old new
      far (inl up) = inr (inr (omega (arith, up, (costs growth refl result grows).asks.chunks.allocated)))
      far (inr (inl much)) = inr (inl much)
      far (inr (inr refused)) = inl refused

      stops : (r : Result (Unit {0}) AllocError) → Pushes r → Costs {X = Unit {0}} farthest (359 * n) credit later old new r
          → Stops (LongerList v.raw.len v.raw.cap n) (used old + (359 * n + credit)) old new (error_of r)
      stops (Ok tt) grows cost = tt
      stops (Err (AllocErr k)) grows cost = (
        record {
          counted = (denied growth k refl grows).1;
          starved = λ growing. far (cost.starved growing k refl).cause;
          full = λ still. cost.full still k refl;
          denied = (denied growth k refl grows).0;
        },
        unchanged grows.err.1,
      )
      stops (Err OutOfMemory) grows cost = unchanged grows.err.1
      stops (Err CapacityOverflow) grows cost =
          absurd (paid.fits old new v w (v.raw.len + n) list (Err CapacityOverflow) (omega arith) (omega arith) grows refl)

-- The first node of a new list costs as much, since nothing is saved for it.
pub first_node : (old new : View) (v : Vec Node) (later : ℕ) (error : Option AllocError) → v.raw.len ≡ 0
    → Spends (LongerList v.raw.len v.raw.cap 1) 359 (credit_of 88 v.raw.len v.raw.cap) later old new error
    → Spends (ListOf 1) 359 0 0 old new error
first_node old new v later error none spends =
    asks_of (λ size align longer. (longer.1.0 ∙ ap (λ n. n * 88) (one longer.0), longer.1.1))
    (spends_more spends (omega (arith, none)) (omega (arith, none)))
  where
    one : v.raw.cap < v.raw.len + 1 → max (2 * v.raw.cap) (v.raw.len + 1) ≡ 1
    one few = omega (arith, few, none)

-- A first list of so many nodes is paid by their cost.
pub list_spends : {len cap n room : ℕ} (old new : View) (result : Result (Vec Node) AllocError) → cap ≡ 0 → len ≤ cap → 1 ≤ n
    → (n ≤ room) × (room ≤ 2 * n) → Spends (ListOf room) (128 * room) 0 0 old new (error_of result)
    → IfOk result (λ v. v.raw.len ≡ n) → IfOk result (λ v. v.raw.cap ≡ room)
    → SpendsOnMore (ListFor len cap n room) (359 * n) (credit_of 88 len cap) old new result
list_spends {len} {cap} {n} {room} old new result none within some fits spends len_is cap_is =
    subst (λ before. SpendsOnMore (ListFor len cap n room) (359 * n) before old new result) unsaved (by result spends len_is cap_is)
  where
    unsaved : 0 ≡ credit_of 88 len cap
    unsaved = omega (arith, none, within)

    by : (r : Result (Vec Node) AllocError) → Spends (ListOf room) (128 * room) 0 0 old new (error_of r)
        → IfOk r (λ v. v.raw.len ≡ n) → IfOk r (λ v. v.raw.cap ≡ room) → SpendsOnMore (ListFor len cap n room) (359 * n) 0 old new r
    by (Ok v) spends len_is cap_is = asks_any (spends_more spends (omega (arith, fits, some)) (omega (arith, fits, some, len_is, cap_is)))
    by (Err e) spends len_is cap_is = asks_of (λ size align list. inl (none, list))
        (spends_more spends (omega (arith, fits, some)) (omega (arith, fits, some)))
