-- What copies of maps do.
use Rattle.std.proofs.lemmas.Bool.Decides.{nat_tests}
use Rattle.std.proofs.Common.{IsPermutation, ◌≡◌, ℕ, zero, suc, ◌+◌, ◌-◌, ◌*◌, ◌^◌, ◌<◌, ◌≤◌, max, refl, sym, ap, ◌∙◌, subst, arith, is_some, Ok, Err, Option, Some, None, Result, List, [], ◌∷◌}
use Rattle.std.proofs.Math.Path.{fun_ext}
use Rattle.arena_chunks.specs.Memory.{Memory}
use Rattle.arena_chunks.specs.Source.{View}
use Rattle.arena_chunks.specs.Frame.{Frame}
use Rattle.arena_store.specs.declared.block.Block.{Block}
use Rattle.arena_items.specs.Asks.{solid, Asked, TakesBlock, refusal}
use Rattle.arena_items.specs.declared.room.AllocError.{AllocError}
use Rattle.arena_items.proofs.Layers.{empty_solid}
use Rattle.arena_hash.specs.Accounts.{unit_of}
use Rattle.arena_hash.specs.Finite.{has, value_of}
use Rattle.arena_hash.specs.Maps.{IsMapIn, map_in, pairs_in}
use Rattle.arena_hash.specs.Policy.{IsSlotsFor, slot_size, table_align}
use Rattle.arena_hash.specs.declared.map.HashMap.{HashMap}
use Rattle.hash_ring.specs.declared.hasher.FxHasher.{FxHasher}
use Rattle.arena_clone.specs.Asks.{AsksFor}
use Rattle.arena_clone.specs.Copies.{Copies}
use Rattle.arena_clone.specs.FlatLaws.{none_in_all}
use Rattle.arena_clone.specs.Kinds.{Kind, plain, row_of, of_some}
use Rattle.arena_clone.specs.MapKind.{map_of, pair_of, table_ask}
use Rattle.arena_kinds.specs.declared.ids.CloneInSemanticIds.TheVariants.{With}
use Rattle.script_rules.specs.Objects.{get, AMap}
use Rattle.script_rules.specs.declared.commands.Command.TheVariants.{CopyTo}
use Rattle.script_rules.specs.declared.commands.ScriptReply.TheVariants.{Done}
use Rattle.arena_script.specs.Kinds.{pairs}
use Rattle.arena_script.specs.Things.{Things, content, pairs_of, entries_below, IsPairsIn, credit_of}
use Rattle.arena_script.specs.Acts.{GivesThing, GivesNothing}
use Rattle.arena_script.specs.declared.thing.Thing.TheVariants as thing
use Rattle.arena_script.proofs.AskLemmas.{copy_taken, copy_refused}
use Rattle.arena_script.specs.Asks.{table_of, table_for}
use Rattle.arena_rules.proofs.SizeLemmas.{next_power}
use Rattle.arena_rules.specs.Search.{power_at_least}
use Rattle.arena_script.proofs.CopyActs.{copy_gives, copy_gives_nothing}
use Rattle.arena_script.proofs.GivingLemmas.{IsGiven}
use Rattle.arena_script.proofs.CostFacts.{IsRefused, same_used, nothing_given}
use Rattle.arena_script.proofs.MapActs.{slots_layout}
use Rattle.arena_script.proofs.PairFacts.{value_some}
use Rattle.arena_script.proofs.ThingLemmas.{Holds}
use Rattle.arena_script.proofs.TakenLemmas.{taken, not_taken, one_block}

abbrev Map : Type 0
Map = HashMap ℕ ℕ FxHasher

abbrev map_kind : Kind Map
map_kind = map_of pairs Rattle.hash_ring.specs.contracts.hasher.FxHasherDefault.TheImpl.ghosts.is_default plain plain

-- numbers are held in any memory
plain_all : (m : Memory) (ps : List (ℕ × ℕ)) → (row_of (pair_of (plain {T = ℕ}) (plain {T = ℕ}))).is_held m ps
plain_all m [] = tt
plain_all m (p ∷ ps) = ((tt, tt), plain_all m ps)

pub map_ready : (m : Memory) (h : Map) → IsMapIn pairs m h → map_kind.is_held m h
map_ready m h held = (held, plain_all m (pairs_in pairs m h))

some_same : (o : Option ℕ) → of_some (λ (v : ℕ). v) o ≡ o
some_same o = grind (arith, nat_tests)

value_is : (o : Option (ℕ × ℕ)) → of_some (λ (p : ℕ × ℕ). p.1) o ≡ value_of o
value_is o = grind (arith, nat_tests)

-- what a new table for n pairs takes
abbrev IsTableBound : Type 0
IsTableBound = (ps slots : ℕ) → 0 < ps → IsSlotsFor ps slots → slots * slot_size 4 4 + (table_align 4 4 - 1) ≤ unit_of pairs * ps

-- maps of the same contents have one length
abbrev SameLength : Type 0
SameLength = (a c : Memory) (m w : Map) → IsMapIn pairs a m → IsMapIn pairs c w
    → ((q : List ℕ) → has (map_in pairs a m) q ≡ has (map_in pairs c w) q) → m.len ≡ w.len

module _ (old new : View) (other : ℕ) {things : Things} {name : ℕ} {h : Map} (holds : Holds things old.memory name (thing.Map h))
    (none : get things other ≡ None) (one : old.memory.state.min_align ≡ 1) (bound : IsTableBound) (lengths : SameLength) where
  abbrev Cloned : Result Map AllocError → Type 0
  Cloned result = Copies map_kind With old.memory old new h result

  abbrev cost : ℕ
  cost = 256 * h.len

  few : h.len < 2 ^ 32
  few = omega (arith, holds.is.0, holds.held.count)

  -- the slots of a new table
  slots_are : (n slots : ℕ) → n < 2 ^ 32 → IsSlotsFor (suc n) slots → slots ≡ power_at_least (max (2 * suc n) 8)
  slots_are n slots less are = next_power (max (2 * suc n) 8) slots (omega (arith, less)) are

  -- only the table is asked for
  table_asked : (blocks : List Block) (end : Option AllocError) → AsksFor (map_kind.asks old.memory h) old new blocks end
      → AsksFor (table_ask pairs h.len ∷ []) old new blocks end
  table_asked blocks end asked = subst (λ xs. AsksFor (table_ask pairs h.len ∷ xs) old new blocks end)
      (none_in_all (λ (p : ℕ × ℕ). (pair_of (plain {T = ℕ}) (plain {T = ℕ})).asks old.memory p) (λ p. refl) (pairs_in pairs old.memory h))
      asked

  module _ {copy : Map} (copies : Cloned (Ok copy)) where
    same_value : (q : List ℕ) → value_of (map_in pairs new.memory copy q) ≡ value_of (map_in pairs old.memory h q)
    same_value q =
        sym (value_is (map_in pairs new.memory copy q)) ∙ ap (λ (w : List ℕ → Option ℕ). w q) copies.made.means
        ∙ some_same (of_some (λ (p : ℕ × ℕ). p.1) (map_in pairs old.memory h q)) ∙ value_is (map_in pairs old.memory h q)

    same_has : (q : List ℕ) → has (map_in pairs new.memory copy) q ≡ has (map_in pairs old.memory h) q
    same_has q = sym (value_some (map_in pairs new.memory copy q)) ∙ ap is_some (same_value q) ∙ value_some (map_in pairs old.memory h q)

    same_pairs : pairs_of (map_in pairs new.memory copy) ≡ pairs_of (map_in pairs old.memory h)
    same_pairs = ap (entries_below (2 ^ 32)) (fun_ext (λ key. same_value (content key)))

    same_len : copy.len ≡ h.len
    same_len = lengths new.memory old.memory copy h copies.made.held.0 holds.held.held same_has

    map_held : IsPairsIn new.memory copy
    map_held = grind (arith, nat_tests, same_len, same_pairs)

    -- Its block is the one that was placed.
    own : (b : Block) → copies.blocks ≡ b ∷ [] → copy.table.block ≡ b
    own b is = sym (one_block copy.table.block b
        (subst (λ bs. IsPermutation (copy.table.block ∷ []) bs) is
        (subst (λ xs. IsPermutation (copy.table.block ∷ xs) copies.blocks)
        (none_in_all (λ (p : ℕ × ℕ). (pair_of (plain {T = ℕ}) (plain {T = ℕ})).deep new.memory p) (λ p. refl)
        (pairs_in pairs new.memory copy))
        copies.made.deep)))

    map_frame : (b : Block) → copies.blocks ≡ b ∷ [] → Frame old.memory new.memory [] (copy.table.block ∷ [])
    map_frame b is = subst (λ bs. Frame old.memory new.memory [] bs) (is ∙ ap (λ (b : Block). b ∷ []) (sym (own b is))) copies.placed.frame

    by_len : (n : ℕ) → h.len ≡ n → AsksFor (table_ask pairs n ∷ []) old new copies.blocks None
        → IsGiven cost (table_for n) old new None (thing.Map copy)
    by_len zero none (b, rest, empty, is, (last, empties, same)) =
        let whole = is ∙ ap (λ (bs : List Block). b ∷ bs) empties in record {
          held = map_held;
          takes = (empty_solid copy.table.block (ap (λ (b : Block). b.size) (own b whole) ∙ empty), same);
          least = omega (arith, same_used old new same, empty, ap (λ (b : Block). b.size) (own b whole));
          costs = nothing_given cost 0 (credit_of (thing.Map copy)) old new same (omega (arith, same_len, none));
          frame = map_frame b whole;
        }
    by_len (suc n) some (slots, are, takes) =
        let within = bound (suc n) slots (omega arith) are in
        let layout = slots_layout (slots * 9) (omega (arith, within, some, few)) in
        let is = taken old new (slots * 9) 8 copies.blocks cost one layout (omega arith) (omega (arith, within, some, few))
        (credit_of (thing.Map copy)) (omega (arith, within, some, same_len)) takes in record {
          held = map_held;
          takes = subst (λ k. TakesBlock (table_of k) None old new (solid copy.table.block)) (slots_are n slots (omega (arith, some, few)) are)
              (copy_taken old new (slots * 9) 8 copies.blocks copy.table.block (is.is ∙ ap (λ (b : Block). b ∷ []) (sym (own is.block is.is))) takes);
          least = omega (arith, is.least, is.of_size, ap (λ (b : Block). b.size) (own is.block is.is));
          costs = is.costs;
          frame = map_frame is.block is.is;
        }

    pub map_copy_gives : GivesThing (CopyTo name other) things old new other (thing.Map copy) Done
    map_copy_gives = copy_gives holds none (ap (λ k. 256 * k) (sym holds.held.count)) (thing.Map copy) (ap AMap same_pairs)
        (subst (λ n. IsGiven cost (table_for n) old new None (thing.Map copy)) holds.held.count
        (by_len h.len refl (table_asked copies.blocks None copies.placed.asked)))

  -- Why a map isn't copied.
  map_denied : (blocks : List Block) (e : AllocError) (n : ℕ) → h.len ≡ n → AsksFor (table_ask pairs n ∷ []) old new blocks (Some e)
      → IsRefused cost 0 old new e
  map_denied blocks e zero none (b, rest, empty, is, (last, empties, same)) = absurd (let no = last in cc)
  map_denied blocks e (suc n) some (slots, are, takes) =
      let within = bound (suc n) slots (omega arith) are in
      let layout = slots_layout (slots * 9) (omega (arith, within, some, few)) in
      not_taken old new (slots * 9) 8 blocks cost one layout (omega arith) (omega (arith, within, some, few)) e
      (omega (arith, within, some)) takes

  map_refused : (blocks : List Block) (e : AllocError) (n : ℕ) → h.len ≡ n → AsksFor (table_ask pairs n ∷ []) old new blocks (Some e)
      → Asked (table_for n) old new (refusal e)
  map_refused blocks e zero none (b, rest, empty, is, (last, empties, same)) = absurd (let no = last in cc)
  map_refused blocks e (suc n) some (slots, are, takes) =
      subst (λ k. Asked (table_of k) old new (refusal e)) (slots_are n slots (omega (arith, some, few)) are)
      (copy_refused old new (slots * 9) 8 blocks e takes)

  pub map_copy_gives_nothing : {e : AllocError} → Cloned (Err e) → GivesNothing (CopyTo name other) things old new e
  map_copy_gives_nothing {e} copies =
      let asked = table_asked copies.blocks (Some e) copies.placed.asked in
      copy_gives_nothing holds none (ap (λ k. 256 * k) (sym holds.held.count))
      (subst (λ n. Asked (table_for n) old new (refusal e)) holds.held.count (map_refused copies.blocks e h.len refl asked)) (map_denied copies.blocks e h.len refl asked)
