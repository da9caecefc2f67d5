-- An interner and a scoped table in one arena.
use Rattle.std.proofs.lemmas.Bool.Decides.{nat_tests}
use Rattle.std.proofs.Common.{◌≡◌, ℕ, List, [], ◌∷◌, refl, sym, ap, ◌∙◌, inl, inr, Some, Ok, Err, Bool, true, false, ◌≢◌, ◌<◌, ◌≤◌, length, arith, None, ◌+◌, ◌-◌, ◌^◌}
use Rattle.std.specs.Prelude.{if◌then◌else◌, not, Result, IfOk, IfErr, OnOk, ◌↔◌}
use Rattle.std.proofs.lemmas.Result.{IfOk-weaker}
use Rattle.arena_rules.proofs.AskingLemmas.{asks_more}
use Rattle.arena_chunks.specs.Memory.{Memory}
use Rattle.arena_chunks.specs.Source.{View}
use Rattle.arena_chunks.specs.Frame.{Frame, AreAllApart}
use Rattle.arena_store.specs.declared.block.Block.{Block}
use Rattle.arena_chunks.proofs.Layers.{all_apart, all_from_none, all_from_both, frame_then, frame_beside, frame_behind, frame_keeps_all}
use Rattle.arena_items.specs.Asks.{refusal}
use Rattle.arena_items.specs.Costs.{Costs}
use Rattle.arena_items.specs.Room.{SamePlaces}
use Rattle.arena_items.specs.declared.room.AllocError.{AllocError}
use Rattle.arena_items.specs.declared.room.AllocError.TheVariants.{CapacityOverflow}
use Rattle.arena_items.proofs.Layers.{stays_readable, stays_agree, stays_apart, costs_weaken, costs_ok, costs_then}
use Rattle.arena_symbols.specs.Interner.{number_of, most_texts}
use Rattle.arena_symbols.specs.Interning.{Interns}
use Rattle.arena_symbols.specs.Named.{AreNames, Moves, IsNumbered, TakesName, IsNameDenied, Declares, Spends, DeclaresWithin, OwnScopeWithin, IsFullFor, all_credit, meaning}
use Rattle.arena_symbols.specs.Names.{names_in, names_footprint, names_credit}
use Rattle.arena_symbols.specs.Scoping.{innermost, is_in_last, outer_of, with_pair, pair_count, most_scopes, most_pairs}
use Rattle.arena_symbols.specs.Paying.{Pays, far_up}
use Rattle.arena_symbols.specs.TableCalls.{TakesPair, IsPairDenied, Defines}
use Rattle.arena_symbols.specs.laws.TableLaws.{table_readable, table_same, table_held_again}
use Rattle.arena_symbols.specs.Tables.{entry_item, IsTableIn, scopes_in, table_blocks, table_credit}
use Rattle.arena_symbols.specs.declared.scopes.Scopes.{Scopes}
use Rattle.arena_symbols.specs.declared.symbols.Symbols.{Symbols}
use Rattle.arena_symbols.specs.declared.names.Names.{Names}
use Rattle.arena_symbols.proofs.InternLemmas.{interner_beside}
use Rattle.arena_symbols.proofs.PayLemmas.{pays_as, pays_more}
use Rattle.arena_symbols.proofs.ScopeLemmas.{lookup_put}
use Rattle.arena_symbols.proofs.TableLemmas.{depth_is}

-- If blocks are apart from others, the others are apart from them.
pub all_turned : (bs cs : List Block) → AreAllApart bs cs → AreAllApart cs bs
all_turned [] cs apart = all_from_none cs
all_turned (b ∷ bs) cs apart = (all_from_both cs (b ∷ []) bs).1 (all_apart b cs apart.0, all_turned bs cs apart.1)

-- ---- A call on the scopes, or on the texts

module _ {old new : Memory} {n : Names} (held : AreNames old n) where
  -- The texts stay,
  pub scopes_moved : (u : Scopes) → IsTableIn entry_item new u → Frame old new (table_blocks n.scopes) (table_blocks u)
      → Moves old new n (record n { scopes = u }) × (names_in new n.symbols ≡ names_in old n.symbols)
  scopes_moved u there frame =
      let names = names_footprint old n.symbols in
      let stays = interner_beside n.symbols frame held.symbols (all_turned (table_blocks n.scopes) names held.apart) in
      let apart = all_turned names (table_blocks u) stays.apart in
      let all = frame_beside old new (table_blocks n.scopes) (table_blocks u) names frame in
      grind (arith, stays.held, stays.texts, stays.names, there, apart, all)

module _ {old new : View} {n : Names} {t : Symbols} {name : List ℕ} {result : Result ℕ AllocError} (held : AreNames old.memory n)
    (interns : Interns old new n.symbols t name result) where
  -- or the maps.
  pub texts_moved : Moves old.memory new.memory n (record n { symbols = t })
      × (scopes_in entry_item new.memory n.scopes ≡ scopes_in entry_item old.memory n.scopes)
  texts_moved =
      let table = table_blocks n.scopes in
      let names = names_footprint new.memory t in
      let stays = frame_keeps_all old.memory new.memory _ names table interns.frame
      (table_readable entry_item old.memory n.scopes held.scopes) held.apart in
      let agree = stays_agree old.memory new.memory names table stays in
      let again = table_held_again entry_item old.memory new.memory n.scopes agree held.scopes (stays_readable _ _ names table stays) in
      let same = table_same entry_item old.memory new.memory n.scopes agree in
      grind (arith, interns.held, again, stays_apart _ _ names table stays, frame_behind _ _ _ _ table interns.frame, same)

pub moves_then : {old mid new : Memory} {n m k : Names} → Moves old mid n m → Moves mid new m k → Moves old new n k
moves_then first last = record { held = last.held; frame = frame_then _ _ _ _ _ _ first.frame last.frame }

-- ---- A declaration

spent : {X : Type 0} {far bytes : ℕ} {old new : View} {n m : Names} {result : Result X AllocError}
    → Pays far bytes (all_credit n) (all_credit m) old new result → Spends far bytes old new n m result
spent pays = record { costs = pays.costs; told = pays.told }

pub unnamed : {old mid : View} {n : Names} {t : Symbols} {name : List ℕ} {value : ℕ} {e : AllocError} → AreNames old.memory n
    → Interns old mid n.symbols t name (Err e) → Declares old.memory mid.memory n (record n { symbols = t }) name value (Err e)
    × DeclaresWithin {X = Bool} old mid n (record n { symbols = t }) name (Err e)
unnamed {old = old} {mid = mid} {n = n} {t = t} {name = name} {e = e} held interns =
    let moved = texts_moved held interns in
    let pays : Pays {X = Bool} (far_up - 2 ^ 61) (1536 + length name) (all_credit n) (all_credit (record n { symbols = t })) old mid
    (Err e) = pays_as (table_credit n.scopes) (λ d is. cc) (omega arith) (omega arith) (omega arith) (omega arith) interns.pays in
    let denied : e ≢ CapacityOverflow → IsNameDenied old mid n (record n { symbols = t }) name (refusal e) =
    λ fits. inl (interns.denied fits) in
    grind (arith, moved, interns.overflows, interns.kept, interns.fresh, denied, spent {n = n} {m = record n { symbols = t }} pays)

-- A declaration that overflows at the pairs, after the name has its number.
overflows_at : {P : Type 0} {maps scopes : List (List (ℕ × ℕ))} {id : ℕ} (texts now : List (List ℕ)) (name : List ℕ) → maps ≡ scopes
    → number_of now name ≡ Some id → ((number_of texts name ≡ None) × (most_texts ≤ length texts) → ⊥)
    → (P ↔ ((is_in_last maps id ≡ false) × (most_pairs ≤ pair_count maps))) → P ↔ IsFullFor texts now scopes name
overflows_at texts now name same number room full = grind (arith, nat_tests)

-- What is asked for a name and then its pair.
declared_asks : (old mid new : View) (n m : Names) {name : List ℕ} {id : ℕ} (result : Result Bool AllocError)
    → IsNumbered old mid n m name id → OnOk result (TakesPair entry_item mid new n.scopes m.scopes id)
    → IfErr result (λ e. e ≢ CapacityOverflow → IsPairDenied entry_item mid new n.scopes m.scopes id (refusal e))
    → OnOk result (TakesName old new n m name) × IfErr result (λ e. e ≢ CapacityOverflow → IsNameDenied old new n m name (refusal e))
declared_asks old mid new n m {id = id} (Ok b) numbered took denied = ((mid, id, numbered, took), tt)
declared_asks old mid new n m {id = id} (Err e) numbered took denied = (tt, λ fits. inr (mid, id, numbered, denied fits))

pub bound : {old mid new : View} {n : Names} {t : Symbols} {u : Scopes} {name : List ℕ} {id value : ℕ} (result : Result Bool AllocError)
    → AreNames old.memory n → Interns old mid n.symbols t name (Ok id) → Defines entry_item mid new n.scopes u id value result
    → Declares old.memory new.memory n (record { symbols = t; scopes = u }) name value result
    × DeclaresWithin old new n (record { symbols = t; scopes = u }) name result
bound {old = old} {mid = mid} {new = new} {n = n} {t = t} {u = u} {name = name} {id = id} {value = value} result held interns defines =
    let one = texts_moved held interns in
    let two = scopes_moved one.0.held u defines.held defines.frame in
    let scopes = scopes_in entry_item old.memory n.scopes in
    let number = ap (λ (l : List (List ℕ)). number_of l name) two.1 ∙ interns.number in
    let first : Pays (far_up - 2 ^ 61) (1024 + length name) (all_credit n) (names_credit t + table_credit n.scopes) old mid (Ok id) =
    pays_more (table_credit n.scopes) (omega arith) (omega arith) (omega arith) (omega arith) interns.pays in
    let second : Pays far_up 512 (names_credit t + table_credit n.scopes) (names_credit t + table_credit u) mid new result =
    pays_more (names_credit t) (omega arith) (omega arith) (omega arith) (omega arith) defines.pays in
    let overflows = overflows_at (names_in old.memory n.symbols) (names_in new.memory t) name one.1 number
    (λ many. (let no = interns.overflows.1 many in cc)) defines.overflows in
    let costs : Costs (far_up - 2 ^ 61) (1536 + length name) (all_credit n) (names_credit t + table_credit u) old new result =
    costs_weaken _ _ _ _ _ _ old new result (omega arith) (omega arith)
    (costs_then (far_up - 2 ^ 61) (1024 + length name) 512 _ _ _ old mid new (Ok id) result interns.texts.1.frame.is_growing
    interns.texts.1.frame.allocated refl first.costs second.costs) in
    let put : IfOk result (λ b. (id : ℕ) × (number_of (names_in new.memory t) name ≡ Some id) × (b ≡ not (is_in_last scopes id))
    × (scopes_in entry_item new.memory u ≡ (if b then with_pair scopes id value else scopes))) =
    IfOk-weaker result (λ b. (b ≡ not (is_in_last scopes id))
    × (scopes_in entry_item new.memory u ≡ (if b then with_pair scopes id value else scopes))) _ (λ b is. (id, number, is.0, is.1))
    (grind (arith, one.1, defines.says, defines.scopes)) in
    let moves = moves_then one.0 two.0 in
    let numbered : IsNumbered old mid n (record { symbols = t; scopes = u }) name id =
    record { took = interns.took; number = interns.number; same = one.1 } in
    let asks = declared_asks old mid new n (record { symbols = t; scopes = u }) result numbered defines.took defines.denied in
    let spends : Spends (far_up - 2 ^ 61) (1536 + length name) old new n (record { symbols = t; scopes = u }) result =
    record { costs = costs; told = grind (arith, second.told, first.costs.asks.refusals) } in
    grind (arith, moves, two.1, interns.names, put, one.1, defines.kept, overflows, asks, spends)

-- the outer maps after a pair was put
outer_put : (scopes : List (List (ℕ × ℕ))) (id value : ℕ) → outer_of (with_pair scopes id value) ≡ outer_of scopes
outer_put scopes id value = grind (arith, nat_tests)

module _ {old new : Memory} {n m : Names} {name : List ℕ} {value : ℕ} where
  -- A name that was declared has its value,
  pub means_value : (result : Result Bool AllocError) → Declares old new n m name value result → result ≡ Ok true
      → meaning new m name ≡ Some value
  means_value result declares is = grind (arith, nat_tests, depth_is, lookup_put)

  -- as it does in an empty scope.
  pub not_there : (result : Result Bool AllocError) → Declares old new n m name value result
      → innermost (scopes_in entry_item old n.scopes) ≡ [] → result ≡ Ok false → ⊥
  not_there result declares none is = grind (arith, (rw is at declares).put.2, none)

  -- The outer scopes stay.
  pub outer_kept : (result : Result Bool AllocError) → Declares old new n m name value result
      → outer_of (scopes_in entry_item new m.scopes) ≡ outer_of (scopes_in entry_item old n.scopes)
  outer_kept result declares = grind (arith, declares.put, declares.kept, outer_put)

-- for automatic proof of declarations
pub ruleset declarations = (means_value, not_there, outer_kept)

pub outer_long : (scopes : List (List (ℕ × ℕ))) → 0 < length (outer_of scopes) → 2 ≤ length scopes
outer_long scopes some = grind (arith, nat_tests)

-- ---- A scope of its own

module _ {X Y : Type 0} {old new : View} {n m : Names} {name : List ℕ} where
  -- The value of a successful result doesn't matter.
  pub within_ok : {x : X} (y : Y) → DeclaresWithin old new n m name (Ok x) → DeclaresWithin old new n m name (Ok y)
  within_ok y within = grind (arith, within)

  pub within_err : {e : AllocError} → DeclaresWithin {X = X} old new n m name (Err e) → DeclaresWithin {X = Y} old new n m name (Err e)
  within_err within = grind (arith, within)

full_as : (name : List ℕ) {texts others now later : List (List ℕ)} {scopes maps : List (List (ℕ × ℕ))} → others ≡ texts → later ≡ now
    → maps ≡ scopes → IsFullFor texts now scopes name → IsFullFor others later maps name
full_as name texts now scopes full = rw (texts, now, scopes) full

module _ {X : Type 0} {old new : View} {n m : Names} (name : List ℕ) where
  -- The scope is refused,
  pub unscoped : (e : AllocError)
      → (◌≡◌ {A = Result (Unit {0}) AllocError} (Err e) (Err CapacityOverflow))
      ↔ (most_scopes ≤ length (scopes_in entry_item old.memory n.scopes))
      → Pays {X = Unit {0}} far_up 64 (all_credit n) (all_credit m) old new (Err e) → OwnScopeWithin {X = X} old new n m name (Err e)
  unscoped e overflows pays =
      let same : Pays {X = X} far_up 64 (all_credit n) (all_credit m) old new (Err e) =
      pays_as 0 (λ d is. cc) (omega arith) (omega arith) (omega arith) (omega arith) pays in
      record {
        deepest = λ deep. let is = overflows.1 deep in cc;
        overflows = λ is. inl (overflows.0 (cc));
        full = λ is. inr (refl, spent same);
        spends = spent (pays_more 0 (omega arith) (omega arith) (omega arith) (omega arith) same);
      }

  -- or the name is declared in it, and it ends.
  pub scoped : {mid last : View} {k o : Names} (result : Result X AllocError) → Moves old.memory mid.memory n k
      → (most_scopes ≤ length (scopes_in entry_item old.memory n.scopes) → ⊥)
      → names_in mid.memory k.symbols ≡ names_in old.memory n.symbols
      → scopes_in entry_item mid.memory k.scopes ≡ [] ∷ scopes_in entry_item old.memory n.scopes
      → Pays {X = Unit {0}} far_up 64 (all_credit n) (all_credit k) old mid (Ok tt) → DeclaresWithin mid last k o name result
      → names_in new.memory m.symbols ≡ names_in last.memory o.symbols → SamePlaces last new → all_credit m ≤ all_credit o
      → OwnScopeWithin old new n m name result
  scoped {mid = mid} {last = last} {k = k} {o = o} result begun few texts scopes pays declares same places less =
      let all : Costs (far_up - 2 ^ 62) (64 + (1536 + length name)) (all_credit n) (all_credit o) old last result =
      costs_then (far_up - 2 ^ 62) 64 (1536 + length name) _ _ _ old mid last (Ok (tt {0})) result begun.frame.is_growing
      begun.frame.allocated refl
      (costs_ok far_up (far_up - 2 ^ 62) 64 _ _ old mid (Ok (tt {0})) refl pays.costs) declares.spends.costs in
      record {
        deepest = λ deep. absurd (few deep);
        overflows = λ is. inr (full_as name (sym texts) same (sym scopes) (declares.overflows.0 is));
        full = λ is. inl (declares.overflows.1 (full_as name texts (sym same) scopes is));
        spends = record {
          costs = record {
            takes = rw places.state (omega (arith, all.takes, less));
            asks = rw (places.state, places.source)
                (asks_more _ _ old.memory.state last.memory.state old.source last.source (omega arith) all.asks);
            starved = rw (places.state, places.source) all.starved;
            full = λ still j is. let short = all.full still j is in record { still = still; short = omega (arith, short.short) };
          };
          told = rw places.source (grind (arith, declares.spends.told, pays.costs.asks.refusals));
        };
      }
