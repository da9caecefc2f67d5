-- Calls on the names of a program.
use Rattle.std.proofs.Common.{nat_le, le-leb, ◌≡◌, ℕ, ◌^◌, ◌-◌, ◌<◌, List, [], ◌∷◌, ◌++◌, length, get_or, take, refl, ap, ◌∙◌, arith, inl, inr, ◌≢◌, Some, Ok, Err, Bool, append_assoc, ◌+◌}
use Rattle.std.specs.Prelude.{◌↔◌, ◌⊎◌, Result, IfOk, IfErr, OnOk, OnErr}
use Rattle.std.specs.Borrow.{Bor}
use Rattle.std.proofs.lemmas.Bool.Decides.{nat_tests}
use Rattle.std.proofs.lemmas.List.{take_more}
use Rattle.std.proofs.lemmas.Option.{slice_get-get_or}
use Rattle.arena_chunks.specs.Answers.Answer.{Exhausted}
use Rattle.arena_chunks.specs.Source.{View}
use Rattle.arena_chunks.proofs.Layers.{frame_reflexive}
use Rattle.arena_items.specs.Asks.{refusal}
use Rattle.arena_items.specs.Costs.{Costs}
use Rattle.arena_items.specs.declared.room.AllocError.{AllocError}
use Rattle.arena_items.specs.declared.room.AllocError.TheVariants.{AllocErr, CapacityOverflow, OutOfMemory}
use Rattle.arena_items.proofs.Layers.{costs_then}
use Rattle.arena_symbols.specs.Calls.{State, answer, after, answers, after_all, has_outer, IsFull, HaveRoom, Adds, Changes, Copies, MayAnswer, bytes_for, bytes_for_all}
use Rattle.arena_symbols.specs.Interning.{Interns}
use Rattle.arena_symbols.specs.Named.{AreNames, Moves, all_blocks, all_credit}
use Rattle.arena_symbols.specs.Names.{names_credit}
use Rattle.arena_symbols.specs.Paying.{Pays, far_up}
use Rattle.arena_symbols.specs.Serving.{state_in, CallTakes, IsCallDenied, Serves, Ran, Stops}
use Rattle.arena_symbols.specs.TableCalls.{Enters, Leaves, Defines}
use Rattle.arena_symbols.specs.Tables.{entry_item, scopes_in, table_credit}
use Rattle.arena_symbols.specs.declared.calls.Call.{Call}
use Rattle.arena_symbols.specs.declared.calls.Call.TheVariants.{Intern, Enter, Leave, Define}
use Rattle.arena_symbols.specs.declared.calls.Reply.{Reply}
use Rattle.arena_symbols.specs.declared.calls.Reply.TheVariants.{Number, Said, Done}
use Rattle.arena_symbols.specs.declared.scopes.Scopes.{Scopes}
use Rattle.arena_symbols.specs.declared.symbols.Symbols.{Symbols}
use Rattle.arena_symbols.specs.declared.names.Names.{Names}
use Rattle.arena_symbols.proofs.NamedLemmas.{scopes_moved, texts_moved, moves_then}
use Rattle.arena_symbols.proofs.PayLemmas.{told, pays_nothing, pays_places, pays_more, pays_told}

-- ---- Replies

outer_is : (scopes : List (List (ℕ × ℕ))) → has_outer scopes ≡ nat_le 2 (length scopes)
outer_is scopes = grind (arith, nat_tests, le-leb)

abbrev ok_reply : Reply → Result Reply AllocError
ok_reply reply = Ok reply

-- A call that only reads.
pub serves_read : (old : View) (n : Names) (call : Call) (result : Result Reply AllocError) → AreNames old.memory n
    → IfOk result (λ reply. reply ≡ answer (state_in old.memory n) call) → after (state_in old.memory n) call ≡ state_in old.memory n
    → (IsFull (state_in old.memory n) call → ⊥) → OnErr result ((result ≡ Err OutOfMemory) × Copies (state_in old.memory n) call)
    → CallTakes old old n n call → IsCallDenied old old n n call Exhausted → Serves old old n n call result
serves_read old n call (Ok reply) held is same never copies took denied =
    let pays = pays_nothing far_up (bytes_for call) (all_credit n) old (Ok reply) (λ k no. cc) in
    grind (arith, held, is, same, never, took, frame_reflexive old.memory (all_blocks old.memory n), pays)
serves_read old n call (Err OutOfMemory) held is same never copies took denied =
    let pays = pays_nothing {X = Reply} far_up (bytes_for call) (all_credit n) old (Err OutOfMemory) (λ k no. cc) in
    grind (arith, held, same, never, copies, denied, frame_reflexive old.memory (all_blocks old.memory n), pays)
serves_read old n call (Err (AllocErr k)) held is same never copies took denied = absurd (let no = copies.0 in cc)
serves_read old n call (Err CapacityOverflow) held is same never copies took denied = absurd (let no = copies.0 in cc)

-- What a call that adds may be refused with.
may_answer : {X : Type 0} (s : State) (call : Call) (result : Result X AllocError) → OnErr result (Adds s call)
    → (result ≡ Err CapacityOverflow → IsFull s call) → IfErr result (MayAnswer s call)
may_answer s call result adds full = grind (arith, nat_tests)

module _ {X : Type 0} {old new : View} {n m : Names} {call : Call} where
  -- A call that moved the names, by its result.
  serves_told : (f : X → Reply) (result : Result X AllocError) → Moves old.memory new.memory n m
      → IfOk result (λ x. f x ≡ answer (state_in old.memory n) call)
      → OnOk result (state_in new.memory m ≡ after (state_in old.memory n) call)
      → OnErr result (state_in new.memory m ≡ state_in old.memory n)
      → OnErr result (Adds (state_in old.memory n) call) → ((result ≡ Err CapacityOverflow) ↔ IsFull (state_in old.memory n) call)
      → OnOk result (CallTakes old new n m call)
      → IfErr result (λ e. e ≢ CapacityOverflow → IsCallDenied old new n m call (refusal e))
      → ((Changes (state_in old.memory n) call → ⊥) → (new ≡ old) × (m ≡ n))
      → Pays far_up (bytes_for call) (all_credit n) (all_credit m) old new result → Serves old new n m call (told f result)
  serves_told f result moved says goes stays adds full took denied still pays =
      whole result moved says goes stays full took denied still
      (may_answer (state_in old.memory n) call result adds full.0) (pays_told f result pays)
    where
      whole : (result : Result X AllocError) → Moves old.memory new.memory n m
          → IfOk result (λ x. f x ≡ answer (state_in old.memory n) call)
          → OnOk result (state_in new.memory m ≡ after (state_in old.memory n) call)
          → OnErr result (state_in new.memory m ≡ state_in old.memory n)
          → ((result ≡ Err CapacityOverflow) ↔ IsFull (state_in old.memory n) call)
          → OnOk result (CallTakes old new n m call)
          → IfErr result (λ e. e ≢ CapacityOverflow → IsCallDenied old new n m call (refusal e))
          → ((Changes (state_in old.memory n) call → ⊥) → (new ≡ old) × (m ≡ n))
          → IfErr result (MayAnswer (state_in old.memory n) call)
          → Pays far_up (bytes_for call) (all_credit n) (all_credit m) old new (told f result)
          → Serves old new n m call (told f result)
      whole (Ok x) moved says goes stays full took denied still cause pays = grind (arith, moved, says, goes, full, took, still, pays)
      whole (Err e) moved says goes stays full took denied still cause pays = grind (arith, moved, stays, full, denied, still, cause, pays)

module _ {old new : View} {n : Names} (held : AreNames old.memory n) where
  pub serves_intern : (text : Bor (List ℕ)) {t : Symbols} {result : Result ℕ AllocError} → length text.now < 2 ^ 32
      → Interns old new n.symbols t text.now result
      → Serves old new n (record n { symbols = t }) (Intern text) (told (λ id. Number (Some id)) result)
  serves_intern text {result = result} short interns =
      let moved = texts_moved held interns in
      serves_told {call = Intern text} (λ id. Number (Some id)) result moved.0 (grind (arith, interns.number, interns.names))
      (grind (arith, interns.names, moved.1)) (grind (arith, interns.kept, moved.1)) interns.fresh
      (grind (arith, short, interns.overflows)) interns.took interns.denied (λ none. grind (arith, interns.known none))
      (pays_more (table_credit n.scopes) (omega arith) (omega arith) (omega arith) (omega arith) interns.pays)

  pub serves_enter : {u : Scopes} {result : Result (Unit {0}) AllocError} → Enters entry_item old new n.scopes u result
      → Serves old new n (record n { scopes = u }) Enter (told (λ _. Done) result)
  serves_enter {u = u} {result = result} enters =
      let moved = scopes_moved held u enters.held enters.frame in
      serves_told {call = Enter} (λ _. Done) result moved.0 (grind arith) (grind (arith, enters.scopes, moved.1))
      (grind (arith, enters.kept, moved.1)) (grind arith) enters.overflows enters.took enters.denied (λ none. absurd (none tt))
      (pays_more (names_credit n.symbols) (omega arith) (omega arith) (omega arith) (omega arith) enters.pays)

  pub serves_define : {u : Scopes} {id value : ℕ} {result : Result Bool AllocError} → Defines entry_item old new n.scopes u id value result
      → Serves old new n (record n { scopes = u }) (Define id value) (told (λ b. Said b) result)
  serves_define {u = u} {id = id} {value = value} {result = result} defines =
      let moved = scopes_moved held u defines.held defines.frame in
      serves_told {call = Define id value} (λ b. Said b) result moved.0 (grind (arith, defines.says))
      (grind (arith, moved.1, defines.says, defines.scopes)) (grind (arith, defines.kept, moved.1)) defines.fresh
      defines.overflows defines.took defines.denied (λ none. grind (arith, none, defines.says, defines.fresh, defines.same))
      (pays_more (names_credit n.symbols) (omega arith) (omega arith) (omega arith) (omega arith) defines.pays)

  pub serves_leave : {u : Scopes} {b : Bool} → Leaves entry_item old new n.scopes u b
      → Serves old new n (record n { scopes = u }) Leave (Ok (Said b))
  serves_leave {u = u} {b = b} leaves =
      let moved = scopes_moved held u leaves.held leaves.frame in
      let outer = outer_is (scopes_in entry_item old.memory n.scopes) in
      let pays : Pays far_up 0 (all_credit n) (all_credit (record n { scopes = u })) old new (Ok (Said b)) =
      pays_places old new (Said b) leaves.places (omega (arith, leaves.credit)) in
      grind (arith, nat_tests, outer, leaves.more, leaves.alone, leaves.left, moved.0, moved.1, leaves.places, pays)

-- ---- One after another

answers_push : (s : State) (calls : List Call) (call : Call)
    → answers s (calls ++ call ∷ []) ≡ answers s calls ++ answer (after_all s calls) call ∷ []
answers_push s [] call = refl
answers_push s (c ∷ cs) call = ap (λ (l : List Reply). answer s c ∷ l) (answers_push (after s c) cs call)

after_push : (s : State) (calls : List Call) (call : Call) → after_all s (calls ++ call ∷ []) ≡ after (after_all s calls) call
after_push s [] call = refl
after_push s (c ∷ cs) call = after_push (after s c) cs call

room_push : (s : State) (calls : List Call) (call : Call) → HaveRoom s calls → (IsFull (after_all s calls) call → ⊥)
    → HaveRoom s (calls ++ call ∷ [])
room_push s [] call room more = (more, tt)
room_push s (c ∷ cs) call room more = (room.0, room_push (after s c) cs call room.1 more)

bytes_push : (calls : List Call) (call : Call) → bytes_for_all (calls ++ call ∷ []) ≡ bytes_for_all calls + bytes_for call
bytes_push [] call = omega arith
bytes_push (c ∷ cs) call = omega (arith, bytes_push cs call)

module _ {old mid : View} {n m : Names} {earlier replies : List Reply} (calls : List Call) (i : ℕ) (d : Call)
    (less : i < length calls) (ran : Ran old mid n m (take i calls) earlier replies) where
  costs_next : {new : View} (o : Names) {result : Result Reply AllocError}
      → Pays far_up (bytes_for (get_or calls i d)) (all_credit m) (all_credit o) mid new result
      → Costs (far_up - 2 ^ 61) (bytes_for_all (take i calls ++ get_or calls i d ∷ [])) (all_credit n) (all_credit o) old new
      (told (λ _. tt {0}) result)
  costs_next {new = new} o {result = result} pays =
      rw (bytes_push (take i calls) (get_or calls i d))
      (costs_then _ _ _ _ _ _ old mid new (Ok (tt {0})) _ ran.moves.frame.is_growing ran.moves.frame.allocated refl ran.costs
      (pays_told (λ _. tt {0}) result pays).costs)

  -- The next call is served,
  pub ran_next : {new : View} {o : Names} {reply : Reply} → Serves mid new m o (get_or calls i d) (Ok reply)
      → Ran old new n o (take (i + 1) calls) earlier (replies ++ reply ∷ [])
  ran_next {o = o} serves =
      let costs = costs_next o serves.pays in
      let s = state_in old.memory n in
      let full : IsFull (after_all s (take i calls)) (get_or calls i d) → ⊥ =
      rw (← ran.after) (λ is. let no = serves.overflows.1 is in cc) in
      rw (take_more calls i d less) (record {
        moves = moves_then ran.moves serves.moves;
        told = grind (arith, ran.told, serves.answer, ran.after, append_assoc, answers_push s (take i calls) (get_or calls i d));
        after = grind (arith, serves.after, ran.after, after_push s (take i calls) (get_or calls i d));
        room = room_push s (take i calls) (get_or calls i d) ran.room full;
        costs = costs;
      })

  stops : {new : View} {o : Names} {e : AllocError}
      → Pays {X = Reply} far_up (bytes_for (get_or calls i d)) (all_credit m) (all_credit o) mid new (Err e)
      → Moves mid.memory new.memory m o → state_in new.memory o ≡ state_in mid.memory m
      → Serves mid new m o (get_or calls i d) (Err e) ⊎ ((e ≡ OutOfMemory) × (new ≡ mid) × (o ≡ m))
      → Stops old new n o calls earlier replies e
  stops {o = o} pays moves same refused =
      record {
        at = i;
        call = get_or calls i d;
        is = slice_get-get_or calls i d less;
        mid = mid;
        between = m;
        ran = ran;
        refused = refused;
        moves = moves_then ran.moves moves;
        left = same ∙ ran.after;
        costs = rw (take_more calls i d less) (costs_next o pays);
      }

  -- or refused,
  pub stops_refused : {new : View} {o : Names} {e : AllocError} → Serves mid new m o (get_or calls i d) (Err e)
      → Stops old new n o calls earlier replies e
  stops_refused serves = stops serves.pays serves.moves serves.kept (inl serves)

-- or there is no memory for its reply.
pub stops_unheard : {old mid : View} {n m : Names} {earlier replies : List Reply} (calls : List Call) (i : ℕ) (d : Call) → i < length calls
    → Ran old mid n m (take i calls) earlier replies → Stops old mid n m calls earlier replies OutOfMemory
stops_unheard {mid = mid} {m = m} calls i d less ran =
    let pays = pays_nothing {X = Reply} far_up (bytes_for (get_or calls i d)) (all_credit m) mid (Err OutOfMemory) (λ k no. cc) in
    let frame = frame_reflexive mid.memory (all_blocks mid.memory m) in
    stops calls i d less ran pays (record { held = ran.moves.held; frame = frame }) refl (inr (refl, refl, refl))
