-- What calls do to the names of a program in an arena.
use Rattle.std.specs.Prelude.{◌≡◌, ◌≢◌, ℕ, ◌+◌, ◌-◌, ◌^◌, ◌⊎◌, List, ◌++◌, take, slice_get, ◌↔◌, Some, Result, Ok, Err, IfOk, IfErr, OnOk, OnErr}
use Rattle.arena_chunks.specs.Memory.{Memory}
use Rattle.arena_chunks.specs.Source.{View}
use Rattle.arena_items.specs.Costs.{Costs}
use Rattle.arena_chunks.specs.Answers.{Answer}
use Rattle.arena_items.specs.Asks.{Asked, refusal}
use Rattle.arena_items.specs.Room.{SamePlaces}
use Rattle.arena_items.specs.declared.room.AllocError.{AllocError}
use Rattle.arena_items.specs.declared.room.AllocError.TheVariants.{CapacityOverflow, OutOfMemory}
use Rattle.arena_symbols.specs.Asks.{list_ask}
use Rattle.arena_symbols.specs.Calls.{State, answer, after, answers, after_all, IsFull, HaveRoom, Changes, MayAnswer, bytes_for, bytes_for_all}
use Rattle.arena_symbols.specs.Interning.{TakesText, IsTextDenied}
use Rattle.arena_symbols.specs.Listing.{place_item}
use Rattle.arena_symbols.specs.Named.{Moves, all_credit}
use Rattle.arena_symbols.specs.Names.{names_in}
use Rattle.arena_symbols.specs.Paying.{Pays, far_up}
use Rattle.arena_symbols.specs.TableCalls.{TakesScope, TakesPair, IsPairDenied}
use Rattle.arena_symbols.specs.Tables.{entry_item, scopes_in}
use Rattle.arena_symbols.specs.declared.calls.Call.{Call}
use Rattle.arena_symbols.specs.declared.calls.Call.TheVariants.{Intern, Enter, Define}
use Rattle.arena_symbols.specs.declared.calls.Reply.{Reply}
use Rattle.arena_symbols.specs.declared.names.Names.{Names}

-- the texts and the maps of names in an arena
abbrev pub state_in : Memory → Names → State
state_in memory n = record { texts = names_in memory n.symbols; scopes = scopes_in entry_item memory n.scopes }

-- What a call asks the arena for: what it adds has that, and any other call moves no cursor.
abbrev pub CallTakes : View → View → Names → Names → Call → Type 0
CallTakes old new n m (Intern text) = TakesText old new n.symbols m.symbols text.now
CallTakes old new n m Enter = TakesScope old new n.scopes m.scopes
CallTakes old new n m (Define id value) = TakesPair entry_item old new n.scopes m.scopes id
CallTakes old new n m call = SamePlaces old new

-- The arena doesn't place it.
abbrev pub IsCallDenied : View → View → Names → Names → Call → Answer → Type 0
IsCallDenied old new n m (Intern text) answer = IsTextDenied old new n.symbols m.symbols text.now answer
IsCallDenied old new n m Enter answer = Asked (list_ask place_item n.scopes.starts) old new answer
IsCallDenied old new n m (Define id value) answer = IsPairDenied entry_item old new n.scopes m.scopes id answer
IsCallDenied old new n m call answer = new ≡ old

-- The reply to a call and the state after it are those of `Calls`. If it is refused, for one of its causes, texts and
-- maps are unchanged. A call that changes none of them changes nothing at all. The arena refuses a call only if it doesn't
-- place what the call asks for next, and it was starved of the call's bytes, or has fewer.
pub record Serves (old new : View) (n m : Names) (call : Call) (result : Result Reply AllocError) : Type 0 where
  pub moves : Moves old.memory new.memory n m
  pub answer : IfOk result (λ reply. reply ≡ answer (state_in old.memory n) call)
  pub after : OnOk result (state_in new.memory m ≡ after (state_in old.memory n) call)
  pub kept : OnErr result (state_in new.memory m ≡ state_in old.memory n)
  pub cause : IfErr result (MayAnswer (state_in old.memory n) call)
  pub overflows : (result ≡ Err CapacityOverflow) ↔ IsFull (state_in old.memory n) call
  pub took : OnOk result (CallTakes old new n m call)
  pub denied : IfErr result (λ e. e ≢ CapacityOverflow → IsCallDenied old new n m call (refusal e))
  pub still : (Changes (state_in old.memory n) call → ⊥) → (new ≡ old) × (m ≡ n)
  pub pays : Pays far_up (bytes_for call) (all_credit n) (all_credit m) old new result

-- Calls were served one after another, each as in `Serves`, and their replies follow the earlier ones.
pub record Ran (old new : View) (n m : Names) (calls : List Call) (earlier replies : List Reply) : Type 0 where
  pub moves : Moves old.memory new.memory n m
  pub told : replies ≡ earlier ++ answers (state_in old.memory n) calls
  pub after : state_in new.memory m ≡ after_all (state_in old.memory n) calls
  pub room : HaveRoom (state_in old.memory n) calls
  pub costs : Costs {X = Unit {0}} (far_up - 2 ^ 61) (bytes_for_all calls) (all_credit n) (all_credit m) old new (Ok tt)

-- Calls were served up to one that is refused, at `mid`: by `serve`, or because there is no memory for its reply. The
-- state is the one after the calls before it.
pub record Stops (old new : View) (n m : Names) (calls : List Call) (earlier replies : List Reply) (e : AllocError) : Type 0 where
  pub at : ℕ
  pub call : Call
  pub is : slice_get calls at ≡ Some call
  pub mid : View
  pub between : Names
  pub ran : Ran old mid n between (take at calls) earlier replies
  pub refused : Serves mid new between m call (Err e) ⊎ ((e ≡ OutOfMemory) × (new ≡ mid) × (m ≡ between))
  pub moves : Moves old.memory new.memory n m
  pub left : state_in new.memory m ≡ after_all (state_in old.memory n) (take at calls)
  pub costs : Costs {X = Unit {0}} (far_up - 2 ^ 61) (bytes_for_all (take (at + 1) calls)) (all_credit n) (all_credit m) old new (Err e)
