-- A script's text and its arena's state determine what it leaves, if no request is refused.
use Rattle.std.proofs.Common.{arith, ◌≡◌, ◌≢◌, ◌⊎◌, ℕ, zero, suc, ◌+◌, ◌<◌, ◌≤◌, refl, sym, ap, ◌∙◌, subst, inl, inr, Bool, true, false, Option, Some, None, List, [], ◌∷◌, length, take, get_or, length-take, slice_get}
use Rattle.std.proofs.Math.Path.{fun_ext}
use Rattle.std.specs.Prelude.{IsSomeAnd, if◌then◌else◌, ◌==◌, is_some}
use Rattle.std.specs.Option.{option_map, option_and_then}
use Rattle.std.proofs.lemmas.Bool.{cases_lt}
use Rattle.std.proofs.lemmas.Option.{none-some, same_Some, slice_get-get_or}
use Rattle.arena_rules.specs.State.{State, used_bytes}
use Rattle.arena_chunks.specs.Source.{View}
use Rattle.arena_items.specs.Asks.{Ask, room_ask, capacity_of}
use Rattle.arena_store.specs.declared.block.Block.{Block}
use Rattle.arena_hash.specs.Policy.{growth_for}
use Rattle.arena_text.specs.Growth as texts
use Rattle.arena_vec.specs.Growth as vectors
use Rattle.script_rules.specs.Objects.{get, Object, Objects, AList, AText, AMap}
use Rattle.script_rules.specs.Effects.{Effect, Tells, Gives, LetsGo, effect}
use Rattle.script_rules.specs.Machine.{step, run, run_from}
use Rattle.script_rules.specs.declared.commands.Command.{Command}
use Rattle.script_rules.specs.declared.commands.Command.TheVariants.{Push, Insert, Byte, Front, Append, Bind, CopyTo, MakeList}
use Rattle.script_rules.specs.declared.commands.Ended.{Ended}
use Rattle.script_rules.specs.declared.commands.Ended.TheVariants as ended
use Rattle.script_rules.specs.declared.commands.ScriptReply.{ScriptReply}
use Rattle.script_rules.specs.declared.outcome.Outcome.{Outcome}
use Rattle.script_rules.proofs.RunLemmas.{reply_count}
use Rattle.arena_script.specs.Asks.{Blocks, asks, longer_list, longer_text, larger_map, list_of, table_for, copy_ask}
use Rattle.arena_script.specs.Places.{with_block, Places, DeniedBlock, AreServed, no_blocks, block_at}
use Rattle.arena_script.specs.Running.{IsRun, EndsBy}
use Rattle.arena_script.specs.OneOutcome.{bare_state, AreAlike, IsUnrefused}
use Rattle.arena_script.proofs.StepLemmas.{bare_block, bare_ask, bare_capacity, bare_room, Left, GoesOn, goes_same, goes_then, unrefused_parts, taken, takes_goes, takes_left, denied_goes, denied_left, denied_same}

-- ---- What commands ask for, without generations

bare_list : (object : Option Object) (block : Option Block) → longer_list object (bare_block block) ≡ bare_ask (longer_list object block)
bare_list None block = refl
bare_list (Some (AList items)) block =
    ap (λ cap. room_ask 4 4 (bare_block block) (vectors.amortised_growth 4 cap (length items + 1))) (bare_capacity 4 block)
    ∙ bare_room 4 4 block (vectors.amortised_growth 4 (capacity_of 4 block) (length items + 1))
bare_list (Some _) block = refl

bare_text : (n : ℕ) (object : Option Object) (block : Option Block)
    → longer_text n object (bare_block block) ≡ bare_ask (longer_text n object block)
bare_text n None block = refl
bare_text n (Some (AText bytes)) block =
    ap (λ cap. room_ask 1 1 (bare_block block) (texts.amortised_growth cap (length bytes) n)) (bare_capacity 1 block)
    ∙ bare_room 1 1 block (texts.amortised_growth (capacity_of 1 block) (length bytes) n)
bare_text n (Some _) block = refl

bare_map : (key : ℕ) (object : Option Object) (block : Option Block)
    → larger_map key object (bare_block block) ≡ bare_ask (larger_map key object block)
bare_map key None block = refl
bare_map key (Some (AMap pairs)) block =
    ap (λ cap. room_ask 9 8 None (growth_for (is_some (get pairs key)) cap (length pairs))) (bare_capacity 9 block)
    ∙ bare_room 9 8 None (growth_for (is_some (get pairs key)) (capacity_of 9 block) (length pairs))
bare_map key (Some _) block = refl

bare_copy : (object : Option Object) → copy_ask object ≡ bare_ask (copy_ask object)
bare_copy None = refl
bare_copy (Some (AList items)) = by (length items)
  where
    by : (n : ℕ) → list_of n ≡ bare_ask (list_of n)
    by zero = refl
    by (suc n) = refl
bare_copy (Some (AMap pairs)) = by (length pairs)
  where
    by : (n : ℕ) → table_for n ≡ bare_ask (table_for n)
    by zero = refl
    by (suc n) = refl
bare_copy (Some _) = refl

abbrev bare_blocks : Blocks → Blocks
bare_blocks blocks = λ q. bare_block (blocks q)

bare_asks : (c : Command) (of : ℕ → Option Object) (blocks : Blocks) → asks c of (bare_blocks blocks) ≡ bare_ask (asks c of blocks)
bare_asks (Push name value) of blocks = bare_list (of name) (blocks name)
bare_asks (Insert name at value) of blocks = bare_list (of name) (blocks name)
bare_asks (Byte name byte) of blocks = bare_text 1 (of name) (blocks name)
bare_asks (Front name byte) of blocks = bare_text 1 (of name) (blocks name)
bare_asks (Append name bytes) of blocks = bare_text (length bytes) (of name) (blocks name)
bare_asks (Bind name key value) of blocks = bare_map key (of name) (blocks name)
bare_asks (CopyTo name other) of blocks = bare_copy (of name)
bare_asks c of blocks = refl

-- ---- One command

-- what a command leaves, if it is served
abbrev leaves : Effect → Ask Block → Blocks → State → Option (Left Blocks)
leaves (Tells reply) ask blocks s = Some (record { is = blocks; state = s })
leaves (Gives name object reply cost) ask blocks s =
    option_map (λ (l : Left (Option Block)). record { is = with_block blocks name l.is; state = l.state }) (taken ask (blocks name) s)
leaves (LetsGo name) ask blocks s = Some (record { is = with_block blocks name None; state = s })

bare_with : (blocks : Blocks) (name : ℕ) (block : Option Block)
    → bare_blocks (with_block blocks name block) ≡ with_block (bare_blocks blocks) name (bare_block block)
bare_with blocks name block = fun_ext (λ q. elim (q == name) as (λ b. bare_block (if b then block else blocks q)
    ≡ (if b then bare_block block else bare_block (blocks q))) [ true ↦ refl | false ↦ refl ])

places_goes : (e : Effect) (ask : Ask Block) (blocks later : Blocks) (old new : View) → Places e ask blocks old later new → GoesOn old new
places_goes (Tells reply) ask blocks later old new (is, same) = goes_same old new same
places_goes (Gives name object reply cost) ask blocks later old new (block, is, takes) = takes_goes (blocks name) block old new ask takes
places_goes (LetsGo name) ask blocks later old new (is, same) = goes_same old new same

places_left : (e : Effect) (ask : Ask Block) (blocks later : Blocks) (old new : View) → IsUnrefused old new → Places e ask blocks old later new
    → leaves e (bare_ask ask) (bare_blocks blocks) (bare_state old.memory.state)
    ≡ Some (record { is = bare_blocks later; state = bare_state new.memory.state })
places_left (Tells reply) ask blocks later old new none (is, same) =
    λ i. Some (record { is = bare_blocks (sym is i); state = bare_state (sym same i).memory.state })
places_left (Gives name object reply cost) ask blocks later old new none (block, is, takes) =
    ap (option_map (λ (l : Left (Option Block)). record { is = with_block (bare_blocks blocks) name l.is; state = l.state }))
    (takes_left (blocks name) block old new ask none takes)
    ∙ ap (λ (bs : Blocks). Some (record { is = bs; state = bare_state new.memory.state })) (sym (ap bare_blocks is ∙ bare_with blocks name block))
places_left (LetsGo name) ask blocks later old new none (is, same) =
    ap (λ (bs : Blocks). Some (record { is = bs; state = bare_state old.memory.state })) (sym (ap bare_blocks is ∙ bare_with blocks name None))
    ∙ ap (λ (v : View). Some (record { is = bare_blocks later; state = bare_state v.memory.state })) (sym same)

-- ---- Commands

-- what a command leaves of these objects, blocks and state
abbrev leaves_of : Command → Objects → Left Blocks → Option (Left Blocks)
leaves_of c objects l = leaves (effect c (get objects)) (asks c (get objects) l.is) l.is l.state

-- what commands leave, if they are served
unfoldable all_leave : List Command → Objects → Left Blocks → Option (Left Blocks)
all_leave [] objects l = Some l
all_leave (c ∷ commands) objects l = option_and_then (all_leave commands (step c objects).objects) (leaves_of c objects l)

-- the blocks and the state of a view, without generations
abbrev left_in : Blocks → View → Left Blocks
left_in blocks v = record { is = bare_blocks blocks; state = bare_state v.memory.state }

served_goes : (commands : List Command) (objects : Objects) (blocks later : Blocks) (old new : View)
    → AreServed commands objects blocks old later new → GoesOn old new
unfolding AreServed
served_goes [] objects blocks later old new (is, same) = goes_same old new same
served_goes (c ∷ commands) objects blocks later old new (among, mid, places, rest) = goes_then old mid new
    (places_goes (effect c (get objects)) (asks c (get objects) blocks) blocks among old mid places)
    (served_goes commands (step c objects).objects among later mid new rest)

command_left : (c : Command) (objects : Objects) (blocks later : Blocks) (old new : View) → IsUnrefused old new
    → Places (effect c (get objects)) (asks c (get objects) blocks) blocks old later new
    → leaves_of c objects (left_in blocks old) ≡ Some (left_in later new)
command_left c objects blocks later old new none places =
    ap (λ ask. leaves (effect c (get objects)) ask (bare_blocks blocks) (bare_state old.memory.state)) (bare_asks c (get objects) blocks)
    ∙ places_left (effect c (get objects)) (asks c (get objects) blocks) blocks later old new none places

served_left : (commands : List Command) (objects : Objects) (blocks later : Blocks) (old new : View) → IsUnrefused old new
    → AreServed commands objects blocks old later new → all_leave commands objects (left_in blocks old) ≡ Some (left_in later new)
unfolding AreServed all_leave
served_left [] objects blocks later old new none (is, same) =
    λ i. Some (record { is = bare_blocks (sym is i); state = bare_state (sym same i).memory.state })
served_left (c ∷ commands) objects blocks later old new none (among, mid, places, rest) =
    let parts = unrefused_parts old mid new
    (places_goes (effect c (get objects)) (asks c (get objects) blocks) blocks among old mid places)
    (served_goes commands (step c objects).objects among later mid new rest) none in
    ap (option_and_then (all_leave commands (step c objects).objects)) (command_left c objects blocks among old mid parts.0 places)
    ∙ served_left commands (step c objects).objects among later mid new parts.1 rest

-- a command that was served, with others before and behind it, leaves something
goes_through : (script : List Command) (i j : ℕ) (objects : Objects) (l at end : Left Blocks) (c : Command) → i < j → slice_get script i ≡ Some c
    → all_leave (take j script) objects l ≡ Some end → all_leave (take i script) objects l ≡ Some at
    → leaves_of c (run_from objects (take i script)).objects at ≡ None → ⊥
unfolding all_leave run_from
goes_through script i zero objects l at end c less is served before none = absurd (omega (arith, less))
goes_through [] i (suc j) objects l at end c less is served before none = absurd (none-some c is)
goes_through (d ∷ script) zero (suc j) objects l at end c less is served before none =
    let nothing : leaves_of d objects l ≡ None = ap (λ x. leaves_of x objects l) (same_Some d c is)
    ∙ ap (λ x. leaves_of c objects x) (same_Some l at before) ∙ none in
    none-some end (sym (ap (option_and_then (all_leave (take j script) (step d objects).objects)) nothing) ∙ served)
goes_through (d ∷ script) (suc i) (suc j) objects l at end c less is served before none =
    elim (leaves_of d objects l) as (λ o. option_and_then (all_leave (take j script) (step d objects).objects) o ≡ Some end
    → option_and_then (all_leave (take i script) (step d objects).objects) o ≡ Some at → ⊥) [
      | None ↦ λ served before. none-some end served
      | Some m ↦ λ served before. goes_through script i j (step d objects).objects m at end c (omega (arith, less)) is served before none
    ] served before

-- ---- Endings

-- After these objects and what is left, and with this state at the end: done after the last command, or, for an arena
-- that doesn't grow or one that does, ended before a command that isn't served.
record IsEnded (grows : Bool) (e : Ended) (next : Option Command) (objects : Objects) (at : Left Blocks) (end : State) : Type 0 where
  which : ((e ≡ ended.Done) × (next ≡ None))
      ⊎ ((e ≡ (if grows then ended.Refused else ended.Full)) × IsSomeAnd next (λ c. leaves_of c objects at ≡ None))
  same : end ≡ at.state

denied_goes_on : (e : Effect) (ask : Ask Block) (old new : View) (k : ℕ) → DeniedBlock e ask old new k → GoesOn old new
denied_goes_on (Tells reply) ask old new k denied = absurd denied
denied_goes_on (Gives name object reply cost) ask old new k denied = denied_goes ask old new k denied
denied_goes_on (LetsGo name) ask old new k denied = absurd denied

denied_leaves : (e : Effect) (ask : Ask Block) (blocks : Blocks) (old new : View) (k : ℕ) → IsUnrefused old new → DeniedBlock e ask old new k
    → (leaves e (bare_ask ask) blocks (bare_state old.memory.state) ≡ None) × (new.memory.state ≡ old.memory.state)
denied_leaves (Tells reply) ask blocks old new k none denied = absurd denied
denied_leaves (Gives name object reply cost) ask blocks old new k none denied = (
  ap (option_map (λ (l : Left (Option Block)). record { is = with_block blocks name l.is; state = l.state }))
      (denied_left ask (blocks name) old new k none denied),
  denied_same ask old new k denied,
)
denied_leaves (LetsGo name) ask blocks old new k none denied = absurd denied

-- a command's block was denied
abbrev IsDeniedAt : Option Command → Objects → Blocks → View → View → Type 0
IsDeniedAt next objects blocks old new =
    IsSomeAnd next (λ c. (k : ℕ) × DeniedBlock (effect c (get objects)) (asks c (get objects) blocks) old new k)

denied_on : (next : Option Command) (objects : Objects) (blocks : Blocks) (old new : View) → IsDeniedAt next objects blocks old new → GoesOn old new
denied_on None objects blocks old new denied = absurd denied
denied_on (Some c) objects blocks old new denied =
    denied_goes_on (effect c (get objects)) (asks c (get objects) blocks) old new denied.0 denied.1

ended_denied : (grows : Bool) (e : Ended) (next : Option Command) (objects : Objects) (blocks : Blocks) (old new : View) → IsUnrefused old new
    → e ≡ (if grows then ended.Refused else ended.Full) → IsDeniedAt next objects blocks old new
    → IsEnded grows e next objects (left_in blocks old) (bare_state new.memory.state)
ended_denied grows e None objects blocks old new none is denied = absurd denied
ended_denied grows e (Some c) objects blocks old new none is denied =
    let left = denied_leaves (effect c (get objects)) (asks c (get objects) blocks) (bare_blocks blocks) old new denied.0 none denied.1 in record {
      which = inr (
        is,
        ap (λ ask. leaves (effect c (get objects)) ask (bare_blocks blocks) (bare_state old.memory.state))
            (bare_asks c (get objects) blocks) ∙ left.0,
      );
      same = ap bare_state left.1;
    }

ends_goes : (e : Ended) (next : Option Command) (objects : Objects) (blocks : Blocks) (old new : View) → e ≢ ended.OutOfMemory
    → EndsBy e next objects blocks old new → GoesOn old new
ends_goes ended.Done next objects blocks old new other ends = goes_same old new ends.1
ends_goes ended.Full next objects blocks old new other ends = denied_on next objects blocks old new ends
ends_goes ended.Refused next objects blocks old new other ends = denied_on next objects blocks old new ends
ends_goes ended.OutOfMemory next objects blocks old new other ends = absurd (other refl)

ended_by : (grows : Bool) (e : Ended) (next : Option Command) (objects : Objects) (blocks : Blocks) (old new : View) → IsUnrefused old new
    → e ≢ ended.OutOfMemory → (e ≡ ended.Full → grows ≡ false) → (e ≡ ended.Refused → grows ≡ true) → EndsBy e next objects blocks old new
    → IsEnded grows e next objects (left_in blocks old) (bare_state new.memory.state)
ended_by grows ended.Done next objects blocks old new none other full refused ends =
    record { which = inl (refl, ends.0); same = ap (λ (v : View). bare_state v.memory.state) ends.1 }
ended_by grows ended.Full next objects blocks old new none other full refused ends = ended_denied grows ended.Full next objects blocks old new
    none (ap (λ (b : Bool). if b then ended.Refused else ended.Full) (sym (full refl))) ends
ended_by grows ended.Refused next objects blocks old new none other full refused ends = ended_denied grows ended.Refused next objects blocks
    old new none (ap (λ (b : Bool). if b then ended.Refused else ended.Full) (sym (refused refl))) ends
ended_by grows ended.OutOfMemory next objects blocks old new none other full refused ends = absurd (other refl)

one_ending : (grows : Bool) (e f : Ended) (next : Option Command) (objects : Objects) (at : Left Blocks) (end other : State)
    → IsEnded grows e next objects at end → IsEnded grows f next objects at other → e ≡ f
one_ending grows e f None objects at end other one two = elim one.which [
  | inl done ↦ elim two.which [ inl finished ↦ done.0 ∙ sym finished.0 | inr denied ↦ absurd denied.1 ]
  | inr denied ↦ absurd denied.1
]
one_ending grows e f (Some c) objects at end other one two = elim one.which [
  | inl done ↦ absurd (none-some c (sym done.1))
  | inr denied ↦ elim two.which [ inl done ↦ absurd (none-some c (sym done.1)) | inr refused ↦ denied.0 ∙ sym refused.0 ]
]

-- ---- Runs

-- After as many commands as it replied to, a script ended with what it left, beginning from this state.
record IsLeft (script : List Command) (outcome : Outcome) (start end : State) : Type 0 where
  at : Left Blocks
  ran : all_leave (take (length outcome.replies) script) [] (record { is = no_blocks; state = start }) ≡ Some at
  ends : IsEnded start.is_growing outcome.ended (slice_get script (length outcome.replies))
      (run (take (length outcome.replies) script)).objects at end
  replies : outcome.replies ≡ take (length outcome.replies) (run script).replies
  used : outcome.used ≡ used_bytes end

run_left : (script : List Command) (old new : View) (outcome : Outcome) → IsUnrefused old new → outcome.ended ≢ ended.OutOfMemory
    → IsRun script old new outcome → IsLeft script outcome (bare_state old.memory.state) (bare_state new.memory.state)
run_left script old new outcome none other is =
    let i = length outcome.replies in
    let ran = is.ran in
    let objects = (run (take i script)).objects in
    let parts = unrefused_parts old ran.before new
    (served_goes (take i script) [] no_blocks (block_at ran.things) old ran.before ran.after.served)
    (ends_goes outcome.ended (slice_get script i) objects (block_at ran.things) ran.before new other ran.ends) none in record {
      at = left_in (block_at ran.things) ran.before;
      ran = served_left (take i script) [] no_blocks (block_at ran.things) old ran.before parts.0 ran.after.served;
      ends = ended_by old.memory.state.is_growing outcome.ended (slice_get script i) objects (block_at ran.things) ran.before new parts.1 other
          (λ e. (is.full e).still) (λ e. (is.refused e).starved.growing) ran.ends;
      replies = is.replies.first;
      used = is.used;
    }

module _ (script : List Command) (one two : Outcome) (start end next : State) (first : IsLeft script one start end)
    (second : IsLeft script two start next) where
  within : length two.replies ≤ length script
  within = omega (
    arith,
    ap (λ (rs : List ScriptReply). length rs) second.replies,
    length-take (length two.replies) (run script).replies,
    reply_count [] script,
  )

  -- the second has no more replies
  no_more : length one.replies < length two.replies → ⊥
  no_more less =
      let i = length one.replies in
      let c = get_or script i (MakeList 0) in
      let at = slice_get-get_or script i (MakeList 0) (omega (arith, less, within)) in elim first.ends.which [
        | inl done ↦ none-some c (sym done.1 ∙ at)
        | inr denied ↦ goes_through script i (length two.replies) [] (record { is = no_blocks; state = start }) first.at second.at c less at
            second.ran first.ran
            (subst (λ o. IsSomeAnd o (λ c. leaves_of c (run (take i script)).objects first.at ≡ None)) at denied.1)
      ]

  -- both have as many
  module _ (equal : length one.replies ≡ length two.replies) where
    abbrev i : ℕ
    i = length one.replies

    places : first.at ≡ second.at
    places = same_Some first.at second.at
        (sym first.ran ∙ ap (λ n. all_leave (take n script) [] (record { is = no_blocks; state = start })) equal ∙ second.ran)

    second_ends : IsEnded start.is_growing two.ended (slice_get script i) (run (take i script)).objects first.at next
    second_ends = subst (λ n. IsEnded start.is_growing two.ended (slice_get script n) (run (take n script)).objects first.at next) (sym equal)
        (subst (λ l. IsEnded start.is_growing two.ended (slice_get script (length two.replies)) (run (take (length two.replies) script)).objects
        l next) (sym places) second.ends)

    states : end ≡ next
    states = first.ends.same ∙ sym second_ends.same

    replies : one.replies ≡ two.replies
    replies = first.replies ∙ ap (λ n. take n (run script).replies) equal ∙ sym second.replies

    ends : one.ended ≡ two.ended
    ends = one_ending start.is_growing one.ended two.ended (slice_get script i) (run (take i script)).objects first.at end next first.ends
        second_ends

    bytes : one.used ≡ two.used
    bytes = first.used ∙ ap (λ s. used_bytes s) states ∙ sym second.used

    same_outcome : (one ≡ two) × (end ≡ next)
    same_outcome = ((λ n. record { replies = replies n; ended = ends n; used = bytes n }), states)

one_left : (script : List Command) (one two : Outcome) (start end next : State) → IsLeft script one start end → IsLeft script two start next
    → (one ≡ two) × (end ≡ next)
one_left script one two start end next first second = elim (cases_lt (length one.replies) (length two.replies)) [
  | inl less ↦ absurd (no_more script one two start end next first second less)
  | inr rest ↦ elim (cases_lt (length two.replies) (length one.replies)) [
    | inl more ↦ absurd (no_more script two one start next end second first more)
    | inr least ↦ same_outcome script one two start end next first second (omega (arith, rest, least))
  ]
]

pub one_way : (script : List Command) (old new other next : View) (one two : Outcome) → AreAlike old.memory.state other.memory.state
    → IsUnrefused old new → IsUnrefused other next → IsRun script old new one → IsRun script other next two
    → one.ended ≢ ended.OutOfMemory → two.ended ≢ ended.OutOfMemory → (one ≡ two) × AreAlike new.memory.state next.memory.state
one_way script old new other next one two alike calm quiet first second first_other second_other =
    one_left script one two (bare_state old.memory.state) (bare_state new.memory.state) (bare_state next.memory.state)
    (run_left script old new one calm first_other first)
    (subst (λ s. IsLeft script two s (bare_state next.memory.state)) (sym alike) (run_left script other next two quiet second_other second))
