-- A block or a value that is placed, and then rolled back.
use Rattle.std.proofs.Common.{◌≡◌, ℕ, ap, refl, sym, subst, ◌∙◌, arith, IsTrue, eq-eqb}
use Rattle.arena_rules.specs.State.{State, is_used, is_range_used}
use Rattle.arena_rules.specs.Back.{mark_of, back, KeepsMark}
use Rattle.arena_rules.proofs.BackLemmas.{back_at_once}
use Rattle.arena_chunks.specs.Memory.{Memory, KeepsUsed}
use Rattle.arena_chunks.specs.Source.{View}
use Rattle.arena_chunks.specs.Answers.{Answer}
use Rattle.arena_chunks.specs.Answers.Answer.{Placed}
use Rattle.arena_chunks.specs.BlockCalls.{PlacesBlock}
use Rattle.arena_chunks.specs.Checkpoints.{checkpoint_of, is_accepted, sent_back, GoesBack, KeepsCheckpoint}
use Rattle.arena_items.specs.FrameLaw.{StaysInUse}

used_kept : (old new : View) (size align : ℕ) (answer : Answer) → PlacesBlock old new size align answer → KeepsUsed old.memory new.memory
used_kept old new size align (Placed b) p =
    let frame = p.1.outcome.frame in
    record { used = λ addr used. frame.kept addr 1 (omega arith) used tt; bytes = λ addr used. frame.bytes addr used tt }
used_kept old new size align answer p = grind (arith, p)

pub try_over : (old mid : View) (new : Memory) (size align : ℕ) (answer : Answer) → PlacesBlock old mid size align answer
    → KeepsCheckpoint (checkpoint_of old.memory.state) old.memory.state mid.memory.state
    → new ≡ sent_back (checkpoint_of old.memory.state) mid.memory → GoesBack mid.memory new → KeepsUsed old.memory new
try_over old mid new size align answer p keeps is goes =
    let kept = used_kept old mid size align answer p in
    let used : (addr : ℕ) → IsTrue (is_used old.memory.state addr) → IsTrue (is_used new.state addr) = λ addr in_use.
    rw (ap (λ (w : Memory). w.state) is)
    (keeps.1.used addr 1 (kept.used addr in_use)
    (subst (λ (s : State). IsTrue (is_used s addr)) (sym (back_at_once old.memory.state)) in_use)) in
    record { used = used; bytes = λ addr in_use. goes.bytes addr (used addr in_use) ∙ kept.bytes addr in_use }

module _ (old mid : State) (keeps : KeepsMark (mark_of old) old mid) where
  -- The earlier mark is accepted,
  pub mark_accepted : IsTrue (is_accepted (checkpoint_of old) mid)
  mark_accepted = rw (eq-eqb _ _ (sym keeps.generation), keeps.accepted) refl

  -- and what was in use before stays so.
  pub stays_in_use : (between new : Memory) → between.state ≡ mid → new ≡ sent_back (checkpoint_of old) between
      → back (mark_of old) old ≡ old → StaysInUse old mid new.state
  stays_in_use between new same is at_once = rw (ap (λ (m : Memory). m.state) is, same) (record {
    used = λ addr n start now.
        keeps.used addr n now (subst (λ (s : State). IsTrue (is_range_used s.chunks addr n)) (sym at_once) start);
  })
