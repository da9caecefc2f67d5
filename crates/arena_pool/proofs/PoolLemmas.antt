-- What the events of a pool come to.
use Rattle.std.proofs.Common.{◌≡◌, ℕ, ◌+◌, ◌-◌, ◌<◌, arith, Option, None, Ok}
use Rattle.std.proofs.lemmas.List.{length-append}
use Rattle.std.proofs.lemmas.List.Elements.{All-push}
use Rattle.arena_rules.specs.State.{IsValid}
use Rattle.arena_chunks.specs.Source.{View}
use Rattle.arena_pool.specs.Kinds.{IsOfKind, HasId, reset_view}
use Rattle.arena_pool.specs.Pool.{Pool, Pooled, IsPool, IsPooled, Gets, store, put}
use Rattle.arena_pool.proofs.KindLemmas.{reset_is_unused}

-- ---- What every book keeps

pub got_is_lent : (p q : Pool) (lent : Pooled) → Gets p (Ok lent) q
    → (q.lent ≡ p.lent + 1) × (q.kind ≡ p.kind) × (q.limit ≡ p.limit) × (q.given_up ≡ p.given_up)
got_is_lent p q lent gets = grind (arith, gets)

stored_is_pool : (p : Pool) (a : Pooled) → IsPool p → 0 < p.lent → IsPooled p.kind p.limit a → IsPool (store p a)
stored_is_pool p a pool lent pooled = grind (arith, length-append {A = Pooled}, All-push (IsPooled p.kind p.limit))

-- ---- What a put comes to

-- Without a limit each is stored.
pub put_unlimited : (p : Pool) (arena : View) (id : Option ℕ) → p.limit ≡ None → put p arena id ≡ store p (reset_view arena, id)
put_unlimited p arena id none = grind arith

-- One arena less is lent, whether this one is stored or given up.
pub put_is_counted : (p : Pool) (arena : View) (id : Option ℕ)
    → ((put p arena id).lent ≡ p.lent - 1) × ((put p arena id).kind ≡ p.kind) × ((put p arena id).limit ≡ p.limit)
put_is_counted p arena id = grind arith

pub put_is_pool : (p : Pool) (arena : View) (id : Option ℕ) → IsPool p → 0 < p.lent → IsValid arena.memory.state
    → IsOfKind p.kind arena.memory.state → HasId p.kind id
    → IsPool (put p arena id)
put_is_pool p arena id pool lent valid of_kind has_id =
    grind (arith, stored_is_pool p (reset_view arena, id), reset_is_unused p.kind arena)

-- ---- The newest
