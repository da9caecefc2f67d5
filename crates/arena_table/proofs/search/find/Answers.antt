use Rattle.std.proofs.lemmas.Bool.Decides.{nat_tests}
use Rattle.std.proofs.Common.{◌≡◌, ℕ, Bool, true, false, sym, ap, subst, ◌∙◌, arith, IsTrue}
use Rattle.arena_chunks.specs.Memory.{is_readable}
use Rattle.hash_ring.proofs.Find.{passed-none}
use Rattle.arena_table.specs.Contents.{content_in}
use Rattle.arena_table.proofs.HandleLemmas.{handle-shape}
use Rattle.arena_table.proofs.SearchLemmas.{seeking-start, seeking-on, seeking-taken, seeking-other, seeking-spot, seeking-lacks, seeking-less}
use Rattle.arena_table.proofs.search.find.Goals as goal
use Rattle.arena_table.proofs.search.find.Goals.{else-found-mark-via-then-found-mark+else-holds, else-found-mark-via-else-found-mark}

differ : {b : Bool} → b ≡ true → b ≡ false → ⊥
differ h k = cc

pub slots-init : goal.slots-init
slots-init g c = grind (arith, nat_tests, handle-shape, seeking-start, passed-none)

pub bounds-bytes-at : goal.bounds-bytes-at
bounds-bytes-at g c = grind (arith, nat_tests)

pub key_at-requires-clause-shape : goal.key_at-requires-clause-shape
key_at-requires-clause-shape g c = rw c.requires.bytes c.slots.invariant.shape

pub holds-requires : goal.holds-requires
holds-requires g c =
    let m = c.args.a.now.memory in
    let s = c.slots.invariant in
    let x = seeking-taken _ _ _ _ c.args.hash s.some s.shape _ _ _ s.seeking (rw c.requires.bytes at c.if-found-mark.true) in
    let key = (rw c.requires.bytes at c.key_at.ensures) x.0 x.1 in
    subst (λ k. IsTrue (is_readable m.state (g.K.ArenaKey.key.text k))) (sym key) (c.requires.texts x.0 (c.slots.at, x.1))

pub returns-then-holds : goal.returns-then-holds
returns-then-holds g c = λ h table same.
    let m = c.args.a.now.memory in
    let s = c.slots.invariant in
    let x = seeking-taken _ _ _ _ c.args.hash s.some s.shape _ _ _ s.seeking (rw c.requires.bytes at c.if-found-mark.true) in
    let key = (rw c.requires.bytes at c.key_at.ensures) x.0 x.1 in
    (x.0, x.1, ap (content_in g.K.ArenaKey.key m) (sym key) ∙ c.holds.ensures.0 c.if-holds.true)

pub returns-then-found-least : goal.returns-then-found-least
returns-then-found-least g c = λ h table same.
    let low = rw (c.requires.bytes, c.least.ensures) at c.if-found-least.true in
    let s = c.slots.invariant in
    let n : ℕ = c.args.table.slots in (
      seeking-lacks _ _ _ _ c.args.hash s.some s.shape _ _ _ (omega arith) s.seeking _ table low _ _ (λ j x t e. ap h e ∙ same)
          (s.passed h table same),
      λ more. seeking-spot _ _ _ _ c.args.hash s.some s.shape _ _ _ (omega arith) s.seeking _ table low,
    )

pub slots-preserved : goal.slots-preserved
slots-preserved g c =
    let m = c.args.a.now.memory in
    let high = rw (c.requires.bytes, c.least.ensures) at c.if-found-least.false in
    let s = c.slots.invariant in
    record {
      some = s.some;
      shape = s.shape;
      seeking = seeking-on _ _ _ _ c.args.hash s.some s.shape _ _ _ (omega arith) s.seeking _ _ high c.ring-at-in-slots.ensures
          (c.farther-mark.ensures c.args.hash c.slots.counter s.seeking.mark_is);
      passed = λ h table same.
          seeking-other _ _ _ _ c.args.hash s.some s.shape _ _ _ (omega arith) s.seeking high _ table _ _ (λ x e. ap h e ∙ same)
          (λ is x t e. elim c.else-found-mark.branch [
            | else-found-mark-via-then-found-mark+else-holds w ↦
                let key = (rw c.requires.bytes at w.key_at.ensures) x t in
                differ (w.holds.ensures.1 (ap (content_in g.K.ArenaKey.key m) key ∙ e)) w.if-holds.false
            | else-found-mark-via-else-found-mark w ↦ w.if-found-mark.false (rw c.requires.bytes is)
          ])
          (s.passed h table same);
    }

pub returns : goal.returns
returns g c = λ h table same.
    let s = c.slots.invariant in
    absurd (omega (arith, seeking-less _ _ _ _ c.args.hash s.some s.shape _ _ _ s.seeking _ table c.requires.free))
