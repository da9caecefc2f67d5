use Rattle.std.proofs.Common.{refl}
use Rattle.std.proofs.lemmas.Bool.{false≢true}
use Rattle.hash_ring.proofs.Equal.{found-more, found-none}
use Rattle.arena_hash.proofs.EqualLemmas.{all-equal, equal-len, gave-equal, gave-none, gave-other, next-equal, next-readable}
use Rattle.arena_hash.proofs.map.HashMap.eq.Goals as goal

pub returns-then-self-other : goal.returns-then-self-other
returns-then-self-other g c = (
  (λ t. absurd (false≢true t)),
  (λ equal. absurd (c.if-self-other.true (equal-len g.V.PartialEq.eq c.requires.held c.requires.other equal))),
)

pub loop-key-init : goal.loop-key-init
loop-key-init g c = found-none _ g.V.PartialEq.eq _ c.into_iter-key-iterator.result

pub get-requires-clause-text : goal.get-requires-clause-text
get-requires-clause-text g c =
    next-readable g.V.PartialEq.eq c.requires.held c.requires.other c.iter-key-items.ensures
    c.into_iter-key-iterator.ensures.into_iter_gives c.loop-key.invariant (c.in-Some.key, c.in-Some.value) _ c.in-Some.ensures.steps

pub returns-then-ne : goal.returns-then-ne
returns-then-ne g c = (
  (λ t. absurd (false≢true t)),
  (λ equal. absurd (gave-other g.V.PartialEq.eq c.in-Some.value c.in-Some-get.found c.get.ensures c.in-Some-get.is c.if-ne.ensures
      (next-equal _ c.requires.held c.requires.other c.iter-key-items.ensures c.into_iter-key-iterator.ensures.into_iter_gives
      c.loop-key.invariant (c.in-Some.key, c.in-Some.value) _ c.in-Some.ensures.steps equal))),
)

pub loop-key-preserved : goal.loop-key-preserved
loop-key-preserved g c =
    found-more _ g.V.PartialEq.eq _ _ _ _ (c.in-Some.key, c.in-Some.value) (rw c.in-Some.ensures.steps at c.loop-key.invariant)
    (gave-equal g.V.PartialEq.eq c.in-Some.value c.in-Some-get.found c.get.ensures c.in-Some-get.is c.if-ne.ensures)

pub returns-in-None-get : goal.returns-in-None-get
returns-in-None-get g c = (
  (λ t. absurd (false≢true t)),
  (λ equal. absurd (gave-none g.V.PartialEq.eq c.in-Some.value c.in-Some.value c.get.ensures c.in-None-get.is
      (next-equal _ c.requires.held c.requires.other c.iter-key-items.ensures c.into_iter-key-iterator.ensures.into_iter_gives
      c.loop-key.invariant (c.in-Some.key, c.in-Some.value) _ c.in-Some.ensures.steps equal))),
)

pub returns : goal.returns
returns g c = (
  (λ t. all-equal g.V.PartialEq.eq c.requires.held c.requires.other c.iter-key-items.ensures
      c.into_iter-key-iterator.ensures.into_iter_gives c.loop-key.invariant c.if-self-other.false c.in-None.ensures.steps.0),
  (λ equal. refl),
)
