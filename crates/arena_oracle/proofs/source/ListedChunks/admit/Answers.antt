use Rattle.std.proofs.Common.{◌∙◌, ap, sym, not, true, false, arith}
use Rattle.arena_oracle.proofs.LimitLemmas.{pushed, remains_more, counts_allowed, counts_refused, last_allowed}
use Rattle.arena_oracle.proofs.source.ListedChunks.admit.Goals as goal

pub invariant_of-self-then-allowed-clause-remains : goal.invariant_of-self-then-allowed-clause-remains
invariant_of-self-then-allowed-clause-remains c =
    let was = c.args.self.now in
    remains_more was.exhausted was.refuse.now was.budget was.left was.refused c.args.size c.args.align was.requests.items _
    (pushed _ _ _ _ (c.is_err.ensures.negation ∙ ap not c.if-is_err.false) c.push.ensures.items) was.remains true (sym c.is_allowed-allowed.ensures ∙ c.if-allowed.true)

pub invariant_of-self-then-allowed-clause-refusals : goal.invariant_of-self-then-allowed-clause-refusals
invariant_of-self-then-allowed-clause-refusals c =
    let was = c.args.self.now in
    counts_allowed was.exhausted was.refuse.now was.budget was.left was.refused c.args.size c.args.align was.requests.items _
    (pushed _ _ _ _ (c.is_err.ensures.negation ∙ ap not c.if-is_err.false) c.push.ensures.items) was.remains was.refusals (sym c.is_allowed-allowed.ensures ∙ c.if-allowed.true)

pub invariant_of-self-else-allowed-clause-remains : goal.invariant_of-self-else-allowed-clause-remains
invariant_of-self-else-allowed-clause-remains c =
    let was = c.args.self.now in
    remains_more was.exhausted was.refuse.now was.budget was.left was.refused c.args.size c.args.align was.requests.items _
    (pushed _ _ _ _ (c.is_err.ensures.negation ∙ ap not c.if-is_err.false) c.push.ensures.items) was.remains false (sym c.is_allowed-allowed.ensures ∙ c.if-allowed.false)

pub invariant_of-self-else-allowed-clause-refusals : goal.invariant_of-self-else-allowed-clause-refusals
invariant_of-self-else-allowed-clause-refusals c =
    let was = c.args.self.now in
    counts_refused was.exhausted was.refuse.now was.budget was.left was.refused c.args.size c.args.align was.requests.items _
    (pushed _ _ _ _ (c.is_err.ensures.negation ∙ ap not c.if-is_err.false) c.push.ensures.items) was.remains _ (omega (arith, c.saturating_add-self.ensures)) was.few was.refusals
    (sym c.is_allowed-allowed.ensures ∙ c.if-allowed.false)

pub invariant_of-self-then-allowed-clause-last : goal.invariant_of-self-then-allowed-clause-last
invariant_of-self-then-allowed-clause-last c =
    let was = c.args.self.now in
    last_allowed was.exhausted was.refuse.now was.budget was.left was.refused c.args.size c.args.align was.requests.items _
    (pushed _ _ _ _ (c.is_err.ensures.negation ∙ ap not c.if-is_err.false) c.push.ensures.items) was.remains _ was.refusals
