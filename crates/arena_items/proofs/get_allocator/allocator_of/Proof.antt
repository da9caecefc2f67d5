-- A value lends its allocator by the trait's call.
use mathlib.Core.Path.{◌≡◌, refl, ap}
use mathlib.Core.List.{List, [], ◌∷◌}
use mir.Syntax.{dcons, dnil, named, a_type}
use mir.MapTy.{inst_fn}
use mir.Val.{Val, vptr}
use base.Logic.{id⊢}
use base.Fml.{ftrue, flft}
use contract.Monad.{fact}
use contract.Running.{tables}
use types.Kit.{‵, ◌⊛◌, raw, some, later, ◌$◌, ◌∵◌, !, qed, by, move, drop, use1, use2, split, split3, join, fsplit3, fjoin, fjoin3, feq_i, feq_l, await, pick}
use types.Run.{stop, addr, no_more, and_then, returns, enter}
use types.ByLocal.{alloc_all, pass_all, free_all, look_at, get, through, sets, lands_as}
use denote.Builtin.{RefMutOf}
use denote.Exit.{no}
use denote.Follow.{follows}
use denote.Param.{param, bounded}
use denote.RattleType.{RattleType, owns}
use denote.Ref.{MutBor, MutRef, mut_vals, mut_Tells}
use denote.Signature.{types_at, plain}
use denote.Steps.{nothing, only}
use denote.Triple.Call.{calls_at}
use denote.Triple.Clauses.{lasts}
use denote.Triple.Spec.{triple_of}
use denote.Triple.Walked.{Stays, stay_dropped, Goes-spent_ref}
use Rattle.std.proofs.raw_atomic.Calls.{fm}
use Rattle.std.proofs.raw_atomic.Walks.{proved, leaves}
use Rattle.arena_chunks.specs.contracts.allocator.Allocator.{the_row}
use Rattle.arena_items.specs.contracts.get_allocator.GetAllocator.allocator as callee
use Rattle.arena_items.specs.contracts.get_allocator.allocator_of.{ended, clauses}
use Rattle.arena_items.specs.contracts.get_allocator.allocator_of.Key.{name as #self}
use Rattle.arena_items.proofs.get_allocator.allocator_of.Statement.{statement}
use Rattle.arena_items.proofs.get_allocator.allocator_of.Code as code

pub allocator_of_spec : {M : Type 1} → statement M
allocator_of_spec 𝓤 𝓛 𝓜 𝓡 wired X Y L K G D S E met _ =
    let 𝓣 = tables 𝓤 𝓛.H 𝓜 𝓡 𝓡.env in
    let R : RattleType = param 0 X in
    let T : RattleType = the_row (param 1 Y) S in
    let En = ended X Y G D S E in
    let c = clauses X Y G D S E 𝓛 𝓜.mem 𝓡.returns in
    let inst = bounded (a_type ∷ a_type ∷ []) (X, (Y, tt)) (dcons D (dcons E dnil)) in
    let fn = inst_fn inst code.function in
    let hs : Stays En.signature.params En.kept = (stay_dropped (RefMutOf (0 ∷ []) tt (plain (λ _. R)) (λ _. tt)) no, tt) in
    let Called = triple_of 𝓛 (callee.signature X Y G D S E) (callee.spec X Y G D S E 𝓛 𝓜.mem 𝓡.returns) in
    proved 𝓛 En hs c 𝓜 𝓡 (Goes-spent_ref 𝓛 3 (0 ∷ []) tt (plain (λ _. R)), tt) (#self inst) fn
    (code.unfolded 𝓤 𝓛.H 𝓜 𝓡 wired (X, (Y, tt)) D E) (λ κs. (mut_vals, tt)) (λ κs. (mut_Tells (named 0) κs.0 R, tt))
    (λ κs qs bounds a n are.
    let tokens = ‵ (flft κs.0 qs.0) ⊛ ‵ (flft κs.1.0 qs.1.0) ⊛ ‵ (flft κs.1.1.0 qs.1.1.0) ⊛ ‵ ftrue in
    let z : Called.Ghost = ((κs, qs, bounds, a, (mut_vals a.0, tt)), n) in
    qed 𝓛 ((tokens ⊛ ‵ (owns (types_at En.signature.params κs) a (mut_vals a.0, tt))) ∷ raw ((c κs a).requires n) ∷ []) ∵
    enter ! 𝓣.C 𝓣.Λ fn (vptr a.0.ref_ptr.0 a.0.ref_ptr.1 ∷ []) _ $
    alloc_all ! (λ l. pass_all ! refl ((tt, tt), tt) $ sets ! (addr ! (through ! refl (stop !))) refl (tt, tt) $
    use2 𝓛 (raw (Called.pre z)) (id⊢ 𝓤 _) $
    calls_at ! (fm 𝓛 𝓜 𝓡) Called met.allocator z (and_then ! (get ! refl) (no_more !)) (λ v.
    use1 𝓛 (later (some (λ (r : MutBor T.Denot). (tokens ⊛ ‵ ((MutRef (named 0) κs.0 T).own_val r (v ∷ []))) ⊛
    some (λ (ws : Unit {0} × Unit {0}). ‵ (lasts En κs a ws) ⊛ ‵ (follows R T a.0.ghost_name r.ghost_name (G.with_lent a.0.now)) ⊛ raw
    (fact 𝓤 (r.now ≡ G.lent a.0.now)))))) (id⊢ 𝓤 _) $
    await ! tt $ pick ! (λ r. split ! $ move ! (1 ∷ []) $ pick ! (λ ws. split3 ! $ drop ! $ join ! $
    -- [what the call ensures; the tokens and the result]
    move ! (1 ∷ []) $ split ! $ move ! (1 ∷ []) $ fsplit3 ! $ feq_l ! (λ is. lands_as ! (ap only is) refl (tt, tt) $
    returns ! (look_at ! 0 refl) $ free_all ! refl $
    feq_i ! (List Val) (vptr r.ref_ptr.0 r.ref_ptr.1 ∷ []) (vptr r.ref_ptr.0 r.ref_ptr.1 ∷ []) refl $ fjoin3 ! $
    nothing ! $ nothing ! $ fjoin ! $ move ! (2 ∷ []) $
    by ! (leaves 𝓛 En hs c ((κs, qs, bounds, a, (mut_vals a.0, tt)), n) (vptr r.ref_ptr.0 r.ref_ptr.1) r (tt, tt) (tt, tt))))))))
