-- `allocate` returns a new block as room, with the right to free it. Assumes `Logic`.
use Rattle.std.proofs.Common.{◌≡◌, ◌+◌, ◌^◌, ◌<◌, [], ◌∷◌, refl, ap, ◌∙◌, arith}
use mathlib.Core.Bool.{true, false}
use lib.Dec.{lit<}
use native.Mathlib.Nat.{mul-one}
use seplogic.Ra.Ura.{Ura}
use mir.Syntax.{Fn, Args, Body, a_type, dcons, dnil, w64}
use mir.MapTy.{inst_fn}
use mir.Val.{Val, vptr, vint, vcons, vnil}
use base.Logic.{SProp, ent}
use base.Fml.{ftrue, flft, Incl-trans}
use prog.Memory.{Memory, capped, size}
use prog.Capped.{capped_is}
use prog.Routine.{Routine}
use prog.Wp.{Env, Calls, Loops, Wp, WpFn, Tables, after_seq, at_return}
use contract.BorrowLft.{◌⊑◌}
use contract.Monad.{Fun, fact}
use contract.Running.{tables, tables_of}
use sound.WpLaws.{WpFn-mono, FmC, fm_of}
use types.Logic.{Logic}
use types.Kit.{Post as After, any_q, ‵, raw, ◌⊛◌, later, await, prop, ◌$◌, ◌∵◌, !, qed, move, keep, use1, use2, split, join, frame, fsplit, fsplit3, fjoin, feq_l, flt_l, flt_i, suffices, done, at_ret}
use types.Match.{live, vrt, in_variant}
use types.Part.{whole, agg}
use types.Run.{stop, fld, lit, of_opd, and_then, no_more, first, exec, switches_on, enter, returns}
use types.ByLocal.{alloc_all, pass_all, free_all, look_at, get, get_in, get_tag, lands_as, sets, sets_last, env}
use denote.Builtin.{usize, RefOf}
use denote.Exit.{yes}
use denote.Laws.{Is}
use denote.Param.{layout, param, bounded}
use denote.RattleType.{RattleType, owns}
use denote.RawPtr.{Ptr, block_ptr}
use denote.Signature.{plain, types_at}
use denote.Steps.{nothing, heard, owned}
use denote.Struct.Declared as Declared
use denote.Struct.Struct.{Struct, Struct-Makes}
use denote.Struct.Tuple.{Tuple}
use denote.Triple.Call.{calls_at}
use denote.Triple.Clauses.{Clauses, Ended, closing}
use denote.Triple.Spec.{Meets, triple_of}
use denote.Triple.Statement.{Triple}
use denote.Triple.Table.{entered}
use denote.Triple.Walked.{says, Stays, stay_dropped, walk_of, ends_at, walk_Meets, Goes-dropped}
use Rattle.std.specs.Prelude.{Ok, Err}
use Rattle.std.specs.contracts.result.Result as RS
use Rattle.std.specs.contracts.alloc.AllocError as AE
use Rattle.std.proofs.alloc.Calls.{Al, Answer-typed, takes_key, Takes, at_takes, Answered, Takes-goes, Takes-gives, answers}
use Rattle.std.proofs.alloc.Shapes.{after, head, arm_body}
use Rattle.std.proofs.ResultValues.{ok_of, err_of}
use Rattle.std.proofs.RcSteps.{Good, first_Good}
use Rattle.arena_region.specs.Ownership.{block_of}
use Rattle.arena_region.proofs.Steps.{St, Bs, Dd, word, word-good, none, mark, three, word_made, store_made, deed_made, three_made, passed}
use Rattle.arena_region.specs.contracts.store.allocate as F
use Rattle.arena_region.specs.contracts.store.allocate.Key.{name as #self}
use Rattle.arena_region.proofs.store.allocate.Statement as stated
use Rattle.arena_region.proofs.store.allocate.Code as code

module _ (Z : Al) where
  abbrev args : Args
  args = bounded (a_type ∷ []) (Z.row, tt) (dcons Z.d (dcons Z.drops dnil))

  abbrev P : RattleType
  P = param 0 Z.row

  abbrev function : Fn
  function = inst_fn args code.function

  abbrev ended : Ended
  ended = F.ended Z.row Z.g Z.d Z.drops

  abbrev stayed : Stays ended.signature.params ended.kept
  stayed = (stay_dropped (RefOf (0 ∷ []) tt (plain (λ _. P)) (λ _. tt)) yes, (stay_dropped (plain (λ _. usize)) yes, tt))

  abbrev Three : RattleType
  Three = Tuple (Bs ∷ St ∷ Dd P Z.g ∷ [])

  abbrev Out : RattleType
  Out = RS.the_row Three AE.the_row

  module _ {M : Type 1} {𝓤 : Ura M} (𝓛 : Logic 𝓤) (at_mem : Memory → SProp 𝓤) (run : Routine → Fun 𝓤) where
    open 𝓛 use {H}

    abbrev held : Clauses 𝓤 ended
    held = F.clauses Z.row Z.g Z.d Z.drops 𝓛 at_mem run

    module _ (C : Calls 𝓤 H) (Λ : Loops 𝓤 H) (fm : FmC 𝓤 H 𝓛.laws C) (callee : Triple 𝓤 (C (takes_key Z)) (Takes Z 𝓛 at_mem run))
        (z : (walk_of 𝓛 ended stayed held).Ghost) where
      abbrev Post : Val → SProp 𝓤
      Post = (walk_of 𝓛 ended stayed held).post z

      walks : ent 𝓤 ((walk_of 𝓛 ended stayed held).pre z) (WpFn 𝓤 H C Λ function ((walk_of 𝓛 ended stayed held).args z) Post)
      walks =
          let κ = z.0.0.0 in let κ₁ = z.0.0.1.0 in let q = z.0.1.0 in let q₁ = z.0.1.1.0 in
          let args' = z.0.3 in let vss = z.0.4 in let a = args'.0.now in let rb = args'.0.ref_ptr.0 in let ro = args'.0.ref_ptr.1 in
          let len = args'.1.0 in
          let Asked = len < 2 ^ 63 in
          qed 𝓛 (((‵ (flft κ q) ⊛ ‵ (flft κ₁ q₁) ⊛ ‵ ftrue) ⊛ ‵ (owns (types_at ended.signature.params z.0.0) args' vss))
          ∷ (raw (fact 𝓤 (κ₁ ⊑ Z.row.lives)) ⊛ raw (fact 𝓤 Asked)) ∷ []) ∵
          move ! (1 ∷ []) $ split ! $ heard ! (κ₁ ⊑ Z.row.lives) (λ within. heard ! Asked (λ asked. split ! $ split ! $
          move ! (2 ∷ []) $ fsplit3 ! $ fsplit ! $ feq_l ! (λ is₀.
          move ! (1 ∷ []) $ fsplit ! $ feq_l ! (λ is₁. flt_l ! (λ fits. keep ! (0 ∷ 2 ∷ 3 ∷ []) $
          passed ! (λ us. prop (WpFn 𝓤 H C Λ function us Post)) (vss.0 ∷ vss.1.0 ∷ [])
          ((vptr rb ro ∷ []) ∷ (vint w64 len ∷ []) ∷ []) (λ i. is₀ i ∷ is₁ i ∷ []) $
          enter ! C Λ function (vptr rb ro ∷ vint w64 len ∷ []) Post $
          alloc_all ! (λ l. pass_all ! refl ((tt, tt), ((tt, record { fits = fits }), tt)) $
          let En : Env 𝓤 H = env function.locals l in
          let both : Body = head (after 1 function.body) in
          let Then : After 𝓤 H = any_q (after_seq 𝓤 H (Wp 𝓤 H C Λ En (after 2 function.body) (at_return 𝓤 H En Post))
          (at_return 𝓤 H En Post)) in
          let y : (Takes Z 𝓛 at_mem run).Ghost = at_takes Z 𝓛 at_mem run κ q (rb, ro) a len 1 (block_of len) in
          let wide : capped (size (block_of len)) ≡ len = ap capped (mul-one len) ∙ capped_is len (omega arith) in
          use2 𝓛 (raw ((Takes Z 𝓛 at_mem run).pre y))
          (Takes-goes Z 𝓛 at_mem run κ q (rb, ro) a (Incl-trans z.0.2.0 within) len 1 (block_of len) wide refl (omega arith) (lit< tt))
          $
          calls_at ! fm (Takes Z 𝓛 at_mem run) callee y
          (and_then ! (get ! refl) (and_then ! (get ! refl) (and_then ! (lit ! tt) (no_more !)))) (λ v.
          use1 𝓛 (later (raw (Answered Z 𝓛 at_mem run a (block_of len) v) ⊛ ‵ (flft κ q)))
          (Takes-gives Z 𝓛 at_mem run κ q (rb, ro) a len 1 (block_of len) v) $ await ! tt $ split ! $
          answers Z ! at_mem run a (block_of len) v
          (λ b o e.
          let p : Ptr = block_ptr b o in let base : Bs.Denot = record { ptr = p } in
          let store : St.Denot = record { at = p; room = len; ready = [] } in
          let deed : (Dd P Z.g).Denot = record { by = record {}; at = p; len = len; alloc = a } in
          let made : Val = three (word p) none mark in let typed : Good (layout Three) made = (tt, ((tt, tt), (tt, ((tt, tt), tt)))) in
          let ok = first_Good (layout Three) made typed in
          lands_as ! e refl (Answer-typed true b o) $ first ! $ switches_on ! (get_tag ! (vrt ! refl (fld ! refl (stop !))) (whole !)) $
          exec ! C Λ En (arm_body 0 both) Then $
          sets ! (of_opd ! (get_in ! (vrt ! refl (fld ! refl (stop !))) (in_variant ! 0 0 refl refl (whole !)))) refl (tt, tt) $
          sets ! (agg ! (and_then ! (get ! refl) (no_more !))) refl (word-good p) $ sets ! (agg ! (no_more !)) refl (tt, tt) $
          sets ! (agg ! (no_more !)) refl (tt, tt) $ sets ! (agg ! (and_then ! (get ! refl) (no_more !))) refl (tt, (tt, tt)) $
          sets ! (agg ! (and_then ! (get ! refl) (and_then ! (get ! refl) (and_then ! (get ! refl) (no_more !))))) refl typed $
          sets_last ! (agg ! (and_then ! (lit ! tt) (and_then ! (get ! refl) (no_more !)))) refl ok $
          exec ! C Λ En (after 2 function.body) (at_ret En Post) $ sets ! (of_opd ! (get ! refl)) refl ok $
          nothing ! $ fjoin ! $ flt_i ! (len + 0) (2 ^ 63) (omega arith) $ fjoin ! $ store_made ! store $ move ! (1 ∷ []) $
          deed_made ! P Z.g deed $ word_made ! p $ move ! (0 ∷ 2 ∷ 1 ∷ []) $
          three_made ! Bs St (Dd P Z.g) base store deed (word p) none mark $
          use1 𝓛 (‵ (Out.own_val (Ok (base, store, deed)) (live 0 (vcons made vnil) ∷ [])))
          (ok_of 𝓛 Three AE.the_row (base, store, deed) made) $
          returns ! (look_at ! 0 refl) $ free_all ! refl $ keep ! (0 ∷ 1 ∷ 2 ∷ []) $
          suffices ! _ (ends_at 𝓛 ended stayed held z (live 0 (vcons made vnil)) (Ok (base, store, deed)) (tt, (tt, tt)) (tt, (tt, tt))) $
          says ! (refl, refl, refl, refl, refl, refl) $
          move ! (1 ∷ 2 ∷ []) $ join ! $ frame ! $ nothing ! $ nothing ! $ fjoin ! $ nothing ! $ fjoin ! $ done !)
          (λ e.
          let Refusal : RattleType = Struct (Declared.shape AE.the_type) in let refused : Val = live 1 (vcons none vnil) in
          lands_as ! e refl (Answer-typed false 0 0) $ first ! $
          switches_on ! (get_tag ! (vrt ! refl (fld ! refl (stop !))) (whole !)) $ exec ! C Λ En (arm_body 1 both) Then $
          sets ! (of_opd ! (get_in ! (vrt ! refl (fld ! refl (stop !))) (in_variant ! 1 0 refl refl (whole !)))) refl (tt, tt) $
          sets_last ! (agg ! (and_then ! (lit ! tt) (and_then ! (get ! refl) (no_more !)))) refl
          (tt, (record { fits = lit< tt }, (tt, tt))) $
          exec ! C Λ En (after 2 function.body) (at_ret En Post) $
          sets ! (of_opd ! (get ! refl)) refl (tt, (record { fits = lit< tt }, (tt, tt))) $
          owned ! Refusal (Is Refusal) (Struct-Makes 𝓛 (Declared.shape AE.the_type) tt) tt (none ∷ []) (tt, (refl, tt)) $
          use1 𝓛 (‵ (Out.own_val (Err (record {})) (refused ∷ []))) (err_of 𝓛 Three AE.the_row (record {}) none) $
          returns ! (look_at ! 0 refl) $ free_all ! refl $ keep ! (0 ∷ 1 ∷ 2 ∷ []) $
          suffices ! _ (ends_at 𝓛 ended stayed held z refused (Err (record {})) (tt, (tt, tt)) (tt, (tt, tt))) $ says ! tt $
          move ! (1 ∷ 2 ∷ []) $ join ! $ frame ! $ nothing ! $ nothing ! $ fjoin ! $ nothing ! $ fjoin ! $ done !))))))))

    meets : (𝓣 : Tables 𝓤 H) → Triple 𝓤 (𝓣.C (takes_key Z)) (Takes Z 𝓛 at_mem run)
        → Meets 𝓛 ended.signature (WpFn 𝓤 H 𝓣.C 𝓣.Λ function) (closing 𝓛 ended held)
    meets 𝓣 callee =
        walk_Meets 𝓛 ended stayed (
          Goes-dropped 𝓛 2 (RefOf (0 ∷ []) tt (plain (λ _. P)) (λ _. tt)) yes (λ κs x f. refl),
          (Goes-dropped 𝓛 2 (plain (λ _. usize)) yes (λ κs x f. refl), tt),
        )
        held (WpFn 𝓤 H 𝓣.C 𝓣.Λ function) (WpFn-mono 𝓤 H 𝓛.laws 𝓣 function) (walks 𝓣.C 𝓣.Λ (fm_of 𝓤 H 𝓛.laws 𝓣) callee)

pub allocate_spec : {M : Type 1} → stated.statement M
unfolding tables_of
allocate_spec 𝓤 𝓛 𝓜 𝓡 wired A L g d dd met md =
    let Z : Al = record { row = A; laws = L; g = g; d = d; drops = dd } in
    let 𝓣 : Tables 𝓤 𝓛.H = tables_of 𝓤 𝓛.H 𝓜 (tables 𝓤 𝓛.H 𝓜 𝓡 𝓡.env) in
    entered 𝓤 𝓛.H (triple_of 𝓛 (ended Z).signature (closing 𝓛 (ended Z) (held Z 𝓛 𝓜.mem 𝓡.returns))) 𝓣.C 𝓣.Λ (#self (args Z)) (function Z)
    (code.unfolded 𝓤 𝓛.H 𝓜 𝓡 wired (A, tt) d dd) (meets Z 𝓛 𝓜.mem 𝓡.returns 𝓣 (met.allocate dd))
