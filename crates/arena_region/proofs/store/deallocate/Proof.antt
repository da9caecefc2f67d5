-- `deallocate` turns the block into room again, and frees it with its deed. Assumes `Logic`.
use Rattle.std.proofs.Common.{◌≡◌, ℕ, ◌+◌, List, [], ◌∷◌, length, refl, sym, ap, ◌∙◌, subst}
use lib.Dec.{T, lit<}
use native.Mathlib.Nat.{mul-one}
use seplogic.Ra.Ura.{Ura}
use base.Fraction.{full_share}
use mir.Syntax.{Fn, Args, a_type, ty_unit, dcons, dnil, w64}
use mir.MapTy.{inst_fn}
use mir.Val.{Val, vptr, vint, vunit, has_ty, WT}
use base.Logic.{SProp, ent, never, id⊢}
use base.Fml.{ftrue, fat, froom, flft, Incl-trans}
use prog.Memory.{Memory, capped, size}
use prog.Capped.{capped_is}
use prog.Routine.{Routine}
use prog.Wp.{Env, Calls, Loops, WpFn, Tables}
use contract.BorrowLft.{◌⊑◌}
use contract.Monad.{Fun, fact}
use contract.Running.{tables, tables_of}
use sound.WpLaws.{WpFn-mono, FmC, fm_of}
use types.Logic.{Logic}
use types.Kit.{‵, raw, ◌⊛◌, later, given, await, learn, group, prop, ◌$◌, ◌∵◌, !, qed, move, keep, use1, use2, split, join, fsplit, fsplit3, fjoin, feq_l, feq_i, flt_l, rewrite, suffices, done, at_ret}
use types.Part.{whole, sub}
use types.Run.{stop, fld, lit, unit_lit, of_opd, and_then, no_more, first, blocks, exec, enter, returns}
use types.ByLocal.{alloc_all, pass_all, free_all, look_at, get, get_in, lands_last, take_at, give_at, sets, env}
use denote.Builtin.{usize, RefOf}
use denote.Exit.{yes, no}
use denote.Param.{layout, param, bounded}
use denote.RattleType.{RattleType, owns}
use denote.RawPtr.{Ptr, in_a_block}
use denote.Signature.{plain, types_at}
use denote.Steps.{nothing, heard}
use denote.Triple.Call.{calls_at_last}
use denote.Triple.Clauses.{Clauses, Ended, closing}
use denote.Triple.Spec.{Meets, triple_of}
use denote.Triple.Statement.{Triple}
use denote.Triple.Table.{entered}
use denote.Triple.Walked.{Stays, stay_dropped, walk_of, ends_at, walk_Meets, Goes-dropped}
use Rattle.std.proofs.alloc.Calls.{Al, gives_key, Gives, at_gives, Gives-goes, Gives-Gives, Goes-blank}
use Rattle.std.proofs.alloc.Shapes.{after}
use Rattle.arena_region.specs.Ownership.{block_of, store_owns, deed_owns}
use Rattle.arena_region.proofs.Memory.{all_room}
use Rattle.arena_region.proofs.Steps.{St, Bs, Dd, word, word-good, none, mark, word_had, none_had, deed_had, passed}
use Rattle.arena_region.specs.contracts.store.deallocate as F
use Rattle.arena_region.specs.contracts.store.deallocate.Key.{name as #self}
use Rattle.arena_region.proofs.store.deallocate.Statement as stated
use Rattle.arena_region.proofs.store.deallocate.Code as code

module _ (Z : Al) where
  abbrev args : Args
  args = bounded (a_type ∷ []) (Z.row, tt) (dcons Z.d (dcons Z.drops dnil))

  abbrev P : RattleType
  P = param 0 Z.row

  abbrev function : Fn
  function = inst_fn args code.function

  abbrev ended : Ended
  ended = F.ended Z.row Z.g Z.d Z.drops

  abbrev stayed : Stays ended.signature.params ended.kept
  stayed = (
    stay_dropped (RefOf (0 ∷ []) tt (plain (λ _. P)) (λ _. tt)) yes,
    (
      stay_dropped (plain (λ _. Bs)) yes,
      (
        stay_dropped (plain (λ _. usize)) yes,
        (stay_dropped (plain (λ _. St)) yes, (stay_dropped (plain (λ _. Dd P Z.g)) no, tt)),
      ),
    ),
  )

  module _ {M : Type 1} {𝓤 : Ura M} (𝓛 : Logic 𝓤) (at_mem : Memory → SProp 𝓤) (run : Routine → Fun 𝓤) where
    open 𝓛 use {H}

    abbrev held : Clauses 𝓤 ended
    held = F.clauses Z.row Z.g Z.d Z.drops 𝓛 at_mem run

    module _ (C : Calls 𝓤 H) (Λ : Loops 𝓤 H) (fm : FmC 𝓤 H 𝓛.laws C) (callee : Triple 𝓤 (C (gives_key Z)) (Gives Z 𝓛 at_mem run))
        (z : (walk_of 𝓛 ended stayed held).Ghost) where
      abbrev Post : Val → SProp 𝓤
      Post = (walk_of 𝓛 ended stayed held).post z

      walks : ent 𝓤 ((walk_of 𝓛 ended stayed held).pre z) (WpFn 𝓤 H C Λ function ((walk_of 𝓛 ended stayed held).args z) Post)
      walks =
          let κ = z.0.0.0 in let κ₁ = z.0.0.1.0 in let q = z.0.1.0 in let q₁ = z.0.1.1.0 in
          let args' = z.0.3 in let vss = z.0.4 in let a = args'.0.now in let rb = args'.0.ref_ptr.0 in let ro = args'.0.ref_ptr.1 in
          let base = args'.1.0 in let len = args'.1.1.0 in let store = args'.1.1.1.0 in let deed = args'.1.1.1.1.0 in
          let Asked = (store.at ≡ base.ptr) × (store.room + length store.ready ≡ len) × (deed.at ≡ base.ptr) × (deed.len ≡ len)
          × (deed.alloc ≡ a) in
          qed 𝓛 (((‵ (flft κ q) ⊛ ‵ (flft κ₁ q₁) ⊛ ‵ ftrue) ⊛ ‵ (owns (types_at ended.signature.params z.0.0) args' vss))
          ∷ (raw (fact 𝓤 (κ₁ ⊑ Z.row.lives)) ⊛ raw (fact 𝓤 Asked)) ∷ []) ∵
          move ! (1 ∷ []) $ split ! $ heard ! (κ₁ ⊑ Z.row.lives) (λ within. heard ! Asked (λ asked. split ! $ split ! $
          move ! (2 ∷ []) $ fsplit3 ! $ fsplit ! $ feq_l ! (λ is₀.
          move ! (1 ∷ []) $ word_had ! base.ptr vss.1.0 (λ is₁. move ! (1 ∷ []) $ fsplit3 ! $ fsplit ! $ feq_l ! (λ is₂. flt_l ! (λ fits.
          fsplit ! $ none_had ! vss.1.1.1.0 (λ is₃. move ! (1 ∷ []) $ fsplit ! $
          deed_had ! P Z.g deed vss.1.1.1.1.0 (λ is₄. keep ! (2 ∷ 0 ∷ 3 ∷ 4 ∷ 5 ∷ []) $
          passed ! (λ us. prop (WpFn 𝓤 H C Λ function us Post)) (vss.0 ∷ vss.1.0 ∷ vss.1.1.0 ∷ vss.1.1.1.0 ∷ vss.1.1.1.1.0 ∷ [])
          ((vptr rb ro ∷ []) ∷ (word base.ptr ∷ []) ∷ (vint w64 len ∷ []) ∷ (none ∷ []) ∷ (mark ∷ []) ∷ [])
          (λ i. is₀ i ∷ is₁ i ∷ is₂ i ∷ is₃ i ∷ is₄ i ∷ []) $
          enter ! C Λ function (vptr rb ro ∷ word base.ptr ∷ vint w64 len ∷ none ∷ mark ∷ []) Post $
          alloc_all ! (λ l. pass_all ! refl (
            (tt, tt),
            (word-good base.ptr, ((tt, record { fits = fits }), ((tt, tt), ((tt, (tt, tt)), tt)))),
          ) $
          rewrite ! 0 (λ (p : Ptr). ‵ (store_owns p store.room store.ready)) asked.0 refl $
          in_a_block ! base.ptr (λ p. store_owns p store.room store.ready) (id⊢ 𝓤 (never 𝓤)) (λ b o e. fsplit3 ! $ flt_l ! (λ fit.
          use2 𝓛 (‵ (froom (block_of len) b o)) (all_room 𝓛 store.room len store.ready b o asked.1) $
          rewrite ! 1 (λ (d : Z.row.Denot × Ptr × ℕ). ‵ (deed_owns (Z.g.dealloc_token d.0) d.1 d.2))
          (λ i. (asked.4 i, (asked.2 ∙ e) i, asked.3 i)) refl $
          take_at ! 2 $ rewrite ! 0 (λ (p : Ptr). ‵ (fat full_share (layout Bs) (l 2) 0 (word p))) e refl $ give_at ! 2 $ first ! $
          blocks ! $
          let En : Env 𝓤 H = env function.locals l in let y : (Gives Z 𝓛 at_mem run).Ghost =
          at_gives Z 𝓛 at_mem run κ q (rb, ro) a b o len 1 (block_of len) in
          let wide : capped (size (block_of len)) ≡ len = ap capped (mul-one len) ∙ capped_is len fits in
          group ! 4 $ use1 𝓛 (raw ((Gives Z 𝓛 at_mem run).pre y))
          (Gives-goes Z 𝓛 at_mem run κ q (rb, ro) a (Incl-trans z.0.2.0 within) b o len 1 (block_of len) wide refl fits (lit< tt)) $
          calls_at_last ! fm (Gives Z 𝓛 at_mem run) callee y
          (and_then ! (get ! refl) (and_then ! (get_in ! (fld ! refl (stop !)) (sub ! 0 refl (whole !)))
          (and_then ! (get ! refl) (and_then ! (lit ! tt) (no_more !))))) (λ v.
          use1 𝓛 (later (given (v ≡ vunit) (‵ (flft κ q)))) (Gives-Gives Z 𝓛 at_mem run κ q (rb, ro) a b o len 1 (block_of len) v) $
          await ! tt $ learn ! (λ gone.
          lands_last ! refl (subst (λ (w : Val). T (has_ty ty_unit w) × WT w) (sym gone) (tt, tt)) $
          exec ! C Λ En (after 1 function.body) (at_ret En Post) $
          sets ! (of_opd ! (unit_lit !)) refl (tt, tt) $ returns ! (look_at ! 0 refl) $ free_all ! refl $ keep ! (0 ∷ 1 ∷ []) $
          suffices ! _ (ends_at 𝓛 ended stayed held z vunit tt (tt, (tt, (tt, (tt, (tt, tt))))) (tt, (tt, (tt, (tt, (tt, tt)))))) $
          join ! $ feq_i ! (List Val) (vunit ∷ []) (vunit ∷ []) refl $ nothing ! $ nothing ! $ fjoin ! $ nothing ! $ fjoin ! $
          nothing ! $ fjoin ! $ nothing ! $ fjoin ! $ nothing ! $ fjoin ! $ join ! $
          move ! (1 ∷ 0 ∷ []) $ join ! $ nothing ! $ move ! (1 ∷ 0 ∷ []) $ done !)))))))))))))

    meets : (𝓣 : Tables 𝓤 H) → Triple 𝓤 (𝓣.C (gives_key Z)) (Gives Z 𝓛 at_mem run)
        → Meets 𝓛 ended.signature (WpFn 𝓤 H 𝓣.C 𝓣.Λ function) (closing 𝓛 ended held)
    meets 𝓣 callee =
        walk_Meets 𝓛 ended stayed (
          Goes-dropped 𝓛 2 (RefOf (0 ∷ []) tt (plain (λ _. P)) (λ _. tt)) yes (λ κs x f. refl),
          (
            Goes-dropped 𝓛 2 (plain (λ _. Bs)) yes (λ κs x f. refl),
            (
              Goes-dropped 𝓛 2 (plain (λ _. usize)) yes (λ κs x f. refl),
              (Goes-blank 𝓛 2 (plain (λ _. St)) yes (λ κs x f. tt), (Goes-blank 𝓛 2 (plain (λ _. Dd P Z.g)) no (λ κs x f. tt), tt)),
            ),
          ),
        )
        held (WpFn 𝓤 H 𝓣.C 𝓣.Λ function) (WpFn-mono 𝓤 H 𝓛.laws 𝓣 function) (walks 𝓣.C 𝓣.Λ (fm_of 𝓤 H 𝓛.laws 𝓣) callee)

pub deallocate_spec : {M : Type 1} → stated.statement M
unfolding tables_of
deallocate_spec 𝓤 𝓛 𝓜 𝓡 wired A L g d dd met md =
    let Z : Al = record { row = A; laws = L; g = g; d = d; drops = dd } in
    let 𝓣 : Tables 𝓤 𝓛.H = tables_of 𝓤 𝓛.H 𝓜 (tables 𝓤 𝓛.H 𝓜 𝓡 𝓡.env) in
    entered 𝓤 𝓛.H (triple_of 𝓛 (ended Z).signature (closing 𝓛 (ended Z) (held Z 𝓛 𝓜.mem 𝓡.returns))) 𝓣.C 𝓣.Λ (#self (args Z)) (function Z)
    (code.unfolded 𝓤 𝓛.H 𝓜 𝓡 wired (A, tt) d dd) (meets Z 𝓛 𝓜.mem 𝓡.returns 𝓣 (met.deallocate dd))
