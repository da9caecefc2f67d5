-- `apart` takes what a vector that isn't dropped owns. Assumes `Logic`.
use Rattle.std.proofs.Common.{◌≡◌, ℕ, ◌+◌, ◌*◌, ◌<◌, ◌^◌, List, [], ◌∷◌, ◌++◌, length, refl, sym, ap, ◌∙◌, arith}
use seplogic.Ra.Ura.{Ura}
use base.Fraction.{full_share}
use mir.Syntax.{Fn, Args, a_type, dcons, dnil, w64}
use mir.MapTy.{inst_fn}
use mir.Val.{Val, vint, vstruct, vcons, vnil, of_list, has_ty}
use base.Logic.{SProp, ent, never, id⊢}
use base.Fml.{Fml, ftrue, fsep, feq, froom, flft}
use prog.Memory.{Memory}
use prog.Routine.{Routine}
use prog.Wp.{Calls, Loops, WpFn, Tables}
use contract.BorrowLft.{◌⊑◌}
use contract.Monad.{Fun, fact}
use contract.Running.{tables, tables_of}
use sound.WpLaws.{WpFn-mono}
use types.Logic.{Logic}
use types.Kit.{‵, raw, ◌⊛◌, ◌$◌, ◌∵◌, !, qed, move, keep, use0, use1, split, join, frame, fsplit, fjoin, fpick, feq_l, flt_l, flt_i, rewrite, regoal, prop, suffices, done}
use types.Part.{agg}
use types.Run.{and_then, no_more, enter, returns}
use types.ByLocal.{alloc_all, pass_all, free_all, look_at, get, sets}
use denote.Builtin.{u8}
use denote.Exit.{no}
use denote.Param.{layout, param, bounded}
use denote.RattleType.{RattleType, owns}
use denote.RawPtr.{Ptr, block_ptr, ptr_val, in_block, in_a_block}
use denote.RawPtr.Bytes.{bytes, bytes_apart}
use denote.Signature.{plain, types_at}
use denote.Steps.{nothing, heard}
use denote.Triple.Clauses.{Clauses, Ended, closing}
use denote.Triple.Spec.{Meets, triple_of}
use denote.Triple.Table.{entered}
use denote.Triple.Walked.{says, Stays, stay_dropped, walk_of, ends_at, walk_Meets}
use Rattle.std.proofs.alloc.Calls.{Al, α, handle_tells, Goes-blank}
use Rattle.std_alloc.specs.Vec.Ownership.{has_block, owns_if}
use Rattle.std.specs.Allocator.{block_with_items}
use Rattle.std_alloc.proofs.ResultValues.{and_tt}
use Rattle.std_alloc.proofs.VecSteps.Opens.{is_live}
use Rattle.std.specs.contracts.vec.Vec as V
use Rattle.std.specs.contracts.mem.ManuallyDrop as K
use Rattle.arena_region.specs.Ownership.{block_of}
use Rattle.arena_region.proofs.Memory.{byte}
use Rattle.arena_region.proofs.Steps.{St, Dd, none, mark, two, store_made, deed_made, two_made}
use Rattle.arena_region.specs.contracts.store.apart as F
use Rattle.arena_region.specs.contracts.store.apart.Key.{name as #self}
use Rattle.arena_region.proofs.store.apart.Statement as stated
use Rattle.arena_region.proofs.store.apart.Code as code

module _ (Z : Al) where
  abbrev args : Args
  args = bounded (a_type ∷ []) (Z.row, tt) (dcons Z.d (dcons Z.drops dnil))

  abbrev P : RattleType
  P = param 0 Z.row

  abbrev Vr : RattleType
  Vr = V.the_row u8 P Z.g

  abbrev Kr : RattleType
  Kr = K.the_row Vr

  abbrev function : Fn
  function = inst_fn args code.function

  abbrev ended : Ended
  ended = F.ended Z.row Z.g Z.d Z.drops

  abbrev stayed : Stays ended.signature.params ended.kept
  stayed = (stay_dropped (plain (λ _. Kr)) no, tt)

  module _ {M : Type 1} {𝓤 : Ura M} (𝓛 : Logic 𝓤) (at_mem : Memory → SProp 𝓤) (run : Routine → Fun 𝓤) where
    open 𝓛 use {H}

    abbrev held : Clauses 𝓤 ended
    held = F.clauses Z.row Z.g Z.d Z.drops 𝓛 at_mem run

    module _ (C : Calls 𝓤 H) (Λ : Loops 𝓤 H) (z : (walk_of 𝓛 ended stayed held).Ghost) where
      abbrev Post : Val → SProp 𝓤
      Post = (walk_of 𝓛 ended stayed held).post z

      walks : ent 𝓤 ((walk_of 𝓛 ended stayed held).pre z) (WpFn 𝓤 H C Λ function ((walk_of 𝓛 ended stayed held).args z) Post)
      walks =
          let κ = z.0.0.0 in let q = z.0.1.0 in let args' = z.0.3 in let vss = z.0.4 in let v = args'.0.value in
          let Asked = (0 < v.cap) × (v.len ≡ v.cap) in
          let Blk : Ptr → Fml = λ p. owns_if (has_block v.cap) (block_with_items (Z.g.dealloc_token v.alloc) u8 p v.len v.cap v.items) in
          qed 𝓛 (((‵ (flft κ q) ⊛ ‵ ftrue) ⊛ ‵ (owns (types_at ended.signature.params z.0.0) args' vss))
          ∷ (raw (fact 𝓤 (κ ⊑ Z.row.lives)) ⊛ raw (fact 𝓤 Asked)) ∷ []) ∵
          move ! (1 ∷ []) $ split ! $ heard ! (κ ⊑ Z.row.lives) (λ within. heard ! Asked (λ asked. split ! $ split ! $ move ! (2 ∷ []) $
          fsplit ! $ fpick ! (λ ks. fsplit ! $ feq_l ! (λ ev. fsplit ! $
          fsplit ! $ fpick ! (λ us. fsplit ! $ feq_l !
          (λ all. fsplit ! $ feq_l ! (λ e₀. fsplit ! $ fsplit ! $ feq_l !
          (λ e₁. flt_l ! (λ fn. fsplit ! $ fsplit ! $ feq_l ! (λ e₂. flt_l ! (λ fc.
          fsplit ! $ handle_tells Z ! v.alloc us.1.1.1.0 (λ hv e₃ fa. move ! (2 ∷ []) $ fsplit ! $ flt_l ! (λ fit.
          in_a_block ! v.ptr (λ p. in_block p (Blk p)) (id⊢ 𝓤 (never 𝓤)) (λ b o e.
          rewrite ! 0 (λ y. ‵ (owns_if y (block_with_items (Z.g.dealloc_token v.alloc) u8 (block_ptr b o) v.len v.cap v.items)))
          (is_live v.cap asked.0) refl $
          fsplit ! $ use1 𝓛 (‵ (fsep (feq ℕ (length v.items) v.len) (bytes full_share v.items b o)))
          (bytes_apart 𝓛 full_share v.len v.items b o) $
          fsplit ! $ feq_l ! (λ long. move ! (1 ∷ []) $ fsplit ! $ keep ! (1 ∷ 2 ∷ 7 ∷ 8 ∷ []) $
          let here : Ptr = block_ptr b o in let words : Ptr
          → Val = λ p. vstruct (vcons (ptr_val p) (vcons (vint w64 v.len) (vcons (vint w64 v.cap) (vcons hv vnil)))) in
          let taken : Val = vstruct (vcons (words here) vnil) in
          let words_are : ks.0 ≡ words here ∷ [] = all
          ∙ ((λ i. vstruct (of_list (e₀ i ++ (e₁ i ++ (e₂ i ++ (e₃ i ++ []))))) ∷ []) ∙ ap (λ (p : Ptr). words p ∷ []) e) in
          let store : St.Denot = record { at = here; room = 0; ready = v.items } in
          let deed : (Dd P Z.g).Denot = record { by = record {}; at = here; len = v.cap; alloc = v.alloc } in
          let made : Val = two none mark in
          regoal ! (λ (ws : List Val). prop (WpFn 𝓤 H C Λ function (ws ++ []) Post))
          (ev ∙ (λ i. vstruct (of_list (words_are i ++ [])) ∷ [])) refl $
          enter ! C Λ function (taken ∷ []) Post $
          alloc_all ! (λ l. pass_all ! refl (
            (
              and_tt (has_ty (layout Vr) (words here)) (and_tt (has_ty (α Z) hv) fa.0),
              ((tt, (record { fits = fn }, (record { fits = fc }, (fa.1, tt)))), tt),
            ),
            tt,
          ) $
          sets ! (agg ! (no_more !)) refl (tt, tt) $ sets ! (agg ! (no_more !)) refl (tt, tt) $
          sets ! (agg ! (and_then ! (get ! refl) (no_more !))) refl (tt, (tt, tt)) $
          sets ! (agg ! (and_then ! (get ! refl) (and_then ! (get ! refl) (no_more !)))) refl (tt, (tt, ((tt, tt), tt))) $
          returns ! (look_at ! 0 refl) $ free_all ! refl $
          let small : v.cap * 1 < 2 ^ 63 = fit in
          deed_made ! P Z.g deed $ move ! (1 ∷ []) $ rewrite ! 0 (λ j. ‵ (bytes full_share v.items b j)) {x = o + 0} (omega arith) refl $
          use0 𝓛 (‵ (froom (block_of 0) b o)) (𝓛.laws.room_nil byte b o) $ move ! (1 ∷ 0 ∷ []) $ fjoin ! $
          flt_i ! (0 + length v.items) (2 ^ 63) (omega (arith, small, long, asked.1)) $ fjoin ! $ store_made ! store $
          two_made ! St (Dd P Z.g) store deed none mark $
          suffices ! _ (ends_at 𝓛 ended stayed held z made (store, deed) (((tt, (tt, (tt, (tt, tt)))), tt), tt) (tt, tt)) $ says !
          (sym e, refl, refl, sym e, refl, refl) $
          move ! (1 ∷ 2 ∷ []) $ join ! $ frame ! $ nothing ! $ nothing ! $ fjoin ! $ done !))))))))))))))))

    meets : (𝓣 : Tables 𝓤 H) → Meets 𝓛 ended.signature (WpFn 𝓤 H 𝓣.C 𝓣.Λ function) (closing 𝓛 ended held)
    meets 𝓣 =
        walk_Meets 𝓛 ended stayed (Goes-blank 𝓛 1 (plain (λ _. Kr)) no (λ κs x f. tt), tt)
        held (WpFn 𝓤 H 𝓣.C 𝓣.Λ function) (WpFn-mono 𝓤 H 𝓛.laws 𝓣 function) (walks 𝓣.C 𝓣.Λ)

pub apart_spec : {M : Type 1} → stated.statement M
unfolding tables_of
apart_spec 𝓤 𝓛 𝓜 𝓡 wired A L g d dd met md =
    let Z : Al = record { row = A; laws = L; g = g; d = d; drops = dd } in
    let 𝓣 : Tables 𝓤 𝓛.H = tables_of 𝓤 𝓛.H 𝓜 (tables 𝓤 𝓛.H 𝓜 𝓡 𝓡.env) in
    entered 𝓤 𝓛.H (triple_of 𝓛 (ended Z).signature (closing 𝓛 (ended Z) (held Z 𝓛 𝓜.mem 𝓡.returns))) 𝓣.C 𝓣.Λ (#self (args Z)) (function Z)
    (code.unfolded 𝓤 𝓛.H 𝓜 𝓡 wired (A, tt) d dd) (meets Z 𝓛 𝓜.mem 𝓡.returns 𝓣)
